pub mod Cells
pub mod Acting
pub mod Rows
pub mod Recovery
pub mod Codecs
