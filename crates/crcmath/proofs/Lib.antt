pub mod Linear
pub mod Fits
pub mod Bytes
pub mod Division
pub mod Published
