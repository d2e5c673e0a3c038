pub mod Numbers
pub mod Padding
pub mod Joining
pub mod Rows
pub mod Shards
