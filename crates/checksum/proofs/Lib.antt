pub mod Turned
pub mod Taken
