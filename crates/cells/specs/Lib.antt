pub mod Found
pub mod Striped
