pub mod Sums
pub mod Running
