pub mod Samples
pub mod Groups
pub mod Ends
pub mod Loops
pub mod Written
pub mod Puts
