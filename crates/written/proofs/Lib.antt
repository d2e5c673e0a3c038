pub mod Responses
pub mod Sums
pub mod Puts
pub mod Heads
pub mod Back
pub mod ResponsesBack
