pub mod Faults
pub mod Answers
pub mod Kinds
pub mod Messages
pub mod Headers
pub mod Responses
pub mod Frames
pub mod Written
