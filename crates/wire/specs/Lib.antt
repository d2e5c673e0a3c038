pub mod Faults
pub mod Readings
pub mod Varints
pub mod Numbers
pub mod Fields
pub mod Messages
pub mod Shown
pub mod Writes
