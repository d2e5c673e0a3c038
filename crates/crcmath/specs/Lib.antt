pub mod Registers
pub mod Divided
pub mod Published
