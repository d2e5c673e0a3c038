pub mod Faults
pub mod Generators
pub mod Laid
pub mod Rows
