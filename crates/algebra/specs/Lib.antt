pub mod Fields
pub mod Sums
pub mod Matrices
pub mod Elimination
pub mod Codes
