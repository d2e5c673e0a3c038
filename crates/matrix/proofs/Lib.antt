pub mod Grids
pub mod Parts
pub mod Turns
