pub mod Faults
pub mod Grids
pub mod Shapes
pub mod Rows
pub mod Inverted
pub mod Products
pub mod Acted
