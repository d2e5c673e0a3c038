pub mod Faults
pub mod Fronts
pub mod Frames
pub mod Laws
