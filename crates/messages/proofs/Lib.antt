pub mod Steps
pub mod Ends
pub mod HeaderFold
pub mod Walks
pub mod Openings
pub mod LevelFold
pub mod ResponseFold
