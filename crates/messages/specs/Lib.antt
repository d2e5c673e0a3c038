pub mod Told
pub mod Gathering
pub mod HeaderFields
pub mod PartFields
pub mod Kinds
pub mod Levels
pub mod ResponseBy
