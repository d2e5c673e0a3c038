pub mod Faults
pub mod Held
pub mod Rebuilt
pub mod Dealt
pub mod Shards
