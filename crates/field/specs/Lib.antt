pub mod Inverted
pub mod Models
pub mod Laws2
pub mod Laws256
pub mod Elements
