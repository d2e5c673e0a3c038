pub mod Codecs
pub mod Limits
pub mod Faults
pub mod Policies
pub mod Resolved
