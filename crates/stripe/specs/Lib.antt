pub mod Faults
pub mod There
pub mod Coded
pub mod Encoded
pub mod Recovered
