pub mod Samples
pub mod ResponseSamples
pub mod FrameSamples
pub mod WrittenSamples
