pub mod Tests
pub mod Linear
pub mod Laws
