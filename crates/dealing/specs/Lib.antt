pub mod Places
pub mod Dealt
pub mod Laws
