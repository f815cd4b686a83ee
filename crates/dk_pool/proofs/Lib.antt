pub mod Crossing
pub mod Cut
pub mod Lending
pub mod Places
pub mod Reached
pub mod Replaced
pub mod Units
