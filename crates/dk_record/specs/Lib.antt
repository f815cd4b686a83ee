pub mod Payloads
pub mod Readings
pub mod Files
pub mod Laws
