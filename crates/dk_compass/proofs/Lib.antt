pub mod Kept
pub mod Least
pub mod Sized
pub mod Opened
pub mod Stepped
pub mod Polled
