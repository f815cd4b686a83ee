pub mod Names
pub mod Runs
pub mod Allowed
pub mod Serving
pub mod Attempts
pub mod Rooms
