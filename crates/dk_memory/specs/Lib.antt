pub mod Calls
pub mod Events
pub mod Images
pub mod States
pub mod DiskStates
pub mod Files
pub mod BenchStates
