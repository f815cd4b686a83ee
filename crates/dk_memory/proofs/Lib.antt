pub mod Replays
pub mod Imaging
pub mod Looks
pub mod Benching
