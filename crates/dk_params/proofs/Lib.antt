pub mod Lines
pub mod Parts
pub mod Bounded
pub mod Words
pub mod Visible
pub mod ReadBack
