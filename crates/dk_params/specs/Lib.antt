pub mod Params
pub mod Bounds
pub mod Worked
pub mod Reading
pub mod Pages
