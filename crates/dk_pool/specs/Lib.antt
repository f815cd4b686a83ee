pub mod Pool
pub mod Region
pub mod Rows
