pub mod Bytes
pub mod Cut
pub mod Fronts
pub mod Spans
