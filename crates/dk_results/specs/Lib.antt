pub mod Pieces
pub mod Results
pub mod Grammar
pub mod Fronts
pub mod Worked
