pub mod Plans
pub mod Moves
pub mod Laws
pub mod Extents
pub mod Searching
pub mod Searches
