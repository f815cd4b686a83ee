pub mod Books
pub mod Told
pub mod Kept
pub mod Laws
pub mod Hashes
pub mod Index
