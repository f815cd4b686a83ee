pub mod Making
pub mod Keeping
pub mod Attempted
pub mod Evaluated
pub mod Turns
pub mod Pools
pub mod Laws
