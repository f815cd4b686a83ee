pub mod Lists
pub mod Placed
pub mod Tried
pub mod Read
pub mod OtherCards
pub mod Chains
pub mod Searched
