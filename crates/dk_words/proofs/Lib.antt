pub mod Firsts
pub mod WordsSorted
pub mod WordsTold
pub mod WordsOrder
