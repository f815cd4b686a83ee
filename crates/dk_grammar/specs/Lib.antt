pub mod Table
pub mod Lists
pub mod Meanings
pub mod Grammar
pub mod Contexts
pub mod Judging
pub mod Growths
