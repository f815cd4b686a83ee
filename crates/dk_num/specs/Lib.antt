pub mod Decimal
pub mod Arithmetic
pub mod Texts
pub mod Numbers
pub mod Reading
pub mod Units
pub mod Rounding
pub mod Laws
