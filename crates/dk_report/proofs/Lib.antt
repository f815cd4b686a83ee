pub mod BestRows
pub mod LookedUp
pub mod Parts
pub mod Repeated
