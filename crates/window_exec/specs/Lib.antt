pub mod Computes
pub mod Normal
pub mod State
pub mod Untold
