pub mod Limits
pub mod Fitting
pub mod Assembled
