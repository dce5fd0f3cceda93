pub mod Kept
pub mod Padded
pub mod Exchanged
pub mod Windows
pub mod Fitting
pub mod Lines
pub mod Spread
