pub mod Padding
pub mod Exchange
pub mod Windows
pub mod Fitting
pub mod Lines
pub mod Spread
