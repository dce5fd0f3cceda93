pub mod Starts
pub mod Steady
