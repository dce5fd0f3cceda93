pub mod Calls
pub mod Labels
pub mod Sums
pub mod Shared
