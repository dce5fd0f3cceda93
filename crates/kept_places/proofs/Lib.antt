pub mod Ranks
pub mod Counts
pub mod Ways
pub mod Bits
pub mod Members
