pub mod Drafted
pub mod Invariant
