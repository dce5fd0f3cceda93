pub mod Joined
pub mod Lengths
