pub mod Circuits
pub mod Differences
pub mod Exactness
pub mod Forming
pub mod Slots
pub mod Words
