pub mod Straight
pub mod Marks
pub mod Clearing
pub mod Laws
