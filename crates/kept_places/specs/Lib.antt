pub mod Marks
pub mod Kept
pub mod Members
pub mod Laws
