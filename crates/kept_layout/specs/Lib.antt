pub mod Blocks
pub mod Kept
pub mod Cutting
pub mod Moves
