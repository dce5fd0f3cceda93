pub mod Ranks
pub mod Stands
pub mod Labels
pub mod Removed
pub mod Aimed
pub mod Drafts
pub mod Emits
pub mod Standing
