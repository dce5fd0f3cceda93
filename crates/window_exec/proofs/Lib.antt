pub mod FlagLemmas
pub mod WindowForms
pub mod Differences
pub mod Normal
pub mod Untold
