pub mod StageLemmas
pub mod RunLemmas
pub mod Keeps
