pub mod Plans
pub mod Runs
pub mod Stages
pub mod Outcomes
