pub mod Telling
mod Elements
mod Wider
pub mod Registers
pub mod Certificates
pub mod Below
pub mod Fit
pub mod Steps
pub mod Monotone
pub mod Gains
mod Sorting
pub mod Candidates
pub mod TextLengths
pub mod Passing
pub mod Costs
pub mod Asking
pub mod Rounds
pub mod Places
pub mod Dropped
pub mod Searched
pub mod Finished
