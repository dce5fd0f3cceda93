pub mod Moves
pub mod FlowLaws
mod GivesWay
mod GaveWay
mod Keeping
pub mod KeptSets
mod Replaced
mod Through
pub mod Weights
pub mod Paths
pub mod Visits
pub mod Waits
pub mod Jumps
pub mod Settles
mod Stacks
mod Recounts
mod Counts
mod Passings
mod Aheads
mod Walks
pub mod Callers
mod Clearings
mod Stepping
mod Windows
mod Growings
mod Exchanges
mod Graphs
mod Shrinkings
mod Startings
mod Losts
mod Replacings
