pub mod Bytes
pub mod Fair
pub mod Machines
pub mod Promises
pub mod Pushes
pub mod Runs
pub mod Sizes
