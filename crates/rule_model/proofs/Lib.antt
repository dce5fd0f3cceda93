pub mod AsMany
pub mod Table
pub mod Alone
pub mod Costs
pub mod LinesKept
pub mod Unique
pub mod Given
