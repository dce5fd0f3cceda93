pub mod Harvest
pub mod Keys
pub mod LimitsOf
pub mod Numberings
