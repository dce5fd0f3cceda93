pub mod Cnf
pub mod Gates
pub mod Growth
pub mod Meaning
