pub mod Bits
pub mod Encodings
pub mod Listed
pub mod PartLemmas
pub mod Registers
pub mod RenamingLemmas
pub mod Shared
