pub mod Table
pub mod ReadBits
pub mod Decoding
pub mod Kinds
