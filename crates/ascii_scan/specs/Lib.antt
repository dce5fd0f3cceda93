pub mod Lines
pub mod FirstLine
pub mod Source
pub mod Numeral
pub mod Names
pub mod Tokens
pub mod Seen
pub mod Refused
