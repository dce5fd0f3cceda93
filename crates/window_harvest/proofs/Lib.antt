mod Lists
mod Alphabet
pub mod Once
mod Pairs
mod Counts
mod Added
mod Seen
pub mod Places
