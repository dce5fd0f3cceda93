pub mod Outside
pub mod Answers
pub mod EventCodes
pub mod Notes
pub mod Entries
pub mod Scripts
