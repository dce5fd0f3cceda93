pub mod Apart
pub mod Codes
pub mod Reading
pub mod Rows
