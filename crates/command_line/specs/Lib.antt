pub mod App
pub mod CommandLine
pub mod Request
pub mod Words
