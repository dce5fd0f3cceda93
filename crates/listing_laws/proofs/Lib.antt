pub mod Room
pub mod Once
pub mod Fitted
pub mod Assembled
