pub mod Cuts
pub mod Laws
pub mod Lines
pub mod Nearer
pub mod Padding
pub mod Steps
pub mod Walks
