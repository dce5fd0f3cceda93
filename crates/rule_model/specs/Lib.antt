pub mod Rules
pub mod Rewriting
pub mod Laws
