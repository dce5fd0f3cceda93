pub mod Items
pub mod Parts
pub mod Roles
pub mod Shape
pub mod Window
