pub mod Flow
pub mod Shapes
pub mod Points
pub mod Reaching
pub mod Marks
