pub mod Once
pub mod Fit
pub mod Images
pub mod Upgrading
pub mod Trimming
pub mod Tidying
