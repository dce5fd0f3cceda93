mod Lists
pub mod Marking
pub mod Reaches
