pub mod Loaded
pub mod Marking
pub mod Tallying
