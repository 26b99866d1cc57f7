pub mod Known
pub mod Digits
pub mod Entries
pub mod Columns
pub mod Fields
pub mod Versions
pub mod Answers
pub mod Offsets
