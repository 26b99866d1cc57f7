pub mod Kept
pub mod Lending
pub mod Listed
pub mod Named
pub mod Opened
pub mod Reading
pub mod Values
