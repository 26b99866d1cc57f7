pub mod Stream
pub mod Failing
pub mod Fault
pub mod Table
pub mod File
pub mod Reading
pub mod Offsets
pub mod Prelude
