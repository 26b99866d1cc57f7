pub mod Unmoves
pub mod Order
pub mod Targets
pub mod Prelude
