pub mod Carry
pub mod Due
pub mod Judged
pub mod BestGrows
pub mod ReachRule
pub mod Ascending
pub mod Scoring
