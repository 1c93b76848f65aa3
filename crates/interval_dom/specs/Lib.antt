pub mod Bounds
pub mod Intervals
pub mod evidence
