pub mod Effects
pub mod Fresh
pub mod Answers
pub mod Profiled
