pub mod Contexts
pub mod Keys
pub mod Padded
pub mod Unpad
pub mod Cells
pub mod Thresholds
