pub mod Weights
pub mod Bounds
pub mod Levels
pub mod Laws
pub mod Sides
pub mod Rates
