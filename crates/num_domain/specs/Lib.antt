pub mod Domain
pub mod Laws
pub mod Exact
pub mod Pairs
pub mod Rounding
pub mod Ends
pub mod ExactRule
pub mod evidence
