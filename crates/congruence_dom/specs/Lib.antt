pub mod Form
pub mod Limits
pub mod Residues
pub mod Congruences
pub mod evidence
