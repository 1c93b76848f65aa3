pub mod Normal
pub mod Made
pub mod Vals
pub mod evidence
