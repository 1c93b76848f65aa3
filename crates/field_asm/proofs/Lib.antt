pub mod NameLemmas
pub mod SourceLemmas
pub mod ResolveLemmas
pub mod OneSource
