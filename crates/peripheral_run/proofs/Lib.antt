pub mod ScriptLemmas
pub mod Filling
pub mod RunLemmas
pub mod OneScript
pub mod ScriptRuns
pub mod Starts
