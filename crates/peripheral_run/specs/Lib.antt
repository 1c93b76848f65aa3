pub mod Scripts
pub mod Opening
pub mod Runs
pub mod ScriptRuns
pub mod Log
