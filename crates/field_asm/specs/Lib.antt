pub mod Names
pub mod Tables
pub mod Tokens
pub mod Sources
pub mod Views
pub mod Resolving
