pub mod Named
pub mod Tokens
pub mod Judged
pub mod Assembled
pub mod Sizes
