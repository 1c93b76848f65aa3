pub mod EightDigits
