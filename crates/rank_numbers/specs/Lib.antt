pub mod Forms
pub mod Leads
pub mod Levels
pub mod Numbers
pub mod Offsets
pub mod Results
pub mod Rows
pub mod Steps
