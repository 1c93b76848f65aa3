pub mod ValCode
pub mod ValMembers
pub mod ValExact
