pub mod CongruenceCode
pub mod CommonCode
pub mod CongruenceExact
pub mod CommonRow
