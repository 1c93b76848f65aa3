-- What is proved of the definitions: no reader need believe it.
pub mod Forms
pub mod CongruenceOrder
pub mod CommonMembers
pub mod Solutions
pub mod Wraps
pub mod CongruenceLaws
