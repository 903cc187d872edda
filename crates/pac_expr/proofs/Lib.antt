pub mod Common
pub mod Complete
pub mod Undefined
