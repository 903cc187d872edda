pub mod Common
pub mod Commands
pub mod Bytes
pub mod Rows
pub mod Answered
