pub mod Common
pub mod Files
pub mod Gathering
