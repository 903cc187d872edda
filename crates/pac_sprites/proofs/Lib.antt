pub mod Common
pub mod Boxes
