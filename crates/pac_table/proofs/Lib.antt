pub mod Common
pub mod TableRules
pub mod Uniqueness
pub mod Lengths
