pub mod Common
pub mod Index
pub mod Distinct
pub mod Longer
pub mod Letters
