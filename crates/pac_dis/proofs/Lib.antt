pub mod Common
pub mod Fronts
pub mod Writings
mod LineLemmas
