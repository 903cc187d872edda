pub mod Action
pub mod ActionLaws
pub mod Flat
pub mod Reads
