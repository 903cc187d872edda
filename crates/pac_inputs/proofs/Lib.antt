pub mod Common
pub mod NameLemmas
pub mod Frames
pub mod Searches
pub mod Laws
