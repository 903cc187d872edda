pub mod Common
pub mod Tables
pub mod Trees
pub mod Searches
pub mod Sizes
pub mod Misreadings
