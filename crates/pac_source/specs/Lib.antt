pub mod Codes
pub mod Sizes
pub mod Source
pub mod Writing
