pub mod Sums
pub mod Registers
pub mod Batch
