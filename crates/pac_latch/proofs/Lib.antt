pub mod Common
pub mod Bits
pub mod LatchBytes
