pub mod Flags
pub mod FlagsProofs
pub mod Arithmetic
pub mod Words
pub mod Rotate
pub mod Bits
pub mod Transfer
