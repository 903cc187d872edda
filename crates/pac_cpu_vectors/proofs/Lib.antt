pub mod Common
pub mod Blocks
pub mod DaaByBits
pub mod OnLiterals
pub mod Restarts
