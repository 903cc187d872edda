pub mod Colours
pub mod ColoursProofs
