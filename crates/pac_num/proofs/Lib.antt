pub mod Pixels
pub mod Tabulated
