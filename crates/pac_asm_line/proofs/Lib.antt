pub mod Common
pub mod Parts
pub mod FirstByte
