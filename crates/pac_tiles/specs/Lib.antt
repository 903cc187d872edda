pub mod Tiles
pub mod TilesProofs
pub mod TilesLaws
