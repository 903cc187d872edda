pub mod Sprites
pub mod SpritesProofs
