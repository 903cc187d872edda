pub mod Common
pub mod Words
pub mod Blocks
pub mod Gathered
pub mod Pixels
pub use Rattle.pac_out.proofs.Files
