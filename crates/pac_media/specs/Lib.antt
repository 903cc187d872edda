pub mod Drawn
pub mod Images
pub mod ImagesProofs
pub mod Samples
pub mod Sound
pub use Rattle.pac_out.specs.Counted
pub use Rattle.pac_out.specs.Pieces
pub use Rattle.pac_out.specs.Writes
pub use Rattle.pac_out.specs.declared.WriteFault
pub use Rattle.pac_out.specs.declared.counted.Counted as CountedFile
pub use Rattle.pac_out.specs.CountedLaws
pub use Rattle.pac_out.specs.CountedProofs
pub use Rattle.pac_out.specs.WritesProofs
