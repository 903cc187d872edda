pub mod Place
pub mod PlaceProofs
pub mod Lookups
pub mod Cleared
pub mod View
pub mod Entry
pub mod Contents
pub mod Heard
pub mod ContentsProofs
pub mod Fields
pub mod FieldsProofs
pub use Rattle.pac_inputs.specs.Inputs
pub use Rattle.pac_roms.specs.Parts as RomParts
pub use Rattle.pac_latch.specs.Latched
pub use Rattle.pac_roms.specs.PartsProofs
