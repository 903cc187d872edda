pub mod Codes
pub mod CodesProofs
pub mod Items
pub use Rattle.pac_table.specs.Instructions
