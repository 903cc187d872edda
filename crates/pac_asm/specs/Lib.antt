pub mod Codes
pub mod CodesProofs
pub mod Results
pub mod Errors
pub mod Conditions
pub mod Unclosed
pub mod UnclosedProofs
pub mod Pairing
pub mod Skipping
pub mod Standings
pub mod Layouts
pub mod Reading
pub mod Phase1
pub mod Phase1Proofs
pub mod Phase2
pub mod Items
pub mod Programs
pub mod Counting
pub mod Assignments
pub mod Entries
pub use Rattle.pac_code.specs.Items as PlacedItems
pub use Rattle.pac_asm_program.specs.Programs as Assembled
