pub mod Texts
pub mod Listing
pub use Rattle.pac_num.specs.Hexadecimal
