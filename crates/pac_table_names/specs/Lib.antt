pub mod Names
pub mod ByName
pub mod Words
pub mod WordsProofs
pub mod Distinct
