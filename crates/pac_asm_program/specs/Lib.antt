pub mod Content
pub mod Names
pub mod NamesProofs
pub mod Programs
pub mod Rom
pub mod RomProofs
pub mod RomLaws
