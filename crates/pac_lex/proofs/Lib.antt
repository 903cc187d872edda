pub mod Common
pub mod LineLemmas
pub mod NumberLemmas
pub mod NameLemmas
pub mod Prefixes
pub mod WordLemmas
pub mod ByteLemmas
pub mod ScanLemmas
pub mod TextLaws
pub mod LineLaws
mod FirstPlace
