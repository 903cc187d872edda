pub mod Common
pub mod Expressions
pub mod Commas
pub mod Held
pub mod Found
pub mod Distinct
pub mod FirstLetter
