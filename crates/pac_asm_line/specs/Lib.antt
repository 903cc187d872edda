pub mod Statements
pub mod Conditionals
pub mod ConditionalsProofs
pub mod Forms
pub mod Contents
pub mod ContentsProofs
pub mod Views
pub mod Gathered
