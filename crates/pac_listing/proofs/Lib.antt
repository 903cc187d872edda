pub mod Common
mod RowLemmas
pub mod Places
