pub mod Common
mod NumberLemmas
mod Parts
mod PeekLemmas
