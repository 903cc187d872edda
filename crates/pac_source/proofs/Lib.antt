pub mod Common
mod Writing
