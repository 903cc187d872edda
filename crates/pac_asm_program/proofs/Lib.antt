pub mod Common
mod Seen
mod WrittenOver
mod Apart
mod Hashed
