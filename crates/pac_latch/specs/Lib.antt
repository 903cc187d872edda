pub mod Latched
