pub mod CommandLine
pub mod CommandLineProofs
pub mod Rows
