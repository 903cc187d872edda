pub mod Numbers
pub mod Pixels
pub mod Hexadecimal
pub mod Columns
pub mod Tabulate
