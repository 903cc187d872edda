pub mod Numbers
pub mod NumbersProofs
pub mod Slots
pub mod Commands
pub mod CommandsProofs
pub mod Texts
pub mod Peeks
