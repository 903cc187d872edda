pub mod Common
pub mod Folders
pub mod Following
pub mod NameParts
pub mod Reading
pub mod Whole
