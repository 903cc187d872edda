pub mod Files
pub mod FilesProofs
pub mod Links
pub mod LinksProofs
pub mod Names
pub mod Read
pub mod ReadProofs
