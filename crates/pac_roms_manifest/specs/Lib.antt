pub mod Codes
pub mod CodesProofs
pub mod Entries
pub mod EntriesProofs
pub mod Manifests
pub mod Parts
pub mod Results
pub mod Sets
