pub mod Common
pub mod Told
pub mod Carried
pub mod Agreed
pub mod Walks
pub mod Runs
pub mod RunsKeep
pub mod Resumed
pub mod ResumedTimes
pub mod WalkTimes
pub mod Outputs
pub mod HostCarried
pub mod HostKeeps
pub mod MemoryAlone
mod Forgotten
pub mod TheLaws
