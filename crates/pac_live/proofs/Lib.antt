pub mod Common
pub mod Walks
pub mod LiveHandle
pub mod LiveSteps
pub mod LiveBoards
pub mod UntilEnds
pub mod Cuts
