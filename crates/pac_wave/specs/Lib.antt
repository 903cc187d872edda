pub mod Wave
pub mod WaveProofs
pub mod WaveLaws
pub mod Sums
pub mod Settings
pub mod Batch
