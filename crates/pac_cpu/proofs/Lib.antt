pub mod Common
pub mod CpuSteps
pub mod Views
pub mod RestOnReads
pub mod StepRefreshed
pub use Rattle.pac_num.proofs.Tabulated
pub use Rattle.pac_table.proofs.Lengths as CodeLengths
pub use Rattle.pac_code.proofs.RoundTrip
