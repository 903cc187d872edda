pub mod Power
pub mod Step
pub mod StepProofs
pub mod StepLaws
pub mod StepReads
pub mod StepReadsLaws
pub mod StepRefresh
pub use Rattle.pac_num.specs.Tabulate
pub use Rattle.pac_table.specs.Instructions
pub use Rattle.pac_table.specs.declared.effects.InterruptMode
pub use Rattle.pac_table.specs.declared.effects.InterruptMode.TheVariants as InterruptModeVariants
pub use Rattle.pac_code.specs.Codes as Encoding
pub use Rattle.pac_code.specs.Items as PlacedItems
pub use Rattle.pac_bus.specs.Action
pub use Rattle.pac_bus.specs.Reads
pub use Rattle.pac_exec.specs.declared.regs.Regs
pub use Rattle.pac_exec.specs.declared.reads.DataReads
pub use Rattle.pac_exec.specs.declared.reads.DataReads.TheVariants as DataReadsVariants
pub use Rattle.pac_exec.specs.CellsRead
pub use Rattle.pac_exec.specs.CellsReadProofs
pub use Rattle.pac_exec.specs.Refresh
pub use Rattle.pac_bus.specs.ActionLaws
