pub mod Sinks
pub mod SinksProofs
pub mod SinksLaws
pub mod State
pub mod StateLaws
pub mod Boxed
pub mod Calls
pub mod CallsLaws
pub mod CallsProofs
pub mod Turns
pub mod TurnsProofs
pub mod Stretches
pub mod Roads
pub mod RoadsProofs
pub mod Laws
pub mod Kept
pub mod Hosts
pub use Rattle.pac_cpu.specs.Instructions
pub use Rattle.pac_cpu.specs.InterruptMode
pub use Rattle.pac_cpu.specs.InterruptModeVariants
pub use Rattle.pac_cpu.specs.PlacedItems
pub use Rattle.pac_cpu.specs.Regs
pub use Rattle.pac_cpu.specs.declared.once.Cause
pub use Rattle.pac_cpu.specs.declared.once.Cause.TheVariants as CauseVariants
pub use Rattle.pac_cpu.specs.declared.once.Once
pub use Rattle.pac_cpu.specs.declared.once.Once.TheVariants as OnceVariants
pub use Rattle.pac_cpu.specs.declared.once.StepKind
pub use Rattle.pac_cpu.specs.declared.once.StepKind.TheVariants as StepKindVariants
pub use Rattle.pac_cpu.specs.declared.once.Stop
pub use Rattle.pac_picture.specs.Colours
pub use Rattle.pac_picture.specs.State as PictureState
pub use Rattle.pac_picture.specs.Tabulate
pub use Rattle.pac_picture.specs.Tiles
pub use Rattle.pac_machine.specs.Wave
pub use Rattle.pac_map.specs.Contents as MemoryContents
pub use Rattle.pac_map.specs.Entry
pub use Rattle.pac_map.specs.Fields as MemoryFields
pub use Rattle.pac_map.specs.Inputs
pub use Rattle.pac_map.specs.Latched
pub use Rattle.pac_map.specs.Place
pub use Rattle.pac_map.specs.RomParts
pub use Rattle.pac_map.specs.View as MemoryView
pub use Rattle.pac_board_model.specs.BoardView
pub use Rattle.pac_board_model.specs.Carried
pub use Rattle.pac_board_model.specs.History
pub use Rattle.pac_board_model.specs.Laws as ModelLaws
pub use Rattle.pac_board_model.specs.Output
pub use Rattle.pac_board_model.specs.Resumed
pub use Rattle.pac_board_model.specs.Shown
pub use Rattle.pac_board_model.specs.Step
pub use Rattle.pac_board_model.specs.Trace
pub use Rattle.pac_board_model.specs.Walk
pub use Rattle.pac_machine.specs.Bursts
pub use Rattle.pac_machine.specs.Fields
pub use Rattle.pac_machine.specs.Trails
pub use Rattle.pac_machine.specs.Idle as IdleLoops
pub use Rattle.pac_machine.specs.Stops
pub use Rattle.pac_machine.specs.StopsProofs
pub use Rattle.pac_machine.specs.Watches
pub use Rattle.pac_machine.specs.declared.watch.Access
pub use Rattle.pac_machine.specs.declared.watch.Access.TheVariants as AccessVariants
pub use Rattle.pac_machine.specs.declared.due.Due
pub use Rattle.pac_machine.specs.declared.fields.Fields as BoardFields
pub use Rattle.pac_machine.specs.declared.trail.PastStep
pub use Rattle.pac_machine.specs.BurstsProofs
pub use Rattle.pac_board_model.specs.WalkLaws
pub use Rattle.pac_board_model.specs.TraceLaws
pub use Rattle.pac_map.specs.PartsProofs
