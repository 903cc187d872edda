-- The words that proofs here, and those of crates above, import of definitions, of std and of the crates below.

pub use Rattle.pac_exec.proofs.Common.{Bool, Instruction, List, [], ap, arith, effect, false, least_ticks, map, most_ticks, push_writes}
pub use Rattle.pac_exec.proofs.Common.{refl, true, ℕ, ◌+◌, ◌∙◌, ◌∷◌, ◌≡◌, ◌≤◌}
pub use Rattle.pac_table.proofs.Common.{IsInstruction, code, decoded_instruction, effect_of, if◌then◌else◌, subst, sym}
pub use Rattle.pac_bus.specs.Action.{Action}
pub use Rattle.pac_bus.specs.ActionLaws.{bus_after_actions}
pub use Rattle.pac_bus.specs.Reads.{four_from}
pub use Rattle.pac_cpu.specs.Action.{Output, Write}
pub use Rattle.pac_cpu.specs.Encoding.{DecodesPrefix}
pub use Rattle.pac_cpu.specs.PlacedItems.{AllLie, Code, Content, Data, IsValid, Item, Lies, bytes_in, instruction_at, instruction_in}
pub use Rattle.pac_cpu.specs.Power.{reset_regs}
pub use Rattle.pac_cpu.specs.Step.{CpuStep, Steps, Stops, Surroundings, acceptance, accepts, execution, execution_at_pc}
pub use Rattle.pac_cpu.specs.Step.{halted_step, is_restart, regs_after_code, regs_after_fetches}
pub use Rattle.pac_cpu.specs.Step.{stop_at_pc, takes_vector, uninterrupted_step}
unfoldable pub use Rattle.pac_cpu.specs.Step.{cpu_step}
pub use Rattle.pac_cpu.specs.StepLaws.{CpuStepRestsOnAnswers, EachCpuStepIsInTime, IsCpuStepInTime, once_of_step, surroundings_of}
pub use Rattle.pac_cpu.specs.StepProofs.{DoesCpuStep, IfStepped, actions_of}
pub use Rattle.pac_cpu.specs.StepReads.{reads_in}
pub use Rattle.pac_cpu.specs.StepReadsLaws.{CpuStepRestsOnReads}
unfoldable pub use Rattle.pac_cpu.specs.Tabulate.{tabulate}
pub use Rattle.pac_cpu.specs.declared.once.Cause.{Cause}
pub use Rattle.pac_cpu.specs.declared.once.Cause.TheVariants.{Opcode}
pub use Rattle.pac_cpu.specs.declared.once.Once.{Once}
pub use Rattle.pac_cpu.specs.declared.once.StepKind.TheVariants.{Ran}
pub use Rattle.pac_exec.proofs.RestOnReads.{effect-by-reads, reads-elsewhere, same-word}
pub use Rattle.pac_exec.proofs.Rows.{effect-in-time}
pub use Rattle.pac_exec.specs.Effect.{Transition}
pub use Rattle.pac_exec.specs.declared.regs.Regs.{Regs}
pub use Rattle.std.proofs.Common.{None, Option, Some, ◌*◌}
pub use Rattle.std.proofs.Math.Path.{fun_ext}
