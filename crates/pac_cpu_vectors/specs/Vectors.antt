-- Law: what a line of tools/check/vectors.txt says, of the definition of a step of the processor. The lines are in files of
-- their own, which tools/make/make-vectors makes of that table.
use Rattle.std.specs.Prelude.{◌≡◌, ℕ, zero, suc, ◌+◌, ◌==◌, List, [], ◌∷◌, ◌++◌, length, Option, None, if◌then◌else◌}
use Rattle.pac_num.specs.Numbers.{wrapped_address}
use Rattle.pac_bus.specs.Action.{Action, Write, Output}
use Rattle.pac_bus.specs.ActionLaws.{bus_after_actions}
use Rattle.pac_exec.specs.declared.regs.Regs.{Regs}
use Rattle.pac_cpu.specs.declared.once.StepKind.{StepKind}
use Rattle.pac_cpu.specs.declared.once.StepKind.TheVariants.{Ran, Halted, Accepted}
use Rattle.pac_cpu.specs.declared.once.Cause.{Cause}
use Rattle.pac_cpu.specs.Power.{reset_regs}
use Rattle.pac_cpu.specs.Step.{Surroundings, CpuStep, Steps, Stops, cpu_step}
use Rattle.pac_cpu.specs.StepLaws.{surroundings_of}

-- the byte at an address of a memory where each byte is 0 but those that were written, the last write first in the list
abbrev pub written_byte : List Action → ℕ → ℕ
written_byte [] at = 0
written_byte (Write address byte ∷ before) at = if address == at then byte else written_byte before at
written_byte (Output port byte ∷ before) at = written_byte before at

-- such a memory, with ports that all give FFH
abbrev pub around : List Action → Surroundings
around = surroundings_of written_byte (λ written port. 255) (λ written action. action ∷ written)

-- a code, written from an address on
abbrev pub code_from : ℕ → List ℕ → List Action
code_from at [] = []
code_from at (byte ∷ bytes) = Write at byte ∷ code_from (wrapped_address (at + 1)) bytes

-- what a step finds: the registers, the memory, and the vector byte of the pending request, if one is
pub record Processor : Type 0 where
  pub regs : Regs
  pub written : List Action
  pub request : Option ℕ

-- what is told of a step: its time in T-states, where it ran an instruction, waited halted or accepted an interrupt; or a stop
pub data Told : Type 0 where
  Took : (ticks : ℕ) → Told
  TookHalted : (ticks : ℕ) → Told
  TookAccepted : (ticks : ℕ) → Told
  Refused : (pc : ℕ) (bytes : List ℕ) (cause : Cause) → Told

abbrev pub told_by_kind : StepKind → ℕ → Told
told_by_kind (Ran instruction) ticks = Took ticks
told_by_kind Halted ticks = TookHalted ticks
told_by_kind Accepted ticks = TookAccepted ticks

-- a request is taken back where it was accepted
abbrev pub request_after : Told → Option ℕ → Option ℕ
request_after (TookAccepted ticks) request = None
request_after _ request = request

-- what some steps come to: what is told of each, and what they leave
pub record StepsTaken : Type 0 where
  pub told : List Told
  pub regs : Regs
  pub written : List Action

abbrev pub with_told : Told → StepsTaken → StepsTaken
with_told told course = record { told = told ∷ course.told; regs = course.regs; written = course.written }

-- a step, and then what follows it
abbrev pub step_and_rest : (Processor → StepsTaken) → Processor → CpuStep → StepsTaken
step_and_rest rest before (Steps regs actions ticks kind) =
    with_told (told_by_kind kind ticks) (rest (record {
      regs = regs;
      written = bus_after_actions (λ written action. action ∷ written) before.written actions;
      request = request_after (told_by_kind kind ticks) before.request;
    }))
step_and_rest rest before (Stops stop) = with_told (Refused stop.pc stop.bytes stop.cause) (rest before)

-- some steps, one after another
abbrev pub steps_taken : ℕ → Processor → StepsTaken
steps_taken zero before = record { told = []; regs = before.regs; written = before.written }
steps_taken (suc count) before =
    step_and_rest (steps_taken count) before (cpu_step (around before.written) before.regs before.request)

-- a line: the code, which is at PC; the registers, the cells and the request that its first step finds; what is told of its
-- steps; the registers after them, from those before; and the writes and outputs in their order
pub record VectorLine : Type 0 where
  pub code : List ℕ
  pub regs : Regs
  pub cells : List Action
  pub request : Option ℕ
  pub told : List Told
  pub left : Regs → Regs
  pub actions : List Action

abbrev pub vector_line : List ℕ → Regs → List Action → Option ℕ → List Told → (Regs → Regs) → List Action → VectorLine
vector_line code regs cells request told left actions =
    record { code = code; regs = regs; cells = cells; request = request; told = told; left = left; actions = actions }

abbrev pub found_by : VectorLine → Processor
found_by line =
    record { regs = line.regs; written = code_from line.regs.pc line.code ++ line.cells; request = line.request }

-- what a line says that its steps come to
abbrev pub steps_told : VectorLine → StepsTaken
steps_told line = record {
  told = line.told;
  regs = line.left line.regs;
  written = bus_after_actions (λ written action. action ∷ written) (found_by line).written line.actions;
}

-- a line holds of the definition of a step
pub record LineHolds (line : VectorLine) : Type 0 where
  pub steps : steps_taken (length line.told) (found_by line) ≡ steps_told line

abbrev pub EachLineHolds : List VectorLine → Type 0
EachLineHolds [] = Unit {0}
EachLineHolds (line ∷ lines) = LineHolds line × EachLineHolds lines

-- a line of a reset: the registers before it, and those after it from them
pub record ResetLine : Type 0 where
  pub regs : Regs
  pub left : Regs → Regs

abbrev pub reset_line : Regs → (Regs → Regs) → ResetLine
reset_line regs left = record { regs = regs; left = left }

abbrev pub EachLineResets : List ResetLine → Type 0
EachLineResets [] = Unit {0}
EachLineResets (line ∷ lines) = (reset_regs line.regs ≡ line.left line.regs) × EachLineResets lines
