-- For proofs: what steps do at addresses that are watched: they write there, or they read there as data.
use Rattle.std.specs.Prelude.{◌≡◌, ◌≤◌, ◌+◌, ◌/◌, ◌%◌, ◌==◌, ℕ, suc, Bool, false, List, [], ◌∷◌, ◌++◌, slice_index}
use Rattle.std.specs.Prelude.{Option, None, Some, if◌then◌else◌}
use Rattle.pac_cpu.specs.Action.{Action, Write, Output}
use Rattle.pac_cpu.specs.Regs.{Regs}
use Rattle.pac_cpu.specs.Step.{Surroundings, CpuStep, Steps, Stops, cpu_step}
use Rattle.pac_cpu.specs.StepReads.{reads_in}
use Rattle.pac_cpu.specs.declared.once.Once.TheVariants.{Stepped}
use Rattle.pac_board_model.specs.BoardView.{BoardView}
use Rattle.pac_board_model.specs.Step.{Moment, Next, surroundings}
use Rattle.pac_board_model.specs.Trace.{by_view}
use Rattle.pac_map.specs.RomParts.{Parts}
use Rattle.pac_machine.specs.declared.watch.Access.{Access}
use Rattle.pac_machine.specs.declared.watch.Access.TheVariants as access
use Rattle.pac_machine.specs.Trails.{stepped}

-- A map has a byte for each address: 1 where writes to it are watched, 2 where reads of it are, and 3 where both are. Without a map nothing
-- is watched.
abbrev pub watches_writes : Option (List ℕ) → ℕ → Bool
watches_writes None at = false
watches_writes (Some marks) at = slice_index marks at % 2 == 1

abbrev pub watches_reads : Option (List ℕ) → ℕ → Bool
watches_reads None at = false
watches_reads (Some marks) at = slice_index marks at / 2 % 2 == 1

-- the first of a step's writes that is watched: where, what a read there gave right before it, and the byte that was written; `done` are
-- the actions before these
abbrev pub first_write : Surroundings → (marks : Option (List ℕ)) → (done left : List Action) → Option Access
first_write seen marks done [] = None
first_write seen marks done (Write address byte ∷ left) =
    if watches_writes marks address
    then Some (access.Write address (seen.byte_at done address) byte)
    else first_write seen marks (done ++ Write address byte ∷ []) left
first_write seen marks done (Output port byte ∷ left) = first_write seen marks (done ++ Output port byte ∷ []) left

-- the first of the cells that a step reads that is watched
abbrev pub first_read : (marks : Option (List ℕ)) → (cells : List ℕ) → Option Access
first_read marks [] = None
first_read marks (address ∷ cells) = if watches_reads marks address then Some (access.Read address) else first_read marks cells

abbrev pub first_of : Option Access → Option Access → Option Access
first_of (Some one) other = Some one
first_of None other = other

-- what a step of the processor does at them: its first write there, or else its first read; a stop does nothing
abbrev pub watched_in : Surroundings → (marks : Option (List ℕ)) → Regs → (request : Option ℕ) → CpuStep → Option Access
watched_in seen marks regs request (Steps after actions ticks kind) =
    first_of (first_write seen marks [] actions) (first_read marks (reads_in (Stepped ticks kind) regs request))
watched_in seen marks regs request (Stops stop) = None

-- what the step of a board from a moment on does at them
abbrev pub watched_at : Parts → (marks : Option (List ℕ)) → Moment BoardView → Option Access
watched_at set marks now =
    let ask = by_view set in
    let seen = surroundings ask now.board in
    watched_in seen marks now.regs (ask.request now.board) (cpu_step seen now.regs (ask.request now.board))

-- Of the steps from a moment up to a count, none but the last did anything there, and the last did this, or nothing. `next` is what a step
-- comes to.
pub record IsWatched (set : Parts) (marks : Option (List ℕ)) (next : Moment BoardView → Next BoardView) (from : Moment BoardView) (steps : ℕ)
    (met : Option Access)
    : Type 0 where
  pub before : (n : ℕ) → from.steps + suc (suc n) ≤ steps → watched_at set marks (stepped next from n) ≡ None
  pub last : (n : ℕ) → from.steps + suc n ≡ steps → watched_at set marks (stepped next from n) ≡ met
  pub none : steps ≤ from.steps → met ≡ None
