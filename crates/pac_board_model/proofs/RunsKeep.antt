-- What every run keeps: a fact of the time, of what was given out so far and of the board, which no write, output, acceptance,
-- reset or held input changes, and which the events of each moment carry on to the next.
use Rattle.pac_board_model.proofs.Common.{Action, Blank, Bool, CpuStep, Ends, Entry, Goes, Line, List, Moment, Next, Option, Output, Play}
use Rattle.pac_board_model.proofs.Common.{Questions, Sample, Show, Sound, StepKind, StepProgress, Stop, Vector, Walk, Write, []}
use Rattle.pac_board_model.proofs.Common.{after_cpu_step, append-nil, arith, at_moment, blank_event, common_steps, cpu_step, false, fold}
use Rattle.pac_board_model.proofs.Common.{frame_ticks, give, hidden_lines, if◌then◌else◌, line_event, line_ticks, nat_le, nat_tests}
use Rattle.pac_board_model.proofs.Common.{next_with_inputs, note, onward_if, play_step, put_actions, refl, reset_event, resumed_at, rules}
use Rattle.pac_board_model.proofs.Common.{run_at, sample_event, sample_ticks, scan_frame, scan_line, step, suc, surroundings, through, true}
use Rattle.pac_board_model.proofs.Common.{walk, walk_after_step, write_place, zero, ℕ, ◌%◌, ◌&&◌, ◌++◌, ◌+◌, ◌-◌, ◌/◌, ◌==◌, ◌∷◌, ◌≡◌, ◌≢◌}
use Rattle.pac_cpu.specs.Action.{Output as Sent, Write as Written}

-- whether an entry is none of the three that the clock makes
abbrev pub is_quiet : Entry → Bool
is_quiet (Sample number) = false
is_quiet (Line frame line) = false
is_quiet (Blank frame) = false
is_quiet _ = true

-- ---- the events of a moment, case by case

-- a sample given, a line composed and a picture given
abbrev pub with_sample : {Board : Type 0} → Questions Board → ℕ → StepProgress Board → StepProgress Board
with_sample ask moment met = note ask (Sample (moment / sample_ticks)) (give (Sound (ask.sample met.board)) met)

abbrev pub with_line : {Board : Type 0} → Questions Board → ℕ → StepProgress Board → StepProgress Board
with_line ask moment met = note ask (Line (scan_frame moment) (scan_line moment - hidden_lines)) met

abbrev pub with_picture : {Board : Type 0} → Questions Board → ℕ → StepProgress Board → StepProgress Board
with_picture ask moment met = note ask (Blank (moment / frame_ticks)) (give (Show (ask.image met.board)) met)

-- whether a line that is shown ends at a moment
abbrev pub ends_line : ℕ → Bool
ends_line moment = moment % line_ticks == 0 && nat_le hidden_lines (scan_line moment)

module _ {Board : Type 0} (ask : Questions Board) (Holds : StepProgress Board → Type 0) (moment : ℕ) (met : StepProgress Board) where
  pub sampled-holds : (moment % sample_ticks ≡ 0 → Holds (with_sample ask moment met)) → (moment % sample_ticks ≢ 0 → Holds met)
      → Holds (sample_event ask moment met)
  sampled-holds at_one elsewhere = grind (arith, nat_tests)

  pub lined-holds : (ends_line moment ≡ true → Holds (with_line ask moment met)) → (ends_line moment ≡ false → Holds met)
      → Holds (line_event ask moment met)
  lined-holds at_one elsewhere = grind (arith, common_steps)

  pub blanked-holds : (moment % frame_ticks ≡ 0 → Holds (with_picture ask moment met)
      × Holds (reset_event ask (with_picture ask moment met)))
      → (moment % frame_ticks ≢ 0 → Holds met) → Holds (blank_event ask moment met)
  blanked-holds at_one elsewhere = grind (arith, common_steps)

-- ---- a run

module _ {Board : Type 0} (ask : Questions Board) (Told : ℕ → List Output → Board → Type 0)
    (quiet : (time : ℕ) (given : List Output) (board : Board) (entry : Entry) → is_quiet entry ≡ true → Told time given board
    → Told time given (ask.put board entry))
    (moves : (time moment : ℕ) (given : List Output) (met : StepProgress Board) → moment ≡ suc time →
    Told time (given ++ met.outputs) met.board
    → Told moment (given ++ (at_moment ask moment met).outputs) (at_moment ask moment met).board) where
  actions-told : (time : ℕ) (given : List Output) (board : Board) (actions : List Action) → Told time given board
      → Told time given (put_actions ask board actions)
  actions-told time given board [] told = told
  actions-told time given board (Written at byte ∷ actions) told =
      actions-told time given (ask.put board (Write (write_place at) byte)) actions
      (quiet time given board (Write (write_place at) byte) refl told)
  actions-told time given board (Sent port byte ∷ actions) told =
      actions-told time given (fold ask.put board (if port == 0 then Vector byte ∷ [] else [])) actions (grind (arith, common_steps))

  through-told : (time ticks : ℕ) (given : List Output) (met : StepProgress Board) → Told time (given ++ met.outputs) met.board
      → Told (time + ticks) (given ++ (through ask time ticks met).outputs) (through ask time ticks met).board
  through-told time zero given met told = grind (arith, common_steps)
  through-told time (suc ticks) given met told =
      let next : time + suc ticks ≡ suc (time + ticks) = omega arith in
      moves (time + ticks) (time + suc ticks) given (through ask time ticks met) next (through-told time ticks given met told)

  -- what a step comes to keeps it
  abbrev NextTold : List Output → Next Board → Type 0
  NextTold given (Goes now outputs kind) = Told now.time (given ++ outputs) now.board
  NextTold given (Ends stop) = Unit {0}

  cpu-step-told : (now : Moment Board) (given : List Output) (h : CpuStep) → Told now.time given now.board
      → NextTold given (after_cpu_step ask now h)
  cpu-step-told now given h told = search (rules, actions-told, append-nil, through-told)

  -- so a step goes on to where it is kept, or stops
  pub step-told-then : {C : Type 0} (now : Moment Board) (given : List Output) → Told now.time given now.board
      → ((after : Moment Board) (outputs : List Output) (kind : StepKind) → step ask now ≡ Goes after outputs kind
      → Told after.time (given ++ outputs) after.board → C)
      → ((stop : Stop) → step ask now ≡ Ends stop → C) → C
  step-told-then {C = C} now given told goes_on ends =
      let part = cpu_step (surroundings ask now.board) now.regs (ask.request now.board) in
      choose (step ask now) refl (cpu-step-told now given part told)
    where
      choose : (h : Next Board) → step ask now ≡ h → NextTold given h → C
      choose (Goes after outputs kind) e kept = goes_on after outputs kind e kept
      choose (Ends stop) e kept = ends stop e

  played-told : (held : ℕ → ℕ) (time : ℕ) (given : List Output) (h : Next Board) → NextTold given h
      → NextTold given (next_with_inputs ask held time h)
  played-told held time given h told = grind (arith, common_steps)

  abbrev WalkTold : Walk Board → Type 0
  WalkTold w = Told w.now.time w.outputs w.now.board

  step-told : (w : Walk Board) (h : Next Board) → NextTold w.outputs h → WalkTold w → WalkTold (walk_after_step w h)
  step-told w h next told = search rules

  module _ (next : Moment Board → Next Board) (limit : ℕ)
      (kept : (now : Moment Board) (given : List Output) → Told now.time given now.board → NextTold given (next now)) where
    onward-told : (w : Walk Board) (stop : Option Stop) (late : Bool) → WalkTold w → WalkTold (onward_if next w stop late)
    onward-told w stop late told = search (rules, kept, step-told)

    walk-kept : (from : Moment Board) (n : ℕ) → Told from.time [] from.board → WalkTold (walk next limit from n)
    walk-kept from zero told = told
    walk-kept from (suc n) told =
        let w = walk next limit from n in onward-told w w.stop (nat_le limit w.now.time) (walk-kept from n told)

  -- so a walk keeps it, from any moment on and at each index
  pub walk-told : (held : ℕ → ℕ) (limit : ℕ) (from : Moment Board) (n : ℕ) → Told from.time [] from.board
      → let w = walk (play_step ask held) limit from n in
      Told w.now.time w.outputs w.now.board
  walk-told held limit from n told =
      walk-kept (play_step ask held) limit
      (λ now given told. played-told held now.time given (step ask now) (cpu-step-told now given _ told)) from n told

  -- a walk without a script keeps it too
  pub plain-walk-told : (limit : ℕ) (from : Moment Board) (n : ℕ) → Told from.time [] from.board
      → let w = walk (step ask) limit from n in
      Told w.now.time w.outputs w.now.board
  plain-walk-told limit from n told = walk-kept (step ask) limit (λ now given told. cpu-step-told now given _ told) from n told

  -- and so do a run and a play that is taken up
  pub run-told : (play : Play) (board : Board) (index : ℕ) → Told 0 [] board
      → let run = run_at ask play board index in
      Told run.now.time run.outputs run.now.board
  run-told play board index told = search (rules, walk-told)

  pub resumed-told : (play : Play) (from : Moment Board) (index : ℕ) → Told from.time [] from.board
      → let run = resumed_at ask play from index in
      Told run.now.time run.outputs run.now.board
  resumed-told play from index told = search (rules, walk-told)
