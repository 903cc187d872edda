-- A step and a run over one account of the board are those over the other, seen through the view; so are those over a source's items.
use Rattle.pac_board_model.proofs.Common.{Action, AllByRecursion, AllLie, BoardView, Bool, Carries, Code, Content, CpuStep, Data}
use Rattle.pac_board_model.proofs.Common.{DecodesPrefix, Entry, Hold, Instruction, IsBoard, IsInstruction, IsValid, IsWhole, Item, Lies}
use Rattle.pac_board_model.proofs.Common.{List, Moment, Next, Option, Parts, Play, Questions, Regs, StepKind, StepProgress, Steps, Stop}
use Rattle.pac_board_model.proofs.Common.{Stops, TellsHistory, View, Walk, [], after_cpu_step, ap, arith, at_moment, board_after_entries}
use Rattle.pac_board_model.proofs.Common.{by_history, by_view, bytes_in, code, common_steps, decoded_instruction, drop, entries_of, fold}
use Rattle.pac_board_model.proofs.Common.{four_from, frames_gone, get_or-take, instruction_at, instruction_in, item_in, length, length-take}
use Rattle.pac_board_model.proofs.Common.{moment_view, nat_le, nat_tests, next_view, next_with_inputs, onward_if, option_or, play_step}
use Rattle.pac_board_model.proofs.Common.{program_size, progress_after_cpu, put_actions, put_kind, read_of, read_place, recursion_from_All}
use Rattle.pac_board_model.proofs.Common.{refl, resumed_at, resumed_end, resumed_start, resumed_step, rules, run_at, same_number_lists}
use Rattle.pac_board_model.proofs.Common.{sample_at, slice_index, step, suc, surroundings, sym, take, through, walk, walk_onward, walk_view}
use Rattle.pac_board_model.proofs.Common.{zero, ℕ, ◌%◌, ◌+◌, ◌-◌, ◌<◌, ◌∙◌, ◌∷◌, ◌≡◌, ◌≤◌}
use Rattle.pac_board_model.proofs.Told.{view-answers, view-tells}

-- a walk over any steps that carry over
module _ {From To : Type 0} (view : From → To) (one : Moment From → Next From) (other : Moment To → Next To)
    (same : (now : Moment From) → next_view view (one now) ≡ other (moment_view view now)) where
  onward-carried : (w : Walk From) (stop : Option Stop) (late : Bool)
      → walk_view view (onward_if one w stop late) ≡ onward_if other (walk_view view w) stop late
  onward-carried w stop late = search rules

  pub walk-carried : (limit : ℕ) (from : Moment From) (steps : ℕ)
      → walk_view view (walk one limit from steps) ≡ walk other limit (moment_view view from) steps
  walk-carried limit from zero = refl
  walk-carried limit from (suc steps) =
      onward-carried (walk one limit from steps) (walk one limit from steps).stop (nat_le limit (walk one limit from steps).now.time)
      ∙ ap (walk_onward other limit) (walk-carried limit from steps)

module _ {From To : Type 0} (view : From → To) (ask : Questions From) (told : Questions To) (carries : Carries view ask told) where
  -- ---- the processor's part

  pub put-all-carried : (entries : List Entry) (board : From) → view (fold ask.put board entries) ≡ fold told.put (view board) entries
  put-all-carried [] board = refl
  put-all-carried (entry ∷ entries) board = cc (put-all-carried entries (ask.put board entry), carries.put board entry)

  pub put-actions-carried : (actions : List Action) (board : From)
      → view (put_actions ask board actions) ≡ put_actions told (view board) actions
  put-actions-carried [] board = refl
  put-actions-carried (action ∷ actions) board =
      cc (put-actions-carried actions (fold ask.put board (entries_of action)), put-all-carried (entries_of action) board)

  pub put-kind-carried : (kind : StepKind) (board : From) → view (put_kind ask board kind) ≡ put_kind told (view board) kind
  put-kind-carried kind board = search rules

  read-carried : (board : From) (actions : List Action) (address : ℕ)
      → ask.read (put_actions ask board actions) address ≡ told.read (put_actions told (view board) actions) address
  read-carried board actions address = grind (arith, put-actions-carried)

  pub surroundings-carried : (board : From) → surroundings ask board ≡ surroundings told (view board)
  surroundings-carried board = grind (arith, read-carried)

  -- ---- the events

  abbrev met_view : StepProgress From → StepProgress To
  met_view met = record { regs = met.regs; board = view met.board; outputs = met.outputs }

  at-moment-carried : (moment : ℕ) (met : StepProgress From) → met_view (at_moment ask moment met) ≡ at_moment told moment (met_view met)
  at-moment-carried moment met = search rules

  through-carried : (time ticks : ℕ) (met : StepProgress From) →
      met_view (through ask time ticks met) ≡ through told time ticks (met_view met)
  through-carried time zero met = refl
  through-carried time (suc ticks) met =
      cc (at-moment-carried (time + suc ticks) (through ask time ticks met), through-carried time ticks met)

  -- ---- the step

  acted-carried : (board : From) (regs : Regs) (actions : List Action) (kind : StepKind)
      → met_view (progress_after_cpu ask board regs actions kind) ≡ progress_after_cpu told (view board) regs actions kind
  acted-carried board regs actions kind = simp (put-actions-carried, put-kind-carried)

  cpu-step-carried : (now : Moment From) (h : CpuStep)
      → next_view view (after_cpu_step ask now h) ≡ after_cpu_step told (moment_view view now) h
  cpu-step-carried now (Stops stop) = refl
  cpu-step-carried now (Steps regs actions ticks kind) =
      cc (through-carried now.time ticks (progress_after_cpu ask now.board regs actions kind), acted-carried now.board regs actions kind)

  pub step-carried : (now : Moment From) → next_view view (step ask now) ≡ step told (moment_view view now)
  step-carried now = grind (arith, cpu-step-carried, surroundings-carried)

  -- ---- the script

  played-carried : (held : ℕ → ℕ) (time : ℕ) (next : Next From)
      → next_view view (next_with_inputs ask held time next) ≡ next_with_inputs told held time (next_view view next)
  played-carried held time next = search rules

  pub play-step-carried : (held : ℕ → ℕ) (now : Moment From)
      → next_view view (play_step ask held now) ≡ play_step told held (moment_view view now)
  play-step-carried held now =
      played-carried held now.time (step ask now) ∙ ap (next_with_inputs told held now.time) (step-carried now)

  pub run-carried : (play : Play) (board : From) (index : ℕ)
      → walk_view view (run_at ask play board index) ≡ run_at told play (view board) index
  run-carried play board index =
      grind (
        arith,
        carries.put board (Hold (play.held 1)),
        play-step-carried,
        walk-carried view (play_step ask play.held)
            (play_step told play.held),
      )

  -- so is a play that is taken up
  pub resumed-carried : (play : Play) (from : Moment From) (index : ℕ)
      → walk_view view (resumed_at ask play from index) ≡ resumed_at told play (moment_view view from) index
  resumed-carried play from index =
      let gone = frames_gone from in
      rw (← carries.put from.board (Hold (play.held 1)))
      (walk-carried view (resumed_step ask play gone) (resumed_step told play gone) (play-step-carried (λ frame. play.held (frame - gone)))
      (resumed_end play gone) (resumed_start ask play from) index)

-- ---- Running a source's items is running the bytes of the ROM: items lie in it, it never changes, and a code is
-- decoded to its instruction whatever follows.

-- a read k bytes after a cell of the ROM
program-read : (program : List ℕ) (view : View) (at k : ℕ) → at % 32768 + k < program_size
    → read_of program view ((at + k) % 65536) ≡ slice_index program (at % 32768 + k)
program-read program view at k lt = search rules

program-first : (program : List ℕ) (view : View) (at : ℕ) → at % 32768 + 0 < program_size
    → read_of program view at ≡ slice_index program (at % 32768 + 0)
program-first program view at lt = search rules

below-four : (byte_at : ℕ → ℕ) (at : ℕ) (expected : ℕ → ℕ) (n : ℕ) → n ≤ 4 → (0 < n → byte_at at ≡ expected 0)
    → ((k : ℕ) → suc k < n → byte_at ((at + suc k) % 65536) ≡ expected (suc k))
    → (k : ℕ) → k < n → slice_index (four_from byte_at at) k ≡ expected k
below-four byte_at at expected n le first later k lt = search rules

-- the four bytes that a view reads from an address on
abbrev bytes_at : List ℕ → View → ℕ → List ℕ
bytes_at program view at = four_from (λ byte. read_of program view byte) at

-- the four bytes at an item begin with its code
code-first : (program : List ℕ) (view : View) (cell at : ℕ) (codes : List ℕ) → length program ≡ program_size → length codes ≤ 4
    → cell + length codes ≤ length program → take (length codes) (drop cell program) ≡ codes → cell ≡ at % 32768
    → take (length codes) (bytes_at program view at) ≡ codes
code-first program view cell at codes whole short inside lies here =
    same_number_lists (take (length codes) (bytes_at program view at)) codes size (λ k lt. each k (let e = size in omega arith))
  where
    size : length (take (length codes) (bytes_at program view at)) ≡ length codes
    size = length-take (length codes) (bytes_at program view at) ∙ omega arith

    code-at : (k : ℕ) → k < length codes → slice_index codes k ≡ slice_index program (at % 32768 + k)
    code-at k lt = grind (arith, common_steps)

    each : (k : ℕ) → k < length codes → slice_index (take (length codes) (bytes_at program view at)) k ≡ slice_index codes k
    each k lt =
        get_or-take (length codes) (bytes_at program view at) k 0 lt
        ∙ below-four (λ byte. read_of program view byte) at (λ j. slice_index program (at % 32768 + j)) (length codes) short
        (λ some. program-first program view at (omega arith)) (λ j below. program-read program view at (suc j) (omega arith)) k lt
        ∙ sym (code-at k lt)

-- what is asked first and answered as what is asked next leaves the answer
abbrev Agrees : Option Instruction → Option Instruction → Type 0
Agrees first next = option_or first next ≡ next

module _ (again : DecodesPrefix) (short : (instruction : Instruction) → IsInstruction instruction → length (code instruction) ≤ 4) where
  -- an item is the instruction that its bytes hold, where it is one
  item-agrees : (program : List ℕ) (view : View) (item : Item) (at : ℕ) → length program ≡ program_size → Lies program item
      → item.at ≡ at % 32768 → Agrees (instruction_in item.content) (decoded_instruction (bytes_at program view at))
  item-agrees program view item at whole lies here = by-content item.content item.at lies.valid lies.inside lies.bytes here
    where
      by-content : (content : Content) (cell : ℕ) → IsValid content → cell + length (bytes_in content) ≤ length program
          → take (length (bytes_in content)) (drop cell program) ≡ bytes_in content → cell ≡ at % 32768
          → Agrees (instruction_in content) (decoded_instruction (bytes_at program view at))
      by-content (Code i) cell valid inside bytes same =
          sym (again i (bytes_at program view at) valid (code-first program view cell at (code i) whole (short i valid) inside bytes same))
      by-content (Data bare) cell valid inside bytes same = refl

  -- what two items say, each as the bytes do
  both-agree : (one more next : Option Instruction) → Agrees one next → Agrees more next → Agrees (option_or one more) next
  both-agree one more next a b = search rules

  items-agree : (program : List ℕ) (view : View) (items : List Item) (at : ℕ) → length program ≡ program_size
      → AllByRecursion (Lies program) items → Agrees (instruction_at items (at % 32768)) (decoded_instruction (bytes_at program view at))
  items-agree program view [] at whole lie = refl
  items-agree program view (item ∷ items) at whole lie =
      let one = item-agrees program view item at whole lie.0 in
      grind (arith, nat_tests, both-agree, items-agree program view items at whole lie.1)

  instruction-agrees : (program : List ℕ) (view : View) (items : List Item) (at : ℕ) → length program ≡ program_size
      → AllLie program items → Agrees (item_in items (read_place at)) (decoded_instruction (bytes_at program view at))
  instruction-agrees program view items at whole lie = grind (arith, items-agree, recursion_from_All)

  sample-viewed : {set : Parts} {start : BoardView} {entries : List Entry} → TellsHistory set start entries
      → (by_view set).sample (board_after_entries set start entries) ≡ sample_at set start entries
  sample-viewed {set = set} tells = search rules

  pub view-carries : (set : Parts) (items : List Item) (start : BoardView) → IsWhole set → AllLie set.program items
      → IsBoard start → Carries (board_after_entries set start) (by_history set items start) (by_view set)
  view-carries set items start whole lie fit = grind (arith, instruction-agrees, sample-viewed, view-answers, view-tells)
