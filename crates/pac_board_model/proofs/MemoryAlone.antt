-- Memory alone decides what a board does, for what a board gives out acts on nothing.
use Rattle.pac_board_model.proofs.Common.{BoardView, Bool, Carries, CpuStep, Ends, Entry, Goes, HistoryIsOfMemory, Image, Item, List}
use Rattle.pac_board_model.proofs.Common.{MemoryDecides, MemoryWalksAlone, Moment, Next, Option, Parts, Questions, StepProgress, Stop, View}
use Rattle.pac_board_model.proofs.Common.{Walk, [], after_cpu_step, ap, arith, at_moment, by_history, by_memory, by_view, cpu_step}
use Rattle.pac_board_model.proofs.Common.{decoded_instruction, four_from, history_request, is_reset_due, item_in, nat_le, onward_if}
use Rattle.pac_board_model.proofs.Common.{option_or, read, read_place, refl, rules, step, suc, surroundings, sym, through, walk}
use Rattle.pac_board_model.proofs.Common.{walk_after_step, walk_onward, zero, ℕ, ℤ, ◌+◌, ◌∙◌, ◌∷◌, ◌≡◌}
use Rattle.pac_board_model.proofs.Carried.{step-carried, walk-carried}

-- ---- with other samples and other pictures it goes the same way

-- any board that sounds and shows something else
abbrev with_other_outputs : {Board : Type 0} → Questions Board → (Board → ℤ) → (Board → Image) → Questions Board
with_other_outputs ask sample image = record ask { sample = sample; image = image }

-- without what was given out
abbrev muted : {Board : Type 0} → StepProgress Board → StepProgress Board
muted met = record met { outputs = [] }

abbrev muted_next : {Board : Type 0} → Next Board → Next Board
muted_next (Goes now outputs kind) = Goes now [] kind
muted_next (Ends stop) = Ends stop

abbrev muted_walk : {Board : Type 0} → Walk Board → Walk Board
muted_walk walked = record walked { outputs = [] }

-- Two ways to go on come to the same without what was given out, also after something was given out.
abbrev Alike : {A : Type 0} → (A → A) → (one other : A → A) → Type 0
Alike mute one other = (from : _) → mute (one from) ≡ mute (other (mute from))

-- one after another
then-alike : {A : Type 0} (mute : A → A) (one other later last : A → A) → Alike mute one other → Alike mute later last
    → Alike mute last last → Alike mute (λ from. later (one from)) (λ from. last (other from))
then-alike mute one other later last h k back from =
    k (one from) ∙ ap (λ a. mute (last a)) (h from) ∙ sym (back (other (mute from)))

module _ {Board : Type 0} (sample : Board → ℤ) (image : Board → Image) where
  abbrev changed : Questions Board → Questions Board
  changed ask = with_other_outputs ask sample image

  at-moment-alike : (ask : Questions Board) (moment : ℕ) → Alike muted (at_moment ask moment) (at_moment (changed ask) moment)
  at-moment-alike ask moment = search rules

  through-alike : (ask : Questions Board) (time ticks : ℕ) → Alike muted (through ask time ticks) (through (changed ask) time ticks)
  through-alike ask time zero met = refl
  through-alike ask time (suc ticks) met =
      then-alike muted (through ask time ticks) (through (changed ask) time ticks) (at_moment ask (time + suc ticks))
      (at_moment (changed ask) (time + suc ticks)) (through-alike ask time ticks) (at-moment-alike ask (time + suc ticks))
      (at-moment-alike (changed ask) (time + suc ticks)) met

  after-cpu-alike : (ask : Questions Board) (now : Moment Board) (did : CpuStep)
      → muted_next (after_cpu_step ask now did) ≡ muted_next (after_cpu_step (changed ask) now did)
  after-cpu-alike ask now did = grind (arith, through-alike)

  step-alike : (ask : Questions Board) (now : Moment Board) → muted_next (step ask now) ≡ muted_next (step (changed ask) now)
  step-alike ask now = after-cpu-alike ask now (cpu_step (surroundings ask now.board) now.regs (ask.request now.board))

  after-step-alike : (walked : Walk Board) (one two : Next Board) → muted_next one ≡ muted_next two
      → muted_walk (walk_after_step walked one) ≡ muted_walk (walk_after_step (muted_walk walked) two)
  after-step-alike walked one two same = search rules

  onward-alike : (ask : Questions Board) (walked : Walk Board) (stop : Option Stop) (late : Bool)
      → muted_walk (onward_if (step ask) walked stop late) ≡ muted_walk (onward_if (step (changed ask)) (muted_walk walked) stop late)
  onward-alike ask walked stop late = grind (arith, after-step-alike, step-alike)

  -- with other samples and other pictures a walk comes to the same moment, by the same steps, and to the same stop
  walk-alike : (ask : Questions Board) (limit : ℕ) (from : Moment Board) (tries : ℕ)
      → muted_walk (walk (step ask) limit from tries) ≡ muted_walk (walk (step (changed ask)) limit from tries)
  walk-alike ask limit from zero = refl
  walk-alike ask limit from (suc tries) =
      let one = walk (step ask) limit from tries in
      let two = walk (step (changed ask)) limit from tries in
      onward-alike ask one one.stop (nat_le limit one.now.time)
      ∙ ap (λ walked. muted_walk (walk_onward (step (changed ask)) limit walked)) (walk-alike ask limit from tries)
      ∙ sym (onward-alike (changed ask) two two.stop (nat_le limit two.now.time))

-- ---- memory alone

abbrev memory : BoardView → View
memory board = board.memory

memory-carries : (set : Parts) (sample : View → ℤ) (image : View → Image)
    → Carries memory (with_other_outputs (by_view set) (λ board. sample board.memory) (λ board. image board.memory))
    (by_memory set sample image)
memory-carries set sample image = search rules

walks-alone : MemoryWalksAlone
walks-alone set sample image limit tries from =
    let heard = λ (board : BoardView). sample board.memory in
    let seen = λ (board : BoardView). image board.memory in
    let ask = with_other_outputs (by_view set) heard seen in
    let alike = walk-alike heard seen (by_view set) limit from tries in
    let carried =
    walk-carried memory (step ask) (step (by_memory set sample image))
    (step-carried memory ask (by_memory set sample image) (memory-carries set sample image)) limit from tries in search rules

-- the history's account of a board of this memory, which gives out nothing that matters
abbrev silent_history : Parts → List Item → ℤ → Image → View → Questions (List Entry)
silent_history set items sound shown view = record {
  put = λ entries entry. entry ∷ entries;
  read = λ entries at. read set.program view entries at;
  instruction = λ entries at.
      option_or (item_in items (read_place at))
      (decoded_instruction (four_from (λ byte. read set.program view entries byte) at));
  request = λ entries. history_request view entries;
  sample = λ entries. sound;
  image = λ entries. shown;
  is_due = λ entries. is_reset_due view entries;
}

history-alike : (set : Parts) (items : List Item) (sound : ℤ) (shown : Image) (start : BoardView) (limit tries : ℕ)
    (from : Moment (List Entry))
    → muted_walk (walk (step (by_history set items start)) limit from tries)
    ≡ muted_walk (walk (step (silent_history set items sound shown start.memory)) limit from tries)
history-alike set items sound shown start limit tries from =
    walk-alike (λ entries. sound) (λ entries. shown) (by_history set items start) limit from tries

history-is-of-memory : HistoryIsOfMemory
history-is-of-memory set items start other limit tries from same =
    let sound = (by_history set items start).sample [] in
    let shown = (by_history set items start).image [] in
    let alike =
    history-alike set items sound shown start limit tries from
    ∙ ap (λ view. muted_walk (walk (step (silent_history set items sound shown view)) limit from tries)) same
    ∙ sym (history-alike set items sound shown other limit tries from) in
    record { now = ap (λ walked. walked.now) alike; stop = ap (λ walked. walked.stop) alike }

pub memory-decides : MemoryDecides
memory-decides = record { walks = walks-alone; history = history-is-of-memory }
