-- Time on a live board that is cut anyhow is the time of one call.
use Rattle.pac_live.proofs.Common.{AnyCutsAreOneTime, BoardValue, BoardView, Ends, GiveInTime, Giving, GoUntil, Goes, IsOnTheWay, List}
use Rattle.pac_live.proofs.Common.{MakeStep, Next, Option, Output, PassTime, Stop, TimeCall, TimeCanBeCut, TookAll, [], ap, append_assoc}
use Rattle.pac_live.proofs.Common.{arith, asked_by, board_after_exec, board_after_step, by, by_view, drop, due_outputs, head-is}
use Rattle.pac_live.proofs.Common.{left-in-parts, next_of, nothing_due, on-the-way, once_of_board, outputs_given, outputs_of_one, ran_of}
use Rattle.pac_live.proofs.Common.{refl, samples-append, samples_given, sound_count, step, steps-are-parts, take, time_of, told-samples}
use Rattle.pac_live.proofs.Common.{walk-on-the-way, way_at, with_due, ℕ, ℤ, ◌++◌, ◌+◌, ◌∙◌, ◌∷◌, ◌≡◌, ◌≤◌}
use Rattle.pac_live.proofs.UntilEnds.{IsAlong, along}
use Rattle.pac_live.specs.CutLaws.{GivesInTime, IsWithinTime}
use Rattle.pac_live.specs.LiveStep.{board_after_one}

-- ---- on the way of a run

-- a board that a walk to an earlier time has brought somewhere, with what was given
along-the-way : (old new : BoardValue) (microseconds limit : ℕ) (given : List Output) → limit ≤ time_of (old.state.asked + microseconds)
    → IsAlong limit old given new → IsOnTheWay old new microseconds given
along-the-way old new microseconds limit given within is =
    let last = time_of (old.state.asked + microseconds) in
    let on = on-the-way (step (by_view old.set)) is.end last old.state.now is.tries (omega (arith, is.within, within)) in
    rw is.board (walk-on-the-way old microseconds on.0 new.state.due given (way_at old is.end is.tries) on.1
    (is.parts ∙ ap (λ (b : BoardValue). given ++ due_outputs b) is.board))

-- ---- a call is a part of one call

-- so many microseconds from a later board are so many from an earlier one, of which these samples were given
record IsPartOf (old mid : BoardValue) (all rest : ℕ) (taken : List ℤ) : Type 0 where
  pub set : mid.set ≡ old.set
  pub state : (board_after_exec mid rest).state ≡ (board_after_exec old all).state
  pub given : taken ++ samples_given (outputs_given mid rest) ≡ samples_given (outputs_given old all)

part-of-way : (old mid : BoardValue) (rest : ℕ) (outputs : List Output) (taken : List ℤ) → taken ≡ samples_given outputs → mid.set ≡ old.set
    → IsOnTheWay old mid rest outputs → IsPartOf old mid rest rest taken
part-of-way old mid rest outputs taken is set on = grind (arith, samples-append)

-- one after another
part-of-both : (old mid new : BoardValue) (all rest last : ℕ) (first more : List ℤ) → IsPartOf old mid all rest first
    → IsPartOf mid new rest last more → IsPartOf old new all last (first ++ more)
part-of-both old mid new all rest last first more one other = record {
  set = other.set ∙ one.set;
  state = other.state ∙ one.state;
  given =
      append_assoc first more (samples_given (outputs_given new last)) ∙ ap (λ xs. first ++ xs) other.given ∙ one.given;
}

-- the samples at the head of a buffer
taken-is : (outputs : List Output) (ticks pictures : ℕ) (stop : Option Stop) (samples : List ℤ)
    → take (ran_of ticks (sound_count outputs) pictures stop).samples (samples_given outputs ++ drop (sound_count outputs) samples)
    ≡ samples_given outputs
taken-is outputs ticks pictures stop samples = grind (arith, head-is, told-samples)

stepped-set : (board : BoardValue) (h : Next BoardView) → (board_after_step h (with_due board nothing_due) nothing_due).set ≡ board.set
stepped-set board (Goes now outputs kind) = refl
stepped-set board (Ends stop) = refl

-- a sink that takes all
abbrev takes_all : Giving (Unit {0})
takes_all = by (λ old output new. Unit {0}) (λ old output new. Unit {0})

all-taken : (outputs : List Output) → TookAll takes_all.took tt outputs tt
all-taken [] = refl
all-taken (output ∷ more) = record { between = tt; before = tt; after = all-taken more }

module _ (cuts : TimeCanBeCut) where
  one-part : (call : TimeCall) (calls : List TimeCall) (last : ℕ) (old mid : BoardValue) (taken : List ℤ) → GivesInTime call old taken mid
      → IsWithinTime call old (asked_by (call ∷ calls) + last)
      → IsPartOf old mid (asked_by (call ∷ calls) + last) (asked_by calls + last) taken
  one-part (GoUntil ticks places watched) calls last old mid taken gives within =
      let gone = gives.3.gone in
      let is = along gone.ended _ _ _ old gone.given gone.stop gone.met mid gone.went in
      part-of-way old mid (asked_by calls + last) gone.given taken
      (gives.4 ∙ (λ i. take (gone.told_is i).samples (gone.samples_are i)) ∙ taken-is gone.given _ _ gone.stop gives.0)
      (ap (λ (b : BoardValue). b.set) is.board)
      (along-the-way old mid (asked_by calls + last) (old.state.now.time + ticks) gone.given within is)
  one-part MakeStep calls last old mid taken gives early =
      let done = gives.3 in
      let rest = asked_by calls + last in
      let outputs = outputs_of_one old in
      let after = board_after_one old in
      let on = (steps-are-parts takes_all old after rest tt tt).stepped_once (once_of_board old) early
      (record { early = done.early; board = refl; once_is = refl; sink_is = all-taken outputs }) in
      part-of-way old mid rest outputs taken
      (gives.4 ∙ (λ i. take (done.ran_is i).samples (done.samples_are i)) ∙ taken-is outputs _ _ _ gives.0)
      (ap (λ (b : BoardValue). b.set) done.board ∙ stepped-set old (next_of old)) (rw done.board on)
  one-part (PassTime microseconds) calls last old mid taken gives within = grind (arith, left-in-parts, samples-append, taken-is)

  parts : (calls : List TimeCall) (last : ℕ) (old new : BoardValue) (given : List ℤ) → GiveInTime calls last old given new
      → IsPartOf old new (asked_by calls + last) last given
  parts [] last old new given done =
      let none : last ≡ 0 + last = omega arith in
      rw (done.0, done.1, ← none) (record { set = refl; state = refl; given = refl })
  parts (call ∷ calls) last old new given done =
      rw done.6 (part-of-both _ done.0 _ _ (asked_by calls + last) _ _ _ (one-part call calls last old done.0 done.1 done.3 done.4)
      (parts calls last done.0 new done.2 done.5))

  pub any-cuts-are-one-time : AnyCutsAreOneTime
  any-cuts-are-one-time calls last old between new once given buffer last_samples wide whole_samples ran whole done last_done whole_done =
      grind (arith, parts, taken-is)
