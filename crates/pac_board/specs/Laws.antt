-- Law: laws of the calls, each proved on a public function of the crate.
use Rattle.std.specs.Prelude.{◌≡◌, ℕ, zero, suc, ◌+◌, ◌<◌, List, [], ◌++◌}
use Rattle.pac_cpu.specs.declared.once.Once.{Once}
use Rattle.pac_board_model.specs.Output.{Output}
use Rattle.pac_board.specs.SinksLaws.{Giving}
use Rattle.pac_board.specs.State.{BoardValue, due_outputs, nothing_due, time_of}
use Rattle.pac_board.specs.StateLaws.{restored_board}
use Rattle.pac_board.specs.Calls.{course, outputs_given, board_after_run}
use Rattle.pac_board.specs.Calls.{next_of, outputs_in, with_due}
use Rattle.pac_board.specs.CallsLaws.{IsAdvanced, IsOneStep, IsStepRefused, IsOfferRefused, IsRunRefused}
use Rattle.pac_board.specs.Calls.{run_ticks}

-- Time in pieces is time at once: the board is the same, what is given is the same in the same order, and the ticks add up.
pub record IsCut (board : BoardValue) (first second : ℕ) : Type 0 where
  pub board_is : board_after_run (board_after_run board first) second ≡ board_after_run board (first + second)
  pub ticks : run_ticks board first + run_ticks (board_after_run board first) second ≡ run_ticks board (first + second)
  pub given_is : outputs_given board first ++ outputs_given (board_after_run board first) second ≡ outputs_given board (first + second)
  pub stop_is : (course (board_after_run board first) second).stop ≡ (course board (first + second)).stop

abbrev pub TimeCanBeCut : Type 0
TimeCanBeCut = (board : BoardValue) (first second : ℕ) → IsCut board first second

-- A call was refused, and then came others; what the sink took in all of them.
pub record IsRefusedThen {S : Type 0} (to : Giving S) (old : BoardValue) (microseconds : ℕ) (sink : S)
    (others : BoardValue → S → List Output → Type 0) (taken : List Output)
    : Type 0 where
  pub between : BoardValue
  pub middle : S
  pub first : IsRunRefused to old microseconds sink between middle
  pub more : List Output
  pub after : others between middle more
  pub taken_is : taken ≡ first.cut.taken ++ more

-- so many calls for no time were refused, one after another
abbrev pub AreRefused : {S : Type 0} → Giving S → (calls : ℕ) → BoardValue → S → BoardValue → S → List Output → Type 0
AreRefused to zero old sink new later taken = (new ≡ old) × (later ≡ sink) × (taken ≡ [])
AreRefused to (suc calls) old sink new later taken =
    IsRefusedThen to old 0 sink (λ between middle more. AreRefused to calls between middle new later more) taken

-- After a refusal, calls for no time go on, however many of them are refused too: the first that isn't leaves the board that the
-- refused call would have left, and the outputs of all of them are those that it would have given.
pub record IsTakenUp (old new : BoardValue) (microseconds : ℕ) (taken : List Output) : Type 0 where
  pub board_is : board_after_run new 0 ≡ board_after_run old microseconds
  pub given_is : taken ++ outputs_given new 0 ≡ outputs_given old microseconds
  pub stop_is : (course new 0).stop ≡ (course old microseconds).stop

abbrev pub RefusalsAreTakenUp : {S : Type 0} → Giving S → Type 0
RefusalsAreTakenUp {S} to =
    (old new : BoardValue) (microseconds calls : ℕ) (sink later : S) (taken : List Output)
    → IsRefusedThen to old microseconds sink (λ between middle more. AreRefused to calls between middle new later more) taken
    → IsTakenUp old new microseconds taken

-- A step that is done again after its board was put back comes to the same, and what is due then is what was due before it.
pub record IsDoneAgain (board other : BoardValue) : Type 0 where
  pub next_is : next_of (restored_board other board.state) ≡ next_of board
  pub due_is : due_outputs (restored_board other board.state) ≡ due_outputs board

abbrev pub StepsAreDoneAgain : Type 0
StepsAreDoneAgain = (board other : BoardValue) → other.set ≡ board.set → IsDoneAgain board other

-- One board is on the way of another's run, which has given these outputs by then: so many microseconds from the one leave the
-- board that as many from the other leave, the outputs so far and those that follow are those of the other's run, and a stop
-- is the one that the other meets.
pub record IsOnTheWay (old new : BoardValue) (microseconds : ℕ) (taken : List Output) : Type 0 where
  pub board_is : board_after_run new microseconds ≡ board_after_run old microseconds
  pub given_is : taken ++ outputs_given new microseconds ≡ outputs_given old microseconds
  pub stop_is : (course new microseconds).stop ≡ (course old microseconds).stop

-- the microseconds leave time for a step
abbrev pub HasTime : BoardValue → ℕ → Type 0
HasTime board microseconds = board.state.now.time < time_of (board.state.asked + microseconds)

-- Calls that do one step at most leave a board that is on the way of the run, with what the sink took of them: a step with all
-- that was due and all that it gave taken, or part of what it gave refused; a step whose outputs are due then; and an offer of
-- what is due, taken, or refused in part.
pub record ArePartsOfRuns {S : Type 0} (to : Giving S) (old new : BoardValue) (microseconds : ℕ) (sink later : S) : Type 0 where
  pub stepped_once : (once : Once) → HasTime old microseconds → IsOneStep to.took old sink once new later
      → IsOnTheWay old new microseconds (due_outputs old ++ outputs_in (next_of old))
  pub step_refused : HasTime old microseconds → (refusal : IsStepRefused to old sink new later)
      → IsOnTheWay old new microseconds refusal.cut.taken
  pub advanced : (once : Once) → HasTime old microseconds → IsAdvanced old once new → IsOnTheWay old new microseconds []
  pub offered : new ≡ with_due old nothing_due → IsOnTheWay old new microseconds (due_outputs old)
  pub offer_refused : (refusal : IsOfferRefused to old sink new later) → IsOnTheWay old new microseconds refusal.cut.taken

-- Single steps and offers are parts of a run.
abbrev pub StepsArePartsOfRuns : {S : Type 0} → Giving S → Type 0
StepsArePartsOfRuns {S} to = (old new : BoardValue) (microseconds : ℕ) (sink later : S) → ArePartsOfRuns to old new microseconds sink later
