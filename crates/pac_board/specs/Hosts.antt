-- Law: a host's calls on one board, one after another, whatever its sinks take and refuse, each of which does what
-- its contract says. Over the history they are acts, and the board stands where these acts bring it.
use Rattle.std.specs.Prelude.{◌≡◌, ◌-◌, ℕ, nat_le, Bool, true, false, ◌&&◌, List, [], ◌∷◌, ◌++◌, map, replicate, length, take, drop}
use Rattle.std.specs.Prelude.{slice_index_or, Option, Result, Ok, Err, ◌⊎◌}
use Rattle.std.proofs.Common.{inl, inr}
use Rattle.pac_cpu.specs.PlacedItems.{Item, AllLie}
use Rattle.pac_cpu.specs.declared.once.Once.{Once}
use Rattle.pac_cpu.specs.declared.once.Stop.{Stop}
use Rattle.pac_map.specs.Entry.{Entry}
use Rattle.pac_map.specs.View.{held_with, held_without}
use Rattle.pac_cpu.specs.Tabulate.{tabulate}
use Rattle.pac_picture.specs.Tiles.{height}
use Rattle.pac_map.specs.RomParts.{Parts, IsWhole}
use Rattle.pac_board_model.specs.BoardView.{IsBoard}
use Rattle.pac_board_model.specs.Carried.{moment_view}
use Rattle.pac_board_model.specs.History.{board_after_entries}
use Rattle.pac_board_model.specs.Host.{Act, StepOn, ResetBoard, HoldToo, LetGo, Keep, GoBack, Host, account_by_history}
use Rattle.pac_board_model.specs.Host.{account_by_view, host_at, after_acts}
use Rattle.pac_board_model.specs.Laws.{HasLinesInTime}
use Rattle.pac_board_model.specs.Output.{Output}
use Rattle.pac_board_model.specs.Shown.{line_at}
use Rattle.pac_board.specs.declared.exec.Ran.{Ran}
use Rattle.pac_board.specs.declared.fault.Fault.{Fault}
use Rattle.pac_board.specs.declared.fault.Fault.TheVariants.{TooFar, Refused}
use Rattle.pac_board.specs.declared.fault.Idle.{Idle}
use Rattle.pac_board.specs.declared.sink.Refused as sinks
use Rattle.pac_board.specs.SinksLaws.{Giving}
use Rattle.pac_board.specs.State.{BoardValue, BoardState, due_outputs, board_after_reset, board_with_inputs}
use Rattle.pac_board.specs.StateLaws.{restored_board}
use Rattle.pac_board.specs.StateLaws.{with_more_asked, with_asked_at_most}
use Rattle.pac_board.specs.Roads.{GoesUntil}
use Rattle.pac_machine.specs.declared.watch.Access.{Access}
use Rattle.pac_board.specs.Turns.{GoesTo, way}
use Rattle.pac_board.specs.CallsLaws.{Executes, StepsOnce, Offers, Advances, IsOfferRefused, IsStepRefused}
use Rattle.pac_board.specs.Calls.{next_of, outputs_in}
use Rattle.pac_board.specs.Calls.{outputs_given}

-- the calls that change a board, but for `recompose`, which is for a state that was saved without its lines
pub data Call : Type 0 where
  Exec : (microseconds : ℕ) → Call
  StepOnce : Call
  Advance : Call
  Offer : Call
  GoTo : (limit : ℕ) → Call
  -- `go`, which may stop before an address of a map, or after a step that did something at an address that is watched
  GoOn : (limit : ℕ) → (stops : Option (List ℕ)) → (met : Option Access) → Call
  CountAsked : (microseconds : ℕ) → Call
  ForgetAsked : (most : ℕ) → Call
  Reset : Call
  InputSet : (mask : ℕ) → Call
  InputClear : (mask : ℕ) → Call
  Snapshot : Call
  -- of the snapshot of this number; the first that was taken is 0
  Restore : (number : ℕ) → Call
  -- `put_fields`, by the state that the fields are of, which may be of any board or file; and `put_roms`
  PutFields : (state : BoardState) → Call
  PutRoms : (set : Parts) → Call

-- a host's board, and the snapshots that were taken of it
pub record HostedBoard : Type 0 where
  pub board : BoardValue
  pub kept : List BoardState

-- ---- what a sink took in a call, by what the call's contract says

abbrev pub run_took : {S : Type 0} (to : Giving S) (old : BoardValue) (microseconds : ℕ) (sink : S) (answer : Result Ran Fault)
    (new : BoardValue) (later : S) → Executes to old microseconds sink answer new later → List Output
run_took to old microseconds sink (Ok ran) new later runs = outputs_given old microseconds
run_took to old microseconds sink (Err TooFar) new later runs = []
run_took to old microseconds sink (Err Refused) new later runs = runs.cut.taken

abbrev pub refused_took : {S : Type 0} (to : Giving S) (old : BoardValue) (sink : S) (new : BoardValue) (later : S)
    → IsOfferRefused to old sink new later ⊎ IsStepRefused to old sink new later → List Output
refused_took to old sink new later (inl offer) = offer.cut.taken
refused_took to old sink new later (inr step) = step.cut.taken

abbrev pub step_took : {S : Type 0} (to : Giving S) (old : BoardValue) (sink : S) (answer : Result Once Fault) (new : BoardValue)
    (later : S) → StepsOnce to old sink answer new later → List Output
step_took to old sink (Ok once) new later steps = due_outputs old ++ outputs_in (next_of old)
step_took to old sink (Err TooFar) new later steps = []
step_took to old sink (Err Refused) new later steps = refused_took to old sink new later steps.1

abbrev pub offer_took : {S A E : Type 0} (to : Giving S) (old : BoardValue) (sink : S) (answer : Result A E) (new : BoardValue)
    (later : S) → Offers to old sink answer new later → List Output
offer_took to old sink (Ok done) new later offers = due_outputs old
offer_took to old sink (Err refusal) new later offers = offers.cut.taken

-- what was due is none, as `go_to` asks: the sink took what its steps gave
abbrev pub way_took : {S E : Type 0} (to : Giving S) (old : BoardValue) (limit : ℕ) (sink : S) (answer : Result (Option Stop) E)
    (new : BoardValue) (later : S) → GoesTo to old limit sink answer new later → List Output
way_took to old limit sink (Ok stop) new later goes = (way old limit).outputs
way_took to old limit sink (Err refusal) new later goes = goes.cut.taken

abbrev pub until_took : {S E : Type 0} (to : Giving S) (old : BoardValue) (limit : ℕ) (stops : Option (List ℕ)) (met : Option Access)
    (sink : S) (answer : Result (Option Stop) E) (new : BoardValue) (later : S) → GoesUntil to old limit stops met sink answer new later
    → List Output
until_took to old limit stops met sink (Ok stop) new later goes = (way old goes.end).outputs
until_took to old limit stops met sink (Err refusal) new later goes = goes.cut.taken

-- ---- calls

-- a call with some sink and some answer, which does this; and what the sink took
pub record IsCallAnswered {S A : Type 0} (does : S → A → S → Type 0)
    (takes : (sink : S) (answer : A) (later : S) → does sink answer later → List Output) (taken : List Output)
    : Type 0 where
  pub sink : S
  pub answer : A
  pub later : S
  pub done : does sink answer later
  pub taken_is : taken ≡ takes sink answer later done

-- a call that offers nothing leaves this
abbrev pub IsSilent : HostedBoard → List Output → HostedBoard → Type 0
IsSilent new taken made = (made ≡ new) × (taken ≡ [])

abbrev pub IsCall : {S : Type 0} → Giving S → Call → (old : HostedBoard) (taken : List Output) (new : HostedBoard) → Type 0
IsCall to (Exec microseconds) old taken new =
    IsCallAnswered (λ sink answer later. Executes to old.board microseconds sink answer new.board later)
    (λ sink answer later done. run_took to old.board microseconds sink answer new.board later done) taken
    × (new.kept ≡ old.kept)
IsCall to StepOnce old taken new =
    IsCallAnswered (λ sink answer later. StepsOnce to old.board sink answer new.board later)
    (λ sink answer later done. step_took to old.board sink answer new.board later done) taken
    × (new.kept ≡ old.kept)
IsCall to Advance old taken new =
    (answer : Result Once Idle) × Advances old.board answer new.board × (taken ≡ []) × (new.kept ≡ old.kept)
IsCall to Offer old taken new =
    IsCallAnswered {A = Result (Unit {0}) sinks.Refused} (λ sink answer later. Offers to old.board sink answer new.board later)
    (λ sink answer later done. offer_took to old.board sink answer new.board later done) taken
    × (new.kept ≡ old.kept)
IsCall to (GoTo limit) old taken new =
    IsCallAnswered {A = Result (Option Stop) sinks.Refused} (λ sink answer later. GoesTo to old.board limit sink answer new.board later)
    (λ sink answer later done. way_took to old.board limit sink answer new.board later done) taken
    × (due_outputs old.board ≡ []) × (new.kept ≡ old.kept)
IsCall to (GoOn limit stops met) old taken new =
    IsCallAnswered {A = Result (Option Stop) sinks.Refused}
    (λ sink answer later. GoesUntil to old.board limit stops met sink answer new.board later)
    (λ sink answer later done. until_took to old.board limit stops met sink answer new.board later done) taken
    × (due_outputs old.board ≡ []) × (new.kept ≡ old.kept)
IsCall to (CountAsked microseconds) old taken new =
    IsSilent (record { board = with_more_asked old.board microseconds; kept = old.kept }) taken new
IsCall to (ForgetAsked most) old taken new =
    IsSilent (record { board = with_asked_at_most old.board most; kept = old.kept }) taken new
IsCall to Reset old taken new = IsSilent (record { board = board_after_reset old.board; kept = old.kept }) taken new
IsCall to (InputSet mask) old taken new =
    IsSilent (record { board = board_with_inputs old.board (held_with old.board.state.now.board.memory.held mask); kept = old.kept })
    taken new
IsCall to (InputClear mask) old taken new =
    IsSilent (record { board = board_with_inputs old.board (held_without old.board.state.now.board.memory.held mask); kept = old.kept })
    taken new
IsCall to Snapshot old taken new =
    IsSilent (record { board = old.board; kept = old.kept ++ old.board.state ∷ [] }) taken new
IsCall to (Restore number) old taken new =
    IsSilent (record { board = restored_board old.board (slice_index_or old.kept number old.board.state); kept = old.kept }) taken new
IsCall to (PutFields state) old taken new = IsSilent (record { board = restored_board old.board state; kept = old.kept }) taken new
IsCall to (PutRoms set) old taken new = IsSilent (record { board = record old.board { set = set }; kept = old.kept }) taken new

-- What a call in which so many steps were done is over the history, of which so many snapshots are older. What puts fields or ROMs is
-- none of its acts: a history begins with what they leave.
abbrev pub acts_of : (older : ℕ) → Call → (steps : ℕ) → List Act
acts_of older (Exec microseconds) steps = replicate steps StepOn
acts_of older StepOnce steps = replicate steps StepOn
acts_of older Advance steps = replicate steps StepOn
acts_of older Offer steps = []
acts_of older (GoTo limit) steps = replicate steps StepOn
acts_of older (GoOn limit stops met) steps = replicate steps StepOn
acts_of older (CountAsked microseconds) steps = []
acts_of older (ForgetAsked most) steps = []
acts_of older Reset steps = ResetBoard ∷ []
acts_of older (InputSet mask) steps = HoldToo mask ∷ []
acts_of older (InputClear mask) steps = LetGo mask ∷ []
acts_of older Snapshot steps = Keep ∷ []
acts_of older (Restore number) steps = GoBack (number - older) ∷ []
acts_of older (PutFields state) steps = []
acts_of older (PutRoms set) steps = []

-- Whether calls stay within one history, of which so many snapshots are older: none of them puts fields or ROMs, or goes back to a
-- snapshot that is older.
abbrev pub stays_within : (older : ℕ) → List Call → Bool
stays_within older [] = true
stays_within older (Restore number ∷ calls) = nat_le older number && stays_within older calls
stays_within older (PutFields state ∷ calls) = false
stays_within older (PutRoms set ∷ calls) = false
stays_within older (call ∷ calls) = stays_within older calls

abbrev pub steps_between : HostedBoard → HostedBoard → ℕ
steps_between old new = new.board.state.now.steps - old.board.state.now.steps

-- a call, and then others; what the sinks took in all of them, and how many steps were done in each
pub record CallThen {S : Type 0} (to : Giving S) (call : Call) (others : HostedBoard → List Output → List ℕ → Type 0)
    (old : HostedBoard) (taken : List Output) (steps : List ℕ) : Type 0 where
  pub between : HostedBoard
  pub first_taken : List Output
  pub first : IsCall to call old first_taken between
  pub more_taken : List Output
  pub more_steps : List ℕ
  pub after : others between more_taken more_steps
  pub taken_is : taken ≡ first_taken ++ more_taken
  pub steps_are : steps ≡ steps_between old between ∷ more_steps

abbrev pub AreCalls : {S : Type 0} → Giving S → List Call → (old new : HostedBoard) → (taken : List Output) → (steps : List ℕ) → Type 0
AreCalls to [] old new taken steps = (new ≡ old) × (taken ≡ []) × (steps ≡ [])
AreCalls to (call ∷ calls) old new taken steps =
    CallThen to call (λ between more steps. AreCalls to calls between new more steps) old taken steps

-- what calls with so many steps in each are over the history
abbrev pub acts_over : (older : ℕ) → List Call → (steps : List ℕ) → List Act
acts_over older (call ∷ calls) (number ∷ steps) = acts_of older call number ++ acts_over older calls steps
acts_over older _ _ = []

-- whether a call is among them after which something else may be due
abbrev pub goes_back : List Call → Bool
goes_back [] = false
goes_back (Restore number ∷ calls) = true
goes_back (PutFields state ∷ calls) = true
goes_back (PutRoms set ∷ calls) = true
goes_back (call ∷ calls) = goes_back calls

-- ---- over the history

-- the history of a board from now on: what acts make of no entries
abbrev pub history : List Item → BoardValue → List Act → Host (List Entry)
history items board acts =
    let now = board.state.now in
    after_acts (account_by_history board.set items now.board)
    (host_at (record { regs = now.regs; board = []; time = now.time; steps = now.steps })) acts

-- A board, after calls, stands where the history says, and so do the snapshots that were taken since: registers, time and steps are
-- those of the history, and what it keeps is what the entries leave. Snapshots that are older stay.
pub record IsOfTheHistory (old : HostedBoard) (told : Host (List Entry)) (calls : List Call) (new : HostedBoard) (taken : List Output)
    : Type 0 where
  pub set : new.board.set ≡ old.board.set
  pub now : new.board.state.now ≡ moment_view (board_after_entries old.board.set old.board.state.now.board) told.now
  pub older : take (length old.kept) new.kept ≡ old.kept
  pub kept : map (λ (state : BoardState). state.now) (drop (length old.kept) new.kept)
      ≡ map (moment_view (board_after_entries old.board.set old.board.state.now.board)) told.kept
  -- each line of its picture is as it was last composed, and lines were composed at their moments and at no others
  pub picture : new.board.state.now.board.lines
      ≡ tabulate height (line_at old.board.set old.board.state.now.board told.now.board)
  pub lines : HasLinesInTime old.board.set old.board.state.now.board old.board.state.now.time told.now
  -- where it wasn't brought back, the sinks took what was due and what the history's steps gave, once and in order, or it is due
  pub outputs : goes_back calls ≡ false → due_outputs old.board ++ told.outputs ≡ taken ++ due_outputs new.board

-- Calls of one history, from any board on, with any snapshots that are older.
abbrev pub CallsAreOfTheHistory : {S : Type 0} → Giving S → Type 0
CallsAreOfTheHistory to =
    (items : List Item) (old : HostedBoard) (calls : List Call) (new : HostedBoard) (taken : List Output) (steps : List ℕ)
    → IsWhole old.board.set → AllLie old.board.set.program items → IsBoard old.board.state.now.board
    → stays_within (length old.kept) calls ≡ true → AreCalls to calls old new taken steps
    → IsOfTheHistory old (history items old.board (acts_over (length old.kept) calls steps)) calls new taken

-- ---- all lists

-- Calls that come one after another, cut into two parts: the second part begins with the board and the snapshots that the first left.
pub record AreParts {S : Type 0} (to : Giving S) (first more : List Call) (old new : HostedBoard) (taken : List Output) (steps : List ℕ)
    : Type 0 where
  pub between : HostedBoard
  pub first_taken : List Output
  pub first_steps : List ℕ
  pub first_done : AreCalls to first old between first_taken first_steps
  pub more_taken : List Output
  pub more_steps : List ℕ
  pub more_done : AreCalls to more between new more_taken more_steps
  pub taken_is : taken ≡ first_taken ++ more_taken
  pub steps_are : steps ≡ first_steps ++ more_steps

-- Any list can be cut anywhere. So one that puts fields or ROMs, or goes back to what is older, is one history after another.
abbrev pub ListsAreCut : {S : Type 0} → Giving S → Type 0
ListsAreCut to =
    (first more : List Call) (old new : HostedBoard) (taken : List Output) (steps : List ℕ)
    → AreCalls to (first ++ more) old new taken steps → AreParts to first more old new taken steps

-- ---- what is given out where a board goes back

-- what the steps of a part give, with so many snapshots from before it
abbrev pub given_over : BoardValue → (older : ℕ) → List Call → (steps : List ℕ) → List Output
given_over board older calls steps =
    (after_acts (account_by_view board.set) (host_at board.state.now) (acts_over older calls steps)).outputs

-- the board that went back to a snapshot
abbrev pub board_back : HostedBoard → (number : ℕ) → BoardValue
board_back hosted number = restored_board hosted.board (slice_index_or hosted.kept number hosted.board.state)

-- A board goes back between two parts of a list. In the first the sinks took what was due and what its steps gave, but for what was due
-- as the board went back, which nobody is given. In the second they took what was due when the snapshot was taken, which is given again
-- where it had been given since, and what the steps from there gave, or it is due.
pub record IsGivenBack (first : List Call) (number : ℕ) (more : List Call) (old new : HostedBoard) (taken : List Output) (steps : List ℕ)
    : Type 0 where
  pub at : HostedBoard
  pub first_taken : List Output
  pub first_steps : List ℕ
  pub before : due_outputs old.board ++ given_over old.board (length old.kept) first first_steps ≡ first_taken ++ due_outputs at.board
  pub more_taken : List Output
  pub more_steps : List ℕ
  pub after : due_outputs (board_back at number) ++ given_over (board_back at number) (length at.kept) more more_steps
      ≡ more_taken ++ due_outputs new.board
  pub taken_is : taken ≡ first_taken ++ more_taken
  -- (how many steps it went back or forward)
  pub back_steps : ℕ
  pub steps_are : steps ≡ first_steps ++ back_steps ∷ more_steps

abbrev pub RestoresGiveAgain : {S : Type 0} → Giving S → Type 0
RestoresGiveAgain to =
    (first : List Call) (number : ℕ) (more : List Call) (old new : HostedBoard) (taken : List Output) (steps : List ℕ)
    → goes_back first ≡ false → goes_back more ≡ false → AreCalls to (first ++ Restore number ∷ more) old new taken steps
    → IsGivenBack first number more old new taken steps
