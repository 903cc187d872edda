-- The steps that a session's board makes: no more than lead to the furthest index, and those that lines have it make once more.
use Rattle.pac_debug.proofs.Common.{Answer, AnswersReturn, AreSeen, BoardView, Bool, Command, CommandFault, Due, Err, Giving}
use Rattle.pac_debug.proofs.Common.{IsCommandObeyed, IsCommandPerformed, IsHeldUpAt, IsSeen, IsSession, LeavesEach, LeavesLine, LineAnswer}
use Rattle.pac_debug.proofs.Common.{LinesMakeNoMore, List, MakesNoMore, Moment, Motion, NoCommand, None, Ok, Option, Outcome, RefusedAt}
use Rattle.pac_debug.proofs.Common.{Result, Scene, SessionValue, SessionsMakeNoMore, SetsBreakpoint, Some, Stays, TellsAll, TellsOfCommand}
use Rattle.pac_debug.proofs.Common.{WatchesSession, [], all-seen-later, all_steps_again, ap, arith, command_of, false, get_or, goes_at}
use Rattle.pac_debug.proofs.Common.{has_met, moved_to, not-false, open-up-to, or_parts, rests, rules, run-ends, seen-set}
use Rattle.pac_debug.proofs.Common.{session_without_due, steps_again, suc, takes_all, true, whole-at-end, whole_run, zero, ℕ, ◌++◌, ◌+◌}
use Rattle.pac_debug.proofs.Common.{◌<◌, ◌∙◌, ◌∷◌, ◌≡◌, ◌≤◌}
use mathlib.Core.Logic.{inl, inr}
use Rattle.pac_debug.specs.declared.line.CommandFault.TheVariants as faults
use Rattle.pac_debug.proofs.GoingOn.{comes-to, held-at}

-- ---- where a session stands

-- of what holds of every session, what is about its indices
record Stands (s : SessionValue) : Type 0 where
  pub within : s.index ≤ s.furthest
  pub goes : (earlier : ℕ) → earlier < s.furthest → goes_at s.setting earlier ≡ true
  pub seen : AreSeen s.furthest s.slots

-- from one moment to a later one, for which a line may be the cause of so many steps that are made once more
record Makes (again : ℕ → ℕ) (old new : SessionValue) : Type 0 where
  pub stands : Stands new
  pub setting : new.setting ≡ old.setting
  pub further : old.furthest ≤ new.furthest
  pub made : (furthest : ℕ) → new.furthest ≤ furthest → new.made + old.index ≤ old.made + new.index + again furthest

-- so it is where nothing else changed than this
still : (again : ℕ → ℕ) (old new : SessionValue) (breakpoints : List ℕ) (due : Due) (replayed : ℕ) → Stands old
    → new ≡ record old { breakpoints = breakpoints; due = due; replayed = replayed } → Makes again old new
still again old new breakpoints due replayed stands is = search rules

same : (again : ℕ → ℕ) (old new : SessionValue) → Stands old → new ≡ old → Makes again old new
same again old new stands is = still again old new old.breakpoints old.due old.replayed stands is

-- ---- onwards

-- where a motion doesn't rest the run goes on
unrested : (s : SessionValue) (motion : Motion) (from index : ℕ) → rests s motion from index ≡ false → goes_at s.setting index ≡ true
unrested s motion from index e = not-false _ (or_parts (has_met s motion from index) _ e).1

module _ (again : ℕ → ℕ) (old new : SessionValue) (due : Due) (replayed : ℕ) (stands : Stands old) (after : old.index ≤ new.index)
    (is : new ≡ record (moved_to old new.index) { due = due; replayed = replayed })
    (goes : (earlier : ℕ) → old.index ≤ earlier → earlier < new.index → goes_at old.setting earlier ≡ true) where
  onwards : Makes again old new
  onwards = grind (arith, all-seen-later)

-- ---- commands that don't move on

-- what a slot keeps was seen
seen-at : (furthest : ℕ) (slots : List (Option ℕ)) (place : ℕ) → AreSeen furthest slots → IsSeen furthest (get_or slots place None)
seen-at furthest [] place all = tt
seen-at furthest (first ∷ more) zero all = all.0
seen-at furthest (first ∷ more) (suc place) all = seen-at furthest more place all.1

returned : (old : SessionValue) (kept : Option ℕ) (answer : Answer) (new : SessionValue) → Stands old → IsSeen old.furthest kept
    → AnswersReturn old kept answer new → Makes (λ furthest. furthest) old new
returned old kept answer new stands seen came = search rules

set-there : (again : ℕ → ℕ) (old : SessionValue) (address : ℕ) (is_set : Bool) (answer : Answer) (new : SessionValue)
    → Stands old → SetsBreakpoint old address is_set answer new → Makes again old new
set-there again old address is_set answer new stands done = search rules

stays : (old : SessionValue) (command : Command) (answer : Answer) (new : SessionValue) → Stands old → Stays old command answer new
    → Makes (λ furthest. steps_again furthest (Some (Ok command))) old new
stays old command answer new stands done = grind (arith, returned, same, seen-at, set-there, still, seen-set)

-- ---- a line

performed : (old : SessionValue) (command : Command) (found : Option Motion) (answer : Answer) (new : SessionValue) → Stands old
    → IsCommandPerformed takes_all old command found tt answer new tt → Makes (λ furthest. steps_again furthest (Some (Ok command))) old new
performed old command (Some motion) answer new stands moved =
    let gone = moved.travelled in
    onwards _ old new _ _ stands gone.rest.after gone.session
    (λ earlier from less. unrested old motion old.index earlier (gone.rest.none_before earlier from less))
performed old command None answer new stands done = stays old command answer new stands done.0

obeyed : (old : SessionValue) (asked : Result Command NoCommand) (answer : Answer) (new : SessionValue) → Stands old
    → IsCommandObeyed takes_all (session_without_due old) asked tt answer new tt
    → Makes (λ furthest. steps_again furthest (Some asked)) old new
obeyed old asked answer new stands done = grind (arith, performed, same)

told : (found : Option (Result Command NoCommand)) (old : SessionValue) (text : List ℕ) (new : SessionValue) → Stands old
    → TellsOfCommand found old text new → Makes (λ furthest. steps_again furthest found) old new
told found old text new stands tells = grind (arith, obeyed, same)

held-up : (found : Option (Result Command NoCommand)) (old new : SessionValue) → Stands old → IsHeldUpAt found old new
    → Makes (λ furthest. steps_again furthest found) old new
held-up None old new stands held = absurd held
held-up (Some asked) old new stands (inl held) = still _ old new _ _ _ stands held.session
held-up (Some asked) old new stands (inr held) =
    onwards _ old new _ _ stands (omega (arith, held.index, held.fresh, stands.within)) held.session
    (λ earlier from less. unrested old held.motion old.index earlier (held.restless earlier from (omega (arith, held.index, less))))

line-makes : (line : List ℕ) (answer : LineAnswer) (old : SessionValue) (text : List ℕ) (new : SessionValue) → Stands old
    → LeavesLine line answer old text new → Makes (λ furthest. steps_again furthest (command_of line)) old new
line-makes line answer old text new stands leaves = grind (arith, held-up, told)

-- ---- lines

lines-make : (lines : List (List ℕ)) (answers : List LineAnswer) (old : SessionValue) (texts : List (List ℕ)) (new : SessionValue)
    → Stands old → LeavesEach lines answers old texts new → Makes (λ furthest. all_steps_again furthest lines) old new
lines-make [] [] old [] new stands leaves = same _ old new stands leaves
lines-make (line ∷ lines) (answer ∷ answers) old (text ∷ texts) new stands leaves =
    let first = line-makes line answer old text leaves.between stands leaves.before in
    let rest = lines-make lines answers leaves.between texts new first.stands leaves.after in grind arith
lines-make lines answers old texts new stands leaves = absurd leaves

-- up to the furthest index the trace goes on
within-trace : (s : SessionValue) → Stands s → s.furthest ≤ (whole_run s.setting).now.steps
within-trace s stands =
    let end = run-ends s.setting s.furthest in
    let goes : (earlier : ℕ) → earlier < end.index → goes_at s.setting earlier ≡ true = search rules in
    let whole = whole-at-end s.setting end.index goes end.least.here in
    let steps = ap (λ (now : Moment BoardView). now.steps) whole ∙ (open-up-to s.setting end.index goes).steps in omega (arith, steps)

-- so it is in all
no-more : (lines : List (List ℕ)) (old new : SessionValue) → IsSession old → Makes (λ furthest. all_steps_again furthest lines) old new
    → MakesNoMore lines old new
no-more lines old new facts makes =
    let made = makes.made new.furthest (omega arith) in
    let within = makes.stands.within in
    let further = makes.further in grind (arith, within-trace)

standing : (s : SessionValue) → IsSession s → Stands s
standing s facts = record { within = facts.within; goes = facts.goes; seen = facts.seen }

pub lines-make-no-more : {S W : Type 0} (to : Giving S) (wrote : W → List ℕ → W → Type 0) (balked : W → W → Type 0)
    → LinesMakeNoMore to wrote balked
lines-make-no-more to wrote balked lines answers old new facts all =
    let came = comes-to to wrote balked lines answers old new all in
    no-more lines old.session new.session facts
    (lines-make lines answers old.session came.texts new.session (standing old.session facts) came.left)

-- ---- a whole session

-- no more than this
makes-within : (again most : ℕ → ℕ) (old new : SessionValue) → ((furthest : ℕ) → again furthest ≤ most furthest) → Makes again old new
    → Makes most old new
makes-within again most old new less makes = search rules

again-joined : (furthest : ℕ) (lines more : List (List ℕ))
    → all_steps_again furthest (lines ++ more) ≡ all_steps_again furthest lines + all_steps_again furthest more
again-joined furthest [] more = omega arith
again-joined furthest (line ∷ lines) more = let rest = again-joined furthest lines more in omega (arith, rest)

tells-make : (lines : List (List ℕ)) (old : SessionValue) (text : List ℕ) (new : SessionValue) → Stands old → TellsAll lines old text new
    → Makes (λ furthest. all_steps_again furthest lines) old new
tells-make [] old text new stands tells = same _ old new stands tells.1
tells-make (line ∷ lines) old text new stands tells =
    let first = told (command_of line) old tells.text_before tells.between stands tells.before in
    let rest = tells-make lines tells.between tells.text_after new first.stands tells.after in grind arith

module _ {S : Type 0} (to : Giving S) where
  -- where the sink refused: at a line, or on the way to the end
  refused-makes : (lines : List (List ℕ)) (old : SessionValue) (sink : S) (new : SessionValue) (later : S) → Stands old
      → RefusedAt to lines old sink new later → Makes (λ furthest. all_steps_again furthest lines) old new
  refused-makes [] old sink new later stands (inl refusal) = search rules
  refused-makes [] old sink new later stands (inr gone) =
      onwards _ old new _ _ stands (omega (arith, gone.index, gone.fresh, stands.within)) gone.session
      (λ earlier from less. gone.restless earlier from (omega (arith, gone.index, less)))
  refused-makes (line ∷ lines) old sink new later stands refusal = grind (arith, held-at, held-up, makes-within)

  module _ {W : Type 0} (wrote : W → List ℕ → W → Type 0) (balked : W → W → Type 0) where
    watched-makes : (lines : List (List ℕ)) (old : Scene S W) (result : Result Outcome CommandFault) (new : Scene S W) → Stands old.session
        → WatchesSession to wrote balked lines old result new → Makes (λ furthest. all_steps_again furthest lines) old.session new.session
    watched-makes lines old (Ok outcome) new stands watched =
        let first = tells-make lines old.session watched.told watched.between stands watched.lines in
        let rest = onwards (λ furthest. 0) watched.between new.session _ _ first.stands watched.rest.after watched.session
        (λ earlier from less. grind (arith, not-false)) in
        grind (arith, makes-within)
    watched-makes lines old (Err faults.Refused) new stands watched =
        grind (arith, again-joined, makes-within, refused-makes, tells-make, told)
    watched-makes lines old (Err (faults.Text fault)) new stands watched = grind (arith, again-joined, makes-within, tells-make, told)

pub sessions-make-no-more : {S W : Type 0} (to : Giving S) (wrote : W → List ℕ → W → Type 0) (balked : W → W → Type 0)
    → SessionsMakeNoMore to wrote balked
sessions-make-no-more to wrote balked lines old result new facts watched =
    no-more lines old.session new.session facts (watched-makes to wrote balked lines old result new (standing old.session facts) watched)
