-- What lines give to a sink, whatever they ask: what was due, and what the run gives from one furthest index to the next.
use Rattle.pac_debug.proofs.Common.{Answer, AnswersReturn, Asks, Bool, Command, CommandFault, Err, GaveAll, GaveSome, Giving, IsCommandDone}
use Rattle.pac_debug.proofs.Common.{IsCommandObeyed, IsCommandPerformed, IsCommandRefused, IsFinishRefused, IsFurther}
use Rattle.pac_debug.proofs.Common.{IsSessionOfferRefused, LinesGive, List, Motion, NoCommand, None, ObeysLines, Ok, Option, Output, Result}
use Rattle.pac_debug.proofs.Common.{Scene, SessionValue, SetsBreakpoint, Setting, Some, Stays, TookAll, [], ap, append_assoc, arith}
use Rattle.pac_debug.proofs.Common.{between-joined, between-self, command_of, cut-after, cut-along, due_outputs_in, joined-to-end}
use Rattle.pac_debug.proofs.Common.{nothing_due, now_at, outputs_between, outputs_from, outputs_to_give, outputs_until, refl, rules}
use Rattle.pac_debug.proofs.Common.{session_at_command, session_due_outputs, session_without_due, sym, took-both, ℕ, ◌++◌, ◌∙◌, ◌∷◌, ◌≡◌}
use Rattle.pac_debug.proofs.Common.{◌≤◌, ◌⊎◌}
use mathlib.Core.Logic.{inl, inr}
use Rattle.pac_debug.specs.declared.line.CommandFault.TheVariants as faults

-- ---- commands that don't move on

-- the run, the furthest index and what is due are as they were
record IsStill (old new : SessionValue) : Type 0 where
  pub setting : new.setting ≡ old.setting
  pub furthest : new.furthest ≡ old.furthest
  pub due : new.due ≡ old.due

like : (old new other : SessionValue) → new ≡ other → other.setting ≡ old.setting → other.furthest ≡ old.furthest → other.due ≡ old.due
    → IsStill old new
like old new other is setting furthest due = search rules

still : (old new : SessionValue) → new ≡ old → IsStill old new
still old new same = like old new old same refl refl refl

returned : (old : SessionValue) (kept : Option ℕ) (answer : Answer) (new : SessionValue) → AnswersReturn old kept answer new
    → IsStill old new
returned old kept answer new came = search rules

set-there : (old : SessionValue) (address : ℕ) (is_set : Bool) (answer : Answer) (new : SessionValue)
    → SetsBreakpoint old address is_set answer new → IsStill old new
set-there old address is_set answer new done = search rules

stays : (old : SessionValue) (command : Command) (answer : Answer) (new : SessionValue) → Stays old command answer new → IsStill old new
stays old command answer new done = grind (arith, like, returned, set-there, still)

-- ---- a line with words

pub nothing-given : (s : SessionValue) → s.due ≡ nothing_due → session_due_outputs s ≡ []
nothing-given s none = ap (λ due. due_outputs_in s.setting.set (now_at s.setting s.index).board due) none

-- what is given from one furthest index to the same one
none-between : (setting : Setting) (first second : ℕ) → second ≡ first → outputs_between setting first second ≡ []
none-between setting first second same = ap (λ n. outputs_between setting first n) same ∙ between-self setting first

module _ {S : Type 0} (took : S → Output → S → Type 0) where
  -- it was done with nothing due, and nothing is due after it
  pub record HasDone (old : SessionValue) (sink : S) (new : SessionValue) (later : S) : Type 0 where
    pub setting : new.setting ≡ old.setting
    pub further : old.furthest ≤ new.furthest
    pub due : new.due ≡ nothing_due
    pub sink_is : TookAll took sink (outputs_between old.setting old.furthest new.furthest) later

  done-still : (old : SessionValue) (sink : S) (new : SessionValue) (later : S) → old.due ≡ nothing_due → IsStill old new → later ≡ sink
      → HasDone old sink new later
  done-still old sink new later none stayed same = grind (arith, between-self)

  performed : (old : SessionValue) (command : Command) (found : Option Motion) (sink : S) (answer : Answer) (new : SessionValue) (later : S)
      → old.due ≡ nothing_due → IsCommandPerformed took old command found sink answer new later → HasDone old sink new later
  performed old command found sink answer new later none moved = grind (arith, done-still, stays)

  pub obeyed : (old : SessionValue) (asked : Result Command NoCommand) (sink : S) (answer : Answer) (new : SessionValue) (later : S)
      → old.due ≡ nothing_due → IsCommandObeyed took old asked sink answer new later → HasDone old sink new later
  obeyed old asked sink answer new later none done = grind (arith, done-still, performed, still)

  did-given : (old : SessionValue) (asked : Result Command NoCommand) (sink : S) (answer : Answer) (new : SessionValue) (later : S)
      → IsCommandDone took old asked sink answer new later → GaveAll took old sink new later
  did-given old asked sink answer new later did =
      let done = obeyed (session_without_due old) asked did.between answer new later refl did.obeyed in
      let given = outputs_until old new in search (rules, arith, nothing-given, took-both)

-- ---- a refusal

module _ {S : Type 0} (to : Giving S) where
  offer-refused : (old : SessionValue) (sink : S) (new : SessionValue) (later : S)
      → IsSessionOfferRefused to (session_at_command old) sink new later → GaveSome to old sink new later
  offer-refused old sink new later refusal = grind (arith, between-self)

  refused-given : (old : SessionValue) (asked : Result Command NoCommand) (sink : S) (new : SessionValue) (later : S)
      → IsCommandRefused to old asked sink new later → GaveSome to old sink new later
  refused-given old asked sink new later (inl refusal) = offer-refused old sink new later refusal
  refused-given old asked sink new later (inr refusal) = grind (arith, cut-after)

  pub finish-given : (old : SessionValue) (sink : S) (new : SessionValue) (later : S)
      → IsSessionOfferRefused to (session_at_command old) sink new later ⊎ IsFinishRefused to old sink new later
      → GaveSome to old sink new later
  finish-given old sink new later refusal = grind (arith, offer-refused)

-- ---- one after another

pub further-on : (old mid new : SessionValue) → IsFurther old mid → IsFurther mid new → IsFurther old new
further-on old mid new first second = search rules

-- what was given up to one moment, and what was to be given from there on
given-on : (old mid new : SessionValue) (one : List Output) → IsFurther old mid → IsFurther mid new
    → outputs_until old mid ≡ one ++ session_due_outputs mid → outputs_until old new ≡ one ++ outputs_until mid new
given-on old mid new one first second parts =
    let setting = old.setting in
    let due = session_due_outputs old in
    let due_then = session_due_outputs mid in
    let given = outputs_between setting old.furthest mid.furthest in
    let later = outputs_between setting mid.furthest new.furthest in
    ap (λ xs. due ++ xs) (sym (between-joined setting old.furthest mid.furthest new.furthest first.furthest second.furthest))
    ∙ sym (append_assoc due given later) ∙ ap (λ xs. xs ++ later) parts ∙ append_assoc one due_then later
    ∙ ap (λ (run : Setting). one ++ (due_then ++ outputs_between run mid.furthest new.furthest)) (sym first.setting)

-- what was taken, what is due, and what the run gives from there on, is all that was still to be given
pub all-to-give : (old new : SessionValue) (taken : List Output) → IsFurther old new
    → outputs_until old new ≡ taken ++ session_due_outputs new
    → (taken ++ session_due_outputs new) ++ outputs_from new.setting new.furthest ≡ outputs_to_give old
all-to-give old new taken further parts = grind (arith, joined-to-end)

module _ {S : Type 0} (to : Giving S) where
  none-given : (s : SessionValue) (sink : S) → GaveAll to.took s sink s sink
  none-given s sink = grind (arith, between-self)

  pub some-after : (old mid new : SessionValue) (sink between later : S) → GaveAll to.took old sink mid between
      → GaveSome to mid between new later → GaveSome to old sink new later
  some-after old mid new sink between later first second = record {
    further = further-on old mid new first.further second.further;
    cut =
        cut-along (given-on old mid new first.taken first.further second.further first.parts) refl
        (cut-after first.taken sink between later first.sink_is second.cut);
  }

  all-after : (old mid new : SessionValue) (sink between later : S) → GaveAll to.took old sink mid between
      → GaveAll to.took mid between new later → GaveAll to.took old sink new later
  all-after old mid new sink between later first second = record {
    further = further-on old mid new first.further second.further;
    taken = first.taken ++ second.taken;
    parts =
        given-on old mid new first.taken first.further second.further first.parts ∙ ap (λ xs. first.taken ++ xs) second.parts
        ∙ sym (append_assoc first.taken second.taken (session_due_outputs new));
    sink_is = took-both to.took first.taken second.taken sink between later first.sink_is second.sink_is;
  }

  -- ---- lines

  module _ {W : Type 0} (wrote : W → List ℕ → W → Type 0) (balked : W → W → Type 0) where
    pub line-given : {A : Type 0} (found : Option (Result Command NoCommand)) (result : Result A CommandFault) (old new : Scene S W)
        → Asks to wrote balked found old result new → LinesGive to old.session old.sink result new.session new.sink
    line-given None (Ok done) old new skipped = grind (arith, none-given)
    line-given None (Err fault) old new skipped = absurd skipped
    line-given (Some asked) (Err faults.Refused) old new told = refused-given to old.session asked old.sink new.session new.sink told.0
    line-given (Some asked) result old new told = did-given to.took old.session asked old.sink told.answer new.session new.sink told.did

    pub lines-given : (lines : List (List ℕ)) (result : Result (Unit {0}) CommandFault) (old new : Scene S W)
        → ObeysLines to wrote balked lines old result new → LinesGive to old.session old.sink result new.session new.sink
    lines-given [] (Ok done) old new same = grind (arith, none-given)
    lines-given [] (Err fault) old new obeyed = absurd obeyed
    lines-given (line ∷ more) (Ok done) old new obeyed =
        grind (arith, line-given, obeyed, all-after, some-after, lines-given more (Ok done) obeyed.between new obeyed.after)
    lines-given (line ∷ more) (Err fault) old new (inl here) = line-given (command_of line) (Err fault) old new here
    lines-given (line ∷ more) (Err fault) old new (inr later) =
        grind (arith, line-given, all-after, some-after, lines-given more (Err fault) later.between new later.after)
