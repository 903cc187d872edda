-- Lines that go on after one that wasn't answered: where they leave the session, and what the file took.
use Rattle.pac_debug.proofs.Common.{AnswersEach, AreDoneInTurn, ComesTo, Command, Commands, Counted, Err, Giving, GoesIntoFile, IsHeldUp}
use Rattle.pac_debug.proofs.Common.{IsHeldUpAfter, IsHeldUpAt, IsLineAnswered, LeavesLine, LineAnswer, List, Motion, NoCommand, None}
use Rattle.pac_debug.proofs.Common.{NoneIsTold, Ok, Option, Output, RefusedOf, Result, Scene, SessionValue, Some, TextsAreLines, [], ap}
use Rattle.pac_debug.proofs.Common.{append_assoc, append_cancel_left, arith, between-joined, command_of, length, outputs_between, refl}
use Rattle.pac_debug.proofs.Common.{rests, rules, session_due_outputs, session_without_due, sym, true, ℕ, ◌++◌, ◌<◌, ◌∙◌, ◌∷◌, ◌≡◌}
use mathlib.Core.Logic.{inl, inr}
use Rattle.pac_debug.specs.declared.line.CommandFault.TheVariants as faults
use Rattle.pac_debug.proofs.Giving.{line-given}
use Rattle.pac_debug.proofs.Telling.{line-told, line-refused, line-untold}
use Rattle.pac_debug.proofs.Offers.{HasGiven, gave-none, gave-by, gave-on}

some-due : (due : List Output) (first : Output) (rest : List Output) → due ≡ first ∷ rest → 0 < length due
some-due due first rest is = rw is (omega arith)

module _ {S : Type 0} (to : Giving S) where
  -- ---- where a refused line leaves the session

  same-rest : (s : SessionValue) (motion : Motion) (from index : ℕ)
      → rests (session_without_due s) motion from index ≡ rests s motion from index
  same-rest s motion from index = search rules

  held-after : (old : SessionValue) (asked : Result Command NoCommand) (sink : S) (new : SessionValue) (later : S)
      → IsHeldUp to (session_without_due old) asked sink new later → IsHeldUpAfter old asked new
  held-after old asked sink new later held =
      let gone = held.held_up in
      let setting = old.setting in
      let before = outputs_between setting old.furthest gone.last in
      let due = session_due_outputs new in
      let parts : before ++ outputs_between setting gone.last new.index ≡ before ++ (gone.of_last.0 ++ due)
      = between-joined setting old.furthest gone.last new.index gone.fresh (omega (arith, gone.index)) ∙ gone.cut.parts
      ∙ ap (λ xs. xs ++ due) (sym gone.of_last.1) ∙ append_assoc before gone.of_last.0 due in
      grind (arith, append_cancel_left, same-rest, some-due)

  pub held-at : (found : Option (Result Command NoCommand)) (old : SessionValue) (sink : S) (new : SessionValue) (later : S)
      → RefusedOf to found old sink new later → IsHeldUpAt found old new
  held-at None old sink new later refusal = absurd refusal
  held-at (Some asked) old sink new later (inl refusal) = search rules
  held-at (Some asked) old sink new later (inr refusal) = inr (held-after old asked refusal.between new later refusal.held_up)

  -- ---- lines, one after another

  module _ {W : Type 0} (wrote : W → List ℕ → W → Type 0) (balked : W → W → Type 0) where
    -- once a text was refused, the file stays as it is
    record StaysClosed (lines : List (List ℕ)) (answers : List LineAnswer) (old new : Counted W) : Type 0 where
      pub same : new ≡ old
      pub none : NoneIsTold lines answers old.count

    stays-closed : (lines : List (List ℕ)) (answers : List LineAnswer) (old new : Scene S W)
        → AnswersEach to wrote balked lines answers old new → old.text.failed ≡ true → StaysClosed lines answers old.text new.text
    stays-closed [] [] old new same failed = record { same = ap (λ (scene : Scene S W). scene.text) same; none = tt }
    stays-closed (line ∷ lines) (Ok done ∷ answers) old new all failed =
        let mid = all.between in
        let here = line-told to wrote balked done (command_of line) old mid all.before in
        let kept = (here.takes.later failed).1 in
        let rest = stays-closed lines answers mid new all.after (ap (λ (file : Counted W). file.failed) kept ∙ failed) in search rules
    stays-closed (line ∷ lines) (Err faults.Refused ∷ answers) old new all failed =
        let mid = all.between in
        let kept = (line-refused to wrote balked (command_of line) old mid all.before).1 in
        let rest = stays-closed lines answers mid new all.after (ap (λ (file : Counted W). file.failed) kept ∙ failed) in search rules
    stays-closed (line ∷ lines) (Err (faults.Text fault) ∷ answers) old new all failed =
        let here = line-untold to wrote balked (command_of line) fault old all.between all.before in
        let kept = here.refuses.later failed in
        let rest = stays-closed lines answers all.between new all.after here.refuses.closed in search rules
    stays-closed lines answers old new all failed = absurd all

    -- one line, and then the others
    module _ (line : List ℕ) (lines : List (List ℕ)) (answers : List LineAnswer) (old mid new : Scene S W)
        (after : AnswersEach to wrote balked lines answers mid new) (rest : ComesTo to wrote balked lines answers mid new) where
      -- by where it leaves the session, and what the file took
      first-as : (answer : LineAnswer) (text : List ℕ) → Commands to wrote balked line old answer mid
          → LeavesLine line answer old.session text mid.session
          → GoesIntoFile wrote balked (line ∷ lines) (answer ∷ answers) (text ∷ rest.texts) old.text new.text
          → ComesTo to wrote balked (line ∷ lines) (answer ∷ answers) old new
      first-as answer text here left file =
          let given : HasGiven to old.session old.sink new.session new.sink = grind (arith, gave-by, gave-on, line-given) in
          record {
            further = given.further;
            offers = given.offers;
            offered = given.offered;
            in_order = given.in_order;
            texts = text ∷ rest.texts;
            left = record { between = mid.session; before = left; after = rest.left };
            file = file;
          }

      first-then : (answer : LineAnswer) → Commands to wrote balked line old answer mid
          → ComesTo to wrote balked (line ∷ lines) (answer ∷ answers) old new
      first-then (Ok done) here =
          let told = line-told to wrote balked done (command_of line) old mid here in
          first-as (Ok done) told.text here told.tells (record { between = mid.text; before = (told.takes, told.later); after = rest.file })
      first-then (Err faults.Refused) here =
          let refusal = line-refused to wrote balked (command_of line) old mid here in
          first-as (Err faults.Refused) [] here (held-at (command_of line) old.session old.sink mid.session mid.sink refusal.0, refl)
          (rw refusal.1 at rest.file)
      first-then (Err (faults.Text fault)) here =
          let told = line-untold to wrote balked (command_of line) fault old mid here in
          let closed = stays-closed lines answers mid new after told.refuses.closed in
          first-as (Err (faults.Text fault)) told.text here told.tells (search rules)

    pub comes-to : (lines : List (List ℕ)) (answers : List LineAnswer) (old new : Scene S W)
        → AnswersEach to wrote balked lines answers old new → ComesTo to wrote balked lines answers old new
    comes-to [] [] old new same = let given = gave-none to old.session old.sink in search rules
    comes-to (line ∷ lines) (answer ∷ answers) old new all =
        first-then line lines answers old all.between new all.after (comes-to lines answers all.between new all.after) answer all.before
    comes-to lines answers old new all = absurd all

-- ---- a text of lines

module _ {S W : Type 0} (to : Giving S) (wrote : W → List ℕ → W → Type 0) (balked : W → W → Type 0) where
  -- one more line before
  one-more : (line : List ℕ) (lines : List (List ℕ)) (old mid new : Scene S W) (result : LineAnswer)
      → IsLineAnswered to wrote balked line old mid → AreDoneInTurn to wrote balked lines mid result new
      → AreDoneInTurn to wrote balked (line ∷ lines) old result new
  one-more line lines old mid new result here rest = record {
    before = line ∷ rest.before;
    left = rest.left;
    parts = ap (λ ls. line ∷ ls) rest.parts;
    answers = Ok tt ∷ rest.answers;
    end_is = search rules;
    each = record { between = mid; before = here; after = rest.each };
  }

  pub in-turn : TextsAreLines to wrote balked
  in-turn [] old (Ok done) new same = record { before = []; left = []; parts = refl; answers = []; end_is = refl; each = same }
  in-turn [] old (Err fault) new obeyed = absurd obeyed
  in-turn (line ∷ lines) old (Ok done) new obeyed =
      one-more line lines old obeyed.between new (Ok done) obeyed.before (in-turn lines obeyed.between (Ok done) new obeyed.after)
  in-turn (line ∷ lines) old (Err fault) new (inl here) = record {
    before = line ∷ [];
    left = lines;
    parts = refl;
    answers = Err fault ∷ [];
    end_is = refl;
    each = record { between = new; before = here; after = refl };
  }
  in-turn (line ∷ lines) old (Err fault) new (inr later) =
      one-more line lines old later.between new (Err fault) later.before (in-turn lines later.between (Err fault) new later.after)
