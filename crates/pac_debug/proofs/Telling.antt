-- What lines tell doesn't hang on the sink: it is said of the run alone.
use Rattle.pac_debug.proofs.Common.{All-cons, Answer, Asks, Command, CommandFault, Err, Giving, HasMoved, IsCommandDone, IsCommandObeyed}
use Rattle.pac_debug.proofs.Common.{List, Motion, NoCommand, None, ObeysLines, Ok, Option, Output, RefusedOf, Refuses, Result, Scene}
use Rattle.pac_debug.proofs.Common.{SessionValue, Some, Takes, TellsAll, TellsOfCommand, TookAll, TookTold, WordsTell, WriteFault, []}
use Rattle.pac_debug.proofs.Common.{answer_text, ap, arith, command_of, nothing_due, refl, rules, takes-joined, takes_all, true, ℕ, ◌++◌}
use Rattle.pac_debug.proofs.Common.{◌∷◌, ◌≡◌}
use mathlib.Core.Logic.{inl, inr}
use Rattle.pac_debug.specs.declared.line.CommandFault.TheVariants as faults

-- ---- any sink for another

pub all-taken : (outputs : List Output) → TookAll takes_all tt outputs tt
all-taken [] = refl
all-taken (output ∷ more) = record { between = tt; before = tt; after = all-taken more }

module _ {S : Type 0} (took : S → Output → S → Type 0) where
  moved-anyhow : (old : SessionValue) (motion : Motion) (sink : S) (answer : Answer) (new : SessionValue) (later : S)
      → HasMoved took old motion sink answer new later → HasMoved takes_all old motion tt answer new tt
  moved-anyhow old motion sink answer new later moved = grind (arith, all-taken)

  obeyed-anyhow : (old : SessionValue) (asked : Result Command NoCommand) (sink : S) (answer : Answer) (new : SessionValue) (later : S)
      → IsCommandObeyed took old asked sink answer new later → IsCommandObeyed takes_all old asked tt answer new tt
  obeyed-anyhow old asked sink answer new later done = grind (arith, moved-anyhow)

  told : (old : SessionValue) (asked : Result Command NoCommand) (sink : S) (answer : Answer) (new : SessionValue) (later : S)
      → IsCommandDone took old asked sink answer new later → WordsTell old asked (answer_text new answer) new
  told old asked sink answer new later did = grind (arith, obeyed-anyhow)

-- ---- texts in turn

pub told-then : (line : List ℕ) (more : List (List ℕ)) (old mid new : SessionValue) (one other : List ℕ)
    → TellsOfCommand (command_of line) old one mid → TellsAll more mid other new → TellsAll (line ∷ more) old (one ++ other) new
told-then line more old mid new one other first rest = search rules

module _ {S W : Type 0} (to : Giving S) (wrote : W → List ℕ → W → Type 0) (balked : W → W → Type 0) where
  pub record LineTold (found : Option (Result Command NoCommand)) (old new : Scene S W) : Type 0 where
    pub text : List ℕ
    pub tells : TellsOfCommand found old.session text new.session
    pub takes : Takes wrote old.text text new.text
    pub later : old.text.failed ≡ true → found ≡ None

  pub line-told : {A : Type 0} (done : A) (found : Option (Result Command NoCommand)) (old new : Scene S W)
      → Asks {A = A} to wrote balked found old (Ok done) new → LineTold found old new
  line-told done None old new skipped = search rules
  line-told done (Some asked) old new answered =
      let tells_is = told to.took old.session asked old.sink answered.answer new.session new.sink answered.did in grind (arith, told)

  -- all lines were answered
  pub record LinesTold (lines : List (List ℕ)) (old new : Scene S W) : Type 0 where
    pub text : List ℕ
    pub tells : TellsAll lines old.session text new.session
    pub words : TookTold wrote lines old.text text new.text

  pub lines-told : (lines : List (List ℕ)) (done : Unit {0}) (old new : Scene S W)
      → ObeysLines to wrote balked lines old (Ok done) new → LinesTold lines old new
  lines-told [] done old new same = search rules
  lines-told (line ∷ more) done old new obeyed =
      let mid = obeyed.between in
      let first = line-told tt (command_of line) old mid obeyed.before in
      let rest = lines-told more done mid new obeyed.after in
      let takes_is = takes-joined first.takes rest.words.takes in grind (arith, All-cons, takes-joined, told-then)

  -- one of them wasn't answered
  pub record LinesStop (lines : List (List ℕ)) (old : Scene S W) (fault : CommandFault) (new : Scene S W) : Type 0 where
    pub before : List (List ℕ)
    pub line : List ℕ
    pub after : List (List ℕ)
    pub parts : lines ≡ before ++ line ∷ after
    pub mid : Scene S W
    pub obeyed : ObeysLines to wrote balked before old (Ok tt) mid
    pub here : Asks {A = Unit {0}} to wrote balked (command_of line) mid (Err fault) new

  pub lines-stop : (lines : List (List ℕ)) (fault : CommandFault) (old new : Scene S W)
      → ObeysLines to wrote balked lines old (Err fault) new → LinesStop lines old fault new
  lines-stop [] fault old new obeyed = absurd obeyed
  lines-stop (line ∷ more) fault old new (inl here) =
      record { before = []; line = line; after = more; parts = refl; mid = old; obeyed = refl; here = here }
  lines-stop (line ∷ more) fault old new (inr later) =
      let rest = lines-stop more fault later.between new later.after in
      record {
        before = line ∷ rest.before;
        line = rest.line;
        after = rest.after;
        parts = ap (λ ls. line ∷ ls) rest.parts;
        mid = rest.mid;
        obeyed = record { between = later.between; before = later.before; after = rest.obeyed };
        here = rest.here;
      }

  -- the sink refused at it
  pub line-refused : (found : Option (Result Command NoCommand)) (old new : Scene S W)
      → Asks {A = Unit {0}} to wrote balked found old (Err faults.Refused) new
      → RefusedOf to found old.session old.sink new.session new.sink × (new.text ≡ old.text)
  line-refused found old new skipped = search rules

  -- its text couldn't be written
  pub record LineUntold (found : Option (Result Command NoCommand)) (old : Scene S W) (fault : WriteFault) (new : Scene S W) : Type 0 where
    pub text : List ℕ
    pub tells : TellsOfCommand found old.session text new.session
    pub due : new.session.due ≡ nothing_due
    pub refuses : Refuses wrote balked old.text text fault new.text

  pub line-untold : (found : Option (Result Command NoCommand)) (fault : WriteFault) (old new : Scene S W)
      → Asks {A = Unit {0}} to wrote balked found old (Err (faults.Text fault)) new → LineUntold found old fault new
  line-untold None fault old new skipped = absurd skipped
  line-untold (Some asked) fault old new answered =
      let did = answered.did in
      let tells_is = told to.took old.session asked old.sink answered.answer new.session new.sink did in grind (arith, told)
