-- A session that its sink held up: it told what those lines tell that give no more than the sink took.
use Rattle.pac_debug.proofs.Common.{Bool, Command, FirstGivesMore, Giving, IsCommandObeyed, IsSessionOfferRefused, IsTravelRefused}
use Rattle.pac_debug.proofs.Common.{IsWatchRefused, List, Motion, NoCommand, None, Ok, Option, Output, RefusedAt, RefusedOf, Result, Scene}
use Rattle.pac_debug.proofs.Common.{SessionValue, Setting, Some, TellsAll, TellsOfCommand, ToldUpTo, [], answer_text, ap, append-nil, arith}
use Rattle.pac_debug.proofs.Common.{between-joined, command_of, common_steps, ending_of, false, given_by, joined-to-end, length}
use Rattle.pac_debug.proofs.Common.{length-append, max, nat_le, nat_tests, nothing_due, outputs_between, outputs_from, outputs_until, refl}
use Rattle.pac_debug.proofs.Common.{rules, run, session_at_command, session_at_start, session_due_outputs, session_without_due, subst, sym}
use Rattle.pac_debug.proofs.Common.{takes_all, true, whole_run, ℕ, ◌++◌, ◌+◌, ◌<◌, ◌∙◌, ◌∷◌, ◌≡◌, ◌≤◌}
use mathlib.Core.Logic.{inl, inr}
use Rattle.pac_debug.specs.declared.answer.Answer.TheVariants as answers
use Rattle.pac_debug.proofs.Giving.{nothing-given}
use Rattle.pac_debug.proofs.Resting.{ComesToRest, comes-to-rest}

-- ---- nothing is due after lines

line-clears : (found : Option (Result Command NoCommand)) (old new : SessionValue) (text : List ℕ) → TellsOfCommand found old text new
    → old.due ≡ nothing_due → new.due ≡ nothing_due
line-clears found old new text tells none = search rules

lines-clear : (lines : List (List ℕ)) (old new : SessionValue) (text : List ℕ) → TellsAll lines old text new → old.due ≡ nothing_due
    → new.due ≡ nothing_due
lines-clear [] old new text tells none = ap (λ (s : SessionValue). s.due) tells.1 ∙ none
lines-clear (line ∷ more) old new text tells none =
    lines-clear more tells.between new tells.text_after tells.after
    (line-clears (command_of line) old tells.between tells.text_before tells.before none)

-- and the run is the same

lines-setting : (lines : List (List ℕ)) (old new : SessionValue) (text : List ℕ) → TellsAll lines old text new → new.setting ≡ old.setting
lines-setting [] old new text tells = ap (λ (s : SessionValue). s.setting) tells.1
lines-setting (line ∷ more) old new text tells = search (rules, arith, lines-setting more tells.between new tells.text_after tells.after)

-- ---- how many outputs a run has given

-- from one index to a later one
more-given : (setting : Setting) (index later : ℕ) → index ≤ later
    → length (run setting later).outputs ≡ length (run setting index).outputs + length (outputs_between setting index later)
more-given setting index later less =
    let joined : (run setting index).outputs ++ outputs_between setting index later ≡ (run setting later).outputs
    = between-joined setting 0 index later (omega arith) less in
    sym (ap length joined) ∙ length-append (run setting index).outputs (outputs_between setting index later)

-- no more than the whole of it
none-past-all : (setting : Setting) (index : ℕ) → length (run setting index).outputs ≤ length (whole_run setting).outputs
none-past-all setting index =
    let joined : (run setting index).outputs ++ outputs_from setting index ≡ (whole_run setting).outputs
    = joined-to-end setting 0 index (omega arith) in
    let long = sym (ap length joined) ∙ length-append (run setting index).outputs (outputs_from setting index) in omega (arith, long)

-- what a session from the beginning of its run was taken, and what is due, is all that was given
all-given : (setting : Setting) (old new : SessionValue) (taken : List Output) → old ≡ session_at_start setting 0
    → outputs_until old new ≡ taken ++ session_due_outputs new
    → length (run setting new.furthest).outputs ≡ length taken + length (session_due_outputs new)
all-given setting old new taken fresh given = grind (arith, common_steps)

module _ {S : Type 0} (to : Giving S) (setting : Setting) (taken : List Output) (old new : SessionValue)
    (sink later : S) (clear : old.due ≡ nothing_due) (same : old.setting ≡ setting)
    (given : length (run setting new.furthest).outputs ≡ length taken + length (session_due_outputs new))
    (some_due : 0 < length (session_due_outputs new)) where
  -- nothing was due that could be refused
  none-offered : {A : Type 0} → IsSessionOfferRefused to (session_at_command old) sink new later → A
  none-offered refusal =
      let parts = ap length refusal.cut.parts ∙ length-append refusal.cut.taken (session_due_outputs new) in
      absurd (omega (arith, ap length (nothing-given old clear), parts, some_due))

  -- what was given before is what was taken, or less
  no-more : (more : List Output) → old.furthest ≤ new.furthest
      → outputs_between old.setting old.furthest new.furthest ≡ more ++ session_due_outputs new → length (given_by old) ≤ length taken
  no-more more further parts =
      let here : length (given_by old) ≡ length (run setting old.furthest).outputs = rw same in
      let between : length (outputs_between setting old.furthest new.furthest) ≡ length more + length (session_due_outputs new)
      = grind (arith, common_steps) in
      omega (arith, here, between, more-given setting old.furthest new.furthest further, given)

  -- the motion that was held up gives more
  module _ (motion : Motion) (between : S) (gone : IsTravelRefused to (session_without_due old) motion between new later) where
    stands : new.furthest ≡ new.index
    stands = search rules

    less-told : length (given_by old) ≤ length taken
    less-told = grind (arith, no-more, stands)

    abbrev rest : ComesToRest (session_without_due old) motion
    rest = comes-to-rest (session_without_due old) motion

    passes : new.index ≤ rest.new.index
    passes = choose (nat_le rest.new.index gone.last) refl
      where
        choose : (b : Bool) → nat_le rest.new.index gone.last ≡ b → new.index ≤ rest.new.index
        choose true e = search rules
        choose false e = let past : gone.last < rest.new.index = grind (arith, nat_tests) in omega (arith, past, gone.index)

    gives-more : length taken < length (given_by rest.new)
    gives-more =
        let is = rest.travelled.session in
        let most : rest.new.furthest ≡ max old.furthest rest.new.index = ap (λ (s : SessionValue). s.furthest) is in
        let there : length (given_by rest.new) ≡ length (run setting rest.new.furthest).outputs
        = ap (λ (it : Setting). length (run it rest.new.furthest).outputs) (ap (λ (s : SessionValue). s.setting) is ∙ same) in
        let all = more-given setting new.furthest rest.new.furthest (omega (arith, stands, passes, most)) in
        omega (arith, there, all, given, some_due)

  -- ---- at a line, and on the way to the end

  record HeldUpAt (found : Option (Result Command NoCommand)) : Type 0 where
    pub no_more : length (given_by old) ≤ length taken
    pub text : List ℕ
    pub next : SessionValue
    pub tells : TellsOfCommand found old text next
    pub more : length taken < length (given_by next)

  at-line : (found : Option (Result Command NoCommand)) → RefusedOf to found old sink new later → HeldUpAt found
  at-line None refusal = absurd refusal
  at-line (Some asked) (inl refusal) = none-offered refusal
  at-line (Some asked) (inr refusal) =
      let held = refusal.held_up in
      let rest = comes-to-rest (session_without_due old) held.motion in
      let answer = answers.Moved (ending_of rest.why) in
      let done : IsCommandObeyed takes_all (session_without_due old) (Ok held.command) tt answer rest.new tt = search rules in
      record {
        no_more = less-told held.motion refusal.between held.held_up;
        text = answer_text rest.new answer;
        next = rest.new;
        tells = record {
          answer = answer;
          obeyed = rw held.asked_is done;
          text_is = refl;
        };
        more = gives-more held.motion refusal.between held.held_up;
      }

  -- the next line, if there is one, gives more
  record HeldUpIn (lines : List (List ℕ)) : Type 0 where
    pub no_more : length (given_by old) ≤ length taken
    pub next : FirstGivesMore lines old taken

  held-up-in : (lines : List (List ℕ)) → RefusedAt to lines old sink new later → HeldUpIn lines
  held-up-in [] refusal = grind (arith, common_steps, no-more, none-offered, nothing-given)
  held-up-in (line ∷ more) refusal =
      let here = at-line (command_of line) refusal in
      record { no_more = here.no_more; next = record { text = here.text; new = here.next; tells = here.tells; more = here.more } }

-- ---- a whole session

module _ {S W : Type 0} (to : Giving S) (wrote : W → List ℕ → W → Type 0) (lines : List (List ℕ)) (old new : Scene S W)
    (fresh : old.session ≡ session_at_start old.session.setting 0) (held : IsWatchRefused to wrote lines old new) where
  pub told-up-to : ToldUpTo old.session.setting lines held.in_all.cut.taken held.told
  told-up-to =
      let setting = old.session.setting in
      let cut = held.in_all.cut in
      let none : old.session.due ≡ nothing_due = ap (λ (s : SessionValue). s.due) fresh in
      let clear = lines-clear held.before old.session held.between held.told held.lines none in
      let left : 0 < length (session_due_outputs new.session) = let first = ap length cut.refuses.left_is in omega (arith, first) in
      let here =
      held-up-in to setting cut.taken held.between new.session held.sink_between new.sink clear held.gave.further.setting
      (all-given setting old.session new.session cut.taken fresh cut.parts) left held.after held.refusal in search rules

-- where all lines were told, and the run came to its end, all outputs are enough
pub all-told : (lines : List (List ℕ)) (old left : SessionValue) (told : List ℕ) → old ≡ session_at_start old.setting 0
    → TellsAll lines old told left → ToldUpTo old.setting lines (whole_run old.setting).outputs told
all-told lines old left told fresh tells =
    let here : length (given_by left) ≡ length (run old.setting left.furthest).outputs = rw (lines-setting lines old left told tells) in
    record {
      before = lines;
      after = [];
      parts = sym (append-nil lines);
      left = left;
      tells = subst (λ (s : SessionValue). TellsAll lines s told left) fresh tells;
      no_more = omega (arith, here, none-past-all old.setting left.furthest);
      next = tt;
    }
