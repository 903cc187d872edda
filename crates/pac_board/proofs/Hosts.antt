-- A host's calls bring a board where a walk of it is, and a walk's steps are acts: so calls are acts over the history, in as many parts as
-- one
-- likes.
use Rattle.std.proofs.Common.{rules}
use Rattle.pac_board.proofs.Common.{Access, Account, Act, Advance, Advances, AreCalls, BoardState, BoardValue, BoardView, Bool, Call}
use Rattle.pac_board.proofs.Common.{CallsAreOfTheHistory, CountAsked, Due, Ends, Exec, Executes, Fault, ForgetAsked, Giving, GoOn}
use Rattle.pac_board.proofs.Common.{GoTo, Goes, GoesTo, GoesUntil, Host, HostedBoard, Idle, InputClear, InputSet, IsCall, IsOfferRefused}
use Rattle.pac_board.proofs.Common.{IsStepRefused, IsTimely, List, ListsAreCut, Moment, Next, Offer, Offers, Once, Option, Output}
use Rattle.pac_board.proofs.Common.{Parts, PutFields, PutRoms, Ran, Reset, Restore, RestoresGiveAgain, Result, Snapshot, StepOn}
use Rattle.pac_board.proofs.Common.{StepOnce, StepsOnce, Stop, Walk, [], account_by_view, acts_of, acts_over, after_act, after_acts}
use Rattle.pac_board.proofs.Common.{ap, append-nil, append_assoc, arith, board_after_step, by_view, common_steps, drop-append_seam}
use Rattle.pac_board.proofs.Common.{due_outputs, false, given_over, goes_back, host_at, hosts-agree, hosts-are-line-exact, inl}
use Rattle.pac_board.proofs.Common.{inr, latest, length, map, nat_le, nat_tests, next_of, not-both, nothing_due, offer_took, onward_if}
use Rattle.pac_board.proofs.Common.{outputs_given, outputs_in, refl, refused_took, replicate, run_took, slice_index_or, stays_within, step}
use Rattle.pac_board.proofs.Common.{step-timely, step_took, steps_between, subst, suc, sym, take-append_seam, time_of, true}
use Rattle.pac_board.proofs.Common.{until_took, view-tells, walk, walk_after_step, walk_at_start, way_at, way_took, with_due}
use Rattle.pac_board.proofs.Common.{with_step, zero, ℕ, ◌&&◌, ◌++◌, ◌+◌, ◌-◌, ◌<◌, ◌∙◌, ◌∷◌, ◌≡◌, ◌≤◌, ◌⊎◌}
use Rattle.pac_board.proofs.Pieces.{none-left}
use Rattle.pac_board.proofs.Walked.{first-try}

-- ---- acts, one after another

module _ {Board : Type 0} (account : Account Board) where
  acts-joined : (first more : List Act) (host : Host Board)
      → after_acts account host (first ++ more) ≡ after_acts account (after_acts account host first) more
  acts-joined [] more host = refl
  acts-joined (act ∷ first) more host = acts-joined first more (after_act account host act)

  abbrev stepped : ℕ → Host Board → Host Board
  stepped steps host = after_acts account host (replicate steps StepOn)

  one-more : (steps : ℕ) (host : Host Board) → stepped (suc steps) host ≡ after_act account (stepped steps host) StepOn
  one-more zero host = refl
  one-more (suc steps) host = one-more steps (after_act account host StepOn)

  -- the steps of a walk are so many acts
  record IsWalked (host : Host Board) (w : Walk Board) : Type 0 where
    pub steps : ℕ
    pub count : w.now.steps ≡ host.now.steps + steps
    pub acts : stepped steps host ≡ record host { now = w.now; outputs = host.outputs ++ w.outputs }

  step-walked : (host : Host Board) (w : Walk Board) (h : Next Board) → step account.ask w.now ≡ h → IsTimely w.now h → IsWalked host w
      → IsWalked host (walk_after_step w h)
  step-walked host w (Goes now outputs kind) e times walked =
      record {
        steps = suc walked.steps;
        count = omega (arith, walked.count, times.2);
        acts =
            one-more walked.steps host ∙ ap (λ (h : Host Board). after_act account h StepOn) walked.acts
            ∙ ap (with_step (record host { now = w.now; outputs = host.outputs ++ w.outputs })) e
            ∙ ap (λ all. record host { now = now; outputs = all }) (append_assoc host.outputs w.outputs outputs);
      }
  step-walked host w (Ends stop) e times walked = record { steps = walked.steps; count = walked.count; acts = walked.acts }

  onward-walked : (host : Host Board) (w : Walk Board) (stop : Option Stop) (late : Bool) → IsWalked host w
      → IsWalked host (onward_if (step account.ask) w stop late)
  onward-walked host w it3 it4 walked = search (rules, step-walked, step-timely)

  walked : (limit : ℕ) (host : Host Board) (tries : ℕ) → IsWalked host (walk (step account.ask) limit host.now tries)
  walked limit host zero = grind (arith, nat_tests, append-nil)
  walked limit host (suc tries) = grind (arith, nat_tests, onward-walked, nat_le, walked limit host tries)

-- ---- a board's calls

-- a board was brought where a walk is; what was due, and the walk's outputs, were taken or are due
record IsAt (old : BoardValue) (w : Walk BoardView) (taken : List Output) (new : BoardValue) : Type 0 where
  pub set_is : new.set ≡ old.set
  pub now_is : new.state.now ≡ w.now
  pub ledger : due_outputs old ++ w.outputs ≡ taken ++ due_outputs new

-- where a walk of its own is
record IsWalk (old : BoardValue) (taken : List Output) (new : BoardValue) : Type 0 where
  pub limit : ℕ
  pub tries : ℕ
  pub at : IsAt old (way_at old limit tries) taken new

-- the board at another moment of its set
abbrev made_at : BoardValue → Moment BoardView → (asked made : ℕ) → Due → BoardValue
made_at old now asked made due = record { set = old.set; state = record { now = now; asked = asked; due = due }; made = made }

put-at : {taken : List Output} (old new : BoardValue) (w : Walk BoardView) (asked made : ℕ) (due : Due)
    → new ≡ made_at old w.now asked made due → due_outputs old ++ w.outputs ≡ taken ++ due_outputs new → IsAt old w taken new
put-at old new w asked made due is ledger = grind (arith, nat_tests)

by-walk : {taken : List Output} (old new : BoardValue) (limit tries asked made : ℕ) (due : Due)
    → new ≡ made_at old (way_at old limit tries).now asked made due
    → due_outputs old ++ (way_at old limit tries).outputs ≡ taken ++ due_outputs new → IsWalk old taken new
by-walk old new limit tries asked made due is ledger = grind (arith, nat_tests, put-at, way_at)

unchanged : (old new : BoardValue) → new ≡ old → IsWalk old [] new
unchanged old new is = by-walk old new 0 zero _ _ _ is (append-nil (due_outputs old) ∙ ap due_outputs (sym is))

-- nothing is due where all was taken
all-taken : (outputs : List Output) {new made : BoardValue} → new ≡ made → due_outputs made ≡ [] → outputs ≡ outputs ++ due_outputs new
all-taken outputs is none = sym (append-nil outputs) ∙ ap (λ due. outputs ++ due) (sym (ap due_outputs is ∙ none))

-- by one step
stepped-at : {taken : List Output} (h : Next BoardView) (old new : BoardValue) (first due : Due)
    → new ≡ board_after_step h (with_due old first) due → due_outputs old ++ outputs_in h ≡ taken ++ due_outputs new
    → IsAt old (walk_after_step (walk_at_start old.state.now) h) taken new
stepped-at it1 old new first due is ledger = search (rules, put-at)

step-walk : {taken : List Output} (old new : BoardValue) (first due : Due) → old.state.now.time < latest
    → new ≡ board_after_step (next_of old) (with_due old first) due
    → due_outputs old ++ outputs_in (next_of old) ≡ taken ++ due_outputs new → IsWalk old taken new
step-walk {taken} old new first due early is ledger =
    let tried = first-try (step (by_view old.set)) latest old.state.now (next_of old) refl early in
    let at = subst (λ w. IsAt old w taken new) (sym tried) (stepped-at (next_of old) old new first due is ledger) in
    record { limit = latest; tries = suc zero; at = at }

module _ {S : Type 0} (to : Giving S) where
  run-walk : (old : BoardValue) (us : ℕ) (sink : S) (answer : Result Ran Fault) (new : BoardValue) (later : S)
      → (runs : Executes to old us sink answer new later) → IsWalk old (run_took to old us sink answer new later runs) new
  run-walk old us sink it4 new later runs = search (rules, time_of, by-walk, all-taken, outputs_given, unchanged)

  refused-walk : (old : BoardValue) (sink : S) (new : BoardValue) (later : S) → old.state.now.time < latest
      → (why : IsOfferRefused to old sink new later ⊎ IsStepRefused to old sink new later)
      → IsWalk old (refused_took to old sink new later why) new
  refused-walk old sink new later early (inl offer) =
      by-walk old new 0 zero _ _ _ offer.board (append-nil (due_outputs old) ∙ offer.cut.parts)
  refused-walk old sink new later early (inr done) = step-walk old new nothing_due new.state.due early done.board done.cut.parts

  once-walk : (old : BoardValue) (sink : S) (answer : Result Once Fault) (new : BoardValue) (later : S)
      → (steps : StepsOnce to old sink answer new later) → IsWalk old (step_took to old sink answer new later steps) new
  once-walk old sink it3 new later steps =
      search (rules, step-walk, nothing_due, all-taken, due_outputs, outputs_in, next_of, none-left, unchanged, refused-walk)

  advance-walk : (old : BoardValue) (answer : Result Once Idle) (new : BoardValue) → Advances old answer new → IsWalk old [] new
  advance-walk old it2 new done = search (rules, step-walk, outputs_in, next_of, unchanged)

  offer-still : {A E : Type 0} (old : BoardValue) (sink : S) (answer : Result A E) (new : BoardValue) (later : S)
      → (offers : Offers to old sink answer new later)
      → IsAt old (walk_at_start old.state.now) (offer_took to old sink answer new later offers) new
  offer-still old sink it3 new later offers = search (rules, put-at, walk_at_start, append-nil, due_outputs, all-taken)

  -- of a board of which nothing was due
  way-walk : {E : Type 0} (old : BoardValue) (limit : ℕ) (sink : S) (answer : Result (Option Stop) E) (new : BoardValue) (later : S)
      → (goes : GoesTo to old limit sink answer new later) → due_outputs old ≡ []
      → IsWalk old (way_took to old limit sink answer new later goes) new
  way-walk old limit sink it4 new later goes nothing = search (rules, by-walk, all-taken, way_at)

  until-walk : {E : Type 0} (old : BoardValue) (limit : ℕ) (stops : Option (List ℕ)) (met : Option Access) (sink : S)
      (answer : Result (Option Stop) E) (new : BoardValue) (later : S)
      → (goes : GoesUntil to old limit stops met sink answer new later) → due_outputs old ≡ []
      → IsWalk old (until_took to old limit stops met sink answer new later goes) new
  until-walk {E} old limit stops met sink it7 new later goes nothing = search (rules, way-walk)

-- ---- calls over the history

abbrev moments : List BoardState → List (Moment BoardView)
moments kept = map (λ (state : BoardState). state.now) kept

-- what was kept before, and what was kept since
kept-at : (earlier since : List BoardState) (number : ℕ) (state : BoardState) → length earlier ≤ number
    → slice_index_or (moments since) (number - length earlier) state.now ≡ (slice_index_or (earlier ++ since) number state).now
kept-at earlier since number state less = grind (arith, common_steps)

kept-more : (since : List BoardState) (state : BoardState) → moments since ++ state.now ∷ [] ≡ moments (since ++ state ∷ [])
kept-more since state = grind (arith, common_steps)

both-of : (one other : Bool) → (one && other) ≡ true → (one ≡ true) × (other ≡ true)
both-of it1 other h = search (rules, not-both)

-- what goes back later goes back
forward-rest : (call : Call) (calls : List Call) → goes_back (call ∷ calls) ≡ false → goes_back calls ≡ false
forward-rest it1 calls h = search (rules, not-both)

within-rest : (older : ℕ) (call : Call) (calls : List Call) → stays_within older (call ∷ calls) ≡ true → stays_within older calls ≡ true
within-rest older it2 calls h = search (rules, both-of, nat_le, stays_within, not-both)

-- calls on a board of a set, with snapshots from before them and outputs that were due then; `Forward` says that none goes back
module _ (set : Parts) (earlier : List BoardState) (first : List Output) (Forward : Type 0) where
  abbrev acting : Host BoardView → List Act → Host BoardView
  acting host acts = after_acts (account_by_view set) host acts

  abbrev IsKept : List (Moment BoardView) → List BoardState → Type 0
  IsKept told kept = (since : List BoardState) × (kept ≡ earlier ++ since) × (told ≡ moments since)

  -- what acts made of a host's board is what calls made of it, in which so much was taken
  pub record Stands (host : Host BoardView) (hosted : HostedBoard) (taken : List Output) : Type 0 where
    pub set_is : hosted.board.set ≡ set
    pub now_is : host.now ≡ hosted.board.state.now
    pub kept_is : IsKept host.kept hosted.kept
    pub ledger : Forward → first ++ host.outputs ≡ taken ++ due_outputs hosted.board

  moved : {host next : Host BoardView} {old new : HostedBoard} {before : List Output} (taken given : List Output)
      → Stands host old before → new.board.set ≡ old.board.set → next.now ≡ new.board.state.now → IsKept next.kept new.kept
      → next.outputs ≡ host.outputs ++ given → (Forward → due_outputs old.board ++ given ≡ taken ++ due_outputs new.board)
      → Stands next new (before ++ taken)
  moved {host} {next} {old} {new} {before} taken given st set_is now_is kept_is outputs_is ledger =
      grind (arith, nat_tests, append_assoc, due_outputs)

  -- a call that makes no step
  silent : {host next : Host BoardView} {old made new : HostedBoard} {before taken : List Output} → (new ≡ made) × (taken ≡ [])
      → Stands host old before → made.board.set ≡ old.board.set → next.now ≡ made.board.state.now → IsKept next.kept made.kept
      → next.outputs ≡ host.outputs → (Forward → due_outputs old.board ≡ due_outputs made.board) → Stands next new (before ++ taken)
  silent {host} {old = old} is st set_is now_is kept_is outputs_is due = grind (arith, nat_tests, moved, append-nil, due_outputs)

  -- a call that makes steps
  walking : {host : Host BoardView} {old new : HostedBoard} {before taken took : List Output} → Stands host old before → taken ≡ took
      → IsWalk old.board took new.board → new.kept ≡ old.kept
      → Stands (acting host (replicate (steps_between old new) StepOn)) new (before ++ taken)
  walking {host} {old} {new} {before} {taken} st taken_is is kept_is =
      let w = walk (step (by_view set)) is.limit host.now is.tries in
      let same : way_at old.board is.limit is.tries ≡ w = λ i. walk (step (by_view (st.set_is i))) is.limit (sym st.now_is i) is.tries in
      let acted = walked (account_by_view set) is.limit host is.tries in
      let steps : steps_between old new ≡ acted.steps =
      let now = ap (λ (now : Moment BoardView). now.steps) (is.at.now_is ∙ ap (λ (w : Walk BoardView). w.now) same) in
      let begun = ap (λ (now : Moment BoardView). now.steps) st.now_is in
      let count = acted.count in omega arith in
      subst (λ (h : Host BoardView). Stands h new (before ++ taken)) (sym (ap (λ n. acting host (replicate n StepOn)) steps ∙ acted.acts))
      (moved taken w.outputs st is.at.set_is (ap (λ (w : Walk BoardView). w.now) (sym same) ∙ sym is.at.now_is)
      (st.kept_is.0, kept_is ∙ st.kept_is.1, st.kept_is.2) refl
      (λ forward. ap (λ (w : Walk BoardView). due_outputs old.board ++ w.outputs) (sym same) ∙ is.at.ledger
      ∙ ap (λ taken. taken ++ due_outputs new.board) (sym taken_is)))

  module _ {S : Type 0} (to : Giving S) where
    call-stands : (call : Call) (calls : List Call) (host : Host BoardView) (old new : HostedBoard) (before taken : List Output)
        → (Forward → goes_back (call ∷ calls) ≡ false) → stays_within (length earlier) (call ∷ calls) ≡ true → Stands host old before
        → IsCall to call old taken new
        → Stands (acting host (acts_of (length earlier) call (steps_between old new))) new (before ++ taken)
    call-stands (Exec us) calls host old new before taken forward within st done = search (rules, walking, run-walk)
    call-stands StepOnce calls host old new before taken forward within st done = search (rules, walking, once-walk)
    call-stands Advance calls host old new before taken forward within st done =
        walking st done.2 (advance-walk to old.board done.0 new.board done.1) done.3
    call-stands Offer calls host old new before taken forward within st done =
        let call = done.0 in
        let is = offer-still to old.board call.sink call.answer new.board call.later call.done in
        moved taken [] st is.set_is (st.now_is ∙ sym is.now_is) (st.kept_is.0, done.1 ∙ st.kept_is.1, st.kept_is.2)
        (sym (append-nil host.outputs)) (λ _. cc (is.ledger, call.taken_is))
    call-stands (GoTo limit) calls host old new before taken forward within st done = search (rules, walking, way-walk)
    call-stands (GoOn limit stops met) calls host old new before taken forward within st done = search (rules, walking, until-walk)
    call-stands (CountAsked us) calls host old new before taken forward within st done = grind (arith, nat_tests, silent)
    call-stands (ForgetAsked most) calls host old new before taken forward within st done = grind (arith, nat_tests, silent)
    call-stands Reset calls host old new before taken forward within st done = silent done st refl (cc) st.kept_is refl (λ _. refl)
    call-stands (InputSet mask) calls host old new before taken forward within st done = search (rules, silent)
    call-stands (InputClear mask) calls host old new before taken forward within st done = search (rules, silent)
    call-stands Snapshot calls host old new before taken forward within st done = grind (arith, nat_tests, silent, append_assoc, kept-more)
    call-stands (Restore number) calls host old new before taken forward within st done =
        grind (arith, nat_tests, both-of, nat_le, stays_within, kept-at, silent, not-both)
    call-stands (PutFields state) calls host old new before taken forward within st done = not-both (sym within)
    call-stands (PutRoms set) calls host old new before taken forward within st done = not-both (sym within)

    calls-stand : (calls : List Call) (host : Host BoardView) (old new : HostedBoard) (before taken : List Output) (steps : List ℕ)
        → (Forward → goes_back calls ≡ false) → stays_within (length earlier) calls ≡ true → Stands host old before
        → AreCalls to calls old new taken steps
        → Stands (acting host (acts_over (length earlier) calls steps)) new (before ++ taken)
    calls-stand [] host old new before taken steps forward within st is = grind (arith, nat_tests, silent)
    calls-stand (call ∷ calls) host old new before taken steps forward within st done =
        let one = call-stands call calls host old done.between before done.first_taken forward within st done.first in
        let rest = calls-stand calls _ done.between new (before ++ done.first_taken) done.more_taken done.more_steps
        (λ f. forward-rest call calls (forward f)) (within-rest (length earlier) call calls within) one done.after in
        rw (done.steps_are, done.taken_is, acts-joined, ← append_assoc before done.first_taken done.more_taken) rest

-- ---- the laws

module _ {S : Type 0} (to : Giving S) where
  -- all that acts made of a host's board is what calls made of it
  pub all-stand : (calls : List Call) (old new : HostedBoard) (taken : List Output) (steps : List ℕ)
      → stays_within (length old.kept) calls ≡ true → AreCalls to calls old new taken steps
      → Stands old.board.set old.kept (due_outputs old.board) (goes_back calls ≡ false)
      (after_acts (account_by_view old.board.set) (host_at old.board.state.now) (acts_over (length old.kept) calls steps)) new taken
  all-stand calls old new taken steps within done =
      calls-stand old.board.set old.kept (due_outputs old.board) (goes_back calls ≡ false) to calls (host_at old.board.state.now) old new
      [] taken steps (λ forward. forward) within
      (record {
        set_is = refl;
        now_is = refl;
        kept_is = ([], sym (append-nil old.kept), refl);
        ledger = λ _. append-nil (due_outputs old.board);
      }) done

  pub calls-of-the-history : CallsAreOfTheHistory to
  calls-of-the-history items old calls new taken steps whole lie fit within done =
      grind (
        arith,
        nat_tests,
        acts_over,
        all-stand,
        host_at,
        hosts-agree,
        take-append_seam,
        drop-append_seam,
        view-tells,
        hosts-are-line-exact,
        due_outputs,
      )

-- ---- calls in two parts, and what is given again where a board goes back between them

-- what never goes back stays within its history
forward-within : (older : ℕ) (calls : List Call) → goes_back calls ≡ false → stays_within older calls ≡ true
forward-within older [] forward = refl
forward-within older (Restore number ∷ calls) forward = not-both forward
forward-within older (PutFields state ∷ calls) forward = not-both forward
forward-within older (PutRoms set ∷ calls) forward = not-both forward
forward-within older (call ∷ calls) forward = forward-within older calls forward

module _ {S : Type 0} (to : Giving S) where
  pub lists-are-cut : ListsAreCut to
  lists-are-cut [] more old new taken steps done = grind (arith, nat_tests)
  lists-are-cut (call ∷ first) more old new taken steps done =
      let rest = lists-are-cut first more done.between new done.more_taken done.more_steps done.after in
      record {
        between = rest.between;
        first_taken = done.first_taken ++ rest.first_taken;
        first_steps = steps_between old done.between ∷ rest.first_steps;
        first_done = record {
          between = done.between;
          first_taken = done.first_taken;
          first = done.first;
          more_taken = rest.first_taken;
          more_steps = rest.first_steps;
          after = rest.first_done;
          taken_is = refl;
          steps_are = refl;
        };
        more_taken = rest.more_taken;
        more_steps = rest.more_steps;
        more_done = rest.more_done;
        taken_is =
            done.taken_is ∙ ap (λ more. done.first_taken ++ more) rest.taken_is
            ∙ sym (append_assoc done.first_taken rest.first_taken rest.more_taken);
        steps_are = done.steps_are ∙ ap (λ more. steps_between old done.between ∷ more) rest.steps_are;
      }

  -- what the steps of a part give, and what is taken in it
  part-given : (calls : List Call) (old new : HostedBoard) (taken : List Output) (steps : List ℕ) → goes_back calls ≡ false
      → AreCalls to calls old new taken steps
      → due_outputs old.board ++ given_over old.board (length old.kept) calls steps ≡ taken ++ due_outputs new.board
  part-given calls old new taken steps forward done = grind (arith, nat_tests, all-stand, forward-within)

  pub restores-give-again : RestoresGiveAgain to
  restores-give-again first number more old new taken steps first_forward more_forward done =
      let parts = lists-are-cut first (Restore number ∷ more) old new taken steps done in
      let at = parts.between in
      let back = parts.more_done in
      let silent = back.first in
      let after : due_outputs back.between.board ++ given_over back.between.board (length back.between.kept) more back.more_steps
      ≡ back.more_taken ++ due_outputs new.board =
      part-given more back.between new back.more_taken back.more_steps more_forward back.after in
      record {
        at = at;
        first_taken = parts.first_taken;
        first_steps = parts.first_steps;
        before = part-given first old at parts.first_taken parts.first_steps first_forward parts.first_done;
        more_taken = back.more_taken;
        more_steps = back.more_steps;
        after =
            subst (λ (h : HostedBoard). due_outputs h.board ++ given_over h.board (length h.kept) more back.more_steps
            ≡ back.more_taken ++ due_outputs new.board) silent.0 after;
        taken_is =
            parts.taken_is
            ∙ ap (λ more. parts.first_taken ++ more) (back.taken_is ∙ ap (λ none. none ++ back.more_taken) silent.1);
        back_steps = steps_between at back.between;
        steps_are = parts.steps_are ∙ ap (λ more. parts.first_steps ++ more) back.steps_are;
      }
