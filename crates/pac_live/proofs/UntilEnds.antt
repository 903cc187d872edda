-- How a board goes on until something ends it, from what its parts say: where its steps began, how much they gave, and what was due.
use Rattle.pac_live.proofs.Common.{Access, AtAccess, AtPlace, AtStop, BoardPasses, BoardValue, BoardView, BoardWatched, Bool, BufferFull}
use Rattle.pac_live.proofs.Common.{Cut, Ended, EndsBy, HasComeTo, HasGoneUntil, HasMet, IsGone, IsGoneOn, IsMap, IsOfferRefused, IsTimely}
use Rattle.pac_live.proofs.Common.{List, Moment, None, Option, Output, PacUntil, PassesPlaces, Show, Some, Sound, Sounds, Stop, TimeOver}
use Rattle.pac_live.proofs.Common.{TookAll, WalksBy, WalksOn, WentBy, [], ap, append-nil, are-written, arith, board_after_walk, by, by_view}
use Rattle.pac_live.proofs.Common.{cut-after, cut-along, due_outputs, ended-whole, false, inl, inr, is_some, is_stop, late-has-ended}
use Rattle.pac_live.proofs.Common.{length, met-nothing, not-both, nothing_due, picture_count, pictures-append, refl, rules, run-later}
use Rattle.pac_live.proofs.Common.{sound_count, sounding_refused, sounding_took, sounds-append, step, step-timely, steps_counted, suc, sym}
use Rattle.pac_live.proofs.Common.{took-both, true, walk-below, walk_at_start, walks-are-timed, watch_map, way, way_at, with_due, zero, ℕ}
use Rattle.pac_live.proofs.Common.{ℤ, ◌&&◌, ◌++◌, ◌+◌, ◌-◌, ◌<◌, ◌^◌, ◌||◌, ◌∙◌, ◌∷◌, ◌≡◌, ◌≢◌, ◌≤◌}
use Rattle.pac_board.proofs.Common.{going-far}
use Rattle.pac_live.proofs.LiveSteps.{few-due}
use Rattle.pac_board.proofs.Noted.{walk-stepped}
use mathlib.Core.Path.{transport}
use Rattle.pac_board.proofs.Walks.{going-yet}

-- ---- where its steps began

-- no step but the first began where it was to stop
passes-there : (stops : Option (List ℕ)) (old new : BoardValue) (limit m : ℕ) → new.state.now ≡ (way_at old limit m).now
    → BoardPasses stops old new → (n : ℕ) → 0 < n → old.state.now.steps + n < new.state.now.steps
    → is_stop stops (way_at old limit n).now.regs.pc ≡ false
passes-there stops old new limit m is passed n some fewer =
    let next = step (by_view old.set) in
    let timely : (now : Moment BoardView) → IsTimely now (next now) = step-timely (by_view old.set) in
    let going = going-yet next limit timely old.state.now n m (rw is at fewer) in
    let walked = walk-stepped next limit old.state.now timely n in
    let count : walked.count ≡ n = omega (arith, walked.steps, (going-far next limit timely old.state.now n going).steps) in
    rw (walked.now, count) (passed n some fewer)

-- no step was done
none-passed : (here : ℕ → Bool) (limit : ℕ) (old new : BoardValue) → new.state.now.steps ≡ old.state.now.steps
    → PassesPlaces here limit old new
none-passed here limit old new steps =
    record { first = λ some fewer. absurd (omega (arith, steps, fewer)); others = λ n some fewer. absurd (omega (arith, steps, fewer)) }

-- ---- how much it gives, and where it is then

-- however it ended, the board is on the way to the limit or to an earlier time
pub record IsAlong (limit : ℕ) (old : BoardValue) (given : List Output) (new : BoardValue) : Type 0 where
  pub end : ℕ
  pub within : end ≤ limit
  pub tries : ℕ
  pub board : new ≡ with_due (board_after_walk old (way_at old end tries)) new.state.due
  pub parts : due_outputs old ++ (way_at old end tries).outputs ≡ given ++ due_outputs new

pub along : (ended : Ended) (here : ℕ → Bool) (limit room : ℕ) (old : BoardValue) (given : List Output) (stop : Option Stop)
    (met : Option Access) (new : BoardValue) → WentBy ended here limit room old given stop met new → IsAlong limit old given new
along ended here limit room old given stop met new went = search rules

-- so it gives few samples and few pictures
pub few-given : {limit : ℕ} {old new : BoardValue} {given : List Output} → IsAlong limit old given new → limit ≤ old.state.now.time + 2 ^ 32
    → (sound_count given ≤ 2 ^ 28) × (picture_count given ≤ 2 ^ 28)
few-given {limit} {old} {new} {given} is soon =
    let w = way_at old is.end is.tries in
    let timed = walks-are-timed (by_view old.set) is.end is.tries old.state.now in
    let near =
    walk-below (step (by_view old.set)) is.end (step-timely (by_view old.set)) (old.state.now.time + 2 ^ 32 + 24)
    (omega (arith, is.within, soon)) old.state.now is.tries (omega arith) in
    let due = few-due old in
    let first = due_outputs old in
    let last = due_outputs new in (
      omega (arith, ap sound_count is.parts, sounds-append given last, sounds-append first w.outputs, due.0, timed.samples, near),
      omega (arith, ap picture_count is.parts, pictures-append given last, pictures-append first w.outputs, due.1, timed.pictures, near),
    )

-- ---- whether something is due

abbrev pub something_due : BoardValue → Bool
something_due board = is_some board.state.due.sample || board.state.due.picture

-- it is where it ends at once
pub due-there : (board : BoardValue) (is_due stands : Bool) → is_due ≡ something_due board → (is_due && stands) ≡ true
    → (due_outputs board ≢ []) × (stands ≡ true)
due-there board is_due stands is both = grind (arith, not-both)

-- and isn't where it goes on
pub due-elsewhere : (board : BoardValue) (is_due stands : Bool) → is_due ≡ something_due board → (is_due && stands) ≡ false
    → due_outputs board ≢ [] → stands ≡ false
due-elsewhere board is_due stands is both some = search rules

-- ---- by the set that a host hands in, and the time

pub gone-same : {here there : ℕ → Bool} {marks map : Option (List ℕ)} {limit other : ℕ} {old new : BoardValue} {samples after : List ℤ}
    {told : PacUntil} → ((address : ℕ) → here address ≡ there address) → marks ≡ map → limit ≡ other
    → IsGoneOn here marks limit old samples new after told → IsGoneOn there map other old samples new after told
gone-same {old = old} {new = new} {samples = samples} {after = after} {told = told} same watched is gone =
    transport (λ i. IsGoneOn (λ address. same address i) (watched i) (is i) old samples new after told) gone

-- the map that is handed in, where it has bytes
pub some-map : (bytes : List ℕ) → IsMap bytes → length bytes ≢ 0 → (length bytes ≡ 65536) × (watch_map bytes ≡ Some bytes)
some-map [] is some = absurd (some refl)
some-map (first ∷ others) (inl none) some = absurd (some none)
some-map (first ∷ others) (inr long) some = (long, refl)

pub no-map : (bytes : List ℕ) → length bytes ≡ 0 → watch_map bytes ≡ None
no-map [] none = refl
no-map (first ∷ others) none = absurd (omega (arith, none))

-- ---- the parts

refused-sample : (first : Output) (asked later : Sounds) → sounding_refused asked first later
    → (sample : ℤ) × (first ≡ Sound sample) × (length asked.samples.now ≤ asked.taken) × (later ≡ asked)
refused-sample (Sound sample) asked later refusal = (sample, refl, refusal.0, refusal.1)
refused-sample (Show image) asked later refusal = absurd refusal

-- the board where a walk begins, with something else due
at-start : (old : BoardValue) → old.made < 2 ^ 64 → board_after_walk old (walk_at_start old.state.now) ≡ with_due old nothing_due
at-start old bound =
    let none : steps_counted old.made (old.state.now.steps - old.state.now.steps) ≡ old.made = omega (arith, bound) in
    ap (λ (made : ℕ). record (with_due old nothing_due) { made = made }) none

module _ (stops marks : Option (List ℕ)) (limit : ℕ) (old : BoardValue) (sink : Sounds) (none : sink.taken ≡ 0)
    (no_picture : sink.pictures ≡ 0)
  where
    abbrev Gone : Ended → Option Stop → Option Access → BoardValue → Sounds → Type 0
    Gone ended stop met new later = IsGone stops marks limit old sink ended stop met new later

    -- a sample was refused after so many steps
    filled : {new : BoardValue} {later : Sounds} {stop : Option Stop} {met : Option Access} (steps : ℕ) → stop ≡ None
        → new ≡ with_due (board_after_walk old (way_at old limit steps)) new.state.due → new.state.now.steps ≡ old.state.now.steps + steps
        → (cut : Cut (by sounding_took sounding_refused) sink (due_outputs old ++ (way_at old limit steps).outputs) (due_outputs new) later)
        → ((n : ℕ) → steps ≡ suc n → sound_count (due_outputs old ++ (way_at old limit n).outputs) ≤ sound_count cut.taken)
        → PassesPlaces (is_stop stops) limit old new → HasMet marks old new met → Gone BufferFull stop met new later
    filled {new} {later} steps none_met board all_steps cut before passes watched =
        let refuses = cut.refuses in
        let one = refused-sample refuses.first refuses.asked later refuses.refusal in
        let written = are-written cut.taken sink refuses.asked (omega (arith, none)) (omega (arith, no_picture)) refuses.before in
        let full : sound_count cut.taken ≡ length sink.samples.now = omega (arith, written.taken, written.room, written.size, one.2, none)
        in
        record {
          given = cut.taken;
          took = rw one.3 refuses.before;
          went = (
            record {
              steps = steps;
              board = board;
              all_steps = all_steps;
              outputs = cut.parts;
              sample = one.0;
              others = refuses.rest;
              left = refuses.left_is ∙ ap (λ first. first ∷ refuses.rest) one.1;
              full = full;
              before = λ n same. omega (arith, full, before n same);
              passes = passes;
            },
            none_met,
          );
          watched = watched;
        }

    -- what was due was refused
    pub offer-full : {new : BoardValue} {later : Sounds} {met : Option Access} → met ≡ None → old.made < 2 ^ 64
        → IsOfferRefused (by sounding_took sounding_refused) old sink new later → Gone BufferFull None met new later
    offer-full {new} {later} {met} unmet bound offer =
        let steps = ap (λ (b : BoardValue). b.state.now.steps) offer.board in
        filled zero refl (offer.board ∙ ap (λ (b : BoardValue). with_due b new.state.due) (sym (at-start old bound))) (omega (arith, steps))
        (cut-along (append-nil (due_outputs old)) refl offer.cut) (λ n same. absurd (omega (arith, same)))
        (none-passed (is_stop stops) limit old new steps) (met-nothing marks old new met steps unmet)

    -- the board is at such an address, after what was due was taken
    pub at-once : {new : BoardValue} {later : Sounds} {met : Option Access} → met ≡ None → old.made < 2 ^ 64 → old.state.now.time ≤ limit
        → new ≡ with_due old nothing_due → TookAll sounding_took sink (due_outputs old) later → due_outputs old ≢ []
        → is_stop stops new.state.now.regs.pc ≡ true → Gone AtPlace None met new later
    at-once {new} {later} {met} unmet bound within same taken some stands =
        grind (arith, at-start, met-nothing, none-passed, ended-whole, late-has-ended, step-timely)

    -- the board went on after what was due was taken
    module _ (between later : Sounds) (new : BoardValue) (stop : Option Stop) (met : Option Access)
        (taken : TookAll sounding_took sink (due_outputs old) between)
        (first : due_outputs old ≢ [] → is_stop stops old.state.now.regs.pc ≡ false)
        (passed : BoardPasses stops (with_due old nothing_due) new) (watched : BoardWatched marks (with_due old nothing_due) new met)
      where
        abbrev Until : Type 0
        Until = HasGoneUntil sounding_took (with_due old nothing_due) limit stops met between stop new later

        passes-by : (end m : ℕ) → new.state.now ≡ (way_at old end m).now → PassesPlaces (is_stop stops) end old new
        passes-by end m is =
            record { first = λ some fewer. first some; others = passes-there stops old new end m is passed }

        come : (ended : Ended) (gone : Until) → EndsBy ended (is_stop stops) limit gone.end stop met old new
            → HasComeTo ended (is_stop stops) limit old (due_outputs old ++ (way old gone.end).outputs) stop met new
        come ended gone ends = search (rules, arith, passes-by)

        -- it ended by the time where it isn't at such an address
        whole-time : (gone : Until) → met ≡ None → (old.state.now.time < new.state.now.time → is_stop stops new.state.now.regs.pc ≡ false)
            → gone.end ≡ limit
        whole-time gone unmet nowhere =
            let not_early : gone.end < limit → ⊥ = λ early.
            let there = rw unmet at (gone.early early) in
            not-both (sym there.here ∙ nowhere (omega (arith, early, there.time_is, run-later gone.gone, gone.some))) in
            omega (arith, gone.within, not_early)

        gone-by : (ended : Ended) (gone : Until)
            → WentBy ended (is_stop stops) limit (length sink.samples.now) old (due_outputs old ++ (way old gone.end).outputs) stop met new
            → Gone ended stop met new later
        gone-by ended gone went = grind (arith, took-both)

        walked : (ended : Ended) → WalksBy ended stops limit (with_due old nothing_due) between stop met new later
            → Gone ended stop met new later
        walked TimeOver walks =
            let gone = walks.0 in
            gone-by TimeOver gone (come TimeOver gone (walks.1, walks.2, whole-time gone walks.2 walks.3, walks.3, first))
        walked AtPlace walks =
            let gone = walks.0 in gone-by AtPlace gone (come AtPlace gone (walks.1, walks.2, walks.4, inl walks.3))
        walked AtStop walks =
            let gone = walks.0 in gone-by AtStop gone (come AtStop gone walks.1)
        walked AtAccess walks =
            let gone = walks.0 in gone-by AtAccess gone (come AtAccess gone (walks.1, walks.2))
        walked BufferFull walks =
            let refused = walks.0 in
            let due = due_outputs old in
            let of_last = λ (n : ℕ) (same : refused.steps ≡ suc n).
            let before = refused.of_last n same in
            let one = (way_at old limit n).outputs in
            let whole : sound_count (due ++ one) ≤ sound_count (due ++ refused.cut.taken)
            = omega (arith, ap sound_count before.1, sounds-append one before.0, sounds-append due one, sounds-append due refused.cut.taken)
            in
            whole in
            filled refused.steps walks.1 refused.board refused.all_steps (cut-after due sink between later taken refused.cut) of_last
            (passes-by limit refused.steps (ap (λ (b : BoardValue). b.state.now) refused.board)) watched

    pub went-on : {mid new : BoardValue} {between later : Sounds} {ended : Ended} {stop : Option Stop} {met : Option Access}
        → mid ≡ with_due old nothing_due → TookAll sounding_took sink (due_outputs old) between
        → (due_outputs old ≢ [] → is_stop stops old.state.now.regs.pc ≡ false)
        → WalksOn stops marks limit mid between ended stop met new later → Gone ended stop met new later
    went-on {mid} {new} {between} {later} {ended} {stop} {met} same taken first on = search (rules, arith, walked)
