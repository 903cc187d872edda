-- A motion is steps forwards, one after another, up to the least index at which it rests.
use Rattle.pac_debug_session.proofs.Common.{AtStop, Bool, Continue, Frames, Giving, HasStrode, HasTravelled, IsLeap, IsLeapt, IsSession}
use Rattle.pac_debug_session.proofs.Common.{IsStrideRefused, IsTravelRefused, MeetNothing, Motion, MotionEnd, Option, RestsBy, SessionValue}
use Rattle.pac_debug_session.proofs.Common.{Some, Steps, Stop, ToEnd, TookAll, and_parts, and_right, ap, arith, breaks_at, cases_lt}
use Rattle.pac_debug_session.proofs.Common.{cut-after, cut-along, false, goes_at, has_met, heeded_by, heeded_if, heeds, inl, inr, is_done}
use Rattle.pac_debug_session.proofs.Common.{is_late, longest_stride, max, min, motion_ending, moved_to, nat_tests, not, not-both}
use Rattle.pac_debug_session.proofs.Common.{not_from_true, or_from, or_parts, outputs_between, prefix-after, refl, rests, rules, steps_left}
use Rattle.pac_debug_session.proofs.Common.{stop_at, stop_of, subst, sym, took-both, true, ℕ, ◌++◌, ◌-◌, ◌<◌, ◌||◌, ◌∙◌, ◌≡◌, ◌≤◌}
use mathlib.Core.List.{IsPrefix}
use Rattle.pac_debug_session.proofs.Forwards.{between-joined, between-self}
use Rattle.pac_debug_session.proofs.Ends.{IsWhole, whole-late, whole-stopped}

-- ---- where a motion rests

module _ (s : SessionValue) (motion : Motion) (from : ℕ) where
  rests-stopped : (index : ℕ) (stop : Stop) → is_late s.setting index ≡ false → stop_at s.setting index ≡ Some stop
      → rests s motion from index ≡ true
  rests-stopped index stop early met = search rules

  rests-met : (index : ℕ) → has_met s motion from index ≡ true → rests s motion from index ≡ true
  rests-met index met = ap (λ done. done || not (goes_at s.setting index)) met

-- a motion to the end meets nothing before it
pub never-met : {A : Type 0} (s : SessionValue) (from index : ℕ) → has_met s ToEnd from index ≡ true → A
never-met s from index met = not-both (sym (and_parts _ _ met).1)

-- the word for it
pub met-by : (s : SessionValue) (motion : Motion) (from index : ℕ) → is_late s.setting index ≡ false → has_met s motion from index ≡ true
    → RestsBy s motion from index (motion_ending motion (breaks_at s index))
met-by s motion from index early met = search rules

-- ---- within a stride

-- a stride that begins on no breakpoint comes to none before its end
unbroken-within : (s : SessionValue) (until at : ℕ) → breaks_at s s.index ≡ false → MeetNothing s.setting s.breakpoints s.index until
    → s.index ≤ at → at < until → breaks_at s at ≡ false
unbroken-within s until at unbroken alike after before = elim (cases_lt s.index at) [
  | inl past ↦ alike.breaks at past before
  | inr here ↦ let same : at ≡ s.index = omega arith in ap (breaks_at s) same ∙ unbroken
]

-- so within a stride nothing is met, and counted steps are left
undone-within : (s : SessionValue) (from : ℕ) (motion : Motion) (until at : ℕ) → from < s.index → is_done s motion from s.index ≡ false
    → IsLeap s (heeded_by motion s.breakpoints) (steps_left motion (s.index - from)) until → s.index ≤ at → at < until
    → is_done s motion from at ≡ false
undone-within s from (Steps count) until at gone undone leap after before = let few = leap.few in grind (arith, nat_tests)
undone-within s from Continue until at gone undone leap after before = unbroken-within s until at undone leap.unmet after before
undone-within s from (Frames count) until at gone undone leap after before =
    let both = or_parts _ _ undone in
    cc (unbroken-within s until at both.0 leap.unmet after before, leap.unmet.frame at after before, both.1)
undone-within s from ToEnd until at gone undone leap after before = refl

module _ (s : SessionValue) (motion : Motion) (from : ℕ) (after : from ≤ s.index) (unmet : has_met s motion from s.index ≡ false) where
  undone : from < s.index → is_done s motion from s.index ≡ false
  undone more = search rules

  module _ (until : ℕ) (leap : IsLeap s (heeded_by motion s.breakpoints) (longest_stride motion (s.index - from)) until) where
    -- at no index within it has the motion done what it is for
    unmet-within : (index : ℕ) → s.index ≤ index → index < until → has_met s motion from index ≡ false
    unmet-within index later less = grind (arith, and_right, nat_tests, undone, undone-within)

    restless-within : (index : ℕ) → s.index ≤ index → index < until → rests s motion from index ≡ false
    restless-within index later less = or_from _ _ (unmet-within index later less) (not_from_true _ (leap.unmet.goes index later less))

-- ---- on behalf of a motion

module _ {S : Type 0} (to : Giving S) (old new : SessionValue) (motion : Motion) (from : ℕ) (heeded : Bool) (most : ℕ)
    (heeded_is : heeded ≡ heeds motion) (most_is : most ≡ longest_stride motion (old.index - from)) (sink later : S) where
  -- before the furthest index the sink was given it
  pub strode-stale : (asked : ℕ) (stop : Option Stop) → asked ≡ min most (old.furthest - old.index) → old.index ≤ old.furthest
      → IsLeapt old (heeded_if heeded old.breakpoints) asked stop new → HasStrode to.took old motion from sink stop new sink
  strode-stale asked stop asked_is within leapt = grind (arith, between-self)

-- ---- the motion

module _ {S : Type 0} (to : Giving S) (old : SessionValue) (motion : Motion) (sink : S) where
  -- so far no index rests, and all outputs were taken
  pub record IsUnderway (s : SessionValue) (taker : S) : Type 0 where
    pub after : old.index ≤ s.index
    pub restless : (earlier : ℕ) → old.index ≤ earlier → earlier < s.index → rests old motion old.index earlier ≡ false
    pub session : s ≡ moved_to old s.index
    pub sink_is : TookAll to.took sink (outputs_between old.setting old.furthest s.furthest) taker

  -- where it has come to, in a motion that began at this index
  module _ (s : SessionValue) (taker : S) (under : IsUnderway s taker) (from : ℕ) (from_is : from ≡ old.index) where
    setting : s.setting ≡ old.setting
    setting = ap (λ (t : SessionValue). t.setting) under.session

    -- facts of where it is, said of where it began
    met-there : (index : ℕ) (b : Bool) → has_met s motion from index ≡ b → has_met old motion old.index index ≡ b
    met-there index b met = search rules

    late-there : (index : ℕ) (b : Bool) → is_late s.setting index ≡ b → is_late old.setting index ≡ b
    late-there index b late = rw setting at late

    -- some steps more
    moved-on : (index : ℕ) → s.index ≤ index → moved_to s index ≡ moved_to old index
    moved-on index more = search rules

    -- what was given before, and what the steps gave
    given-on : (index : ℕ) → s.furthest ≤ index
        → outputs_between old.setting old.furthest s.furthest ++ outputs_between s.setting s.furthest index
        ≡ outputs_between old.setting old.furthest index
    given-on index less = let far = ap (λ (t : SessionValue). t.furthest) under.session in grind (arith, between-joined, setting)

    module _ (unmet : has_met s motion from s.index ≡ false) (new : SessionValue)
        (leap : IsLeap s (heeded_by motion s.breakpoints) (longest_stride motion (s.index - from)) new.index) where
      restless-on : (earlier : ℕ) → old.index ≤ earlier → earlier < new.index → rests old motion old.index earlier ≡ false
      restless-on earlier since less = elim (cases_lt earlier s.index) [
        | inl before ↦ under.restless earlier since before
        | inr later ↦
            subst (λ (t : SessionValue). rests t motion old.index earlier ≡ false) under.session (grind (arith, restless-within))
      ]

    pub underway-more : (new : SessionValue) (later : S) (stop : Option Stop) → has_met s motion from s.index ≡ false
        → HasStrode to.took s motion from taker stop new later → IsUnderway new later
    underway-more new later stop unmet one =
        let after = under.after in
        let far = ap (λ (t : SessionValue). t.furthest) one.leapt.session in
        record {
          after = omega arith;
          restless = restless-on unmet new one.leapt.leap;
          session = one.leapt.session ∙ moved-on new.index one.leapt.leap.after;
          sink_is = rw (← given-on new.furthest (omega arith)) (grind (arith, setting, took-both));
        }

    -- it rests where it is
    rests-here : (why : MotionEnd) → rests old motion old.index s.index ≡ true → RestsBy old motion old.index s.index why
        → HasTravelled to.took old motion sink why s taker
    rests-here why here by = search rules

    pub underway-met : is_late s.setting s.index ≡ false → has_met s motion from s.index ≡ true
        → HasTravelled to.took old motion sink (motion_ending motion (breaks_at s s.index)) s taker
    underway-met early met = let there = met-there _ _ met in
        subst (λ breaks. HasTravelled to.took old motion sink (motion_ending motion breaks) s taker)
        (sym (ap (λ (t : SessionValue). breaks_at t s.index) under.session)) (grind (arith, late-there, met-by, rests-here, rests-met))

    pub underway-refused : (new : SessionValue) (later : S) → has_met s motion from s.index ≡ false
        → IsStrideRefused to s motion from taker new later → IsTravelRefused to old motion sink new later
    underway-refused new later unmet one =
        let refusal = one.held in
        let fresh = one.fresh in
        let index = refusal.index in
        let first : s.furthest ≡ max old.furthest s.index = ap (λ (t : SessionValue). t.furthest) under.session in
        let before = outputs_between old.setting old.furthest s.furthest in
        record {
          last = refusal.last;
          index = refusal.index;
          fresh = omega arith;
          restless = λ earlier from less. restless-on unmet new refusal.leap earlier from (omega arith);
          session = grind (arith, moved-on);
          cut =
              cut-along (sym (given-on new.index (omega arith))) refl (cut-after before sink taker later under.sink_is
              (cut-along (ap (λ n. outputs_between s.setting n new.index) (sym fresh)) refl refusal.cut));
          of_last =
              subst (λ xs. IsPrefix xs (before ++ refusal.cut.taken)) (given-on refusal.last (omega arith))
              (grind (arith, prefix-after, setting));
        }

  -- its next step meets a stop
  pub underway-stopped : (s new : SessionValue) (taker later : S) (stop : Stop) (from : ℕ) → from ≡ old.index → IsUnderway s taker
      → is_late s.setting s.index ≡ false → has_met s motion from s.index ≡ false
      → HasStrode to.took s motion from taker (Some stop) new later → HasTravelled to.took old motion sink (AtStop stop) new later
  underway-stopped s new taker later stop from from_is under early unmet one = let on = underway-more _ _ under _ from_is _ _ _ unmet one in
      let here = one.leapt.ending.0 in
      let open_yet : is_late old.setting new.index ≡ false
      = ap (is_late old.setting) here ∙ late-there s taker under from from_is s.index false early in
      let met : stop_at old.setting new.index ≡ Some stop = cc (here, setting s taker under from from_is, one.leapt.ending.1) in
      rests-here new later on from from_is (AtStop stop) (rests-stopped old motion old.index new.index stop open_yet met)
      (grind (arith, met-there))

-- the end as a motion to it finds it
pub whole-there : (s : SessionValue) (from : ℕ) (why : MotionEnd) → IsSession s → RestsBy s ToEnd from s.index why
    → IsWhole s.setting s.index (stop_of why)
whole-there s from why facts rest = grind (arith, never-met, setting, whole-late, whole-stopped)
