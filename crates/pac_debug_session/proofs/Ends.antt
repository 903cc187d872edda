-- Where a run goes no further: there is a first such index, and up to a step that was counted it goes on.
use Rattle.pac_debug_session.proofs.Common.{BoardView, Bool, Ends, Goes, IsLeast, Moment, Next, None, Option, Setting, Some, Stop, Walk, ap}
use Rattle.pac_debug_session.proofs.Common.{arith, by_view, ended-for-good, false, frame_steps, goes_at, going-before, going-far}
use Rattle.pac_debug_session.proofs.Common.{going-if-counted, going-steps, has_ended, is_late, late-has-ended, limit, most_ticks, nat_tests}
use Rattle.pac_debug_session.proofs.Common.{next_at, next_from, not, not-both, now_at, onward_if, play_of, power_on_board_view, refl, rules}
use Rattle.pac_debug_session.proofs.Common.{run, runs-end, stop_at, stop_in, stopped-has-ended, suc, sym, total_frames, true, walk-near}
use Rattle.pac_debug_session.proofs.Common.{walk_after_step, whole_run, zero, ℕ, ◌*◌, ◌+◌, ◌-◌, ◌<◌, ◌∙◌, ◌≡◌, ◌≤◌}
use Rattle.pac_debug_session.proofs.Indices.{timely, open-up-to, next-index}

-- ---- the least index

pub record Found (test : ℕ → Bool) (from : ℕ) : Type 0 where
  pub index : ℕ
  pub least : IsLeast test from index

module _ (test : ℕ → Bool) (from : ℕ) where
  found-here : test from ≡ true → Found test from
  found-here met = search rules

  found-later : test from ≡ false → Found test (suc from) → Found test from
  found-later unmet found = search rules

  found-either : (b : Bool) → test from ≡ b → Found test (suc from) → Found test from
  found-either b e found = grind (arith, found-here, found-later)

pub search-up : (test : ℕ → Bool) (n from : ℕ) → test (from + n) ≡ true → Found test from
search-up test zero from met = let same : from ≡ from + zero = omega arith in found-here test from (ap test same ∙ met)
search-up test (suc n) from met =
    let same : suc from + n ≡ from + suc n = omega arith in
    found-either test from (test from) refl (search-up test n (suc from) (ap test same ∙ met))

module _ (setting : Setting) where
  -- the moment of power-on
  abbrev pub start : Moment BoardView
  start = now_at setting 0

  start-steps : start.steps ≡ 0
  start-steps = refl

  -- ---- as many steps as tries

  goes-by : (index : ℕ) (h : Next BoardView) → next_at setting index ≡ h → has_ended (limit setting) (run setting index) ≡ false
      → stop_in h ≡ None → goes_at setting index ≡ true
  goes-by index h is going none = search rules

  -- where each of them was a step, the run goes on at each index before
  pub goes-if-counted : (last : ℕ) → (now_at setting (suc last)).steps ≡ suc last → (earlier : ℕ) → earlier ≤ last
      → goes_at setting earlier ≡ true
  goes-if-counted last counted earlier less =
      let first = start-steps in
      let going = going-if-counted _ _ (timely setting) _ last (omega (arith, counted, first)) in
      let here = going-before (next_from setting) (limit setting) start earlier last less going in
      choose (next_at setting earlier) refl here
    where
      choose : (h : Next BoardView) → next_at setting earlier ≡ h → has_ended (limit setting) (run setting earlier) ≡ false
          → goes_at setting earlier ≡ true
      choose (Goes now outputs kind) is here = goes-by earlier (Goes now outputs kind) is here refl
      choose (Ends stop) is here =
          let w = run setting earlier in
          let step = going-steps (next_from setting) (limit setting) w here ∙ ap (walk_after_step w) is in
          let ended = stopped-has-ended (limit setting) (run setting (suc earlier)) stop (ap (λ (w : Walk BoardView). w.stop) step) in
          let same =
          ended-for-good (next_from setting) (limit setting) start (suc earlier) (last - earlier) (suc last) (omega arith) ended in
          let steps = ap (λ (w : Walk BoardView). w.now.steps) (same ∙ step) in
          let far = (going-far (next_from setting) (limit setting) (timely setting) start earlier here).steps in
          absurd (omega (arith, counted, steps, far, less))

  -- ---- the first index at which it goes no further

  onward-stopped : (w : Walk BoardView) (stop : Stop) (met : Option Stop) (late : Bool)
      → (w.stop ≡ Some stop → stop_in (next_from setting w.now) ≡ Some stop) → (onward_if (next_from setting) w met late).stop ≡ Some stop
      → stop_in (next_from setting (onward_if (next_from setting) w met late).now) ≡ Some stop
  onward-stopped w stop met late before e = search rules

  stopped-there : (index : ℕ) (stop : Stop) → (run setting index).stop ≡ Some stop → stop_at setting index ≡ Some stop
  stopped-there zero stop e = absurd (cc)
  stopped-there (suc index) stop e = grind (arith, onward-stopped, stopped-there index stop)

  -- where it has ended it goes no further
  over : (index : ℕ) → has_ended (limit setting) (run setting index) ≡ true → not (goes_at setting index) ≡ true
  over index ended = grind (arith, not-both, stopped-there)

  -- that is so after the most steps of its frames
  abbrev pub most : ℕ
  most = frame_steps * total_frames setting.script

  pub over-later : (from : ℕ) → not (goes_at setting (from + most)) ≡ true
  over-later from =
      let same : from + most ≡ most + from = omega arith in
      let ended = (runs-end (by_view setting.set) (play_of setting.script) (power_on_board_view setting.switches) most).0 in
      let stays = ended-for-good (next_from setting) (limit setting) start most from (from + most) same ended in
      over (from + most) (ap (has_ended (limit setting)) stays ∙ ended)

  pub run-ends : (from : ℕ) → Found (λ index. not (goes_at setting index)) from
  run-ends from = search-up (λ index. not (goes_at setting index)) most from (over-later from)

-- ---- the end of a run

pub record IsWhole (setting : Setting) (index : ℕ) (stop : Option Stop) : Type 0 where
  pub now : (whole_run setting).now ≡ now_at setting index
  pub outputs : (whole_run setting).outputs ≡ (run setting index).outputs
  pub stop_is : (whole_run setting).stop ≡ stop

after-stop : (w : Walk BoardView) (h : Next BoardView) (stop : Stop) → stop_in h ≡ Some stop
    → ((walk_after_step w h).now ≡ w.now) × ((walk_after_step w h).outputs ≡ w.outputs) × ((walk_after_step w h).stop ≡ Some stop)
after-stop w h stop e = search rules

-- at the first index at which it goes no further it is whole
module _ (setting : Setting) (index : ℕ) (goes : (earlier : ℕ) → earlier < index → goes_at setting earlier ≡ true) where
  open_yet : (run setting index).stop ≡ None
  open_yet = (open-up-to setting index goes).open_yet

  whole-at : (index : ℕ) → has_ended (limit setting) (run setting index) ≡ true → run setting index ≡ whole_run setting
  whole-at index ended = (runs-end (by_view setting.set) (play_of setting.script) (power_on_board_view setting.switches) index).1 ended

  pub whole-late : is_late setting index ≡ true → IsWhole setting index None
  whole-late late =
      let over : limit setting ≤ (now_at setting index).time = grind (arith, nat_tests) in
      let whole = sym (whole-at index (late-has-ended (limit setting) (run setting index) over)) in
      record {
        now = ap (λ (w : Walk BoardView). w.now) whole;
        outputs = ap (λ (w : Walk BoardView). w.outputs) whole;
        stop_is = ap (λ (w : Walk BoardView). w.stop) whole ∙ open_yet;
      }

  pub whole-stopped : (stop : Stop) → is_late setting index ≡ false → stop_at setting index ≡ Some stop → IsWhole setting index (Some stop)
  whole-stopped stop early met =
      let step = next-index setting index open_yet early in
      let after = after-stop (run setting index) (next_at setting index) stop met in
      let stopped : (run setting (suc index)).stop ≡ Some stop = ap (λ (w : Walk BoardView). w.stop) step ∙ after.2 in
      let whole = sym (whole-at (suc index) (stopped-has-ended (limit setting) (run setting (suc index)) stop stopped)) in search rules

  pub whole-at-end : not (goes_at setting index) ≡ true → (whole_run setting).now ≡ now_at setting index
  whole-at-end over = grind (arith, not-both, setting, whole-late, whole-stopped)

-- no run is longer than its frames by a step
pub time-near : (setting : Setting) (index : ℕ) → (now_at setting index).time < limit setting + most_ticks
time-near setting index = grind (arith, setting, timely, walk-near)
