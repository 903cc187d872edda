-- A run at its indices: where it goes on, each index is one step, and each step takes its time.
use Rattle.pac_debug_session.proofs.Common.{BoardView, Goes, IsTimely, List, Moment, Next, None, Output, Setting, StepKind, and_parts, ap}
use Rattle.pac_debug_session.proofs.Common.{arith, by_view, drop, drop-append_seam, false, goes_at, held, is_late, is_none, length, next_at}
use Rattle.pac_debug_session.proofs.Common.{next_from, not-true, now_at, outputs_between, play-timely, refl, rules, run, stop_at, suc, true}
use Rattle.pac_debug_session.proofs.Common.{walk_after_step, zero, ℕ, ◌++◌, ◌<◌, ◌∙◌, ◌≡◌}

-- ---- a step that is done

-- what a step that goes on comes to
pub record IsGoing (h : Next BoardView) : Type 0 where
  pub now : Moment BoardView
  pub outputs : List Output
  pub kind : StepKind
  pub is : h ≡ Goes now outputs kind

module _ (setting : Setting) where
  pub timely : (now : Moment BoardView) → IsTimely now (next_from setting now)
  timely now = play-timely (by_view setting.set) (held setting.script) now

  -- the run goes on at an index
  pub goes-early : (index : ℕ) → goes_at setting index ≡ true → is_late setting index ≡ false
  goes-early index goes = not-true (is_late setting index) (and_parts _ (is_none (stop_at setting index)) goes).0

  pub goes-on : (index : ℕ) → goes_at setting index ≡ true → IsGoing (next_at setting index)
  goes-on index goes = search rules

  -- where it met no stop so far and isn't over, the next index is the next step
  pub next-index : (index : ℕ) → (run setting index).stop ≡ None → is_late setting index ≡ false
      → run setting (suc index) ≡ walk_after_step (run setting index) (next_at setting index)
  next-index index open_yet early = search rules

  -- an index up to which the run goes on
  pub record IsOpen (index : ℕ) : Type 0 where
    pub open_yet : (run setting index).stop ≡ None
    pub steps : (now_at setting index).steps ≡ index

  pub record IsOneMore (index : ℕ) (now : Moment BoardView) (outputs : List Output) : Type 0 where
    pub stands : IsOpen (suc index)
    pub now_is : now_at setting (suc index) ≡ now
    pub outputs_is : (run setting (suc index)).outputs ≡ (run setting index).outputs ++ outputs
    pub later : (now_at setting index).time < (now_at setting (suc index)).time

  pub one-more : (index : ℕ) (now : Moment BoardView) (outputs : List Output) (kind : StepKind) → IsOpen index
      → is_late setting index ≡ false → next_at setting index ≡ Goes now outputs kind → IsOneMore index now outputs
  one-more index now outputs kind before early is = grind (arith, next-index, timely)

  pub open-up-to : (index : ℕ) → ((earlier : ℕ) → earlier < index → goes_at setting earlier ≡ true) → IsOpen index
  open-up-to zero goes = record { open_yet = refl; steps = refl }
  open-up-to (suc index) goes =
      let here = goes index (omega arith) in
      let on = goes-on index here in
      (one-more index on.now on.outputs on.kind (open-up-to index (λ earlier less. goes earlier (omega arith)))
      (goes-early index here) on.is).stands

  -- ---- what is given out

  pub between : (from index : ℕ) (outputs : List Output) → (run setting index).outputs ≡ (run setting from).outputs ++ outputs
      → outputs_between setting from index ≡ outputs
  between from index outputs is = ap (drop (length (run setting from).outputs)) is ∙ drop-append_seam (run setting from).outputs outputs
