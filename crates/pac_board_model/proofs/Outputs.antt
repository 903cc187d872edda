-- What a run gives out is what its history says: each sample, each picture, how many of them by when, and how many samples by each blank.
use Rattle.pac_board_model.proofs.Common.{Blank, BoardView, Entry, FramesHaveTheirSamples, Item, List, Output, OutputsAreOfTheHistory}
use Rattle.pac_board_model.proofs.Common.{OutputsAreTimed, Parts, Questions, ResumedOutputsAreOfTheHistory, StepProgress, [], append-nil}
use Rattle.pac_board_model.proofs.Common.{append_assoc, arith, at_moment, blank_count, by_history, common_steps, frame_samples, frame_ticks}
use Rattle.pac_board_model.proofs.Common.{history_outputs, line_event, power_on_board_view, refl, sample_count, sample_event, sample_ticks}
use Rattle.pac_board_model.proofs.Common.{subst, suc, sym, true, ℕ, ◌%◌, ◌*◌, ◌++◌, ◌/◌, ◌∙◌, ◌∷◌, ◌≡◌, ◌≢◌}
use Rattle.pac_board_model.proofs.RunsKeep.{blanked-holds, is_quiet, lined-holds, resumed-told, run-told, sampled-holds}
use Rattle.pac_board_model.proofs.Walks.{not-both}

-- ---- one entry more

quiet-samples : (entry : Entry) (entries : List Entry) → is_quiet entry ≡ true → sample_count (entry ∷ entries) ≡ sample_count entries
quiet-samples entry entries h = grind (arith, not-both)

quiet-blanks : (entry : Entry) (entries : List Entry) → is_quiet entry ≡ true → blank_count (entry ∷ entries) ≡ blank_count entries
quiet-blanks entry entries h = grind (arith, not-both)

sample-lasts : (time moment : ℕ) → moment ≡ suc time → moment % sample_ticks ≢ 0 → time / sample_ticks ≡ moment / sample_ticks
sample-lasts time moment next lasts = omega arith

-- at each blank
abbrev AreCounted : List Entry → Type 0
AreCounted [] = Unit {0}
AreCounted (Blank frame ∷ older) = (sample_count older ≡ frame_samples * frame) × AreCounted older
AreCounted (entry ∷ older) = AreCounted older

quiet-counted : (entry : Entry) (entries : List Entry) → is_quiet entry ≡ true → AreCounted entries → AreCounted (entry ∷ entries)
quiet-counted entry entries h counted = grind (arith, not-both)

counted-at : (later older : List Entry) (frame : ℕ) → AreCounted (later ++ Blank frame ∷ older) → sample_count older ≡ frame_samples * frame
counted-at [] older frame counted = counted.0
counted-at (Blank other ∷ later) older frame counted = counted-at later older frame counted.1
counted-at (entry ∷ later) older frame counted = counted-at later older frame counted

-- and by when
record IsCounted (count : ℕ) (entries : List Entry) : Type 0 where
  so_far : sample_count entries ≡ count
  blanks : AreCounted entries

whole-frames : (moment count : ℕ) → moment % frame_ticks ≡ 0 → count ≡ moment / sample_ticks
    → count ≡ frame_samples * (moment / frame_ticks)
whole-frames moment count ends same = omega arith

one-more : (time moment count : ℕ) → moment ≡ suc time → moment % sample_ticks ≡ 0 → count ≡ time / sample_ticks
    → suc count ≡ moment / sample_ticks
one-more time moment count next ends same = omega arith

-- ---- from moment to moment

module _ (set : Parts) (items : List Item) (start : BoardView) where
  abbrev ask : Questions (List Entry)
  ask = by_history set items start

  -- ---- the outputs themselves

  abbrev told : List Entry → List Output
  told entries = history_outputs set start entries

  quiet-told : (entry : Entry) (entries : List Entry) → is_quiet entry ≡ true → told (entry ∷ entries) ≡ told entries
  quiet-told entry entries h = grind (arith, not-both)

  -- so are those of a moment's events
  abbrev IsTold : List Output → StepProgress (List Entry) → Type 0
  IsTold given met = given ++ met.outputs ≡ told met.board

  moment-told : (moment : ℕ) (given : List Output) (met : StepProgress (List Entry)) → IsTold given met →
      IsTold given (at_moment ask moment met)
  moment-told moment given met h = grind (arith, append_assoc, blanked-holds, lined-holds, sampled-holds)

  -- ---- how many by when

  moment-samples : (time moment : ℕ) (met : StepProgress (List Entry)) → moment ≡ suc time → sample_count met.board ≡ time / sample_ticks
      → sample_count (at_moment ask moment met).board ≡ moment / sample_ticks
  moment-samples time moment met next h = grind (arith, common_steps)

  moment-blanks : (time moment : ℕ) (met : StepProgress (List Entry)) → moment ≡ suc time → blank_count met.board ≡ time / frame_ticks
      → blank_count (at_moment ask moment met).board ≡ moment / frame_ticks
  moment-blanks time moment met next h = grind (arith, common_steps)

  -- ---- when a frame's blank comes, each frame so far has had its samples

  moment-counted : (time moment : ℕ) (met : StepProgress (List Entry)) → moment ≡ suc time → IsCounted (time / sample_ticks) met.board
      → IsCounted (moment / sample_ticks) (at_moment ask moment met).board
  moment-counted time moment met next told =
      let Holds = λ (after : StepProgress (List Entry)). IsCounted (moment / sample_ticks) after.board in
      let sounded = sample_event ask moment met in
      let seen = line_event ask moment sounded in
      let first = sampled-holds ask Holds moment met
      (λ ends. record { so_far = one-more time moment (sample_count met.board) next ends told.so_far; blanks = told.blanks })
      (λ lasts. record { so_far = told.so_far ∙ sample-lasts time moment next lasts; blanks = told.blanks }) in
      let second = lined-holds ask Holds moment sounded (λ _. record { so_far = first.so_far; blanks = first.blanks }) (λ _. first) in
      blanked-holds ask Holds moment seen (λ ends. grind (arith, whole-frames)) (λ none. second)

-- ---- the laws

pub outputs-of-history : OutputsAreOfTheHistory
outputs-of-history set items start index play =
    run-told (by_history set items start) (λ time given entries. given ≡ history_outputs set start entries)
    (λ time given entries entry quiet h. h ∙ sym (quiet-told set items start entry entries quiet))
    (λ time moment given met next h. moment-told set items start moment given met h) play [] index refl

pub resumed-outputs : ResumedOutputsAreOfTheHistory
resumed-outputs set items start play from index =
    let before = history_outputs set start from.board in
    resumed-told (by_history set items start) (λ time given entries. before ++ given ≡ history_outputs set start entries)
    (λ time given entries entry quiet h. h ∙ sym (quiet-told set items start entry entries quiet))
    (λ time moment given met next h.
    let after = at_moment (by_history set items start) moment met in
    sym (append_assoc before given after.outputs)
    ∙ moment-told set items start moment (before ++ given) met (append_assoc before given met.outputs ∙ h)) play from index
    (append-nil before)

pub outputs-timed : OutputsAreTimed
outputs-timed set items switches index play =
    let first = power_on_board_view switches in
    let ask = by_history set items first in
    record {
      samples =
          run-told ask (λ time given entries. sample_count entries ≡ time / sample_ticks)
          (λ time given entries entry quiet h. quiet-samples entry entries quiet ∙ h)
          (λ time moment given met next h. moment-samples set items first time moment met next h) play [] index refl;
      blanks =
          run-told ask (λ time given entries. blank_count entries ≡ time / frame_ticks)
          (λ time given entries entry quiet h. quiet-blanks entry entries quiet ∙ h)
          (λ time moment given met next h. moment-blanks set items first time moment met next h) play [] index refl;
    }

pub frames-sampled : FramesHaveTheirSamples
frames-sampled set items switches index frame play later older e =
    let first = power_on_board_view switches in
    let run = run-told (by_history set items first) (λ time given entries. IsCounted (time / sample_ticks) entries)
    (λ time given entries entry quiet told.
    record { so_far = quiet-samples entry entries quiet ∙ told.so_far; blanks = quiet-counted entry entries quiet told.blanks })
    (λ time moment given. moment-counted set items first time moment) play [] index (record { so_far = omega arith; blanks = tt }) in
    counted-at later older frame (subst AreCounted e run.blanks)
