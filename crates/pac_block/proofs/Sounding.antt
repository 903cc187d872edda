-- What a host's buffer has after the outputs of a run, and that none of them is refused where there is room.
use Rattle.pac_block.proofs.Common.{BoardValue, Bool, Cut, Err, Executes, Fault, IsSameBuffer, IsWalkTimed, List, Option, Refused, Sounds}
use Rattle.pac_block.proofs.Common.{TooFar, TookAll, [], ap, arith, by, common_steps, course_at, drop, drop-set-lt, due_outputs, due_with}
use Rattle.pac_block.proofs.Common.{length, length-set, min, most_asked, most_samples, outputs_given, refl, rules, sample_ticks}
use Rattle.pac_block.proofs.Common.{samples_due, samples_given, sounding_refused, sounding_took, take, take_more_set, time_of}
use Rattle.pac_block.proofs.Common.{walks-are-timed, ℕ, ℤ, ◌++◌, ◌+◌, ◌-◌, ◌/◌, ◌^◌, ◌∷◌, ◌≡◌, ◌≤◌}
pub use Rattle.pac_board_model.proofs.ResumedTimes.{sounds-joined as sounds-append, pictures-joined as pictures-append}
use Rattle.pac_board_model.specs.Output.{Output, Sound, Show, Image, image_of, sound_count, picture_count}
use Rattle.pac_board_model.specs.Step.{frame_ticks}
use Rattle.pac_board_model.specs.Trace.{by_view}

-- ---- counts of lists that are put together

pub samples-append : (one other : List Output) → samples_given (one ++ other) ≡ samples_given one ++ samples_given other
samples-append [] other = refl
samples-append (Sound sample ∷ one) other = ap (λ samples. sample ∷ samples) (samples-append one other)
samples-append (Show image ∷ one) other = samples-append one other

-- ---- all was taken

-- the samples are in the buffer, after those that it had
pub record AreWritten (outputs : List Output) (old new : Sounds) : Type 0 where
  pub same : IsSameBuffer old new
  pub taken : new.taken ≡ old.taken + sound_count outputs
  pub room : new.taken ≤ length old.samples.now
  pub size : length new.samples.now ≡ length old.samples.now
  pub samples :
      new.samples.now ≡ take old.taken old.samples.now ++ samples_given outputs ++ drop new.taken old.samples.now
  pub pictures : new.pictures ≡ min (2 ^ 32 - 1) (old.pictures + picture_count outputs)

pub are-written : (outputs : List Output) (old new : Sounds) → old.taken ≤ length old.samples.now → old.pictures ≤ 2 ^ 32 - 1
    → TookAll sounding_took old outputs new → AreWritten outputs old new
are-written [] old new room few same = grind (arith, common_steps)
are-written (Sound sample ∷ more) old new room few took =
    let one = took.before in
    let between = took.between in
    let size : length between.samples.now ≡ length old.samples.now = rw one.written (length-set old.samples.now old.taken sample) in
    let wide : between.taken ≤ length between.samples.now = let r = one.room in let t = one.taken in omega (arith, size, r, t) in
    let rest = are-written more between new wide (let p = one.pictures in omega (arith, few, p)) took.after in
    let front : take between.taken between.samples.now ≡ take old.taken old.samples.now ++ sample ∷ [] = grind (arith, take_more_set) in
    let back : drop new.taken between.samples.now ≡ drop new.taken old.samples.now = grind (arith, drop-set-lt) in
    grind (arith, common_steps)
are-written (Show image ∷ more) old new room few took =
    let one = took.before in
    let wide : took.between.taken ≤ length took.between.samples.now = rw (one.samples, one.taken) room in
    let rest = are-written more took.between new wide (let p = one.pictures in omega (arith, few, p)) took.after in search rules

-- ---- none is refused

not-refused : {A : Type 0} (first : Output) (rest taken : List Output) (asked new : Sounds) → asked.taken ≡ sound_count taken
    → sound_count (taken ++ first ∷ rest) ≤ length asked.samples.now → sounding_refused asked first new → A
not-refused first rest taken asked new count room full = grind (arith, sounds-append)

pub none-refused : {A : Type 0} (outputs left : List Output) (old new : Sounds) → old.taken ≡ 0 → old.pictures ≡ 0
    → sound_count outputs ≤ length old.samples.now → Cut (by sounding_took sounding_refused) old outputs left new → A
none-refused outputs left old new none no_picture room cut =
    let refuses = cut.refuses in
    let written = are-written cut.taken old refuses.asked (omega arith) (omega arith) refuses.before in
    not-refused refuses.first refuses.rest cut.taken refuses.asked new (let t = written.taken in omega (arith, t, none))
    (rw (← refuses.left_is, ← cut.parts, written.size) room) refuses.refusal

-- ---- how many come

pub due-sounds : (sample : Option ℤ) (picture : Bool) (image : Image)
    → sound_count (due_with image (record { sample = sample; picture = picture })) ≡ samples_due sample
due-sounds sample picture image = search rules

pub due-pictures : (sample : Option ℤ) (picture : Bool) (image : Image)
    → picture_count (due_with image (record { sample = sample; picture = picture })) ≤ 1
due-pictures sample picture image = search rules

few-come : (due sounds pictures time after : ℕ) → sounds + time / sample_ticks ≡ after / sample_ticks
    → pictures + time / frame_ticks ≡ after / frame_ticks → sounds ≤ 2 ^ 32 - 1 → due ≤ 1 → due + pictures ≤ 2 ^ 32 - 1
few-come due sounds pictures time after timed framed most one = omega arith

module _ (board : BoardValue) (microseconds : ℕ) where
  abbrev limit : ℕ
  limit = time_of (board.state.asked + microseconds)

  timed : (tries : ℕ) → IsWalkTimed (by_view board.set) limit tries board.state.now
  timed tries = walks-are-timed (by_view board.set) limit tries board.state.now

  pub sounds-bounded : (tries : ℕ)
      → sound_count (due_outputs board ++ (course_at board microseconds tries).outputs) ≤ most_samples board.state microseconds
  sounds-bounded tries = grind (arith, due-sounds, timed)

  pub pictures-bounded : most_samples board.state microseconds ≤ 2 ^ 32 - 1 → picture_count (outputs_given board microseconds) ≤ 2 ^ 32 - 1
  pictures-bounded few =
      let walked = course_at board microseconds limit in
      let sounds = sounds-append (due_outputs board) walked.outputs in
      let bound = sounds-bounded limit in
      let due = due-pictures board.state.due.sample board.state.due.picture (image_of board.set board.state.now.board.lines) in
      let come = few-come _ _ _ _ _ (timed limit).samples (timed limit).pictures (omega (arith, sounds, bound, few)) due in
      omega (arith, pictures-append (due_outputs board) walked.outputs, come)

-- where there is room for all, a run comes to its end
pub runs-to-its-end : {A : Type 0} (fault : Fault) (board : BoardValue) (microseconds : ℕ) (sink : Sounds) (new : BoardValue)
    (later : Sounds)
    → sink.taken ≡ 0 → sink.pictures ≡ 0 → board.state.asked + microseconds ≤ most_asked
    → most_samples board.state microseconds ≤ length sink.samples.now
    → Executes (by sounding_took sounding_refused) board microseconds sink (Err fault) new later → A
runs-to-its-end Refused board microseconds sink new later none no_picture within room refused =
    none-refused _ _ _ _ none no_picture (omega (arith, sounds-bounded board microseconds refused.steps, room)) refused.cut
runs-to-its-end TooFar board microseconds sink new later none no_picture within room far = search rules
