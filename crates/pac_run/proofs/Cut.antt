-- Of two plays, the run of the first, saved, and that of the second, resumed from what was saved, are the run of both.
use Rattle.pac_run.proofs.Common.{AllLie, BoardState, BoardValue, BoardView, Bool, Entry, HasItsFrames, IsBoard, IsTimely, IsWhole, Item}
use Rattle.pac_run.proofs.Common.{JoinsPlays, List, Moment, Next, None, Option, Output, Parts, Play, Show, Sound, Stop, Walk, [], ap, arith}
use Rattle.pac_run.proofs.Common.{board_after_entries, by_history, by_view, end_state, frame_microseconds, frame_samples, frame_ticks}
use Rattle.pac_run.proofs.Common.{frames_asked, frames_gone, images_text, is_between_frames, length, length-append, nat_le, nat_tests}
use Rattle.pac_run.proofs.Common.{onward_if, outcome_since, outcomes_joined, picture_count, play-timely, plays-join, plays_joined, refl}
use Rattle.pac_run.proofs.Common.{resumed, resumed-runs-agree, resumed-runs-have-their-frames, resumed_end, resumed_start, resumed_step}
use Rattle.pac_run.proofs.Common.{rules, run_of_play, sample_ticks, samples_in, samples_text, sound_count, sound_text, suc, sym, true, walk}
use Rattle.pac_run.proofs.Common.{walk_view, without_history, zero, ℕ, ◌%◌, ◌*◌, ◌++◌, ◌+◌, ◌-◌, ◌<◌, ◌∙◌, ◌∷◌, ◌≡◌, ◌≤◌}
use Rattle.pac_run.proofs.Filmed.{samples-append, sound-append}
use Rattle.pac_run.proofs.Heard.{frames-append, pictures-counted}

-- ---- counting

samples-counted : (outputs : List Output) → length (samples_in outputs) ≡ sound_count outputs
samples-counted [] = refl
samples-counted (Sound sample ∷ more) = ap suc (samples-counted more)
samples-counted (Show image ∷ more) = samples-counted more

-- ---- time and steps grow

module _ {Board : Type 0} (next : Moment Board → Next Board) (limit : ℕ) (timely : (now : Moment Board) → IsTimely now (next now))
    (from : Moment Board) where
  record HasGrown (w : Walk Board) : Type 0 where
    pub time : from.time ≤ w.now.time
    pub steps : from.steps ≤ w.now.steps

  grown-onward : (w : Walk Board) (stop : Option Stop) (late : Bool) → HasGrown w → HasGrown (onward_if next w stop late)
  grown-onward w stop late has = search rules

  grown : (n : ℕ) → HasGrown (walk next limit from n)
  grown zero = record { time = omega arith; steps = omega arith }
  grown (suc n) = let w = walk next limit from n in grown-onward w w.stop (nat_le limit w.now.time) (grown n)

run-grown : (set : Parts) (items : List Item) (play : Play) (board : BoardValue)
    → (board.state.now.time ≤ (run_of_play set items play board).now.time)
    × (board.state.now.steps ≤ (run_of_play set items play board).now.steps)
run-grown set items play board =
    let ask = by_history set items board.state.now.board in
    let from = without_history board.state.now in
    let has = grown (resumed_step ask play (frames_gone from)) (resumed_end play (frames_gone from))
    (play-timely ask (λ frame. play.held (frame - frames_gone from))) (resumed_start ask play from) (resumed_end play (frames_gone from)) in
    (has.time, has.steps)

-- ---- between two frames

pub is-near : (state : BoardState) → is_between_frames state ≡ true → state.now.time % frame_ticks < sample_ticks
is-near state between = grind (arith, nat_tests)

-- ---- a run in two

-- the board of the state file that is saved at the end of a play's run
abbrev pub board_of_end : Parts → Play → BoardValue → Walk (List Entry) → BoardValue
board_of_end set play board end = record { set = set; state = end_state set play.frames board end; made = 0 }

-- the sound of so many frames, as a wave file has it after its header
abbrev pub frames_sound : ℕ → List Output → List ℕ
frames_sound frames outputs = sound_text (frame_samples * frames) outputs

-- Beside the run of both plays: the images one after another and the samples one after another are its own, it ends in the same state,
-- and what they came to adds up.
pub record JoinsRuns (set : Parts) (first second : Play) (board saved : BoardValue) (one two whole : Walk (List Entry)) : Type 0 where
  pub images : images_text one.outputs ++ images_text two.outputs ≡ images_text whole.outputs
  pub sound :
      frames_sound first.frames one.outputs ++ frames_sound second.frames two.outputs
      ≡ frames_sound (first.frames + second.frames) whole.outputs
  pub state : end_state set second.frames saved two ≡ end_state set (first.frames + second.frames) board whole
  pub outcome : outcomes_joined (outcome_since board one) (outcome_since saved two) ≡ outcome_since board whole

module _ (set : Parts) (items : List Item) (first second : Play) (board : BoardValue) (whole : IsWhole set) (lie : AllLie set.program items)
    (holds : IsBoard board.state.now.board) (between : is_between_frames board.state ≡ true)
    (open_yet : (run_of_play set items first board).stop ≡ None) where
  abbrev one : Walk (List Entry)
  one = run_of_play set items first board

  abbrev saved : BoardValue
  saved = board_of_end set first board one

  near : board.state.now.time % frame_ticks < sample_ticks
  near = is-near board.state between

  pub has-frames : HasItsFrames (by_history set items board.state.now.board) first (without_history board.state.now)
  has-frames = resumed-runs-have-their-frames (by_history set items board.state.now.board) first (without_history board.state.now) open_yet

  pub still-between : is_between_frames saved.state ≡ true
  still-between = let e = has-frames.near near in grind (arith, nat_tests)

  -- the first run, told by the view
  abbrev first_viewed : Walk BoardView
  first_viewed = resumed (by_view set) first board.state.now

  one-viewed : walk_view (board_after_entries set board.state.now.board) one ≡ first_viewed
  one-viewed = (resumed-runs-agree set items board.state.now.board first (without_history board.state.now) whole lie holds).whole

  module _ (held : IsBoard saved.state.now.board) where
    abbrev two : Walk (List Entry)
    two = run_of_play set items second saved

    abbrev all : Walk (List Entry)
    all = run_of_play set items (plays_joined first second) board

    two-viewed : walk_view (board_after_entries set saved.state.now.board) two ≡ resumed (by_view set) second first_viewed.now
    two-viewed =
        (resumed-runs-agree set items saved.state.now.board second (without_history saved.state.now) whole lie held).whole
        ∙ ap (λ (run : Walk BoardView). resumed (by_view set) second run.now) one-viewed

    all-viewed : walk_view (board_after_entries set board.state.now.board) all
        ≡ resumed (by_view set) (plays_joined first second) board.state.now
    all-viewed =
        (resumed-runs-agree set items board.state.now.board (plays_joined first second) (without_history board.state.now) whole lie
        holds).whole

    joins : JoinsPlays (by_view set) first second board.state.now
    joins = plays-join set first second board.state.now (sym (ap (λ (run : Walk BoardView). run.stop) one-viewed) ∙ open_yet)

    -- what they give, and where they end
    outputs-joined : one.outputs ++ two.outputs ≡ all.outputs
    outputs-joined = grind (arith, all-viewed, joins, one-viewed, two-viewed)

    ends-joined : (walk_view (board_after_entries set saved.state.now.board) two).now
        ≡ (walk_view (board_after_entries set board.state.now.board) all).now
    ends-joined = ap (λ (run : Walk BoardView). run.now) two-viewed ∙ joins.now ∙ sym (ap (λ (run : Walk BoardView). run.now) all-viewed)

    stops-joined : two.stop ≡ all.stop
    stops-joined = grind (arith, all-viewed, joins, two-viewed)

    -- the sound of the first half has all of its samples, and no zeros
    samples-whole : length (samples_in one.outputs) ≡ frame_samples * first.frames
    samples-whole = samples-counted one.outputs ∙ has-frames.samples near

    no-zeros : frames_sound first.frames one.outputs ≡ samples_text (samples_in one.outputs)
    no-zeros =
        let count : frame_samples * first.frames - length (samples_in one.outputs) ≡ 0 = omega (arith, samples-whole) in search rules

    same-zeros : frame_samples * second.frames - length (samples_in two.outputs)
        ≡ frame_samples * (first.frames + second.frames) - length (samples_in (one.outputs ++ two.outputs))
    same-zeros = grind (arith, nat_tests, samples-append, length-append, samples_in, samples-whole)

    sound-joined : frames_sound first.frames one.outputs ++ frames_sound second.frames two.outputs
        ≡ frames_sound (first.frames + second.frames) all.outputs
    sound-joined = grind (arith, no-zeros, outputs-joined, same-zeros, sound-append)

    -- the microseconds asked for
    asked-joined : frame_microseconds * frames_asked first.frames board one + frame_microseconds * frames_asked second.frames saved two
        ≡ frame_microseconds * frames_asked (first.frames + second.frames) board all
    asked-joined =
        omega (arith, has-frames.gone, ap (λ (now : Moment BoardView). now.time) ends-joined, (run-grown set items second saved).0)

    states-joined : end_state set second.frames saved two ≡ end_state set (first.frames + second.frames) board all
    states-joined = grind (arith, asked-joined, ends-joined)

    -- what they came to
    pub runs-joined : JoinsRuns set first second board saved one two all
    runs-joined =
        let ends = ends-joined in
        let one_grown = run-grown set items first board in
        let two_grown = run-grown set items second saved in
        let frames : picture_count one.outputs + picture_count two.outputs ≡ picture_count all.outputs =
        sym (pictures-counted one.outputs two.outputs) ∙ ap picture_count outputs-joined in
        let steps = ap (λ (now : Moment BoardView). now.steps) ends in
        let all_steps : (one.now.steps - board.state.now.steps) + (two.now.steps - one.now.steps) ≡ all.now.steps - board.state.now.steps
        = omega (arith, steps, one_grown.1, two_grown.1) in
        let all_ticks : (one.now.time - board.state.now.time) + (two.now.time - one.now.time) ≡ all.now.time - board.state.now.time
        = omega (arith, ap (λ (now : Moment BoardView). now.time) ends, one_grown.0, two_grown.0) in
        grind (arith, frames-append, outputs-joined, sound-joined, states-joined, stops-joined)
