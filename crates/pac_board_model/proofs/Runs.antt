-- Runs: they end, and they are their frames, one played after another.
use Rattle.pac_board_model.proofs.Common.{Bool, Hold, IsTimely, Moment, Next, None, Option, Play, Questions, RunsAreJoined, RunsEnd}
use Rattle.pac_board_model.proofs.Common.{RunsGoByFrames, Some, Stop, Walk, ap, arith, false, frame_steps, frame_ticks, has_ended}
use Rattle.pac_board_model.proofs.Common.{if◌then◌else◌, moment_with_inputs, most_ticks, nat_le, next_frame, onward_if, play_step}
use Rattle.pac_board_model.proofs.Common.{power_on_moment, refl, rules, step, suc, trace, true, walk, walk_onward, walk_to, with_frame}
use Rattle.pac_board_model.proofs.Common.{zero, ℕ, ◌*◌, ◌+◌, ◌<◌, ◌∙◌, ◌≡◌, ◌≤◌}
use Rattle.pac_board_model.proofs.Walks.{ended-same, goes-on, going-far, joined, on-the-way, open-is-late, outputs-prefix, play-timely}
use Rattle.pac_board_model.proofs.Walks.{step-timely, stopped-has-ended, walk-ends, walk-to-ends}

-- ---- a run ends

-- the moment of power-on, with the first frame's inputs held
abbrev first : {Board : Type 0} → Questions Board → (ℕ → ℕ) → Board → Moment Board
first ask held board = power_on_moment (ask.put board (Hold (held 1)))

trace-ends : {Board : Type 0} (ask : Questions Board) (play : Play) (board : Board)
    → has_ended (frame_ticks * play.frames) (trace ask play board) ≡ true
trace-ends ask play board = grind (arith, play-timely, walk-ends)

pub runs-end : {Board : Type 0} → RunsEnd Board
runs-end ask play board index = grind (arith, ended-same, trace-ends)

pub runs-are-joined : {Board : Type 0} → RunsAreJoined Board
runs-are-joined ask play board index more =
    outputs-prefix (play_step ask play.held) (frame_ticks * play.frames) (first ask play.held board) index more (index + more) refl

-- ---- a walk of steps that each take their time is less than a step past its limit

module _ {Board : Type 0} (next : Moment Board → Next Board) (limit : ℕ) (timely : (now : Moment Board) → IsTimely now (next now)) where
  module _ (bound : ℕ) (within : limit + most_ticks ≤ bound) where
    onward-below : (w : Walk Board) (stop : Option Stop) (late : Bool) → nat_le limit w.now.time ≡ late → w.now.time < bound
        → (onward_if next w stop late).now.time < bound
    onward-below w stop late e below = search rules

    -- a walk stays below what is a step past its limit at least
    pub walk-below : (from : Moment Board) (n : ℕ) → from.time < bound → (walk next limit from n).now.time < bound
    walk-below from zero below = below
    walk-below from (suc n) below =
        let w = walk next limit from n in onward-below w w.stop (nat_le limit w.now.time) refl (walk-below from n below)

  pub walk-near : (from : Moment Board) (n : ℕ) → from.time < limit + most_ticks → (walk next limit from n).now.time < limit + most_ticks
  walk-near from n near = walk-below (limit + most_ticks) (omega arith) from n near

-- ---- a frame

module _ {Board : Type 0} (ask : Questions Board) (held : ℕ → ℕ) (frames : ℕ) where
  abbrev limit : ℕ
  limit = frame_ticks * suc frames

  abbrev plain : Moment Board → Next Board
  plain = step ask

  abbrev play : Moment Board → Next Board
  play = play_step ask held

  -- a frame's walk of plain steps, at whose end the next one's inputs are held
  abbrev pub closed_if : Walk Board → Option Stop → Bool → Walk Board
  closed_if w (Some stop) late = w
  closed_if w None late = if late then record w { now = moment_with_inputs ask held w.now } else w

  abbrev pub closed : Walk Board → Walk Board
  closed w = closed_if w w.stop (nat_le limit w.now.time)

  -- a step more of the closed walk, by whether it has ended
  onward-closed : (w : Walk Board) (ended : Bool) → has_ended limit w ≡ ended → (ended ≡ false → frame_ticks * frames ≤ w.now.time)
      → closed (walk_onward plain limit w) ≡ walk_onward play limit (closed w)
  onward-closed w ended e from = search rules

  -- a frame's walk of plain steps, closed, is the walk of the run
  pub walk-closed : (from : Moment Board) (n : ℕ) → frame_ticks * frames ≤ from.time → from.time < limit
      → closed (walk plain limit from n) ≡ walk play limit from n
  walk-closed from zero begins early = search rules
  walk-closed from (suc n) begins early =
      let w = walk plain limit from n in
      onward-closed w (has_ended limit w) refl
      (λ e. let going = going-far plain limit (step-timely ask) from n e in let time = going.time in omega arith)
      ∙ ap (walk_onward play limit) (walk-closed from n begins early)

  -- what a frame adds to a run is that walk
  with-closed : (before w : Walk Board) (stop : Option Stop) → w.stop ≡ stop → has_ended limit w ≡ true
      → with_frame ask held before w stop ≡ joined play limit before (closed w)
  with-closed before w stop s ended = search rules

-- ---- frame by frame

module _ {Board : Type 0} (ask : Questions Board) (held : ℕ → ℕ) (board : Board) where
  abbrev run : ℕ → Walk Board
  run frames = trace ask (record { frames = frames; held = held }) board

  abbrev power : Moment Board
  power = first ask held board

  -- any walk to the end of a frame is the run so far
  ended-is-run : (frames n : ℕ) → has_ended (frame_ticks * frames) (walk (play_step ask held) (frame_ticks * frames) power n) ≡ true
      → walk (play_step ask held) (frame_ticks * frames) power n ≡ run frames
  ended-is-run frames n ended = (runs-end ask (record { frames = frames; held = held }) board n).1 ended

  run-is-whole : (frames : ℕ) → walk_to (play_step ask held) (frame_ticks * frames) power ≡ run frames
  run-is-whole frames = grind (arith, ended-is-run, play-timely, walk-to-ends)

  frame-played : (frames : ℕ) (stop : Option Stop) → (run frames).stop ≡ stop
      → next_frame ask held (suc frames) (run frames) stop ≡ run (suc frames)
  frame-played frames (Some stop) s =
      let play = play_step ask held in
      let on = on-the-way play (frame_ticks * frames) (frame_ticks * suc frames) power (frame_steps * frames) (omega arith) in
      grind (arith, ended-is-run, stopped-has-ended)
  frame-played frames None s =
      let play = play_step ask held in
      let limit = frame_ticks * suc frames in
      let before = run frames in
      let on = on-the-way play (frame_ticks * frames) limit power (frame_steps * frames) (omega arith) in
      let ended = trace-ends ask (record { frames = frames; held = held }) board in
      let begins = open-is-late (frame_ticks * frames) before ended s in
      let near = walk-near play (frame_ticks * frames) (play-timely ask held) power (frame_steps * frames) (omega arith) in
      let early : before.now.time < limit = omega arith in
      let walked = walk_to (step ask) limit before.now in
      with-closed ask held frames before walked walked.stop refl (walk-to-ends (step ask) limit (step-timely ask) before.now)
      ∙ ap (joined play limit before) (walk-closed ask held frames before.now limit begins early)
      ∙ ap (λ w. joined play limit w (walk_to play limit w.now)) on.1
      ∙ goes-on play limit (play-timely ask held) power on.0
      ∙ run-is-whole (suc frames)

pub runs-go-by-frames : {Board : Type 0} → RunsGoByFrames Board
runs-go-by-frames ask held board zero = refl
runs-go-by-frames ask held board (suc frames) =
    ap (λ before. next_frame ask held (suc frames) before before.stop) (runs-go-by-frames ask held board frames)
    ∙ frame-played ask held board frames (trace ask (record { frames = frames; held = held }) board).stop refl
