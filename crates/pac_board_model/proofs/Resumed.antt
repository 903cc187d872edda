-- A play that is taken up at any moment: its run ends; from power-on it is the trace; and two plays one after another are both at once.
use Rattle.pac_board_model.proofs.Common.{Bool, Ends, Goes, Hold, IsTimely, JoinsPlays, LastIsHeld, List, Moment, Next, None, Output, Play}
use Rattle.pac_board_model.proofs.Common.{PlaysJoin, Questions, ResumedRunsEnd, RunsAreContinued, RunsBegin, Some, Stop, StoppedRunsStay}
use Rattle.pac_board_model.proofs.Common.{Walk, ap, arith, by_view, false, frame_steps, frame_ticks, frames_gone, has_ended, if◌then◌else◌}
use Rattle.pac_board_model.proofs.Common.{inl, inr, moment_with_inputs, most_ticks, nat_le, nat_tests, next_with_inputs, play_step}
use Rattle.pac_board_model.proofs.Common.{plays_joined, power_on_moment, refl, resumed, resumed_at, resumed_end, resumed_start}
use Rattle.pac_board_model.proofs.Common.{resumed_step, rules, run_at, suc, sym, true, walk, walk_after_step, walk_at_start, walk_onward}
use Rattle.pac_board_model.proofs.Common.{walk_to, zero, ℕ, ◌*◌, ◌++◌, ◌+◌, ◌-◌, ◌/◌, ◌<◌, ◌==◌, ◌∙◌, ◌≡◌, ◌≤◌, ◌⊎◌}
use Rattle.pac_board_model.proofs.Runs.{walk-below}
use Rattle.pac_board_model.proofs.Walks.{ended-stays, ended-whole, going-far, going-steps, joined, late-has-ended, on-the-way, open-is-late}
use Rattle.pac_board_model.proofs.Walks.{play-timely, step-timely, stopped-has-ended, stopped-is-early, walk-ends, walk-to-ends}
use Rattle.pac_board_model.proofs.Walks.{walks-joined}

-- ---- a run ends

module _ {Board : Type 0} (ask : Questions Board) (play : Play) (from : Moment Board) where
  abbrev gone : ℕ
  gone = frames_gone from

  pub resumed-ends : has_ended (resumed_end play gone) (resumed ask play from) ≡ true
  resumed-ends = grind (arith, play-timely, walk-to-ends)

  -- as many steps as its frames can have are enough
  enough-ends : has_ended (resumed_end play gone) (resumed_at ask play from (frame_steps * play.frames)) ≡ true
  enough-ends = grind (arith, play-timely, walk-ends)

  pub ended-is-resumed : (index : ℕ) → has_ended (resumed_end play gone) (resumed_at ask play from index) ≡ true
      → resumed_at ask play from index ≡ resumed ask play from
  ended-is-resumed index ended = grind (arith, ended-whole, play-timely)

  pub enough-is-resumed : resumed_at ask play from (frame_steps * play.frames) ≡ resumed ask play from
  enough-is-resumed = ended-is-resumed (frame_steps * play.frames) enough-ends

  -- where it met no stop, as many frames have gone by as it has
  pub resumed-late : (resumed ask play from).stop ≡ None → resumed_end play gone ≤ (resumed ask play from).now.time
  resumed-late open_yet = open-is-late (resumed_end play gone) (resumed ask play from) resumed-ends open_yet

  pub resumed-below : (bound : ℕ) → resumed_end play gone + most_ticks ≤ bound → from.time < bound
      → (resumed ask play from).now.time < bound
  resumed-below bound within below = grind (arith, play-timely, walk-below)

  pub resumed-gone : (resumed ask play from).stop ≡ None → frames_gone (resumed ask play from).now ≡ gone + play.frames
  resumed-gone open_yet =
      let below = resumed-below (frame_ticks * (gone + play.frames + 1)) (omega arith) (omega arith) in
      omega (arith, resumed-late open_yet, below)

pub resumed-runs-end : {Board : Type 0} → ResumedRunsEnd Board
resumed-runs-end ask play from = grind (arith, ended-is-resumed, enough-is-resumed, resumed-ends)

-- ---- from power-on no frame has gone by

begins-at : {Board : Type 0} (ask : Questions Board) (play : Play) (board : Board) (index : ℕ)
    → resumed_at ask play (power_on_moment board) index ≡ run_at ask play board index
begins-at ask play board index = search rules

pub runs-begin : {Board : Type 0} → RunsBegin Board
runs-begin ask play board = record {
  at = begins-at ask play board;
  whole = sym (enough-is-resumed ask play (power_on_moment board)) ∙ begins-at ask play board (frame_steps * play.frames);
}

-- a moment with other inputs
abbrev moment_held : {Board : Type 0} → Questions Board → Moment Board → ℕ → Moment Board
moment_held ask now mask = record now { board = ask.put now.board (Hold mask) }

-- ---- two walks whose inputs are the same up to a frame, and differ in those of the next one alone

module _ {Board : Type 0} (ask : Questions Board) (held other : ℕ → ℕ) (ended mask : ℕ)
    (same : (frame : ℕ) → frame ≤ ended → held frame ≡ other frame) (next_is : other (suc ended) ≡ mask) where
  abbrev limit : ℕ
  limit = frame_ticks * ended

  abbrev with_held : Walk Board → ℕ → Walk Board
  with_held w mask = record w { now = moment_held ask w.now mask }

  -- after the last of these frames each holds its own inputs
  pub record HeldApart (w v : Walk Board) : Type 0 where
    pub before : Walk Board
    pub last : ℕ
    pub late : limit ≤ before.now.time
    pub one_is : w ≡ with_held before last
    pub other_is : v ≡ with_held before mask

  abbrev pub Alike : Walk Board → Walk Board → Type 0
  Alike w v = ((w.now.time < limit) × (w ≡ v)) ⊎ HeldApart w v

  apart-late : (w v : Walk Board) → HeldApart w v → (limit ≤ w.now.time) × (limit ≤ v.now.time)
  apart-late w v apart = search rules

  -- where a step goes, by whether it ended a frame
  abbrev gone_with : Walk Board → Moment Board → List Output → ℕ → Walk Board
  gone_with w after outputs mask = record { now = moment_held ask after mask; outputs = w.outputs ++ outputs; stop = None }

  abbrev gone_to : Walk Board → Moment Board → List Output → (ℕ → ℕ) → Bool → Walk Board
  gone_to w after outputs held same_frame =
      record { now = if same_frame then after else moment_with_inputs ask held after; outputs = w.outputs ++ outputs; stop = None }

  step-alike : (w : Walk Board) (h : Next Board) → IsTimely w.now h → w.now.time < limit
      → Alike (walk_after_step w (next_with_inputs ask held w.now.time h)) (walk_after_step w (next_with_inputs ask other w.now.time h))
  step-alike w (Ends stop) times early = inl (early, refl)
  step-alike w (Goes after outputs kind) times early =
      choose (w.now.time / frame_ticks == after.time / frame_ticks) refl (nat_le limit after.time) refl
    where
      choose : (b : Bool) → (w.now.time / frame_ticks == after.time / frame_ticks) ≡ b → (late : Bool) → nat_le limit after.time ≡ late
          → Alike (gone_to w after outputs held b) (gone_to w after outputs other b)
      choose true e late l = search rules
      choose false e true l =
          let late : limit ≤ after.time = grind (arith, nat_tests) in
          let number : after.time / frame_ticks + 1 ≡ suc ended = omega arith in
          inr (record {
            before = record { now = after; outputs = w.outputs ++ outputs; stop = None };
            last = held (after.time / frame_ticks + 1);
            late = late;
            one_is = refl;
            other_is = ap (gone_with w after outputs) (ap other number ∙ next_is);
          })
      choose false e false l = search rules

  abbrev one : Moment Board → Next Board
  one = play_step ask held

  abbrev two : Moment Board → Next Board
  two = play_step ask other

  both-onward : (w : Walk Board) (over : Bool) → has_ended limit w ≡ over → w.now.time < limit
      → Alike (walk_onward one limit w) (walk_onward two limit w)
  both-onward w over e early = grind (arith, ended-stays, going-steps, step-alike, step-timely)

  onward-alike : (w v : Walk Board) → Alike w v → Alike (walk_onward one limit w) (walk_onward two limit v)
  onward-alike w v alike = grind (arith, apart-late, both-onward, ended-stays, late-has-ended)

  pub walk-alike : (start begun : Moment Board) (n : ℕ) → Alike (walk_at_start start) (walk_at_start begun)
      → Alike (walk one limit start n) (walk two limit begun n)
  walk-alike start begun zero alike = alike
  walk-alike start begun (suc n) alike =
      onward-alike (walk one limit start n) (walk two limit begun n) (walk-alike start begun n alike)

-- ---- two walks whose inputs are the same after a frame

module _ {Board : Type 0} (ask : Questions Board) (held other : ℕ → ℕ) (ended : ℕ)
    (same : (frame : ℕ) → ended < frame → held frame ≡ other frame) (limit : ℕ) where
  onward-same : (w : Walk Board) (over : Bool) → has_ended limit w ≡ over → (over ≡ false → frame_ticks * ended ≤ w.now.time)
      → walk_onward (play_step ask held) limit w ≡ walk_onward (play_step ask other) limit w
  onward-same w over e begun = search rules

  pub walk-same : (from : Moment Board) (n : ℕ) → frame_ticks * ended ≤ from.time
      → walk (play_step ask held) limit from n ≡ walk (play_step ask other) limit from n
  walk-same from zero begun = refl
  walk-same from (suc n) begun =
      let w = walk (play_step ask held) limit from n in
      onward-same w (has_ended limit w) refl
      (λ e. omega (arith, (going-far (play_step ask held) limit (play-timely ask held) from n e).time))
      ∙ ap (walk_onward (play_step ask other) limit) (walk-same from n begun)

-- ---- two plays, one after another

module _ {Board : Type 0} (ask : Questions Board) (first second : Play) (from : Moment Board) where
  abbrev both : Play
  both = plays_joined first second

  abbrev before : ℕ
  before = frames_gone from

  -- the frames that have gone by when the first play is over
  abbrev between : ℕ
  between = before + first.frames

  -- the inputs of a frame of both, by whether it is one of the first
  abbrev held_by : ℕ → Bool → ℕ
  held_by frame early = if early then first.held frame else second.held (frame - first.frames)

  first-held : (frame : ℕ) → frame ≤ between → first.held (frame - before) ≡ both.held (frame - before)
  first-held frame within = search rules

  second-held : (frame : ℕ) → between < frame → second.held (frame - between) ≡ both.held (frame - before)
  second-held frame later = search rules

  next-held : both.held (suc between - before) ≡ second.held 1
  next-held = search rules

  abbrev held_first : ℕ → ℕ
  held_first frame = first.held (frame - before)

  abbrev held_both : ℕ → ℕ
  held_both frame = both.held (frame - before)

  abbrev IsAlike : Walk Board → Walk Board → Type 0
  IsAlike = Alike ask held_first held_both between (second.held 1) first-held next-held

  abbrev begun : ℕ → Walk Board
  begun mask = walk_at_start (moment_held ask from mask)

  starts-alike : IsAlike (walk_at_start (resumed_start ask first from)) (walk_at_start (resumed_start ask both from))
  starts-alike = choose (nat_le 1 first.frames) refl
    where
      choose : (some : Bool) → nat_le 1 first.frames ≡ some
          → IsAlike (walk_at_start (resumed_start ask first from)) (walk_at_start (resumed_start ask both from))
      choose true e = search rules
      choose false e =
          let none : first.frames ≡ 0 = grind (arith, nat_tests) in
          let number : 1 - first.frames ≡ 1 = omega arith in
          let late : frame_ticks * between ≤ from.time = omega arith in
          inr (record {
            before = walk_at_start from;
            last = first.held 1;
            late = late;
            one_is = refl;
            other_is = ap begun (ap (held_by 1) e ∙ ap second.held number);
          })

  -- the first play's frames as a part of both
  abbrev half : Walk Board
  half = walk_to (resumed_step ask both before) (resumed_end first before) (resumed_start ask both from)

  halves-alike : IsAlike (resumed ask first from) half
  halves-alike = search (rules, first-held, next-held, starts-alike, walk-alike)

  within-both : resumed_end first before ≤ resumed_end both before
  within-both = omega arith

  abbrev timely : (now : Moment Board) → IsTimely now (resumed_step ask both before now)
  timely = play-timely ask held_both

  -- a stop that was met
  pub stopped-stays : (stop : Stop) → (resumed ask first from).stop ≡ Some stop → resumed ask both from ≡ resumed ask first from
  stopped-stays stop met = choose halves-alike
    where
      choose : IsAlike (resumed ask first from) half → resumed ask both from ≡ resumed ask first from
      choose (inl same) =
          let on = on-the-way (resumed_step ask both before) (resumed_end first before) (resumed_end both before)
          (resumed_start ask both from) (resumed_end first before) within-both in
          let there = same.1 ∙ on.1 in
          let stopped = ap (λ (w : Walk Board). w.stop) (sym there) ∙ met in
          sym (there ∙ ended-whole (resumed_step ask both before) (resumed_end both before) timely (resumed_start ask both from) on.0
          (stopped-has-ended (resumed_end both before) (resumed_at ask both from on.0) stop stopped))
      choose (inr apart) =
          let early = stopped-is-early (resumed_step ask first before) (resumed_end first before) (resumed_start ask first from)
          (resumed_end first before) stop met in
          absurd (omega (arith, early, ap (λ (w : Walk Board). w.now.time) apart.one_is))

  -- no stop
  module _ (last_held : LastIsHeld ask) (open_yet : (resumed ask first from).stop ≡ None) where
    abbrev middle : Moment Board
    middle = (resumed ask first from).now

    record Meets : Type 0 where
      start : resumed_start ask second middle ≡ half.now
      outputs : (resumed ask first from).outputs ≡ half.outputs

    meets : IsAlike (resumed ask first from) half → Meets
    meets alike = grind (arith, resumed-late)

    -- the second play's run is the rest of both
    second-is : resumed ask second middle ≡ walk_to (resumed_step ask both before) (resumed_end both before) half.now
    second-is =
        let gone = resumed-gone ask first from open_yet in
        let start = resumed_start ask second middle in
        let limit : resumed_end second between ≡ resumed_end both before = omega arith in
        ap (λ gone. walk_to (resumed_step ask second gone) (resumed_end second gone) start) gone
        ∙ ap (λ limit. walk_to (resumed_step ask second between) limit start) limit
        ∙ walk-same ask (λ frame. second.held (frame - between)) held_both between second-held (resumed_end both before) start
        (resumed_end both before) (resumed-late ask first from open_yet)
        ∙ ap (walk_to (resumed_step ask both before) (resumed_end both before)) (meets halves-alike).start

    whole-is : joined (resumed_step ask both before) (resumed_end both before) half
        (walk_to (resumed_step ask both before) (resumed_end both before) half.now) ≡ resumed ask both from
    whole-is =
        walks-joined (resumed_step ask both before) (resumed_end first before) (resumed_end both before) timely
        (resumed_start ask both from) within-both

    pub runs-on : JoinsPlays ask first second from
    runs-on = grind (arith, halves-alike, meets, second-is, whole-is)

-- ---- the laws

pub runs-are-continued : {Board : Type 0} → RunsAreContinued Board
runs-are-continued ask first second from last_held open_yet = runs-on ask first second from last_held open_yet

pub plays-join : PlaysJoin
plays-join set first second from open_yet = runs-on (by_view set) first second from (λ board before mask. refl) open_yet

pub stopped-runs-stay : {Board : Type 0} → StoppedRunsStay Board
stopped-runs-stay ask first second from stop met = stopped-stays ask first second from stop met
