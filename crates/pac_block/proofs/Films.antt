-- A host that plays a script frame by frame hears and sees the script's trace.
use Rattle.pac_block.proofs.Common.{Answers, BoardState, BoardView, FollowedBy, HasBecome, Hold, HostFault, HostsPlayTheFilm, Image}
use Rattle.pac_block.proofs.Common.{IsHostFrame, IsWhole, List, Moment, None, Ok, Option, PacRan, Parts, Player, PlaysFrames, Result, Some}
use Rattle.pac_block.proofs.Common.{Stop, TellsRun, Walk, [], and_zero_r, ap, append_assoc, arith, asked_left, board_after}
use Rattle.pac_block.proofs.Common.{board_after_exec, board_holding, by_view, bytes_at_place, course, frame_steps, frame_ticks, heard}
use Rattle.pac_block.proofs.Common.{held_with, held_without, image_of, length, length-drop, length-take-le, map, map-append, next_frame}
use Rattle.pac_block.proofs.Common.{nothing_due, open-is-late, or_zero_l, picture_count, pictures_given, play-timely, power_on_board_view}
use Rattle.pac_block.proofs.Common.{power_on_moment, ran_read, refl, rgba_of_image, roms_size, rules, runs-agree, runs-end}
use Rattle.pac_block.proofs.Common.{runs-go-by-frames, samples_given, seen, set_of_roms, state_in, step, step-timely, stopped-is-early}
use Rattle.pac_block.proofs.Common.{subst, suc, sym, trace, walk-near, walk-to-ends, walk_to, with_frame, zero, ℕ, ℤ, ◌*◌, ◌++◌, ◌+◌, ◌<◌}
use Rattle.pac_block.proofs.Common.{◌∙◌, ◌≡◌, ◌≤◌}
use Rattle.pac_block.proofs.FrameWalks.{pictures-joined, as-many-pictures, ShowsFrame, walk-shows}
use Rattle.pac_block.proofs.Sounding.{samples-append}
use Rattle.pac_block.proofs.TimeParts.{ran-is-read, Tells, tells, kept, told_stop}

-- ---- the run, frame by frame

module _ (set : Parts) (switches : ℕ) (held : ℕ → ℕ) where
  abbrev run : ℕ → Walk BoardView
  run frames = trace (by_view set) (record { frames = frames; held = held }) (power_on_board_view switches)

  -- a frame's walk
  abbrev played : ℕ → Walk BoardView
  played frames = walk_to (step (by_view set)) (frame_ticks * suc frames) (run frames).now

  run-on : (frames : ℕ) → run (suc frames) ≡ next_frame (by_view set) held (suc frames) (run frames) (run frames).stop
  run-on frames =
      let by_frames = runs-go-by-frames (by_view set) held (power_on_board_view switches) in
      rw (← by_frames (suc frames), ← by_frames frames)

  -- after a frame that met this stop, or none
  run-goes : (frames : ℕ) (stop : Option Stop) → (run frames).stop ≡ None → (played frames).stop ≡ stop
      → run (suc frames) ≡ with_frame (by_view set) held (run frames) (played frames) stop
  run-goes frames stop open_yet goes = run-on frames ∙ rw (open_yet, goes) refl

  run-outputs : (frames : ℕ) (stop : Option Stop) → (run frames).stop ≡ None → (played frames).stop ≡ stop
      → (run (suc frames)).outputs ≡ (run frames).outputs ++ (played frames).outputs
  run-outputs frames stop open_yet goes = rw (run-goes frames stop open_yet goes) (search rules)

  -- a stop is for good
  run-stays : (frames more : ℕ) (stop : Stop) → (run frames).stop ≡ Some stop → run (frames + more) ≡ run frames
  run-stays frames zero stop ends = let same : frames + 0 ≡ frames = omega arith in ap run same
  run-stays frames (suc more) stop ends = grind (arith, run-on (frames + more), run-stays frames more stop ends, ends)

  -- where a frame begins, and where it ends
  run-late : (frames : ℕ) → (run frames).stop ≡ None → frame_ticks * frames ≤ (run frames).now.time
  run-late frames open_yet =
      open-is-late (frame_ticks * frames) (run frames)
      (runs-end (by_view set) (record { frames = frames; held = held }) (power_on_board_view switches) 0).0 open_yet

  run-near : (frames : ℕ) → (run frames).now.time < frame_ticks * frames + 23
  run-near frames = walk-near _ _ (play-timely (by_view set) held) _ (frame_steps * frames) (omega arith)

  played-late : (frames : ℕ) → (played frames).stop ≡ None → frame_ticks * suc frames ≤ (played frames).now.time
  played-late frames goes =
      open-is-late (frame_ticks * suc frames) (played frames)
      (walk-to-ends (step (by_view set)) (frame_ticks * suc frames) (step-timely (by_view set)) (run frames).now) goes

  played-near : (frames : ℕ) → (played frames).now.time < frame_ticks * suc frames + 23
  played-near frames =
      walk-near (step (by_view set)) (frame_ticks * suc frames) (step-timely (by_view set)) (run frames).now (frame_ticks * suc frames)
      (omega (arith, run-near frames))

  -- the pictures of a frame
  shows : (frames : ℕ) → (run frames).stop ≡ None
      → ShowsFrame set frames (played frames).now.time (played frames).outputs (played frames).now.board
  shows frames open_yet =
      walk-shows set frames (run frames).now (frame_ticks * suc frames) (run-late frames open_yet) (omega (arith, run-near frames))

  -- ---- a board between two frames

  abbrev with_held : ℕ → Moment BoardView → Moment BoardView
  with_held frame now = record now { board = board_after set now.board (Hold (held frame)) }

  -- once the next frame's inputs are held, it stands where the run does
  record IsBetween (frames : ℕ) (state : BoardState) : Type 0 where
    open_yet : (run frames).stop ≡ None
    now : with_held (suc frames) state.now ≡ (run frames).now
    asked : state.asked ≡ 16500 * frames
    due : state.due ≡ nothing_due

  -- the state with them held, and after the frame
  abbrev ready : ℕ → BoardState
  ready frames = record { now = (run frames).now; asked = 16500 * frames; due = nothing_due }

  abbrev after_frame : ℕ → BoardState
  after_frame frames = record { now = (played frames).now; asked = 16500 * frames + 16500; due = nothing_due }

  next-between : (frames : ℕ) → (run frames).stop ≡ None → (played frames).stop ≡ None → IsBetween (suc frames) (after_frame frames)
  next-between frames open_yet goes = grind (arith, played-late, played-near, run-goes frames None open_yet goes)

  -- the first frame's state
  first-between : IsBetween 0 (record { now = power_on_moment (power_on_board_view switches); asked = 0; due = nothing_due })
  first-between = record { open_yet = refl; now = refl; asked = refl; due = refl }

  -- a call for a frame is the frame's walk
  course-is : (frames : ℕ) → course (record { set = set; state = ready frames; made = 0 }) 16500 ≡ played frames
  course-is frames = search rules

-- ---- a call that answers 0 was done

pub was-done : (comes_to : Result (Unit {0}) HostFault → Type 0) → Answers comes_to 0 → comes_to (Ok tt)
was-done comes_to answers = search rules

-- ---- one frame of a host

module _ (roms : List ℕ) (switches : ℕ) (held : ℕ → ℕ) where
  abbrev set : Parts
  set = set_of_roms roms

  -- the inputs of a frame alone are held
  mask-is : (before inputs : ℕ) → held_with (held_without before 0xFFFF) inputs ≡ inputs
  mask-is before inputs = rw (and_zero_r before) (or_zero_l inputs)

  -- a board after the inputs of a frame are held
  held-state : (frame : ℕ) (block between : List ℕ) → HasBecome (board_holding (held frame) 0xFFFF) block between
      → state_in between ≡ record (state_in block) { now = with_held set switches held frame (state_in block).now }
  held-state frame block between done = rw (← mask-is (state_in block).now.board.memory.held (held frame)) (done.board roms).state_is

  -- the state after a frame that met this stop, or none
  abbrev left_after : ℕ → Walk BoardView → Option Stop → BoardState
  left_after frames walked stop =
      record { now = walked.now; asked = asked_left stop (16500 * frames + 16500) walked.now.time; due = nothing_due }

  -- what a frame's calls leave of a board that stands between two frames
  record IsFrameOf (frames : ℕ) (new : Player) : Type 0 where
    sound : heard new ≡ samples_given (played set switches held frames).outputs
    pictures : (ran_read new.told).pictures ≡ picture_count (played set switches held frames).outputs
    stop : (ran_read new.told).stop ≡ (told_stop (played set switches held frames).stop).stop
    state_is : (played set switches held frames).stop ≡ None → state_in new.block ≡ after_frame set switches held frames
    drawn : new.rgba ≡ rgba_of_image (image_of set (played set switches held frames).now.board.lines)

  frame-of : (frames : ℕ) (old new : Player) → IsBetween set switches held frames (state_in old.block)
      → IsHostFrame roms (held (suc frames)) old new → IsFrameOf frames new
  frame-of frames old new stands done =
      let tells_run : TellsRun roms done.between 16500 old.samples new.block new.samples new.told = was-done _ done.exec in
      let ran = tells_run.ran in
      let executes = tells_run.executed in
      let read = ran-is-read roms done.between 16500 old.samples new.block new.samples ran executes in
      let draws = was-done _ done.draw in
      let begun : state_in done.between ≡ ready set switches held frames =
      held-state (suc frames) old.block done.between (was-done _ done.hold)
      ∙ (λ i. record { now = stands.now i; asked = stands.asked i; due = stands.due i }) in
      let told = subst (Tells roms 16500 new.block new.samples ran) begun
      (tells roms done.between 16500 old.samples new.block new.samples ran executes) in
      let same = course-is set switches held frames in
      let after : state_in new.block ≡ left_after frames (played set switches held frames) (played set switches held frames).stop =
      executes.board.state_is
      ∙ ap (λ state. (board_after_exec (kept roms state) 16500).state) begun
      ∙ ap (λ (walked : Walk BoardView). left_after frames walked walked.stop) same in
      record {
        sound = cc (tells_run.told_is, read.samples, told.taken, same);
        pictures = cc (tells_run.told_is, read.pictures, told.pictures, same);
        stop =
            rw (tells_run.told_is, read.stop)
            (ap (λ (ran : PacRan). ran.stop) told.stop ∙ ap (λ (walked : Walk BoardView). (told_stop walked.stop).stop) same);
        state_is = λ goes. rw goes at after;
        drawn = cc (draws.drawn, after);
      }

  -- the pictures that a host sees of the frame
  abbrev drawn_of : List Image → List (List ℕ)
  drawn_of images = map rgba_of_image images

  seen-frame : (frames : ℕ) (new : Player) (stop : Option Stop) → IsFrameOf frames new → (run set switches held frames).stop ≡ None
      → (played set switches held frames).stop ≡ stop → seen new ≡ drawn_of (pictures_given (played set switches held frames).outputs)
  seen-frame frames new None is open_yet goes =
      let shown =
      (shows set switches held frames open_yet).late (played-late set switches held frames goes) (played-near set switches held frames) in
      rw (is.pictures, ← as-many-pictures (played set switches held frames).outputs, shown, is.drawn)
  seen-frame frames new (Some stop) is open_yet ends =
      let shown = (shows set switches held frames open_yet).early
      (stopped-is-early (step (by_view set)) (frame_ticks * suc frames) (run set switches held frames).now (frame_ticks * suc frames) stop
      ends) in
      rw (is.pictures, ← as-many-pictures (played set switches held frames).outputs, shown)

  -- ---- all frames from one on

  -- all that a host heard and saw up to a frame, and after it, is the run's
  record IsRun (frames last : ℕ) (sound : List ℤ) (pictures : List (List ℕ)) : Type 0 where
    sound_is : samples_given (run set switches held frames).outputs ++ sound ≡ samples_given (run set switches held last).outputs
    pictures_are :
        drawn_of (pictures_given (run set switches held frames).outputs) ++ pictures
        ≡ drawn_of (pictures_given (run set switches held last).outputs)

  -- nothing follows
  nothing-more : (frames last : ℕ) (sound : List ℤ) (pictures : List (List ℕ)) → run set switches held last ≡ run set switches held frames
      → (sound ≡ []) × (pictures ≡ []) → IsRun frames last sound pictures
  nothing-more frames last sound pictures same none = search rules

  -- a frame, and what follows
  frame-first : (frames last : ℕ) (new : Player) (more : List ℤ) (others : List (List ℕ)) → IsFrameOf frames new
      → (run set switches held (suc frames)).outputs ≡ (run set switches held frames).outputs ++ (played set switches held frames).outputs
      → seen new ≡ drawn_of (pictures_given (played set switches held frames).outputs) → IsRun (suc frames) last more others
      → IsRun frames last (heard new ++ more) (seen new ++ others)
  frame-first frames last new more others is whole pictures rest =
      record {
        sound_is = rw (is.sound, ← append_assoc, ← samples-append, ← whole) rest.sound_is;
        pictures_are = rw (pictures, ← append_assoc, ← map-append, ← pictures-joined, ← whole) rest.pictures_are;
      }

  stopped-alone : (stop : Stop) (others : List ℤ → List (List ℕ) → Type 0) (sound : List ℤ) (pictures : List (List ℕ))
      → FollowedBy (told_stop (Some stop)).stop others sound pictures → (sound ≡ []) × (pictures ≡ [])
  stopped-alone stop others sound pictures after = search rules

  frames-are-run : (left frames : ℕ) (old : Player) (sound : List ℤ) (pictures : List (List ℕ))
      → IsBetween set switches held frames (state_in old.block)
      → PlaysFrames roms held (suc frames) left old sound pictures → IsRun frames (frames + left) sound pictures
  frames-are-run zero frames old sound pictures stands none =
      let same : frames + 0 ≡ frames = omega arith in nothing-more frames _ sound pictures (ap (run set switches held) same) none
  frames-are-run (suc left) frames old sound pictures stands plays =
      let is = frame-of _ _ _ stands plays.frame in
      let stop = (played set switches held frames).stop in
      rw (plays.sound_is, plays.pictures_are)
      (frame-first _ _ _ _ _ is (run-outputs set switches held frames stop stands.open_yet refl)
      (seen-frame frames plays.new stop is stands.open_yet refl)
      (choose (λ next after. frames-are-run left (suc frames) plays.new plays.more plays.others_seen next after) is stop refl
      (rw is.stop at plays.after)))
    where
      number : suc frames + left ≡ frames + suc left
      number = omega arith

      choose : (IsBetween set switches held (suc frames) (state_in plays.new.block)
          → PlaysFrames roms held (suc (suc frames)) left plays.new plays.more plays.others_seen
          → IsRun (suc frames) (suc frames + left) plays.more plays.others_seen)
          → IsFrameOf frames plays.new → (stop : Option Stop) → (played set switches held frames).stop ≡ stop
          → FollowedBy (told_stop stop).stop (λ sound pictures. PlaysFrames roms held (suc (suc frames)) left plays.new sound pictures)
          plays.more plays.others_seen → IsRun (suc frames) (frames + suc left) plays.more plays.others_seen
      choose on is None goes after =
          let next = subst (IsBetween set switches held (suc frames)) (sym (is.state_is goes))
          (next-between set switches held frames stands.open_yet goes) in
          subst (λ last. IsRun (suc frames) last plays.more plays.others_seen) number (on next after)
      choose on is (Some stop) ends after =
          let met = ap (λ (w : Walk BoardView). w.stop) (run-goes set switches held frames (Some stop) stands.open_yet ends) in
          nothing-more (suc frames) (frames + suc left) plays.more plays.others_seen
          (ap (run set switches held) (sym number) ∙ run-stays set switches held (suc frames) left stop met)
          (stopped-alone stop _ plays.more plays.others_seen after)

-- ---- from power-on

part-size : (at size : ℕ) (roms : List ℕ) → at + size ≤ length roms → length (bytes_at_place at size roms) ≡ size
part-size at size roms room = grind (arith, length-drop, length-take-le)

-- ROMs of their length are whole
roms-whole : (roms : List ℕ) → length roms ≡ roms_size → IsWhole (set_of_roms roms)
unfolding set_of_roms
roms-whole roms long = search (rules, arith, part-size)

pub hosts-play-the-film : HostsPlayTheFilm
hosts-play-the-film roms items switches play block player sound pictures lie init plays =
    let begun = was-done _ init in
    let set = set_of_roms roms in
    let first = subst (IsBetween set switches play.held 0) (sym begun.board.state_is) (first-between set switches play.held) in
    let last : 0 + play.frames ≡ play.frames = omega arith in
    let all = subst (λ frames. IsRun roms switches play.held 0 frames sound pictures) last
    (frames-are-run roms switches play.held play.frames 0 player sound pictures first plays) in
    let viewed = runs-agree set items switches (frame_steps * play.frames) play (roms-whole roms begun.roms_are) lie in
    let outputs = ap (λ (w : Walk BoardView). w.outputs) viewed in
    record {
      sound_is = all.sound_is ∙ ap samples_given (sym outputs);
      pictures_are = all.pictures_are ∙ ap (λ outputs. map rgba_of_image (pictures_given outputs)) (sym outputs);
    }
