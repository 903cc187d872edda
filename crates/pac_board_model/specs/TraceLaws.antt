-- Law: what is proved of the definitions of Trace.antt.
use Rattle.pac_board_model.specs.Step.{Questions, Moment}
use Rattle.pac_board_model.specs.Trace.{Play, resumed_step, frames_gone, resumed_end, resumed_start}
use Rattle.std.specs.Prelude.{ℕ, nat_le, ◌+◌, ◌-◌, if◌then◌else◌}
use Rattle.pac_board_model.specs.Walk.{Walk, walk}

-- the run of a play from a moment on, by the number of its steps, and the whole of it
abbrev pub resumed_at : {Board : Type 0} → Questions Board → Play → (from : Moment Board) → (index : ℕ) → Walk Board
resumed_at ask play from index =
    walk (resumed_step ask play (frames_gone from)) (resumed_end play (frames_gone from)) (resumed_start ask play from) index

-- two plays one after another: the frames of the first, and then those of the second
abbrev pub plays_joined : (first second : Play) → Play
plays_joined first second = record {
  frames = first.frames + second.frames;
  held = λ frame. if nat_le frame first.frames then first.held frame else second.held (frame - first.frames);
}
