-- For proofs: what a session's fields say, and what holds of them.
use Rattle.std.specs.Prelude.{◌≡◌, ◌<◌, ◌≤◌, ℕ, ◌+◌, ◌*◌, true, List, length, map}
use Rattle.pac_board_course.specs.Stretches.{total_frames, most_frames}
use Rattle.pac_board_course.specs.BoardView.{BoardView}
use Rattle.pac_board_course.specs.Step.{Moment}
use Rattle.pac_board_course.specs.PastStep.{PastStep}
use Rattle.pac_debug_session.specs.declared.kept.SlotContents.{SlotContents}
use Rattle.pac_debug_session.specs.declared.session.Session.TheInside.{Inside}
use Rattle.pac_debug_session.specs.Keeping.{Ring, AreCheckpoints, AreSlots, mark_of}
use Rattle.pac_debug_session.specs.Motions.{checkpoint_steps, checkpoint_count}
use Rattle.pac_debug_session.specs.Past.{told_at}
use Rattle.pac_debug_session.specs.Running.{Setting, now_at, limit, goes_at}
use Rattle.pac_debug_session.specs.Session.{SessionValue, most_breakpoints}
use Rattle.pac_debug_session.specs.SessionLaws.{AreSeen, slot_count}

abbrev pub session_setting : Inside → Setting
session_setting inside = record { set = inside.board.value.set; switches = inside.switches; script = inside.script }

abbrev pub session_view : Inside → SessionValue
session_view inside = record {
  setting = session_setting inside;
  index = inside.board.value.state.now.steps;
  furthest = inside.furthest;
  breakpoints = inside.breakpoints;
  slots = map mark_of inside.slots.items;
  due = inside.board.value.state.due;
  made = inside.board.value.made;
  replayed = inside.replayed;
}

-- where a session stands, over plain values
pub record IsStanding (setting : Setting) (now : Moment BoardView) (history : List PastStep) (furthest : ℕ) (ring : Ring) : Type 0 where
  -- the board is that of its index, which was seen, and the steps before it are told
  pub now_is : now ≡ now_at setting now.steps
  pub within : now.steps ≤ furthest
  pub history_is : history ≡ told_at setting now.steps
  -- up to the furthest index the run goes on
  pub goes : (earlier : ℕ) → earlier < furthest → goes_at setting earlier ≡ true
  -- a checkpoint was taken as the session left each 4,096th index
  pub few : checkpoint_steps * ring.taken ≤ furthest + checkpoint_steps
  pub enough : furthest ≤ checkpoint_steps * ring.taken
  pub all : length ring.kept ≡ checkpoint_count
  pub checkpoints : AreCheckpoints setting ring.taken ring.kept

-- what its slots keep was seen
pub record AreSlotsRight (setting : Setting) (furthest : ℕ) (slots : List SlotContents) : Type 0 where
  pub count : length slots ≡ slot_count
  pub kept : AreSlots setting slots
  pub seen : AreSeen furthest (map mark_of slots)

pub record IsInsideRight (inside : Inside) : Type 0 where
  pub limit : inside.limit ≡ limit (session_setting inside)
  pub short : total_frames inside.script ≤ most_frames
  -- a session goes by steps, and asks its board for no microseconds
  pub unasked : inside.board.value.state.asked ≡ 0
  pub standing : IsStanding (session_setting inside) inside.board.value.state.now inside.history inside.furthest inside.checkpoints
  pub slots : AreSlotsRight (session_setting inside) inside.furthest inside.slots.items
  pub breakpoints : length inside.breakpoints ≤ most_breakpoints
