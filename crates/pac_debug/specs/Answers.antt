-- Believed: what a command is answered with, as a text of the session as the command left it.
use Rattle.std.specs.Prelude.{ℕ, ◌-◌, List, [], ◌∷◌, ◌++◌, length, drop, map}
use Rattle.pac_board.specs.StepKind.{StepKind}
use Rattle.pac_board.specs.StepKindVariants as kinds
use Rattle.pac_board.specs.Latched.{Latched, byte_of_latch}
use Rattle.pac_board.specs.MemoryContents.{read_of}
use Rattle.pac_code.specs.Instructions.{code}
use Rattle.pac_board.specs.BoardView.{BoardView}
use Rattle.pac_board.specs.Step.{Moment}
use Rattle.pac_debug_text.specs.declared.history.Done.{Done}
use Rattle.pac_debug_text.specs.declared.history.Done.TheVariants as done
use Rattle.pac_debug_text.specs.declared.history.HistoryLine.{HistoryLine}
use Rattle.pac_debug_text.specs.declared.place.Ending.{Ending}
use Rattle.pac_debug_text.specs.declared.place.Ending.TheVariants as endings
use Rattle.pac_debug_text.specs.declared.place.Place.{Place}
use Rattle.pac_debug_text.specs.declared.registers.Latches.{Latches}
use Rattle.pac_debug_text.specs.Peeks.{bytes_from, memory_text, instructions_text}
use Rattle.pac_debug_text.specs.Texts.{ok_text, refusal_text, place_text, history_text, registers_text}
use Rattle.pac_debug_session.specs.PastStep as told
use Rattle.pac_debug_session.specs.declared.motion.MotionEnd as rest
use Rattle.pac_debug_session.specs.declared.motion.MotionEnd.TheVariants as rests
use Rattle.pac_debug_session.specs.Past.{told_at}
use Rattle.pac_debug_session.specs.Running.{now_at}
use Rattle.pac_debug_session.specs.Session.{SessionValue}
use Rattle.pac_debug.specs.declared.answer.Answer.{Answer}
use Rattle.pac_debug.specs.declared.answer.Answer.TheVariants as answers

-- the word for why a motion rests
abbrev pub ending_of : rest.MotionEnd → Ending
ending_of (rests.AtStop stop) = endings.Stop
ending_of rests.AtEnd = endings.End
ending_of rests.AtBreakpoint = endings.Break
ending_of rests.AtFrame = endings.Frame
ending_of rests.AtStep = endings.Step

-- ---- what is seen at the session's index

abbrev pub session_moment : SessionValue → Moment BoardView
session_moment s = now_at s.setting s.index

-- the byte that the processor would read at an address
abbrev pub session_byte_at : SessionValue → ℕ → ℕ
session_byte_at s = read_of s.setting.set.program (session_moment s).board.memory

abbrev pub session_place : SessionValue → Place
session_place s = record {
  index = s.index;
  time = (session_moment s).time;
  pc = (session_moment s).regs.pc;
  halted = (session_moment s).regs.halted;
  code = bytes_from (session_byte_at s) (session_moment s).regs.pc 4;
}

-- what the board's latches keep
abbrev pub latches_in : Latched → Latches
latches_in latched = record { latch = byte_of_latch latched.bits; vector = latched.vector; watchdog = latched.count }

abbrev pub latches_of : SessionValue → Latches
latches_of s = latches_in (session_moment s).board.memory.latched

-- ---- the steps before it

-- the bytes of an instruction, and zeros after them: four bytes in all
abbrev pub padded_bytes : List ℕ → List ℕ
padded_bytes bytes = bytes ++ drop (length bytes) (0 ∷ 0 ∷ 0 ∷ 0 ∷ [])

abbrev pub done_of : StepKind → Done
done_of (kinds.Ran instruction) = done.Ran (padded_bytes (code instruction))
done_of kinds.Halted = done.Halted
done_of kinds.Accepted = done.Accepted

abbrev pub past_step_line : told.PastStep → HistoryLine
past_step_line step = record { index = step.index; pc = step.pc; done = done_of step.kind }

-- the last ones of a list, so many at most
abbrev pub last_ones : {A : Type 0} → ℕ → List A → List A
last_ones count list = drop (length list - count) list

-- the steps that are told, and the last of them, so many at most
abbrev pub told_lines : SessionValue → List HistoryLine
told_lines s = map past_step_line (told_at s.setting s.index)

abbrev pub last_steps : SessionValue → ℕ → List HistoryLine
last_steps s count = last_ones count (told_lines s)

-- ---- the text

abbrev pub answer_text : SessionValue → Answer → List ℕ
answer_text s answers.Done = ok_text
answer_text s (answers.Refused why) = refusal_text why
answer_text s (answers.Moved ending) = place_text ending (session_place s)
answer_text s answers.Registers = registers_text (session_moment s).regs (latches_of s)
answer_text s (answers.Bytes at count) = memory_text (session_byte_at s) at count
answer_text s (answers.Instructions at count) = instructions_text (session_byte_at s) count at
answer_text s (answers.Steps count) = history_text (last_steps s count)
