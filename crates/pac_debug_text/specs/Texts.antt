-- Believed: the texts that answer a command (this profile). A text is the join of its pieces.
use Rattle.std.specs.Prelude.{ℕ, Bool, true, false, List, [], ◌∷◌, codes, decimal}
use Rattle.std.specs.List.{flat_map}
use Rattle.pac_dis.specs.Hexadecimal.{hex_byte, hex_word}
use Rattle.pac_exec.specs.InterruptMode.{InterruptMode}
use Rattle.pac_exec.specs.InterruptModeVariants.{Zero, One, Two}
use Rattle.pac_exec.specs.declared.regs.Regs.{Regs}
use Rattle.pac_exec.specs.declared.regs.Alternate.{Alternate}
use Rattle.pac_dis.specs.Texts.{text_at}
use Rattle.pac_out.specs.Pieces.{joined_pieces}
use Rattle.pac_debug_text.specs.declared.history.Done.{Done}
use Rattle.pac_debug_text.specs.declared.history.Done.TheVariants as done
use Rattle.pac_debug_text.specs.declared.history.HistoryLine.{HistoryLine}
use Rattle.pac_debug_text.specs.declared.place.Ending.{Ending}
use Rattle.pac_debug_text.specs.declared.place.Ending.TheVariants as endings
use Rattle.pac_debug_text.specs.declared.place.Place.{Place}
use Rattle.pac_debug_text.specs.declared.refusal.Refusal.{Refusal}
use Rattle.pac_debug_text.specs.declared.refusal.Refusal.TheVariants as refusals
use Rattle.pac_debug_text.specs.declared.registers.Latches.{Latches}

-- ---- a command that was done, and one that was refused

abbrev pub ok_text : List ℕ
ok_text = codes "ok\n"

abbrev pub too_far_back_text : ℕ → List ℕ
too_far_back_text oldest = joined_pieces (codes "refused G2 oldest " ∷ decimal oldest ∷ codes "\n" ∷ [])

abbrev pub refusal_text : Refusal → List ℕ
refusal_text refusals.NoCommand = codes "refused G1\n"
refusal_text (refusals.TooFarBack oldest) = too_far_back_text oldest
refusal_text refusals.EmptySlot = codes "refused G3\n"
refusal_text refusals.NoRoom = codes "refused G4\n"

-- ---- where a session stands

-- what ended a command that moves
abbrev pub ending_text : Ending → List ℕ
ending_text endings.Step = codes "step"
ending_text endings.Break = codes "break"
ending_text endings.Frame = codes "frame"
ending_text endings.Stop = codes "stop"
ending_text endings.End = codes "end"
ending_text endings.Back = codes "back"
ending_text endings.Return = codes "return"

abbrev pub halted_text : List ℕ
halted_text = codes "HALTED"

-- what is done next: the instruction at PC, unless the processor is halted
abbrev pub next_text : Bool → ℕ → List ℕ → List ℕ
next_text true pc code = halted_text
next_text false pc code = text_at pc code

-- the line of a place: `break 2 20 0005 HALT`
unfoldable pub place_text : Ending → Place → List ℕ
place_text ending place =
    joined_pieces (ending_text ending ∷ codes " " ∷ decimal place.index ∷ codes " " ∷ decimal place.time ∷ codes " " ∷ hex_word place.pc
    ∷ codes " " ∷ next_text place.halted place.pc place.code ∷ codes "\n" ∷ [])

-- ---- what was done

abbrev pub interrupt_text : List ℕ
interrupt_text = codes "INTERRUPT"

abbrev pub done_text : ℕ → Done → List ℕ
done_text pc (done.Ran code) = text_at pc code
done_text pc done.Halted = halted_text
done_text pc done.Accepted = interrupt_text

-- the line of a step, by what was there before it: `12667 000C INTERRUPT`
unfoldable pub past_step_text : HistoryLine → List ℕ
past_step_text step =
    joined_pieces (decimal step.index ∷ codes " " ∷ hex_word step.pc ∷ codes " " ∷ done_text step.pc step.done ∷ codes "\n" ∷ [])

-- the lines of steps, in their order
abbrev pub history_text : List HistoryLine → List ℕ
history_text steps = flat_map past_step_text steps

-- ---- the registers

abbrev pub mode_text : InterruptMode → List ℕ
mode_text Zero = codes "0"
mode_text One = codes "1"
mode_text Two = codes "2"

abbrev pub flag_text : Bool → List ℕ
flag_text false = codes "0"
flag_text true = codes "1"

-- the pairs in use, a line
unfoldable pub pairs_text : Regs → List ℕ
pairs_text regs =
    joined_pieces (codes "AF=" ∷ hex_byte regs.a ∷ hex_byte regs.f ∷ codes " BC=" ∷ hex_byte regs.b ∷ hex_byte regs.c
    ∷ codes " DE=" ∷ hex_byte regs.d ∷ hex_byte regs.e ∷ codes " HL=" ∷ hex_byte regs.h ∷ hex_byte regs.l
    ∷ codes " IX=" ∷ hex_word regs.ix ∷ codes " IY=" ∷ hex_word regs.iy ∷ codes " SP=" ∷ hex_word regs.sp
    ∷ codes " PC=" ∷ hex_word regs.pc ∷ codes "\n" ∷ [])

-- the second set of registers, which begins the second line
unfoldable pub alternate_text : Alternate → List ℕ
alternate_text other =
    joined_pieces (codes "AF'=" ∷ hex_byte other.a ∷ hex_byte other.f ∷ codes " BC'=" ∷ hex_byte other.b ∷ hex_byte other.c
    ∷ codes " DE'=" ∷ hex_byte other.d ∷ hex_byte other.e ∷ codes " HL'=" ∷ hex_byte other.h ∷ hex_byte other.l ∷ [])

-- what interrupts hang on, after the second set: I, R, the mode, IFF1 and IFF2
unfoldable pub interrupts_text : Regs → List ℕ
interrupts_text regs =
    joined_pieces (codes " I=" ∷ hex_byte regs.i ∷ codes " R=" ∷ hex_byte regs.r ∷ codes " IM=" ∷ mode_text regs.mode
    ∷ codes " IFF=" ∷ flag_text regs.iff1 ∷ flag_text regs.iff2 ∷ [])

-- the board's latch, its vector and the count of its watchdog, which is decimal: the end of the second line
unfoldable pub latches_text : Latches → List ℕ
latches_text latches =
    joined_pieces (codes " LATCH=" ∷ hex_byte latches.latch ∷ codes " VEC=" ∷ hex_byte latches.vector ∷ codes " WD=" ∷
    decimal latches.watchdog
    ∷ codes "\n" ∷ [])

-- the two lines of the registers
abbrev pub registers_text : Regs → Latches → List ℕ
registers_text regs latches =
    joined_pieces (pairs_text regs ∷ alternate_text regs.alternate ∷ interrupts_text regs ∷ latches_text latches ∷ [])
