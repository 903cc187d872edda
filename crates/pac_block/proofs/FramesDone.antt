-- No call of a host that plays frame by frame fails.
use Rattle.pac_block.proofs.Common.{AllFramesAreDone, Becomes, BoardState, Draws, Err, ExecFails, Execs, FrameCalls, HasRoom, HostFault}
use Rattle.pac_block.proofs.Common.{IsBetweenFrames, IsBlock, IsFrameAnswered, IsNotBehind, List, NoBoard, NoRoom, Ok, Player, Result}
use Rattle.pac_block.proofs.Common.{TooLong, WrongLength, all_inputs, ap, arith, asked_in, board_holding, board_in, code_of, inl, inr}
use Rattle.pac_block.proofs.Common.{length, most_asked, most_samples, refl, rgba_size, roms_size, room_of, state_in, subst, sym, ℕ, ℤ, ◌+◌}
use Rattle.pac_block.proofs.Common.{◌≡◌, ◌≤◌}
use Rattle.pac_block.proofs.Films.{was-done}
use Rattle.pac_block.proofs.Stops.{left-not-behind}
use Rattle.pac_block.proofs.TimeParts.{room-bounded}

-- ---- each call

-- done, and so its code is 0
record IsDone (comes_to : Result (Unit {0}) HostFault → Type 0) (code : ℕ) : Type 0 where
  code_is : code ≡ 0
  done : comes_to (Ok tt)

call-done : (comes_to : Result (Unit {0}) HostFault → Type 0) (code : ℕ) (answer : Result (Unit {0}) HostFault) → code ≡ code_of answer
    → comes_to answer → ((fault : HostFault) → comes_to (Err fault) → ⊥) → IsDone comes_to code
call-done comes_to code (Ok tt) is does never = record { code_is = is; done = does }
call-done comes_to code (Err fault) is does never = absurd (never fault does)

held-done : (inputs : ℕ) (old new : List ℕ) → IsBlock old → (fault : HostFault)
    → Becomes (board_holding inputs all_inputs) old (Err fault) new → ⊥
held-done inputs old new block NoBoard not = not.0 block
held-done inputs old new block fault not = not.0

exec-done : (roms block : List ℕ) (samples : List ℤ) → length roms ≡ roms_size → IsBlock block → asked_in block + 16500 ≤ most_asked
    → most_samples (state_in block) 16500 ≤ room_of samples → (fault : HostFault) → ExecFails roms block 16500 samples fault → ⊥
exec-done roms block samples roms_are is_block within room WrongLength not = not roms_are
exec-done roms block samples roms_are is_block within room NoBoard not = not.1 is_block
exec-done roms block samples roms_are is_block within room TooLong not = let far = not.2 in omega (arith, far, within)
exec-done roms block samples roms_are is_block within room NoRoom not = let few = not.3 in omega (arith, few, room)
exec-done roms block samples roms_are is_block within room fault not = not

drawn-done : (roms block old new : List ℕ) → length roms ≡ roms_size → length old ≡ rgba_size → IsBlock block → (fault : HostFault)
    → Draws roms block old (Err fault) new → ⊥
drawn-done roms block old new roms_are size is_block WrongLength (inl wrong, same) = wrong roms_are
drawn-done roms block old new roms_are size is_block WrongLength (inr wrong, same) = wrong size
drawn-done roms block old new roms_are size is_block NoBoard not = not.0.2 is_block
drawn-done roms block old new roms_are size is_block fault not = not.0

-- ---- a frame

frame-done : (roms : List ℕ) (inputs hold_code exec_code draw_code : ℕ) (old new : Player) → HasRoom roms old → IsBetweenFrames old.block
    → asked_in old.block + 16500 ≤ most_asked → FrameCalls roms inputs hold_code exec_code draw_code old new
    → IsFrameAnswered hold_code exec_code draw_code new
frame-done roms inputs hold_code exec_code draw_code old new room stands within calls =
    let hold = call-done (λ answer. Becomes (board_holding inputs all_inputs) old.block answer calls.between) hold_code calls.hold.answer
    calls.hold.code_is calls.hold.done (held-done inputs old.block calls.between stands.block_is) in
    let held = hold.done.board roms in
    let asked : asked_in calls.between ≡ asked_in old.block = ap (λ (state : BoardState). state.asked) held.state_is in
    let in_time = subst IsNotBehind (sym held.state_is) (record { asked = stands.in_time.asked; due = stands.in_time.due }) in
    let few = room-bounded (state_in calls.between) 16500 in_time in
    let exec = call-done (λ answer. Execs roms calls.between 16500 old.samples old.told answer new.block new.samples new.told)
    _ _ calls.exec.code_is calls.exec.done (λ fault not. exec-done roms calls.between old.samples room.roms_are held.block_is
    (subst (λ n. n + 16500 ≤ most_asked) (sym asked) within) (omega (arith, few)) fault not.0) in
    let executes = exec.done.executed in
    let draw = call-done (λ answer. Draws roms new.block old.rgba answer new.rgba) _ _ calls.draw.code_is calls.draw.done
    (drawn-done roms new.block old.rgba new.rgba room.roms_are room.rgba executes.board.block_is) in
    record {
      hold = hold.code_is;
      exec = exec.code_is;
      draw = draw.code_is;
      goes_on = record {
        block_is = executes.board.block_is;
        in_time = subst IsNotBehind (sym executes.board.state_is) (left-not-behind (board_in roms calls.between) 16500);
      };
    }

pub frames-are-done : AllFramesAreDone
frames-are-done roms = record {
  first = λ switches old new init.
      let begun = was-done _ init in
      record {
        block_is = begun.board.block_is;
        in_time = subst IsNotBehind (sym begun.board.state_is) (record { asked = omega arith; due = refl });
      };
  each = frame-done roms;
}
