-- A call for some time, put together from what its parts say.
use Rattle.pac_block.proofs.Common.{BoardState, BoardValue, Err, ExecFails, HasExecuted, HostFault, IsBlock, IsBlockOf, List, MayRun}
use Rattle.pac_block.proofs.Common.{NoRoom, Ok, PacRan, TooLong, board_after_exec, board_in, course, drop, length, outputs_given}
use Rattle.pac_block.proofs.Common.{picture_count, ran_of, roms_size, rules, run_ticks, samples_given, set_of_roms, sound_count, state_in}
use Rattle.pac_block.proofs.Common.{ℕ, ℤ, ◌++◌, ◌≡◌}

pub executed : (roms block : List ℕ) (microseconds : ℕ) (samples : List ℤ) (state : BoardState) (machine : BoardValue) (new : List ℕ)
    (after : List ℤ) (ran : PacRan) → length roms ≡ roms_size → IsBlock block
    → state ≡ state_in block → MayRun state microseconds (length samples) (Ok tt)
    → machine ≡ record { set = set_of_roms roms; state = state; made = 0 } → IsBlockOf (board_after_exec machine microseconds).state new
    → after ≡ samples_given (outputs_given machine microseconds) ++ drop (sound_count (outputs_given machine microseconds)) samples
    → ran ≡ ran_of (run_ticks machine microseconds) (sound_count (outputs_given machine microseconds))
    (picture_count (outputs_given machine microseconds)) (course machine microseconds).stop
    → HasExecuted roms block microseconds samples new after ran
executed roms block microseconds samples state machine new after ran roms_are is_block same may machine_is kept samples_are ran_is =
    let board : machine ≡ board_in roms block = search rules in
    let within = rw same at may.0 in
    let room = rw same at may.1 in
    let told = rw board at ran_is in search rules

-- why a call isn't done
pub may-not-run : (fault : HostFault) (roms block : List ℕ) (microseconds : ℕ) (samples : List ℤ) (state : BoardState)
    → length roms ≡ roms_size → IsBlock block → state ≡ state_in block → MayRun state microseconds (length samples) (Err fault)
    → ExecFails roms block microseconds samples fault
may-not-run TooLong roms block microseconds samples state roms_are is_block same not = (roms_are, is_block, rw same at not)
may-not-run NoRoom roms block microseconds samples state roms_are is_block same not =
    (roms_are, is_block, rw same at not.0, rw same at not.1)
may-not-run fault roms block microseconds samples state roms_are is_block same not = absurd not
