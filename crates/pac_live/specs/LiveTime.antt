-- Believed: time on a live board: a call for some microseconds, as on a block.
use Rattle.std.specs.Prelude.{◌≡◌, ◌<◌, ◌≤◌, ℕ, ℤ, ◌+◌, List, ◌++◌, drop, Ok, Err}
use Rattle.pac_board.specs.Calls.{course, outputs_given}
use Rattle.pac_board.specs.Calls.{run_ticks}
use Rattle.pac_board.specs.Output.{sound_count, picture_count}
use Rattle.pac_board.specs.State.{BoardValue, most_asked}
use Rattle.pac_block.specs.declared.codes.HostFault.{HostFault}
use Rattle.pac_block.specs.declared.codes.HostFault.TheVariants.{TooLong, NoRoom}
use Rattle.pac_block.specs.declared.ran.PacRan.{PacRan}
use Rattle.pac_block.specs.Codes.{ran_of, ran_bytes}
use Rattle.pac_block.specs.Host.{board_after_exec, most_samples, room_of, samples_given}
use Rattle.pac_live.specs.Live.{BoardCall}

-- a call for so many microseconds on a board, which was done: as on a block
pub record HasRunOn (old : BoardValue) (microseconds : ℕ) (samples : List ℤ) (new : BoardValue) (samples_after : List ℤ) (ran : PacRan)
    : Type 0 where
  pub within : old.state.asked + microseconds ≤ most_asked
  pub room : most_samples old.state microseconds ≤ room_of samples
  pub board : new ≡ board_after_exec old microseconds
  pub samples_are :
      samples_after ≡ samples_given (outputs_given old microseconds) ++ drop (sound_count (outputs_given old microseconds)) samples
  pub ran_is :
      ran
      ≡ ran_of (run_ticks old microseconds) (sound_count (outputs_given old microseconds))
      (picture_count (outputs_given old microseconds)) (course old microseconds).stop

-- why it isn't done
abbrev pub RunFails : BoardValue → (microseconds : ℕ) (samples : List ℤ) → HostFault → Type 0
RunFails board microseconds samples TooLong = most_asked < board.state.asked + microseconds
RunFails board microseconds samples NoRoom =
    (board.state.asked + microseconds ≤ most_asked) × (room_of samples < most_samples board.state microseconds)
RunFails board microseconds samples fault = ⊥

-- it is told in 32 bytes
pub record IsRanTold (done : PacRan → Type 0) (told : List ℕ) : Type 0 where
  pub ran : PacRan
  pub ran_is : done ran
  pub told_is : told ≡ ran_bytes ran

abbrev pub Executing : (microseconds : ℕ) (samples samples_after : List ℤ) (told told_after : List ℕ) → BoardCall
Executing microseconds samples samples_after told told_after (Ok done) old new =
    IsRanTold (HasRunOn old microseconds samples new samples_after) told_after
Executing microseconds samples samples_after told told_after (Err fault) old new =
    RunFails old microseconds samples fault × (new ≡ old) × (samples_after ≡ samples) × (told_after ≡ told)
