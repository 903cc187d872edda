-- What is told of time on a host's board, time that is cut, and the room that it needs.
use Rattle.pac_block.proofs.Common.{AreDoneOver, BoardState, BoardValue, BoardView, Bool, HasExecuted, HoldInputs, HostCall}
use Rattle.pac_block.proofs.Common.{HostTimeCanBeCut, IsCallDone, IsNotBehind, KeepsUp, LetTimePass, List, None, NoneTakesAFile, Option}
use Rattle.pac_block.proofs.Common.{Output, PacRan, PowerOn, ResetNow, RoomIsBounded, RoomIsEnough, Show, Some, Sound, Stop}
use Rattle.pac_block.proofs.Common.{StopsAreMetAgain, TakeFile, TakesNoFile, TimeCanBeCut, Walk, [], ap, arith, block_text}
use Rattle.pac_block.proofs.Common.{board_after_exec, board_in, course, drop, false, from_le_bytes-to_le_bytes_4, if◌then◌else◌}
use Rattle.pac_block.proofs.Common.{most_samples, outputs_given, picture_count, ran_bytes, ran_of, ran_read, refl, rules, run_ticks}
use Rattle.pac_block.proofs.Common.{samples_given, set_of_roms, sound_count, state_in, stop_told, subst, sym, take, time_of, true, ℕ, ℤ}
use Rattle.pac_block.proofs.Common.{◌*◌, ◌++◌, ◌+◌, ◌-◌, ◌/◌, ◌<◌, ◌==◌, ◌^◌, ◌∙◌, ◌∷◌, ◌≡◌, ◌≤◌}
use Rattle.pac_block.proofs.Sounding.{sounds-append, pictures-append, samples-append, sounds-bounded, pictures-bounded}
use Rattle.pac_block.proofs.Stops.{left-again, left-in-parts, left-not-behind, stopped-again}

-- ---- what is told of a run

pub told-samples : (ticks samples pictures : ℕ) (stop : Option Stop) → (ran_of ticks samples pictures stop).samples ≡ samples
told-samples ticks samples pictures stop = search rules

-- a stop alone
abbrev pub told_stop : Option Stop → PacRan
told_stop stop = ran_of 0 0 0 stop

-- the samples stand at the head of the buffer
pub head-is : (outputs : List Output) (rest : List ℤ) → take (sound_count outputs) (samples_given outputs ++ rest) ≡ samples_given outputs
head-is [] rest = refl
head-is (Sound sample ∷ more) rest = ap (λ samples. sample ∷ samples) (head-is more rest)
head-is (Show image ∷ more) rest = head-is more rest

-- ---- one call

abbrev pub kept : List ℕ → BoardState → BoardValue
kept roms state = record { set = set_of_roms roms; state = state; made = 0 }

-- what a call for some time tells of a board in this state
pub record Tells (roms : List ℕ) (microseconds : ℕ) (new : List ℕ) (samples : List ℤ) (ran : PacRan) (state : BoardState) : Type 0 where
  pub text : new ≡ block_text (board_after_exec (kept roms state) microseconds).state
  pub taken : take ran.samples samples ≡ samples_given (outputs_given (kept roms state) microseconds)
  pub count : ran.samples ≡ sound_count (outputs_given (kept roms state) microseconds)
  pub pictures : ran.pictures ≡ picture_count (outputs_given (kept roms state) microseconds)
  pub ticks : ran.ticks ≡ run_ticks (kept roms state) microseconds
  pub stop : stop_told ran ≡ told_stop (course (kept roms state) microseconds).stop

-- what is told of a run has its numbers, and its stop
told-is : (ran : PacRan) (ticks samples pictures : ℕ) (stop : Option Stop) → ran ≡ ran_of ticks samples pictures stop
    → (ran.ticks ≡ ticks) × (ran.samples ≡ samples) × (ran.pictures ≡ pictures) × (stop_told ran ≡ told_stop stop)
told-is ran ticks samples pictures stop is = search rules

pub tells : (roms block : List ℕ) (microseconds : ℕ) (buffer : List ℤ) (new : List ℕ) (samples : List ℤ) (ran : PacRan)
    → HasExecuted roms block microseconds buffer new samples ran → Tells roms microseconds new samples ran (state_in block)
tells roms block microseconds buffer new samples ran done =
    let is = told-is _ _ _ _ _ done.ran_is in
    record {
      text = done.board.text;
      taken = rw (is.1, done.samples_are) (head-is (outputs_given (kept roms (state_in block)) microseconds) _);
      count = is.1;
      pictures = is.2;
      ticks = is.0;
      stop = is.3;
    }

-- ---- two calls

sum-is : (one other whole a b c : ℕ) → one ≡ a → other ≡ b → whole ≡ c → a + b ≡ c → one + other ≡ whole
sum-is one other whole a b c first second both sum = omega (arith, first, second, both, sum)

pub host-time-cut : TimeCanBeCut → HostTimeCanBeCut
host-time-cut cuts roms block middle parts once one other buffer first_samples more second_samples wide whole_samples first second whole
    first_done second_done whole_done = let board = kept roms (state_in block) in
    let a = tells roms block one buffer middle first_samples first first_done in
    let b = subst (Tells roms other parts second_samples second) first_done.board.state_is
    (tells roms middle other more parts second_samples second second_done) in
    let c = tells roms block (one + other) wide once whole_samples whole whole_done in
    let cut = left-in-parts board one other cuts in
    let early = outputs_given board one in
    let late = outputs_given (board_after_exec board one) other in
    record {
      block = b.text ∙ ap block_text cut.state ∙ sym c.text;
      samples =
          ap (λ samples. samples ++ take second.samples second_samples) a.taken
          ∙ ap (λ samples. samples_given early ++ samples) b.taken
          ∙ sym (samples-append early late) ∙ ap samples_given cut.given ∙ sym c.taken;
      counts = sum-is _ _ _ _ _ _ a.count b.count c.count (sym (sounds-append early late) ∙ ap sound_count cut.given);
      pictures = sum-is _ _ _ _ _ _ a.pictures b.pictures c.pictures (sym (pictures-append early late) ∙ ap picture_count cut.given);
      ticks = sum-is _ _ _ _ _ _ a.ticks b.ticks c.ticks cut.ticks;
      stop = b.stop ∙ ap told_stop cut.stop ∙ sym c.stop;
    }

-- ---- a stop that is met again

-- two parts of one account: what is told of a run in which nothing went by is its stop alone
stop-alone : (second : PacRan) → second.ticks ≡ 0 → second.samples ≡ 0 → second.pictures ≡ 0 → second ≡ stop_told second
stop-alone second ticks samples pictures = search rules

-- a stop that is told is one
some-stop : (ran : PacRan) (stop : Option Stop) → stop_told ran ≡ told_stop stop → (ran.stop ≡ 0 → ⊥) → (met : Stop) × (stop ≡ Some met)
some-stop ran None is told = absurd (told (ap (λ (ran : PacRan). ran.stop) is))
some-stop ran (Some met) is told = (met, refl)

pub stops-met-again : StopsAreMetAgain
stops-met-again roms block left parts one other buffer first_samples more second_samples first second first_done told second_done =
    let board = kept roms (state_in block) in
    let a = tells roms block one buffer left first_samples first first_done in
    let b = subst (Tells roms other parts second_samples second) first_done.board.state_is
    (tells roms left other more parts second_samples second second_done) in
    let met = some-stop first _ a.stop told in
    let again = stopped-again board one other met.0 met.1 in
    let still : second.ticks ≡ 0 = b.ticks ∙ ap (λ (w : Walk BoardView). w.now.time - (course board one).now.time) again ∙ omega arith in
    let none : outputs_given (kept roms (board_after_exec board one).state) other ≡ [] = ap (λ (w : Walk BoardView). w.outputs) again in
    record {
      block = b.text ∙ ap block_text (left-again board one other met.0 met.1) ∙ sym a.text;
      samples =
          second_done.samples_are
          ∙ ap (λ state. let outputs = outputs_given (kept roms state) other in
          samples_given outputs ++ drop (sound_count outputs) more) first_done.board.state_is
          ∙ ap (λ outputs. samples_given outputs ++ drop (sound_count outputs) more) none;
      told =
          stop-alone second still (b.count ∙ ap sound_count none) (b.pictures ∙ ap picture_count none)
          ∙ b.stop ∙ ap (λ (w : Walk BoardView). told_stop w.stop) again ∙ ap told_stop (sym met.1) ∙ sym a.stop;
    }

-- ---- room

pub room-bounded : (state : BoardState) (microseconds : ℕ) → IsNotBehind state
    → most_samples state microseconds ≤ microseconds * 12 / 125 + 2
room-bounded state microseconds stands = search rules

-- each call leaves a board as far behind as it is said to
keeps-up : (roms : List ℕ) (call : HostCall) (old new : List ℕ) → IsCallDone roms call old new → KeepsUp roms call old new
keeps-up roms (PowerOn switches) old new done = rw done.board.state_is (record { asked = omega arith; due = refl })
keeps-up roms (LetTimePass microseconds) old new done =
    rw done.3.board.state_is (left-not-behind (kept roms (state_in old)) microseconds)
keeps-up roms (TakeFile text) old new done = λ file before.
    rw (done.board file).state_is
    (upgraded (file.version == 1) (kept roms file.state) _ before (record { asked = before.asked; due = before.due }))
  where
    upgraded : (b : Bool) (board view : BoardValue) → IsNotBehind board.state → IsNotBehind view.state
        → IsNotBehind (if b then view else board).state
    upgraded true board view one other = other
    upgraded false board view one other = one
keeps-up roms call old new done = λ before. rw (done.board roms).state_is (record { asked = before.asked; due = before.due })

pub room-is-bounded : RoomIsBounded
room-is-bounded = record { bound = room-bounded; kept = keeps-up }

-- ---- what a host reads in the bytes that tell of a call is what was told

few-stops : (ticks samples pictures : ℕ) (stop : Option Stop) → (ran_of ticks samples pictures stop).stop ≤ 2
few-stops ticks samples pictures stop = search rules

pub record IsRead (ran : PacRan) : Type 0 where
  pub samples : (ran_read (ran_bytes ran)).samples ≡ ran.samples
  pub pictures : (ran_read (ran_bytes ran)).pictures ≡ ran.pictures
  pub stop : (ran_read (ran_bytes ran)).stop ≡ ran.stop

-- numbers below 2^32 are read back
is-read : (ran : PacRan) → ran.samples < 2 ^ 32 → ran.pictures < 2 ^ 32 → ran.stop < 2 ^ 32 → IsRead ran
unfolding ran_bytes
is-read ran samples pictures stop = grind (arith, from_le_bytes-to_le_bytes_4)

pub ran-is-read : (roms block : List ℕ) (microseconds : ℕ) (buffer : List ℤ) (new : List ℕ) (samples : List ℤ) (ran : PacRan)
    → HasExecuted roms block microseconds buffer new samples ran → IsRead ran
ran-is-read roms block microseconds buffer new samples ran done =
    let board = board_in roms block in
    let told = tells roms block microseconds buffer new samples ran done in
    let bound = sounds-bounded board microseconds (time_of (board.state.asked + microseconds)) in
    let few = pictures-bounded board microseconds (omega arith) in
    let stops : ran.stop ≤ 2 = rw done.ran_is (few-stops _ _ _ _) in
    is-read ran (omega (arith, bound)) (omega (arith, few)) (omega arith)

-- ---- room over lists of calls

-- a call leaves a board that isn't behind
keeps : (roms : List ℕ) (call : HostCall) (old new : List ℕ) → IsCallDone roms call old new → TakesNoFile call
    → IsNotBehind (state_in old) → IsNotBehind (state_in new)
keeps roms (PowerOn switches) old new done none timely = keeps-up roms (PowerOn switches) old new done
keeps roms ResetNow old new done none timely = keeps-up roms ResetNow old new done timely
keeps roms (HoldInputs set clear) old new done none timely = keeps-up roms (HoldInputs set clear) old new done timely
keeps roms (LetTimePass microseconds) old new done none timely = keeps-up roms (LetTimePass microseconds) old new done
keeps roms (TakeFile text) old new done none timely = absurd none

-- and so do all
all-keep : (calls : List (List ℕ × HostCall)) (old new : List ℕ) → AreDoneOver calls old new → NoneTakesAFile calls
    → IsNotBehind (state_in old) → IsNotBehind (state_in new)
all-keep [] old new done none timely = subst (λ (block : List ℕ). IsNotBehind (state_in block)) (sym done) timely
all-keep (call ∷ calls) old new done none timely = all-keep calls done.0 new done.2 none.1 (keeps _ _ _ _ done.1 none.0 timely)

pub room-is-enough : RoomIsEnough
room-is-enough roms switches calls old block microseconds samples done none room =
    let timely = all-keep calls done.0 block done.2 none (keeps-up roms (PowerOn switches) old done.0 done.1) in
    let bound = room-bounded (state_in block) microseconds timely in
    record { room = omega (arith, bound, room); done = λ one fails. omega (arith, bound, room, fails.3) }
