-- What a player's run leaves of frames and wave and of the player, by its answer.
use Rattle.pac_run.proofs.Common.{BreaksPlay, CommandFault, Counted, Delivers, Err, Film, FinishesSound, Giving, HasBegun, HasTaken}
use Rattle.pac_run.proofs.Common.{HasText, IfOk, IsBrokenOff, IsPlayHeldUp, IsPlayed, IsUnwritten, Joins, List, None, Ok, Outcome, Output}
use Rattle.pac_run.proofs.Common.{OutputFault, Played, PlaysInto, RecordsPlay, Reel, Result, Some, SoundFails, WriteFault, WritesSound}
use Rattle.pac_run.proofs.Common.{Writing, [], ap, append-nil, append_assoc, arith, common_steps, film_giving, film_took, frame_samples}
use Rattle.pac_run.proofs.Common.{heard_by, length, pos, replicate, rules, samples_text, shown_by, sound_text, stops-within, subst, sym}
use Rattle.pac_run.proofs.Common.{wav_header, wave_file_text, wave_so_far, writing, ℕ, ◌*◌, ◌++◌, ◌∙◌, ◌≡◌}
use Rattle.pac_media.specs.Sound as media
use Rattle.pac_debug.specs.declared.line.CommandFault.TheVariants as faults
use Rattle.pac_run.specs.declared.fault.Output.{Output as Which}
use Rattle.pac_run.specs.declared.fault.Output.TheVariants as which
use Rattle.pac_run.proofs.Filmed.{filmed, header-long, zeros-last}
use Rattle.pac_run.proofs.Broken.{StopsThere, sound-of, stops-among, stops-at-zeros}

-- ---- the header

-- it was written, and nothing else
pub begun : {F W : Type 0} (at : Reel F W) (count total : ℕ) (file : Counted F) (old new : media.Sound W) → count ≡ total
    → HasTaken at.took_f at.frames [] file → HasText at.took_w at.wave (wav_header (frame_samples * count)) old
    → Delivers at.took_w old [] new → new.owed ≡ frame_samples * count
    → HasBegun at total (record { frames = file; wave = new; fault = None })
begun at count total file old new same fresh text done owed =
    rw (← same) (record {
      images = fresh;
      header = rw append-nil at (done.after at.wave (wav_header (frame_samples * count)) text);
      none_waits = done.none_waits;
      owed = owed;
    })

-- the wave's writer refused within it, and nothing was played
pub header-broke : {F W : Type 0} (play : Played) (frames : Writing F) → IsUnwritten frames → play.unplayed
    → (took : W → List ℕ → W → Type 0) (refused : W → W → Type 0) (wave : W) (count : ℕ) (old new : media.Sound W) (fault : WriteFault)
    → count ≡ play.frames → HasText took wave (wav_header (frame_samples * count)) old → SoundFails took refused old [] fault new
    → BreaksPlay play frames (writing took refused wave new.file.writer) which.Wave fault.count
header-broke play frames still unplayed took refused wave count old new fault same text fails =
    let stop = fails.after wave (wav_header (frame_samples * count)) text in
    let long = ap length (append-nil (wav_header (frame_samples * count))) ∙ header-long (frame_samples * count) in
    let sound = sound_text (frame_samples * play.frames) play.gives in
    let whole : (wav_header (frame_samples * count) ++ []) ++ sound ≡ wave_file_text play.frames play.gives = search rules in
    record {
      film = record {
        sound = grind (arith, stops-within);
        header_first = λ few. still;
        images = λ enough. absurd (omega (arith, enough, long));
      };
      header_first = λ few. unplayed;
      past = λ enough. absurd (omega (arith, enough, long));
    }

-- ---- what was played

module _ {F W : Type 0} (at : Reel F W) (play : Played) (old : Film F W) (begins : HasBegun at play.frames old) where
  breaks : (taken left : List Output) (new : Film F W) (output : Which) (count : ℕ) → taken ++ left ≡ play.gives → play.told taken
      → StopsThere at play.frames play.gives taken new output count → BreaksPlay play (shown_by at new) (heard_by at new) output count
  breaks taken left new which.Frames count all told (stop, shown) = (stop, subst play.told (sym shown) told)
  breaks taken left new which.Wave count all told (stop, past, heard) = record {
    film = stop;
    header_first = λ few. absurd (omega (arith, few, past));
    past = grind (arith, common_steps);
  }
  breaks taken left new which.Text count all told none = absurd none
  breaks taken left new output count all told none = none

  -- up to a refusal of the sink
  pub held-up : Joins at.took_f → (mid : Film F W) (fault : OutputFault)
      → IsPlayHeldUp (film_giving at.took_f at.refused_f at.took_w at.refused_w) play old mid → Some fault ≡ mid.fault
      → BreaksPlay play (shown_by at mid) (heard_by at mid) fault.output fault.count
  held-up joined mid fault held kept =
      breaks held.cut.taken (held.left ++ held.among.0) mid fault.output fault.count
      (sym (append_assoc held.cut.taken held.left held.among.0) ∙ held.among.1) held.told
      (stops-among at play.frames joined play.gives old mid fault begins held.cut held.among kept)

  -- to its end, and the zeros were written or refused
  pub ended : (outcome : Outcome) (mid new : Film F W) → IsPlayed (film_took at.took_f at.took_w) play old outcome mid
      → new.frames ≡ mid.frames → (answer : Result Outcome OutputFault) → IfOk answer (λ it. it ≡ outcome)
      → WritesSound at.took_w at.refused_w mid (samples_text (replicate mid.wave.owed (pos 0))) answer new
      → RecordsPlay play (shown_by at new) (heard_by at new) answer
  ended outcome mid new given same (Ok came) is done =
      let has = filmed at play.frames play.gives begins given.sink in
      record {
        images = rw same has.images.written;
        sound = rw (zeros-last at play.frames play.gives mid has) at
            (done.after at.wave (wave_so_far play.frames play.gives) has.sound).written;
        done = subst play.done (sym is) given.done;
      }
  ended outcome mid new given same (Err fault) is refused =
      rw refused.fault_is (breaks play.gives [] new which.Wave refused.told.count (append-nil play.gives) given.told (stops-at-zeros at
      play.frames play.gives mid new refused.told (filmed at play.frames play.gives begins given.sink) refused.wave same))

  -- up to a text that was refused, and what waited was written or refused
  pub broke-off : (mid new : Film F W) (count : ℕ) → IsBrokenOff (film_took at.took_f at.took_w) play old count mid
      → new.frames ≡ mid.frames → (answer : Result (Unit {0}) WriteFault) → FinishesSound at.took_w at.refused_w mid.wave [] answer new.wave
      → BreaksPlay play (shown_by at new) (heard_by at new) which.Text count
  broke-off mid new count off same answer written =
      let has = filmed at play.frames off.taken begins off.sink in
      record {
        taken = off.taken;
        among = off.among;
        untold = off.untold;
        images = rw same has.images.written;
        sound = sound-of at play.frames off.taken mid new.wave has answer written;
      }

-- what was played, by the fault that there was
module _ {S : Type 0} (to : Giving S) (play : Played) (old new : S) (answer : Result Outcome CommandFault) (fault : CommandFault)
    (is : answer ≡ Err fault) (given : PlaysInto to play old answer new) where
  pub at-refusal : fault ≡ faults.Refused → IsPlayHeldUp to play old new
  at-refusal here = subst (λ answer. PlaysInto to play old answer new) (is ∙ ap (λ it. Err it) here) given

  pub at-text : (why : WriteFault) → fault ≡ faults.Text why → IsBrokenOff to.took play old why.count new
  at-text why here = subst (λ answer. PlaysInto to play old answer new) (is ∙ ap (λ it. Err it) here) given

-- ---- listing and report, too
