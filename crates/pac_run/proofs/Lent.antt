-- Writers that are lent, and what their owners have when the loans end: what holds of a writer that is lent holds of its owner.
use Rattle.pac_run.proofs.Common.{AllTold, BreaksPlay, Counted, Err, FramesStop, HasSoundOf, HasTaken, IsLineUntold, IsUnwritten, List}
use Rattle.pac_run.proofs.Common.{MutBor, Ok, Outcome, Output, OutputFault, Played, Puts, RecordsPlay, Result, Setting, StopsAfter}
use Rattle.pac_run.proofs.Common.{StopsInText, TakesText, ToldAtWave, ToldTill, WaveStops, WriteFault, WritesWholeText, Writing, [], arith}
use Rattle.pac_run.proofs.Common.{inl, inr, lent_refused, lent_took, rules, subst, writing, ℕ, ◌≡◌}
use Rattle.pac_run.specs.declared.fault.Output.{Output as Which}
use Rattle.pac_run.specs.declared.fault.Output.TheVariants as which
use Rattle.std.proofs.lemmas.Bool.Decides.{nat_tests}

-- What holds of one writer holds of the other.
pub record Carries {V W : Type 0} (one : Writing V) (other : Writing W) : Type 0 where
  pub takes : (text : List ℕ) → TakesText one text → TakesText other text
  pub stops : (text : List ℕ) (taken : ℕ) → StopsAfter one.took one.refused one.old text taken one.new
      → StopsAfter other.took other.refused other.old text taken other.new
  pub still : IsUnwritten one → IsUnwritten other

pub itself : {W : Type 0} (writer : Writing W) → Carries writer writer
itself writer = record { takes = λ text takes. takes; stops = λ text taken stop. stop; still = λ same. same }

-- when the loan ends, the owner has what the writer was then
abbrev pub Ends : {W : Type 0} → MutBor W → MutBor W → W → Type 0
Ends owner writer left = owner.ghost_name ≡ writer.ghost_name → left ≡ writer.now

module _ {W : Type 0} (took : W → List ℕ → W → Type 0) (refused : W → W → Type 0) (owner writer : MutBor W) (left : W)
    (ends : Ends owner writer left) where
  abbrev lent : Writing (MutBor W)
  lent = writing (lent_took took) (lent_refused refused) owner writer

  abbrev owned : Writing W
  owned = writing took refused owner.now left

  pub carries : Carries lent owned
  carries = search rules

-- a writer that is handed back is the one that was lent
pub carries-back : {W : Type 0} (took : W → List ℕ → W → Type 0) (refused : W → W → Type 0) (owner new writer : MutBor W) (left : W)
    → writer ≡ new → Ends owner writer left
    → Carries (writing (lent_took took) (lent_refused refused) owner new) (writing took refused owner.now left)
carries-back took refused owner new writer left same ends = carries took refused owner new left (subst (λ it. Ends owner it left) same ends)

-- a text that was put into a new file, whose writer is handed back
pub written : {W A : Type 0} (took : W → List ℕ → W → Type 0) (refused : W → W → Type 0) (owner : MutBor W) (left : W)
    (result : Result A WriteFault) (text : List ℕ) (file new : Counted (MutBor W))
    → HasTaken (lent_took took) owner [] file → Puts (lent_took took) (lent_refused refused) file text result new
    → (writer : MutBor W) → writer ≡ new.writer → Ends owner writer left → WritesWholeText (writing took refused owner.now left) text result
written took refused owner left (Ok done) text file new fresh puts writer same ends = search rules
written took refused owner left (Err fault) text file new fresh puts writer same ends = search rules

-- ---- one writer

abbrev pub text-stops : {V W : Type 0} {one : Writing V} {other : Writing W} → Carries one other → (text : List ℕ) (count : ℕ)
    → StopsInText one text count → StopsInText other text count
text-stops carry text count stop =
    record { taken = stop.taken; stopped = carry.stops text stop.taken stop.stopped; count_is = stop.count_is }

-- ---- frames and wave

module _ {F G W V : Type 0} {frames : Writing F} {other_frames : Writing G} {wave : Writing W} {other_wave : Writing V}
    (shows : Carries frames other_frames) (sounds : Carries wave other_wave) where
  abbrev pub frames-stop : (total : ℕ) (outputs : List Output) (count : ℕ) → FramesStop frames wave total outputs count
      → FramesStop other_frames other_wave total outputs count
  frames-stop total outputs count stop =
      record { images = text-stops shows _ count stop.images; sound = sounds.takes _ stop.sound }

  abbrev pub wave-stops : (total : ℕ) (outputs : List Output) (count : ℕ) → WaveStops frames wave total outputs count
      → WaveStops other_frames other_wave total outputs count
  wave-stops total outputs count stop =
      record {
        sound = text-stops sounds _ count stop.sound;
        header_first = λ few. shows.still (stop.header_first few);
        images = λ past. shows.takes _ (stop.images past);
      }

  sound-of : (total : ℕ) (given : List Output) → HasSoundOf wave total given → HasSoundOf other_wave total given
  sound-of total given (inl takes) = inl (sounds.takes _ takes)
  sound-of total given (inr breaks) =
      inr (record {
        count = breaks.count;
        sound = text-stops sounds _ breaks.count breaks.sound;
        past_header = breaks.past_header;
        no_picture = breaks.no_picture;
      })

  pub breaks : (play : Played) (output : Which) (count : ℕ) → BreaksPlay play frames wave output count
      → BreaksPlay play other_frames other_wave output count
  breaks play which.Frames count (stop, told) = (frames-stop play.frames play.gives count stop, told)
  breaks play which.Wave count it =
      record { film = wave-stops play.frames play.gives count it.film; header_first = it.header_first; past = it.past }
  breaks play which.Text count it = grind (arith, sound-of)
  breaks play _ count none = none

  pub records : (play : Played) (answer : Result Outcome OutputFault) → RecordsPlay play frames wave answer
      → RecordsPlay play other_frames other_wave answer
  records play (Ok outcome) it = record { images = shows.takes _ it.images; sound = sounds.takes _ it.sound; done = it.done }
  records play (Err fault) it = breaks play fault.output fault.count it

-- ---- and the text of a session

module _ {T U : Type 0} {words : Writing T} {other_words : Writing U} (tells : Carries words other_words) (setting : Setting)
    (lines : List (List ℕ)) where
  pub all-told : AllTold words setting lines → AllTold other_words setting lines
  all-told all = record { told = all.told; tells = all.tells; taken = tells.takes all.told all.taken }

  pub told-till : (given : List Output) → ToldTill words setting lines given → ToldTill other_words setting lines given
  told-till given till = record { told = till.told; tells = till.tells; taken = tells.takes till.told till.taken }

  pub told-at-wave : (outputs : List Output) (taken : ℕ) → ToldAtWave words setting lines outputs taken
      → ToldAtWave other_words setting lines outputs taken
  told-at-wave outputs taken told = search rules

module _ {F G W V T U : Type 0} {frames : Writing F} {other_frames : Writing G} {wave : Writing W} {other_wave : Writing V}
    {words : Writing T} {other_words : Writing U} (shows : Carries frames other_frames) (sounds : Carries wave other_wave)
    (tells : Carries words other_words) (total : ℕ) (outputs : List Output) (setting : Setting) (lines : List (List ℕ)) where
  pub line-untold : (count : ℕ) → IsLineUntold frames wave words total outputs setting lines count
      → IsLineUntold other_frames other_wave other_words total outputs setting lines count
  line-untold count untold = grind (arith, nat_tests, text-stops, sound-of)
