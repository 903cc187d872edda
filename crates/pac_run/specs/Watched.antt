-- Believed: what a debugger's session has told where an output refused, and what the others have where its text is refused.
use Rattle.std.specs.Prelude.{◌≡◌, ◌⊎◌, ℕ, ◌<◌, ◌≤◌, List, ◌∷◌, ◌++◌, length}
use mathlib.Core.List.{IsPrefix}
use Rattle.pac_media.specs.Counted.{file_count}
use Rattle.pac_media.specs.Samples.{header_size}
use Rattle.pac_debug.specs.Running.{Setting}
use Rattle.pac_debug.specs.Session.{SessionValue, session_at_start}
use Rattle.pac_debug.specs.Watched.{TellsOfLine, TellsAll, ToldUpTo, given_by}
use Rattle.pac_board_course.specs.Output.{Output, picture_count}
use Rattle.pac_run.specs.Run.{Writing, TakesText, StopsInText, IsUnwritten, heard_before}
use Rattle.pac_run.specs.Texts as text

-- ---- what a session tells

-- what a session at the beginning of a run tells of some lines
pub record SessionTells (setting : Setting) (lines : List (List ℕ)) (told : List ℕ) : Type 0 where
  pub left : SessionValue
  pub tells : TellsAll lines (session_at_start setting 0) told left

-- the text's writer took what all lines tell
pub record AllTold {T : Type 0} (words : Writing T) (setting : Setting) (lines : List (List ℕ)) : Type 0 where
  pub told : List ℕ
  pub tells : SessionTells setting lines told
  pub taken : TakesText words told

-- the text's writer took what those lines tell that give no more than these outputs; the next line gives more
pub record ToldTill {T : Type 0} (words : Writing T) (setting : Setting) (lines : List (List ℕ)) (given : List Output) : Type 0 where
  pub told : List ℕ
  pub tells : ToldUpTo setting lines given told
  pub taken : TakesText words told

-- The wave's writer refused past its header: besides the outputs that it has heard samples had been given that waited to be written, but
-- no picture, for what waits is written before each picture. The text's writer took what the lines tell that give no more than these.
pub record ToldAsHeard {T : Type 0} (words : Writing T) (setting : Setting) (lines : List (List ℕ)) (outputs heard : List Output) : Type
    0 where
  pub waiting : List Output
  pub among : IsPrefix (heard ++ waiting) outputs
  pub no_picture : picture_count waiting ≡ 0
  pub told : ToldTill words setting lines (heard ++ waiting)

-- The wave's writer refused after so many bytes. Where that is within its header nothing is told.
pub record ToldAtWave {T : Type 0} (words : Writing T) (setting : Setting) (lines : List (List ℕ)) (outputs : List Output)
    (taken : ℕ) : Type 0 where
  pub header_first : taken < header_size → IsUnwritten words
  pub past : header_size ≤ taken → ToldAsHeard words setting lines outputs (heard_before taken outputs)

-- ---- a text that is refused

-- The first of some lines tell one text, and the line after them another, which leaves the session so.
pub record TellsALine (lines : List (List ℕ)) (from : SessionValue) (told more : List ℕ) (left : SessionValue) : Type 0 where
  pub before : List (List ℕ)
  pub line : List ℕ
  pub after : List (List ℕ)
  pub parts : lines ≡ before ++ line ∷ after
  pub between : SessionValue
  pub tells : TellsAll before from told between
  pub tells_more : TellsOfLine line between more left

-- The wave's writer refused, too, within the sound of these outputs: within what waited, which is after the last picture's samples.
pub record BreaksOffLast {W : Type 0} (wave : Writing W) (most : ℕ) (given : List Output) : Type 0 where
  pub count : ℕ
  pub sound : StopsInText wave (text.wave_so_far most given) count
  pub past_header : header_size ≤ sound.taken
  pub no_picture : picture_count (heard_before sound.taken given) ≡ picture_count given

-- the wave's writer has the sound of these outputs, without zeros, unless it refused too
abbrev pub HasSoundOf : {W : Type 0} → Writing W → (most : ℕ) → (given : List Output) → Type 0
HasSoundOf wave most given =
    TakesText wave (text.wave_so_far most given) ⊎ BreaksOffLast wave most given

-- The text's writer refused within what one line tells, after all that the lines before tell. Frames and wave have exactly the outputs
-- that these lines give, the refused one too.
pub record IsLineUntold {F W T : Type 0} (frames : Writing F) (wave : Writing W) (words : Writing T) (most : ℕ)
    (outputs : List Output) (setting : Setting) (lines : List (List ℕ)) (count : ℕ) : Type 0 where
  pub told : List ℕ
  pub more : List ℕ
  pub left : SessionValue
  pub tells : TellsALine lines (session_at_start setting 0) told more left
  pub refused : StopsInText words (told ++ more) count
  pub least : file_count (length told) ≤ count
  pub among : IsPrefix (given_by left) outputs
  pub images : TakesText frames (text.images_text (given_by left))
  pub sound : HasSoundOf wave most (given_by left)
