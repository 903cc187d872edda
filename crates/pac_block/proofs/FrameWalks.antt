-- A walk to the end of a frame gives one picture: the one that the board still shows where the walk ends.
use Rattle.pac_block.proofs.Common.{BoardView, Entry, List, Moment, Output, Parts, Show, Sound, StepProgress, [], ap, append_assoc, arith}
use Rattle.pac_block.proofs.Common.{at_moment, blanked-holds, board_after, by_view, frame_ticks, image_of, is_quiet, length, picture_count}
use Rattle.pac_block.proofs.Common.{pictures_given, plain-walk-told, refl, rules, sampled-holds, step, suc, true, walk, ℕ, ◌*◌, ◌++◌, ◌+◌}
use Rattle.pac_block.proofs.Common.{◌<◌, ◌∷◌, ◌≡◌, ◌≤◌}

-- ---- pictures among outputs

pub pictures-joined : (one other : List Output) → pictures_given (one ++ other) ≡ pictures_given one ++ pictures_given other
pictures-joined [] other = refl
pictures-joined (Sound sample ∷ one) other = pictures-joined one other
pictures-joined (Show image ∷ one) other = ap (λ pictures. image ∷ pictures) (pictures-joined one other)

pub as-many-pictures : (outputs : List Output) → length (pictures_given outputs) ≡ picture_count outputs
as-many-pictures [] = refl
as-many-pictures (Sound sample ∷ more) = as-many-pictures more
as-many-pictures (Show image ∷ more) = ap suc (as-many-pictures more)

-- one output more
one-more : (given outputs : List Output) (output : Output)
    → pictures_given (given ++ (outputs ++ output ∷ [])) ≡ pictures_given (given ++ outputs) ++ pictures_given (output ∷ [])
one-more given outputs output = cc (append_assoc given outputs (output ∷ []), pictures-joined (given ++ outputs) (output ∷ []))

-- ---- a frame, after so many others

module _ (set : Parts) (gone : ℕ) where
  abbrev limit : ℕ
  limit = frame_ticks * suc gone

  -- before the blank no picture was given; for less than a step after it, the one that stands
  pub record ShowsFrame (time : ℕ) (given : List Output) (board : BoardView) : Type 0 where
    pub since : frame_ticks * gone ≤ time
    pub early : time < limit → pictures_given given ≡ []
    pub late : limit ≤ time → time < limit + 23 → pictures_given given ≡ image_of set board.lines ∷ []

  quiet-shows : (time : ℕ) (given : List Output) (board : BoardView) (entry : Entry) → is_quiet entry ≡ true → ShowsFrame time given board
      → ShowsFrame time given (board_after set board entry)
  quiet-shows time given board entry quiet told = search rules

  moment-shows : (time moment : ℕ) (given : List Output) (met : StepProgress BoardView) → moment ≡ suc time
      → ShowsFrame time (given ++ met.outputs) met.board
      → let after = at_moment (by_view set) moment met in ShowsFrame moment (given ++ after.outputs) after.board
  moment-shows time moment given met next told = grind (arith, one-more, sampled-holds, blanked-holds)

  pub walk-shows : (from : Moment BoardView) (tries : ℕ) → frame_ticks * gone ≤ from.time → from.time < limit
      → let walked = walk (step (by_view set)) limit from tries in ShowsFrame walked.now.time walked.outputs walked.now.board
  walk-shows from tries since early =
      plain-walk-told (by_view set) ShowsFrame quiet-shows moment-shows limit from tries
      (record { since = since; early = λ _. refl; late = λ late near. absurd (omega (arith, early, late)) })
