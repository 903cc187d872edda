-- The samples and the pictures of a play that is taken up at any moment: how many have come by when.
use Rattle.pac_board_model.proofs.Common.{List, Output, Questions, ResumedRunsAreTimed, ResumedRunsHaveTheirFrames, Show, Sound}
use Rattle.pac_board_model.proofs.Common.{StepProgress, [], arith, at_moment, common_steps, frame_ticks, frames_gone, picture_count}
use Rattle.pac_board_model.proofs.Common.{resumed_end, sample_ticks, sound_count, suc, ℕ, ◌++◌, ◌+◌, ◌/◌, ◌∷◌, ◌≡◌}
use Rattle.pac_board_model.proofs.Resumed.{resumed-below, resumed-gone}
use Rattle.pac_board_model.proofs.RunsKeep.{resumed-told}

-- ---- from moment to moment

pub sounds-joined : (one other : List Output) → sound_count (one ++ other) ≡ sound_count one + sound_count other
sounds-joined [] other = omega arith
sounds-joined (Sound sample ∷ one) other = omega (arith, sounds-joined one other)
sounds-joined (Show image ∷ one) other = sounds-joined one other

pub pictures-joined : (one other : List Output) → picture_count (one ++ other) ≡ picture_count one + picture_count other
pictures-joined [] other = omega arith
pictures-joined (Sound sample ∷ one) other = pictures-joined one other
pictures-joined (Show image ∷ one) other = omega (arith, pictures-joined one other)

module _ {Board : Type 0} (ask : Questions Board) (given : List Output) (before : ℕ) where
  pub moment-sounds : (time moment : ℕ) (met : StepProgress Board) → moment ≡ suc time
      → sound_count (given ++ met.outputs) + before ≡ time / sample_ticks
      → sound_count (given ++ (at_moment ask moment met).outputs) + before ≡ moment / sample_ticks
  moment-sounds time moment met next h = grind (arith, common_steps, sounds-joined)

  pub moment-pictures : (time moment : ℕ) (met : StepProgress Board) → moment ≡ suc time
      → picture_count (given ++ met.outputs) + before ≡ time / frame_ticks
      → picture_count (given ++ (at_moment ask moment met).outputs) + before ≡ moment / frame_ticks
  moment-pictures time moment met next h = grind (arith, common_steps, pictures-joined)

-- ---- the laws

pub resumed-runs-are-timed : {Board : Type 0} → ResumedRunsAreTimed Board
resumed-runs-are-timed ask play from index = record {
  samples =
      resumed-told ask (λ time given board. sound_count given + from.time / sample_ticks ≡ time / sample_ticks)
      (λ time given board entry quiet h. h) (λ time moment given. moment-sounds ask given (from.time / sample_ticks) time moment)
      play from index (omega arith);
  pictures =
      resumed-told ask (λ time given board. picture_count given + frames_gone from ≡ time / frame_ticks)
      (λ time given board entry quiet h. h) (λ time moment given. moment-pictures ask given (frames_gone from) time moment)
      play from index (omega arith);
}

pub resumed-runs-have-their-frames : {Board : Type 0} → ResumedRunsHaveTheirFrames Board
resumed-runs-have-their-frames ask play from open_yet =
    let gone = frames_gone from in
    let timed = resumed-runs-are-timed ask play from (resumed_end play gone) in
    let frames = resumed-gone ask play from open_yet in
    record {
      pictures = omega (arith, timed.pictures, frames);
      gone = frames;
      samples = λ near.
          let below = resumed-below ask play from (resumed_end play gone + sample_ticks) (omega arith) (omega arith) in
          omega (arith, timed.samples, below, near);
      near = λ near.
          let below = resumed-below ask play from (resumed_end play gone + sample_ticks) (omega arith) (omega arith) in
          omega (arith, below, near);
    }
