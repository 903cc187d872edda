-- The samples and the pictures of a walk: how many have come by when, and how far it goes.
use Rattle.pac_board_model.proofs.Common.{WalksAreTimed, ap, arith, frame_ticks, most_ticks, picture_count, sample_ticks, sound_count, step}
use Rattle.pac_board_model.proofs.Common.{walk_at_start, ◌+◌, ◌/◌, ◌≡◌}
use Rattle.pac_board_model.proofs.ResumedTimes.{moment-pictures, moment-sounds}
use Rattle.pac_board_model.proofs.Runs.{walk-below}
use Rattle.pac_board_model.proofs.RunsKeep.{plain-walk-told}
use Rattle.pac_board_model.proofs.Walks.{ended-for-good, late-has-ended, step-timely}

pub walks-are-timed : {Board : Type 0} → WalksAreTimed Board
walks-are-timed ask limit tries from =
    record {
      samples =
          plain-walk-told ask (λ time given board. sound_count given + from.time / sample_ticks ≡ time / sample_ticks)
          (λ time given board entry quiet h. h) (λ time moment given. moment-sounds ask given (from.time / sample_ticks) time moment)
          limit from tries (omega arith);
      pictures =
          plain-walk-told ask (λ time given board. picture_count given + from.time / frame_ticks ≡ time / frame_ticks)
          (λ time given board entry quiet h. h) (λ time moment given. moment-pictures ask given (from.time / frame_ticks) time moment)
          limit from tries (omega arith);
      over = λ late. ap (λ walked. walked.now) (ended-for-good (step ask) limit from 0 tries tries (omega arith)
          (late-has-ended limit (walk_at_start from) late));
      last = λ early. walk-below (step ask) limit (step-timely ask) (limit + most_ticks) (omega arith) from tries (omega arith);
    }
