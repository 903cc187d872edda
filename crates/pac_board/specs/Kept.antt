-- For proofs: a sink for tests: it keeps what it takes, and refuses one offer. Where there isn't the memory for an output
-- it refuses too.
use Rattle.std.specs.Prelude.{◌≡◌, ◌≢◌, ℕ, ◌-◌, List, [], ◌∷◌, ◌++◌, slice_index, slice_index_or}
use Rattle.pac_board_model.specs.Output.{Output, Sound, Show, Image}
use Rattle.pac_board.specs.declared.kept.Taken.{Taken}
use Rattle.pac_board.specs.declared.kept.Taken.TheVariants.{Sample, Picture}

-- what the sink took, and the number of the offer that it refuses, counted from the next, which is 1; 0 is no offer
pub record KeepingSink : Type 0 where
  pub outputs : List Output
  pub refusal : ℕ

abbrev pub output_of : Taken → Output
output_of (Sample sample) = Sound sample
output_of (Picture image) = Show image

-- an offer has come: the one that is refused is one nearer
abbrev pub sink_after_offer : KeepingSink → KeepingSink
sink_after_offer sink = record sink { refusal = sink.refusal - 1 }

-- the sink took an output, as this isn't the offer that it refuses
pub record Keeps (old : KeepingSink) (output : Output) (new : KeepingSink) : Type 0 where
  pub another : old.refusal ≢ 1
  pub sink : new ≡ record (sink_after_offer old) { outputs = old.outputs ++ output ∷ [] }

-- the sink refused an output, and keeps nothing of it
abbrev pub Declines : KeepingSink → Output → KeepingSink → Type 0
Declines old output new = new ≡ sink_after_offer old

-- the colour number of a pixel of a picture, and its red, green and blue
abbrev pub pixel_number : Image → ℕ → ℕ → ℕ
pixel_number image x y = slice_index (slice_index_or image.lines y []) x

abbrev pub pixel_colour : Image → ℕ → ℕ → List ℕ
pixel_colour image x y = slice_index_or image.palette (pixel_number image x y) []
