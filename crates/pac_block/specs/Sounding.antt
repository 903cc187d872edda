-- For proofs: the sink that writes samples into a host's buffer and counts the pictures.
use Rattle.std.specs.Prelude.{ℕ, ◌≡◌, ◌≤◌, ◌<◌, ◌+◌, ◌-◌, ◌^◌, min, length, slice_set}
use Rattle.pac_board.specs.Output.{Output, Sound, Show}
use Rattle.pac_block.specs.declared.sounds.Sounds.{Sounds}

-- it has the same buffer still
abbrev pub IsSameBuffer : Sounds → Sounds → Type 0
IsSameBuffer old new = new.samples.ghost_name ≡ old.samples.ghost_name

pub record WritesSample (old : Sounds) (sample : _) (new : Sounds) : Type 0 where
  pub same : IsSameBuffer old new
  pub room : old.taken < length old.samples.now
  pub written : new.samples.now ≡ slice_set old.samples.now old.taken sample
  pub taken : new.taken ≡ old.taken + 1
  pub pictures : new.pictures ≡ old.pictures

pub record CountsPicture (old new : Sounds) : Type 0 where
  pub same : IsSameBuffer old new
  pub samples : new.samples.now ≡ old.samples.now
  pub taken : new.taken ≡ old.taken
  pub pictures : new.pictures ≡ min (2 ^ 32 - 1) (old.pictures + 1)

abbrev pub sounding_took : Sounds → Output → Sounds → Type 0
sounding_took old (Sound sample) new = WritesSample old sample new
sounding_took old (Show image) new = CountsPicture old new

-- only a sample is refused, where the buffer is full, and nothing is changed
abbrev pub sounding_refused : Sounds → Output → Sounds → Type 0
sounding_refused old (Sound sample) new = (length old.samples.now ≤ old.taken) × (new ≡ old)
sounding_refused old (Show image) new = ⊥

-- what is left of the buffer
abbrev pub sounding_room : Sounds → ℕ
sounding_room sink = length sink.samples.now - sink.taken
