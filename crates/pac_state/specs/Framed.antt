-- For proofs: what a block has around the fields of its state, and what is read out of a file of the right size.
use Rattle.std.specs.Prelude.{◌≡◌, ℕ, List, Option, Some, None}
use Rattle.pac_board.specs.BoardFields.{Fields}
use Rattle.pac_board.specs.Fields.{state_of, AreBoardFields}
use Rattle.pac_state.specs.Text.{magic, written_version}
use Rattle.pac_state.specs.Reading.{bytes_at_place, state_in}
use Rattle.pac_state.specs.Saved.{version_in}
use Rattle.pac_state.specs.Block.{no_digest}

-- zeros in place of both digests
pub record HasNoDigests (bytes : List ℕ) : Type 0 where
  pub set : no_digest ≡ bytes_at_place 10 20 bytes
  pub end : no_digest ≡ bytes_at_place 67736 20 bytes

-- what each file begins with, the version that is written, and no digests
pub record IsFramed (bytes : List ℕ) : Type 0 where
  pub magic : magic ≡ bytes_at_place 0 8 bytes
  pub version : version_in bytes ≡ written_version
  pub digests : HasNoDigests bytes

-- Fields are told of exactly those bytes that are of a kind, a file's text or a block: they are those of the state that stands there.
abbrev pub TellsFields : (List ℕ → Type 0) → List ℕ → Option Fields → Type 0
TellsFields Is bytes (Some fields) = record {
  holds : Is bytes;
  state : state_of fields ≡ state_in bytes;
  in_range : AreBoardFields fields;
}
TellsFields Is bytes None = Is bytes → ⊥
