-- Believed: what a writer took. A writer says by two relations between its value before and after what taking some bytes
-- leaves of it, `took`, and what a refusal leaves of it, `refused`.
use Rattle.std.specs.Prelude.{◌≡◌, ⊤, ℕ, ◌<◌, ◌≤◌, List, length, take, Option, Some, None, Result, Ok, Err}

-- One write of these bytes, by its answer: the writer took a prefix of them, and taking none of some is a refusal;
-- or it refused.
abbrev pub IsWrite : {W E : Type 0} → (W → List ℕ → W → Type 0) → (W → W → Type 0) → W → List ℕ → Result ℕ E → W → Type 0
IsWrite took refused old bytes (Ok count) new = record {
  bound : count ≤ length bytes;
  taken : took old (take count bytes) new;
  none_taken : count ≡ 0 → 0 < length bytes → refused old new;
}
IsWrite took refused old bytes (Err fault) new = refused old new

-- The writer `old` took the first `count` of these bytes, fewer than all, then refused, and is `new`.
pub record StopsAfter {W : Type 0} (took : W → List ℕ → W → Type 0) (refused : W → W → Type 0) (old : W) (bytes : List ℕ) (count : ℕ)
    (new : W)
    : Type 0 where
  pub some_left : count < length bytes
  pub asked : W
  pub before : took old (take count bytes) asked
  pub refusal : refused asked new

-- What a writer that may not be there took, or its refusal: where there is none, all bytes are taken, and none are kept.
abbrev pub took_if_there : {W : Type 0} → (W → List ℕ → W → Type 0) → Option W → List ℕ → Option W → Type 0
took_if_there took (Some old) bytes (Some new) = took old bytes new
took_if_there took None bytes None = ⊤
took_if_there took old bytes new = ⊥

abbrev pub refused_if_there : {W : Type 0} → (W → W → Type 0) → Option W → Option W → Type 0
refused_if_there refused (Some old) (Some new) = refused old new
refused_if_there refused old new = ⊥
