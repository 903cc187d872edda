-- For proofs: the writer that counts bytes, and its laws. The lemmas stand here and not in proofs/, since the laws of an `impl` can cite
-- nothing else of their crate.
use Rattle.std.proofs.Common.{◌≡◌, ◌≤◌, ℕ, ◌+◌, ◌-◌, ◌^◌, List, [], ◌++◌, length, length-append, arith}
use Rattle.pac_source.specs.declared.size.Size.{Size}

-- so many bytes more
abbrev pub size_took : Size → List ℕ → Size → Type 0
size_took old bytes new = new.bytes ≡ old.bytes + length bytes

-- it refuses only where it has the greatest count
abbrev pub size_refused : Size → Size → Type 0
size_refused old new = 2 ^ 64 - 1 ≤ old.bytes

pub size-nothing : (size : Size) → size_took size [] size
size-nothing size = omega arith

pub size-joined : (first second third : Size) (prefix suffix : List ℕ) → size_took first prefix second → size_took second suffix third
    → size_took first (prefix ++ suffix) third
size-joined first second third prefix suffix one other =
    let long = length-append prefix suffix in
    omega (arith, long, one, other)
