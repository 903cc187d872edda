-- For proofs: the laws of the writers: taking nothing changes nothing, and taking some bytes and then others is taking all of
-- them. These lemmas stand here and not in proofs/, since the laws of an `impl` can cite nothing else of their crate.
use Rattle.std.proofs.Common.{List, [], ◌++◌, ℕ, Option, None, Some, refl, sym, length-append, append-nil, append_assoc, ◌∙◌, ap, arith}
use Rattle.std.specs.Io.KnownBytes.{Appends}
use Rattle.pac_out.specs.Memory.{Space, Adds}
use Rattle.pac_out.specs.Faulty.{WeakWriter, Passes}
use Rattle.pac_out.specs.Writes.{took_if_there}

-- memory
pub adds-nothing : (writer : Space) → Adds writer [] writer
adds-nothing writer = record { after = sym (append-nil writer.bytes); used = omega arith }

pub adds-joined : (first second third : Space) (prefix suffix : List ℕ) → Adds first prefix second → Adds second suffix third
    → Adds first (prefix ++ suffix) third
adds-joined first second third prefix suffix one other =
    record {
      after = other.after ∙ (ap (λ held. held ++ suffix) one.after ∙ append_assoc first.bytes prefix suffix);
      used = let e = one.used in let f = other.used in rw length-append (omega (arith, e, f));
    }

-- the weak writer over it
pub passes-nothing : (writer : WeakWriter) → Passes writer [] writer
passes-nothing writer = record { added = adds-nothing writer.space; same_most = refl; fewer = omega arith; still_comes = λ comes. comes }

pub passes-joined : (first second third : WeakWriter) (prefix suffix : List ℕ) → Passes first prefix second → Passes second suffix third
    → Passes first (prefix ++ suffix) third
passes-joined first second third prefix suffix one other =
    record {
      added = adds-joined _ _ _ _ _ one.added other.added;
      same_most = other.same_most ∙ one.same_most;
      fewer = let e = one.fewer in let f = other.fewer in omega (arith, e, f);
      still_comes = λ comes. other.still_comes (one.still_comes comes);
    }

-- a writer of std's, as far as the bytes that it holds are known
pub appends-nothing : (known : Option (List ℕ)) → Appends known known []
appends-nothing None = tt
appends-nothing (Some held) = sym (append-nil held)

pub appends-joined : (first second third : Option (List ℕ)) (prefix suffix : List ℕ) → Appends first second prefix
    → Appends second third suffix
    → Appends first third (prefix ++ suffix)
appends-joined None second third prefix suffix one other = tt
appends-joined (Some a) None third prefix suffix one other = absurd one
appends-joined (Some a) (Some b) None prefix suffix one other = absurd other
appends-joined (Some a) (Some b) (Some c) prefix suffix one other = other ∙ (ap (λ held. held ++ suffix) one ∙ append_assoc a prefix suffix)

-- a writer that may not be there
module _ {W : Type 0} (took : W → List ℕ → W → Type 0) where
  pub nothing-if-there : ((writer : W) → took writer [] writer) → (writer : Option W) → took_if_there took writer [] writer
  nothing-if-there nothing (Some writer) = nothing writer
  nothing-if-there nothing None = tt

  pub joined-if-there : ((first second third : W) (prefix suffix : List ℕ) → took first prefix second → took second suffix third
      → took first (prefix ++ suffix) third)
      → (first second third : Option W) (prefix suffix : List ℕ) → took_if_there took first prefix second
      → took_if_there took second suffix third → took_if_there took first (prefix ++ suffix) third
  joined-if-there joined (Some first) (Some second) (Some third) prefix suffix one other =
      joined first second third prefix suffix one other
  joined-if-there joined (Some first) (Some second) None prefix suffix one other = absurd other
  joined-if-there joined (Some first) None third prefix suffix one other = absurd one
  joined-if-there joined None (Some second) third prefix suffix one other = absurd one
  joined-if-there joined None None (Some third) prefix suffix one other = absurd other
  joined-if-there joined None None None prefix suffix one other = tt
