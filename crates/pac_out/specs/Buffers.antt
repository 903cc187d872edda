-- For proofs: the writer into a host's buffer, and its laws. The lemmas stand here and not in proofs/, since the laws of an `impl` can
-- cite nothing else of their crate.
use Rattle.std.proofs.Common.{◌≡◌, ◌≤◌, ℕ, ◌+◌, ◌-◌, List, [], ◌++◌, length, take, drop, refl, sym, length-append, append-nil, append_assoc}
use Rattle.std.proofs.Common.{ap, ◌∙◌, arith}
use Rattle.std.proofs.lemmas.List.{drop-drop}
use Rattle.pac_out.specs.declared.buffer.HostBuffer.{HostBuffer}

-- The bytes are after those that it had, for which there was room, and what is after them stays.
pub record BufferTakes (old : HostBuffer) (bytes : List ℕ) (new : HostBuffer) : Type 0 where
  pub same : new.bytes.ghost_name ≡ old.bytes.ghost_name
  pub taken : new.taken ≡ old.taken + length bytes
  pub size : length new.bytes.now ≡ length old.bytes.now
  pub room : length bytes ≤ length old.bytes.now - old.taken
  pub text : take new.taken new.bytes.now ≡ take old.taken old.bytes.now ++ bytes
  pub rest : drop new.taken new.bytes.now ≡ drop new.taken old.bytes.now

abbrev pub buffer_took : HostBuffer → List ℕ → HostBuffer → Type 0
buffer_took old bytes new = BufferTakes old bytes new

-- it refuses only where it is full
abbrev pub buffer_refused : HostBuffer → HostBuffer → Type 0
buffer_refused old new = length old.bytes.now ≤ old.taken

-- what is the same from a place on is so from a later one on
rest-later : (place later : ℕ) (new old : List ℕ) → place ≤ later → drop place new ≡ drop place old → drop later new ≡ drop later old
rest-later place later new old after same =
    let sum : place + (later - place) ≡ later = omega (arith, after) in
    ap (λ n. drop n new) (sym sum)
    ∙ sym (drop-drop (later - place) place new)
    ∙ ap (drop (later - place)) same
    ∙ drop-drop (later - place) place old
    ∙ ap (λ n. drop n old) sum

pub buffer-nothing : (buffer : HostBuffer) → buffer_took buffer [] buffer
buffer-nothing buffer = record {
  same = refl;
  taken = omega arith;
  size = refl;
  room = omega arith;
  text = sym (append-nil (take buffer.taken buffer.bytes.now));
  rest = refl;
}

pub buffer-joined : (first second third : HostBuffer) (prefix suffix : List ℕ) → buffer_took first prefix second
    → buffer_took second suffix third → buffer_took first (prefix ++ suffix) third
buffer-joined first second third prefix suffix one other =
    let long = length-append prefix suffix in
    let t = one.taken in
    let u = other.taken in
    let s = one.size in
    record {
      same = other.same ∙ one.same;
      taken = omega (arith, long, t, u);
      size = other.size ∙ one.size;
      room = let r = one.room in let more = other.room in omega (arith, long, t, s, r, more);
      text = other.text ∙ (ap (λ held. held ++ suffix) one.text ∙ append_assoc (take first.taken first.bytes.now) prefix suffix);
      rest =
          other.rest
          ∙ rest-later second.taken third.taken second.bytes.now first.bytes.now (omega (arith, u)) one.rest;
    }
