-- What a sink took and refused, output by output.
use Rattle.std.proofs.lemmas.Bool.Decides.{nat_tests}
use Rattle.pac_board.proofs.Common.{Cut, Giving, List, Output, RefusesAt, Sound, Then, TookAll, [], ap, append_assoc, arith, get_or, length}
use Rattle.pac_board.proofs.Common.{map, map-append, refl, subst, sym, take, take_more, ℕ, ℤ, ◌++◌, ◌+◌, ◌<◌, ◌∙◌, ◌∷◌, ◌≡◌, ◌≤◌}
use mathlib.Core.List.{IsPrefix}

-- ---- taking some outputs, and then others

module _ {S : Type 0} (took : S → Output → S → Type 0) where
  pub took-both : (first second : List Output) (old between new : S) → TookAll took old first between → TookAll took between second new
      → TookAll took old (first ++ second) new
  took-both [] second old between new before after = subst (λ s. TookAll took s second new) before after
  took-both (output ∷ more) second old between new before after =
      grind (arith, nat_tests, took-both more second before.between between new before.after after)

  -- one more of a batch
  pub took-more : (samples : List ℤ) (sample : ℤ) (n : ℕ) (old between new : S) → n < length samples → sample ≡ get_or samples n sample
      → TookAll took old (map Sound (take n samples)) between → took between (Sound sample) new
      → TookAll took old (map Sound (take (n + 1) samples)) new
  took-more samples sample n old between new inside is before last =
      rw (take_more samples n sample inside, ← is, map-append Sound (take n samples) (sample ∷ []))
      (took-both (map Sound (take n samples)) (Sound sample ∷ []) old between new before
      (record { between = new; before = last; after = refl }))

  -- no sample is a batch that leaves a sink as it was
  pub took-none : (samples : List ℤ) (old : S) → length samples ≤ 0 → TookAll took old (map Sound samples) old
  took-none [] old none = refl
  took-none (sample ∷ more) old none = absurd (omega (arith, none))

  -- the other way round
  pub took-parts : (first second : List Output) (old new : S) → TookAll took old (first ++ second) new
      → Then (TookAll took old first) (λ between. TookAll took between second new)
  took-parts [] second old new all = record { between = old; before = refl; after = all }
  took-parts (output ∷ more) second old new all = grind (arith, nat_tests, took-parts more second all.between new all.after)

-- ---- taking some outputs, and refusing one

-- outputs that are cut stay cut where they, and those that are left, go by other names
abbrev pub cut-along : {S : Type 0} {to : Giving S} {given outputs left rest : List Output} {old new : S} → given ≡ outputs → left ≡ rest
    → Cut to old outputs left new → Cut to old given rest new
cut-along {to} {old} {new} given_is rest_is cut =
    record {
      taken = cut.taken;
      parts = given_is ∙ cut.parts ∙ ap (λ left. cut.taken ++ left) rest_is;
      refuses = subst (λ left. RefusesAt to old cut.taken left new) rest_is cut.refuses;
    }

-- some outputs are taken first
abbrev pub cut-after : {S : Type 0} {to : Giving S} {outputs left : List Output} (first : List Output) (old between new : S)
    → TookAll to.took old first between → Cut to between outputs left new → Cut to old (first ++ outputs) left new
cut-after {to} {left} first old between new before cut =
    record {
      taken = first ++ cut.taken;
      parts = ap (λ outputs. first ++ outputs) cut.parts ∙ sym (append_assoc first cut.taken left);
      refuses = record {
        asked = cut.refuses.asked;
        before = took-both to.took first cut.taken old between cut.refuses.asked before cut.refuses.before;
        first = cut.refuses.first;
        rest = cut.refuses.rest;
        left_is = cut.refuses.left_is;
        refusal = cut.refuses.refusal;
      };
    }

-- so much is the first of more, after others too
pub prefix-after : (first second whole : List Output) → IsPrefix second whole → IsPrefix (first ++ second) (first ++ whole)
prefix-after first second whole is = (is.0, append_assoc first second is.0 ∙ ap (λ outputs. first ++ outputs) is.1)

-- some output was refused, so there was one
pub cut-something : {S A : Type 0} {to : Giving S} {outputs left : List Output} {old new : S} → Cut to old outputs left new
    → outputs ≡ [] → A
cut-something {A} {left} cut none = choose cut.taken (sym none ∙ cut.parts)
  where
    choose : (taken : List Output) → [] ≡ taken ++ left → A
    choose [] parts = let is = parts ∙ cut.refuses.left_is in absurd (cc)
    choose (output ∷ more) parts = absurd (cc)
