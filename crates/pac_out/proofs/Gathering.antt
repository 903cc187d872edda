-- A text that is gathered in parts: what is done of it, and what is left.
use Rattle.std.proofs.Common.{arith}
use Rattle.std.proofs.Common.{rules}
use Rattle.std.proofs.lemmas.Bool.Decides.{nat_tests}
use Rattle.pac_out.proofs.Common.{Counted, Err, Gathers, Holds, List, Ok, Puts, Refuses, Result, Takes, WriteFault, [], ap}
use Rattle.pac_out.proofs.Common.{append-nil, append_assoc, refl, subst, sym, ℕ, ◌++◌, ◌∙◌, ◌≡◌}
use Rattle.pac_out.proofs.Files.{takes-nothing, takes-joined, refuses-after, refuses-within}

-- Of this text a part is gathered, after what waited, and the rest is left.
pub record Leaves {W : Type 0} (took : W → List ℕ → W → Type 0) (waiting : List ℕ) (old : Counted W) (text rest later : List ℕ)
    (new : Counted W)
    : Type 0 where
  pub done : List ℕ
  pub parts : text ≡ done ++ rest
  pub holds : Holds took old (waiting ++ done) later new

module _ {W : Type 0} {took : W → List ℕ → W → Type 0} {old : Counted W} where
  -- what waits, waits
  pub holds-waiting : (text : List ℕ) → Holds took old text text old
  holds-waiting text = record { put = []; parts = refl; takes = takes-nothing old }

  -- what waited is written, and nothing waits
  pub holds-written : {new : Counted W} {text : List ℕ} → Takes took old text new → Holds took old text [] new
  holds-written {text = text} takes = record { put = text; parts = sym (append-nil text); takes = takes }

  -- what waited is written, and then the bytes
  pub gathers-put : {A : Type 0} (refused : W → W → Type 0) (result : Result A WriteFault) (bytes : List ℕ) (new : Counted W)
      {waiting later : List ℕ} {mid : Counted W} → Takes took old waiting mid → Puts took refused mid bytes result new → later ≡ []
      → Gathers took refused waiting old bytes result later new
  gathers-put refused (Ok done) bytes new {waiting} takes puts empty =
      subst (λ (later : List ℕ). Holds took old (waiting ++ bytes) later new) (sym empty) (holds-written (takes-joined takes puts.takes))
  gathers-put refused (Err fault) bytes new takes puts empty = refuses-after takes puts

module _ {W : Type 0} {took : W → List ℕ → W → Type 0} {waiting : List ℕ} {old : Counted W} where
  -- nothing is done yet
  pub leaves-all : (text : List ℕ) → Leaves took waiting old text text waiting old
  leaves-all text = grind (arith, nat_tests, append-nil, holds-waiting)

  -- all is done
  pub leaves-nothing : {text later : List ℕ} {new : Counted W} → Leaves took waiting old text [] later new
      → Holds took old (waiting ++ text) later new
  leaves-nothing {later = later} {new = new} leaves = grind (arith, nat_tests, append-nil)

  whole : (one rest : List ℕ) {text later : List ℕ} {mid : Counted W} (leaves : Leaves took waiting old text (one ++ rest) later mid)
      → leaves.holds.put ++ (later ++ one) ≡ waiting ++ (leaves.done ++ one)
  whole one rest {later = later} leaves = grind (arith, nat_tests, append_assoc)

  -- one more part is gathered
  pub leaves-less : (one rest : List ℕ) {text mid_later later : List ℕ} {mid new : Counted W}
      → Leaves took waiting old text (one ++ rest) mid_later mid → Holds took mid (mid_later ++ one) later new
      → Leaves took waiting old text rest later new
  leaves-less one rest {later = later} leaves holds =
      record {
        done = leaves.done ++ one;
        parts = leaves.parts ∙ sym (append_assoc leaves.done one rest);
        holds = record {
          put = leaves.holds.put ++ holds.put;
          parts = sym (whole one rest leaves) ∙ ap (λ all. leaves.holds.put ++ all) holds.parts
              ∙ sym (append_assoc leaves.holds.put holds.put later);
          takes = takes-joined leaves.holds.takes holds.takes;
        };
      }

  -- the writer refuses within one more part
  pub leaves-refused : (one rest : List ℕ) {refused : W → W → Type 0} {text later : List ℕ} {fault : WriteFault} {mid new : Counted W}
      → Leaves took waiting old text (one ++ rest) later mid → Refuses took refused mid (later ++ one) fault new
      → Refuses took refused old (waiting ++ text) fault new
  leaves-refused one rest {refused = refused} {text = text} {fault = fault} {new = new} leaves refuses =
      subst (λ (all : List ℕ). Refuses took refused old all fault new)
      (append_assoc waiting (leaves.done ++ one) rest
      ∙ ap (λ all. waiting ++ all) (append_assoc leaves.done one rest ∙ sym leaves.parts))
      (refuses-within (subst (λ (all : List ℕ). Refuses took refused old all fault new) (whole one rest leaves)
      (refuses-after leaves.holds.takes refuses)) rest)

module _ {W : Type 0} {took : W → List ℕ → W → Type 0} {old : Counted W} (refused : W → W → Type 0) (waiting one other : List ℕ) where
  -- two parts, of which the first is gathered
  pub gathers-both : {A : Type 0} (result : Result A WriteFault) (later : List ℕ) (new : Counted W) {mid_later : List ℕ} {mid : Counted W}
      → Holds took old (waiting ++ one) mid_later mid → Gathers took refused mid_later mid other result later new
      → Gathers took refused waiting old (one ++ other) result later new
  gathers-both (Ok done) later new {mid_later} {mid} first second = search (rules, leaves-nothing, leaves-less, append-nil, leaves-all)
  gathers-both (Err fault) later new {mid_later} {mid} first second =
      leaves-refused other [] (subst (λ (rest : List ℕ). Leaves took waiting old (one ++ other) rest mid_later mid)
      (sym (append-nil other)) (leaves-less one other (leaves-all (one ++ other)) first)) second

  -- the writer refuses within the first of two parts
  pub gathers-within : {fault : WriteFault} {new : Counted W} → Refuses took refused old (waiting ++ one) fault new
      → Refuses took refused old (waiting ++ (one ++ other)) fault new
  gathers-within refuses = leaves-refused one other (leaves-all (one ++ other)) refuses
