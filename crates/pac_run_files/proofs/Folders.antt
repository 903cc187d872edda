-- The folder of a path: what stands before its last slash.
use Rattle.pac_run_files.proofs.Common.{Bor, List, MatchOption, NoCharPasses-char, None, Option, RFindsChar, Some, [], ap, arith}
use Rattle.pac_run_files.proofs.Common.{before_slash, drop, drop_at_char, get_or, length, option_map, put_before, refl, slash, suc, sym}
use Rattle.pac_run_files.proofs.Common.{take, take-append-drop, ℕ, ◌++◌, ◌+◌, ◌<◌, ◌∙◌, ◌∷◌, ◌≡◌, ◌≢◌, ◌≤◌}

-- no byte is a slash
abbrev pub HasNone : List ℕ → Type 0
HasNone path = (i : ℕ) → i < length path → get_or path i 0 ≢ slash

none-before : (path : List ℕ) → HasNone path → before_slash path ≡ None
none-before [] none = refl
none-before (byte ∷ path) none =
    let other : byte ≢ slash = none 0 (omega arith) in
    ap (put_before byte) (none-before path (λ i below. none (suc i) (omega (arith, below)))) ∙ grind (arith, other)

last-before : (front file : List ℕ) → HasNone file → before_slash (front ++ slash ∷ file) ≡ Some front
last-before [] file none = ap (put_before slash) (none-before file none)
last-before (byte ∷ front) file none = ap (put_before byte) (last-before front file none)

-- takes the clause of `rsplit_once` at a slash
pub split-at-slash : (path : List ℕ) (split : Option (Bor (List ℕ) × Bor (List ℕ)))
    → MatchOption split (RFindsChar 47 path None) (λ x. (i : ℕ) × (j : ℕ) × RFindsChar 47 path (Some (i, j)) × (x.0.now ≡ take i path)
    × (x.1.now ≡ drop j path) × (i ≤ j) × (length x.0.now ≡ i) × (length x.1.now + j ≡ length path))
    → before_slash path ≡ option_map (λ x. x.0.now) split
split-at-slash path None clause = none-before path (λ i. NoCharPasses-char 47 path i clause (omega arith))
split-at-slash path (Some split) clause =
    let i = clause.0 in
    let j = clause.1 in
    let parts = sym (take-append-drop i path) ∙ ap (λ rest. take i path ++ rest) (drop_at_char 47 path i j clause.2.1 (omega arith)) in
    ap before_slash parts
    ∙ last-before (take i path) (drop j path) (λ k. NoCharPasses-char 47 (drop j path) k clause.2.0 (omega arith))
    ∙ ap Some (sym clause.3)
