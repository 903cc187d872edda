-- A list that is made piece by piece: the pieces before one, that one, and the others.
use Rattle.pac_lemmas.proofs.Common.{List, Option, [], ap, append-nil, append_assoc, cons_option, drop, filter_map, filter_map-append}
use Rattle.pac_lemmas.proofs.Common.{flat_map, flat_map-append, get_or, length, map, map-append, map_more, refl, sym, take}
use Rattle.pac_lemmas.proofs.Common.{take-append-drop, take_more, ℕ, ◌++◌, ◌+◌, ◌<◌, ◌∙◌, ◌∷◌, ◌≡◌}

pub flat_map-one-more : {X Y : Type 0} (f : X → List Y) (xs : List X) (i : ℕ) (d : X) → i < length xs
    → flat_map f (take i xs) ++ f (get_or xs i d) ≡ flat_map f (take (i + 1) xs)
flat_map-one-more f xs i d lt = cc (append-nil (f (get_or xs i d)), flat_map-append f (take i xs) (get_or xs i d ∷ []), take_more xs i d lt)

pub flat_map-split : {X Y : Type 0} (f : X → List Y) (xs : List X) (i : ℕ) (d : X) → i < length xs
    → (flat_map f (take i xs) ++ f (get_or xs i d)) ++ flat_map f (drop (i + 1) xs) ≡ flat_map f xs
flat_map-split f xs i d lt =
    cc (flat_map-one-more f xs i d lt, flat_map-append f (take (i + 1) xs) (drop (i + 1) xs), take-append-drop (i + 1) xs)

-- lists made of pieces of one element each
pub map-one-more : {X Y : Type 0} (f : X → Y) (xs : List X) (i : ℕ) (d : X) → i < length xs
    → map f (take i xs) ++ f (get_or xs i d) ∷ [] ≡ map f (take (i + 1) xs)
map-one-more f xs i d lt = sym (map_more f xs i d lt)

pub map-split : {X Y : Type 0} (f : X → Y) (xs : List X) (i : ℕ) (d : X) → i < length xs
    → map f (take i xs) ++ f (get_or xs i d) ∷ map f (drop (i + 1) xs) ≡ map f xs
map-split f xs i d lt =
    sym (append_assoc (map f (take i xs)) (f (get_or xs i d) ∷ []) (map f (drop (i + 1) xs)))
    ∙ ap (λ part. part ++ map f (drop (i + 1) xs)) (map-one-more f xs i d lt)
    ∙ sym (map-append f (take (i + 1) xs) (drop (i + 1) xs)) ∙ ap (map f) (take-append-drop (i + 1) xs)

-- and where it is one or none
pub filter_map-one-more : {X Y : Type 0} (f : X → Option Y) (xs : List X) (i : ℕ) (d : X) (answer : Option Y) → i < length xs
    → answer ≡ f (get_or xs i d) → filter_map f (take (i + 1) xs) ≡ filter_map f (take i xs) ++ cons_option answer []
filter_map-one-more f xs i d answer within same =
    rw (take_more xs i d within, filter_map-append f (take i xs) (get_or xs i d ∷ []), same) refl
