-- The ring of checkpoints: it is full before one is taken and after, and it is filled one by one.
use Rattle.pac_debug_session.proofs.Common.{List, SessionSnapshot, [], ap, arith, common_steps, drop, keep_last, length, length-append}
use Rattle.pac_debug_session.proofs.Common.{length-drop, ℕ, ◌++◌, ◌+◌, ◌-◌, ◌<◌, ◌∷◌, ◌≡◌, ◌≤◌}

-- one that is dropped makes room for one that comes
pub one-for-one : (kept : List SessionSnapshot) (one : SessionSnapshot) (capacity : ℕ) → length kept ≡ 16 → capacity ≡ 16
    → keep_last capacity (drop 1 kept ++ one ∷ []) ≡ drop 1 kept ++ one ∷ []
one-for-one kept one capacity count room =
    let all = drop 1 kept ++ one ∷ [] in
    let parts = length-append (drop 1 kept) (one ∷ []) in
    let none : length all - capacity ≡ 0 = omega (arith, length-drop 1 kept, parts, count, room) in
    ap (λ n. drop n all) none

-- and they are as many as before
pub as-many : (kept : List SessionSnapshot) (one : SessionSnapshot) → length kept ≡ 16 → length (drop 1 kept ++ one ∷ []) ≡ 16
as-many kept one count = omega (arith, length-drop 1 kept, length-append (drop 1 kept) (one ∷ []))

-- one more in one that isn't full
pub one-more-kept : (kept : List SessionSnapshot) (one : SessionSnapshot) (capacity count : ℕ) → length kept ≡ count → count < 16
    → capacity ≡ 16 → length (keep_last capacity (kept ++ one ∷ [])) ≡ count + 1
one-more-kept kept one capacity count is below room = grind (arith, common_steps)

pub all-made : (made count : ℕ) → made ≡ count → 16 ≤ count → count ≤ 16 → made ≡ 16
all-made made count is low high = omega arith
