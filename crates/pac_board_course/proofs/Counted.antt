-- Walks whose tries are their steps, and walks to two limits.
use Rattle.pac_board_course.proofs.Common.{Bool, IsTimely, Moment, Next, None, arith, false, going-before, going-counted, has_ended, refl}
use Rattle.pac_board_course.proofs.Common.{rules, suc, true, walk, zero, ℕ, ◌+◌, ◌≡◌, ◌≤◌}
use Rattle.pac_board.proofs.Walks.{going-yet}

-- ---- steps and tries

module _ {Board : Type 0} (next : Moment Board → Next Board) (limit : ℕ) (timely : (now : Moment Board) → IsTimely now (next now)) where
  -- where each try made a step, the walk had not ended before the last one
  pub going-if-counted : (from : Moment Board) (n : ℕ) → (walk next limit from (suc n)).now.steps ≡ from.steps + suc n
      → has_ended limit (walk next limit from n) ≡ false
  going-if-counted from n counted = going-yet next limit timely from n (suc n) (omega (arith, counted))

  -- a walk without a stop, by as many tries as it made steps
  abbrev pub IsCounted : Moment Board → ℕ → Type 0
  IsCounted from n =
      (steps : ℕ) × (walk next limit from steps ≡ walk next limit from n) × ((walk next limit from steps).now.steps ≡ from.steps + steps)

  counted-on : (from : Moment Board) (n : ℕ) (ended : Bool) → has_ended limit (walk next limit from n) ≡ ended
      → (walk next limit from (suc n)).stop ≡ None → ((walk next limit from n).stop ≡ None → IsCounted from n) → IsCounted from (suc n)
  counted-on from n true e open_yet so_far = search rules
  counted-on from n false e open_yet so_far = (suc n, refl, (going-counted next limit timely from n e open_yet).steps)

  pub counted : (from : Moment Board) (n : ℕ) → (walk next limit from n).stop ≡ None → IsCounted from n
  counted from zero open_yet = (zero, refl, omega arith)
  counted from (suc n) open_yet = counted-on from n (has_ended limit (walk next limit from n)) refl open_yet (counted from n)

-- ---- two limits

module _ {Board : Type 0} (next : Moment Board → Next Board) (first second : ℕ) where
  step-further : (from : Moment Board) (n : ℕ) → first ≤ second → has_ended first (walk next first from n) ≡ false
      → walk next first from n ≡ walk next second from n → walk next first from (suc n) ≡ walk next second from (suc n)
  step-further from n less going same = search rules

  -- a walk that goes on is the same to each later limit, and so is one that went on before its last try
  pub going-same : (from : Moment Board) (n : ℕ) → first ≤ second → has_ended first (walk next first from n) ≡ false
      → walk next first from n ≡ walk next second from n
  going-same from zero less going = refl
  going-same from (suc n) less going =
      let before = going-before next first from n (suc n) (omega arith) going in
      step-further from n less before (going-same from n less before)

  pub going-next : (from : Moment Board) (n : ℕ) → first ≤ second → has_ended first (walk next first from n) ≡ false
      → walk next first from (suc n) ≡ walk next second from (suc n)
  going-next from n less going = step-further from n less going (going-same from n less going)
