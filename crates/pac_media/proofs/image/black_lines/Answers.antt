use Rattle.pac_media.proofs.Common.{List, [], add-one, arith, black, refl, rules, tabulate, ℕ, ◌++◌, ◌+◌, ◌∷◌, ◌≡◌}
use Rattle.pac_media.proofs.image.black_lines.Goals as goal

-- a list that grows by the next value
push-step : {A : Type 0} (xs ys : List A) (count : ℕ) (value : ℕ → A) (next : A) → ys ≡ xs ++ next ∷ [] → next ≡ value count →
    xs ≡ tabulate count value → ys ≡ tabulate (count + 1) value
unfolding tabulate
push-step xs ys count value next grown is so_far = rw (add-one, grown, so_far, is)

pub loop-init : goal.loop-init
unfolding tabulate
loop-init c = search rules

pub loop-preserved : goal.loop-preserved
loop-preserved c = push-step _ _ c.loop.counter _ _ (search rules) refl c.loop.invariant

pub returns : goal.returns
unfolding black
returns c = let all : c.loop.counter ≡ 224 = omega arith in rw all at c.loop.invariant
