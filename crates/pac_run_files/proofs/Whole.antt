-- All that a reader has left, read up to one byte too far.
use Rattle.std.proofs.Common.{◌≡◌, ℕ, ◌+◌, ◌<◌, ◌≤◌, List, [], ◌++◌, length, take, Option, None, Some, IfSome, option_map, arith, ap, ◌∙◌}
use Rattle.std.proofs.lemmas.List.{take_all, length-take}

module _ (most : ℕ) (bytes : List ℕ) where
  pub few : (left : Option (List ℕ)) → IfSome (option_map (take (most + 1)) left) (λ known. bytes ≡ [] ++ known) → length bytes ≤ most
      → IfSome left (λ known. bytes ≡ known)
  few None read small = tt
  few (Some known) read small =
      let count = ap length read in
      let cut = length-take (most + 1) known in
      read ∙ take_all (most + 1) known (omega (arith, small, count, cut))

  pub many : (left : Option (List ℕ)) → IfSome (option_map (take (most + 1)) left) (λ known. bytes ≡ [] ++ known) → most < length bytes
      → IfSome left (λ known. most < length known)
  many None read large = tt
  many (Some known) read large =
      let count = ap length read in
      let cut = length-take (most + 1) known in omega (arith, large, count, cut)
