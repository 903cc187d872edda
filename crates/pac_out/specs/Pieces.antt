-- Believed: a text in pieces.
use Rattle.std.specs.Prelude.{ℕ, List, flat_map}

-- a text is the join of its pieces
abbrev pub joined_pieces : List (List ℕ) → List ℕ
joined_pieces pieces = flat_map (λ piece. piece) pieces
