-- For proofs: a sink for steps that are done again: what they give was taken before, and goes nowhere.
use Rattle.std.specs.Prelude.{◌≡◌}
use Rattle.pac_board_course.specs.Output.{Output}

-- the sink takes all, and keeps nothing
abbrev pub Swallows : {S : Type 0} → S → Output → S → Type 0
Swallows old output new = new ≡ old

-- the sink refuses nothing
abbrev pub NeverRefuses : {S : Type 0} → S → Output → S → Type 0
NeverRefuses old output new = ⊥
