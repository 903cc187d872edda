-- Believed: a file: a writer with the count of the bytes that it took, over all calls.
use Rattle.std.specs.Prelude.{ℕ, ◌-◌, ◌^◌, min}

-- what a file tells of so many bytes: their number, exact below 2^64
abbrev pub file_count : ℕ → ℕ
file_count bytes = min bytes (2 ^ 64 - 1)
