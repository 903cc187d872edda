-- For proofs: what proofs say of the definitions of Files.antt.
use Rattle.pac_run_files.specs.declared.files.ReadError.TheVariants as reading
use Rattle.std.specs.Prelude.{ℕ, Option, List, Result, Vec, Ok, IfSome, length, Err, ⊤, ◌≡◌, ◌<◌, ◌≤◌}
use Rattle.std.specs.declared.alloc.Global.{Global}
use Rattle.pac_run_files.specs.declared.files.ReadError.{ReadError}

-- Reading all that a reader has left, as far as this is known: these bytes, and no more than may be; or they are more. For want of
-- memory, or where the reader fails, anything may be left.
abbrev pub IsReadWhole : (most : ℕ) → (left : Option (List ℕ)) → Result (Vec ℕ Global) ReadError → Type 0
IsReadWhole most left (Ok bytes) = IfSome left (λ known. bytes.items ≡ known) × (length bytes.items ≤ most)
IsReadWhole most left (Err reading.TooLong) = IfSome left (λ known. most < length known)
IsReadWhole most left (Err other) = ⊤
