-- For proofs: the breakpoints that a session keeps, and the map of all addresses that marks them.
use Rattle.std.specs.Prelude.{◌≡◌, ◌<◌, ◌==◌, ◌++◌, ℕ, Bool, List, [], ◌∷◌, length, Option, Result, Ok, Err, if◌then◌else◌}
use Rattle.std.specs.List.{list_any}
use Rattle.pac_board_course.specs.Stops.{is_stop}
use Rattle.pac_debug_session.specs.Session.{most_breakpoints}

-- of all addresses steps are to stop at these
abbrev pub AreStops : Option (List ℕ) → (addresses : List ℕ) → Type 0
AreStops stops addresses = (at : ℕ) → is_stop stops at ≡ list_any (λ address. address == at) addresses

-- those that a motion looks at
abbrev pub heeded_if : Bool → List ℕ → List ℕ
heeded_if heeded breakpoints = if heeded then breakpoints else []

abbrev pub IsAdded : {A E : Type 0} → (old : List ℕ) → (address : ℕ) → Result A E → (new : List ℕ) → Type 0
IsAdded old address (Ok done) new = (length old < most_breakpoints) × (new ≡ old ++ address ∷ [])
IsAdded old address (Err full) new = (length old ≡ most_breakpoints) × (new ≡ old)
