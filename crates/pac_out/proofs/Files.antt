-- What a file took, and where it stopped, in a text that is put together of parts.
use Rattle.std.proofs.lemmas.Bool.Decides.{nat_tests}
use Rattle.pac_out.proofs.Common.{Counted, Err, HasPut, HasTaken, List, Ok, Puts, Refuses, Result, StopsAfter, Takes}
use Rattle.pac_out.proofs.Common.{WriteFault, [], append-nil, append_assoc, arith, length, length-append}
use Rattle.pac_out.proofs.Common.{sym, take-append-add, take-append-le, ℕ, ◌++◌, ◌+◌, ◌<◌, ◌^◌, ◌∙◌}

-- taking some bytes and then others is taking all of them
abbrev pub Joins : {W : Type 0} → (W → List ℕ → W → Type 0) → Type 0
Joins took = (first second third : _) (prefix suffix : List ℕ) → took first prefix second → took second suffix third
    → took first (prefix ++ suffix) third

-- A writer that took a text and then stopped in some bytes stopped in the text with those bytes.
pub stops-after : {W : Type 0} {took : W → List ℕ → W → Type 0} {refused : W → W → Type 0} → Joins took
    → {start old new : W} {text bytes : List ℕ} {count : ℕ}
    → took start text old → StopsAfter took refused old bytes count new
    → StopsAfter took refused start (text ++ bytes) (length text + count) new
stops-after joined taken stop = grind (arith, nat_tests, length-append, take-append-add)

-- A writer that stopped in a text stopped in each longer one.
pub stops-within : {W : Type 0} {took : W → List ℕ → W → Type 0} {refused : W → W → Type 0} {start new : W} {text : List ℕ} {count : ℕ}
    → StopsAfter took refused start text count new → (more : List ℕ) → StopsAfter took refused start (text ++ more) count new
stops-within {text = text} {count = count} stop more = grind (arith, nat_tests, length-append, take-append-le)

module _ {W : Type 0} {took : W → List ℕ → W → Type 0} where
  -- nothing was put
  pub takes-nothing : (file : Counted W) → Takes took file [] file
  takes-nothing file = grind (arith, nat_tests, append-nil)

  -- some bytes, and then others
  pub takes-joined : {old mid new : Counted W} {one other : List ℕ} → Takes took old one mid → Takes took mid other new
      → Takes took old (one ++ other) new
  takes-joined {new = new} {one = one} {other = other} first second = grind (arith, nat_tests, append_assoc)

  -- some bytes, and then others that are put
  pub put-after : {old mid new : Counted W} {one other : List ℕ} → Takes took old one mid → HasPut took mid other new
      → HasPut took old (one ++ other) new
  put-after first second = record { was_open = sym first.failed_is ∙ second.was_open; takes = takes-joined first second.takes }

  module _ {refused : W → W → Type 0} where
    -- a refusal after some bytes
    pub refuses-after : {old mid new : Counted W} {one other : List ℕ} {fault : WriteFault} → Takes took old one mid
        → Refuses took refused mid other fault new
        → Refuses took refused old (one ++ other) fault new
    refuses-after {new = new} {one = one} {other = other} first second = grind (arith, nat_tests, append_assoc)

    -- a refusal within a longer text
    pub refuses-within : {old new : Counted W} {bytes : List ℕ} {fault : WriteFault} → Refuses took refused old bytes fault new
        → (more : List ℕ)
        → Refuses took refused old (bytes ++ more) fault new
    refuses-within {new = new} {bytes = bytes} stop more = grind (arith, nat_tests, append_assoc, stops-within)

    -- a new file that refused within a text of fewer than 2^64 bytes: the fault's count is exact
    pub refuses-exactly : {file new : Counted W} {start : W} {text : List ℕ} {fault : WriteFault} → HasTaken took start [] file
        → Refuses took refused file text fault new
        → length text < 2 ^ 64 → StopsAfter took refused start text fault.count new.writer
    refuses-exactly {file = file} {new = new} {start = start} {text = text} {fault = fault} fresh stop short = grind (arith, nat_tests)

-- some bytes, and then others that are put or refused
pub puts-after : {W A : Type 0} {took : W → List ℕ → W → Type 0} (refused : W → W → Type 0) {old mid : Counted W} {one : List ℕ}
    → Takes took old one mid → (other : List ℕ) (result : Result A WriteFault) (new : Counted W) → Puts took refused mid other result new
    → Puts took refused old (one ++ other) result new
puts-after refused takes other (Ok done) new puts = put-after takes puts
puts-after refused takes other (Err fault) new puts = refuses-after takes puts
