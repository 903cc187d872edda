-- A state's text put into a new file.
use Rattle.pac_state.proofs.Common.{Counted, Err, HasTaken, List, MutBor, Ok, Puts, Result, Saves, WriteFault, [], lent_refused, lent_took}
use Rattle.pac_state.proofs.Common.{rules, ℕ, ◌≡◌}

-- a text that was put into a new file over a writer that is lent and then handed back, and that writer when the loan ends
pub saves : {W A : Type 0} (took : W → List ℕ → W → Type 0) (refused : W → W → Type 0) {owner : MutBor W} {file : Counted (MutBor W)}
    → HasTaken (lent_took took) owner [] file → (text : List ℕ) (result : Result A WriteFault) (new : Counted (MutBor W)) (left : W)
    → Puts (lent_took took) (lent_refused refused) file text result new → (writer : MutBor W) → writer ≡ new.writer
    → (owner.ghost_name ≡ writer.ghost_name → left ≡ writer.now) → Saves took refused owner.now text result left
saves took refused {owner} fresh text (Ok done) new left puts writer same handed = search rules
saves took refused {owner} fresh text (Err fault) new left puts writer same handed = search rules
