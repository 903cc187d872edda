-- The last part of a text that is gathered in parts.
use Rattle.pac_debug_text.proofs.Common.{Counted, Err, Gathers, Leaves, List, Ok, Result, WriteFault, [], leaves-less, leaves-nothing}
use Rattle.pac_debug_text.proofs.Common.{leaves-refused, ℕ, ◌++◌}

pub gathers-last : {W A : Type 0} {took : W → List ℕ → W → Type 0} {waiting text : List ℕ} {old : Counted W} (refused : W → W → Type 0)
    (last : List ℕ) (result : Result A WriteFault) (later : List ℕ) (new : Counted W) {mid_later : List ℕ} {mid : Counted W}
    → Leaves took waiting old text (last ++ []) mid_later mid → Gathers took refused mid_later mid last result later new
    → Gathers took refused waiting old text result later new
gathers-last refused last (Ok done) later new leaves gathers = leaves-nothing (leaves-less last [] leaves gathers)
gathers-last refused last (Err fault) later new leaves gathers = leaves-refused last [] leaves gathers
