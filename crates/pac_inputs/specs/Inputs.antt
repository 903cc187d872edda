-- Believed: the inputs of the board: a word with a bit for each, which is set while it is held (Namco Pac-Man service
-- schematics, ports IN0 and IN1; their order in the word is this profile's).
use Rattle.std.specs.Prelude.{ℕ, List, [], ◌∷◌, codes}
use Rattle.pac_inputs.specs.declared.inputs.Inputs.{Inputs}

-- the word that says which inputs are held, and the inputs of a word
abbrev pub mask : Inputs → ℕ
mask inputs = inputs.0

abbrev pub inputs_of : ℕ → Inputs
inputs_of word = record { 0 = word }

-- the names of the inputs and their bits, from bit 0 to bit 15
abbrev pub input_bits : List (List ℕ × ℕ)
input_bits =
    (codes "P1_UP", 1) ∷ (codes "P1_LEFT", 2) ∷ (codes "P1_RIGHT", 4) ∷ (codes "P1_DOWN", 8)
    ∷ (codes "RACK_TEST", 16) ∷ (codes "COIN1", 32) ∷ (codes "COIN2", 64) ∷ (codes "CREDIT", 128)
    ∷ (codes "P2_UP", 256) ∷ (codes "P2_LEFT", 512) ∷ (codes "P2_RIGHT", 1024) ∷ (codes "P2_DOWN", 2048)
    ∷ (codes "BOARD_TEST", 4096) ∷ (codes "START1", 8192) ∷ (codes "START2", 16384) ∷ (codes "COCKTAIL", 32768)
    ∷ []
