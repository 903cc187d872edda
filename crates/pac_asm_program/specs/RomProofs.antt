-- For proofs: what proofs say of the definitions of Rom.antt.
use Rattle.std.specs.Prelude.{List, ℕ, All, IsFalse, slice_index, ◌≡◌, ◌<◌}
use Rattle.pac_code.specs.Items.{Item}
use Rattle.pac_asm_program.specs.Programs.{rom_size}
use Rattle.pac_asm_program.specs.Rom.{covers}

-- an address of the ROM that no item covers holds 0
abbrev pub IsZeroElsewhere : List ℕ → List Item → Type 0
IsZeroElsewhere rom items = (cell : ℕ) → cell < rom_size → All (λ item. IsFalse (covers item cell)) items → slice_index rom cell ≡ 0
