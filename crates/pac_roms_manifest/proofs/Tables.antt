-- The tables of the program's ROMs, by how many there are.
use Rattle.pac_roms_manifest.proofs.Common.{Data, List, None, Option, PlainEntry, Some, Value, [], arith, array, common_steps, entry_form}
use Rattle.pac_roms_manifest.proofs.Common.{get_or, inl, inr, items_view, length, program_form, refl, view, ◌<◌, ◌>>=◌, ◌∷◌, ◌≡◌, ◌≤◌, ◌⊎◌}

-- what four tables are
abbrev pub four_forms : Data → Data → Data → Data → Option (List PlainEntry)
four_forms first second third fourth = do
  first ← entry_form first
  second ← entry_form second
  third ← entry_form third
  fourth ← entry_form fourth
  Some (first ∷ second ∷ third ∷ fourth ∷ [])

pub four_tables : (vs : List Value) (a b c d : Value) → 4 ≤ length vs → length vs < 5
    → a ≡ get_or vs 0 a → b ≡ get_or vs 1 b → c ≡ get_or vs 2 c → d ≡ get_or vs 3 d
    → program_form (array (items_view vs)) ≡ four_forms (view a) (view b) (view c) (view d)
four_tables vs a b c d low high ha hb hc hd = grind (arith, common_steps)

pub other_count : (vs : List Value) → (length vs < 4) ⊎ (5 ≤ length vs) → program_form (array (items_view vs)) ≡ None
other_count (v ∷ w ∷ x ∷ y ∷ []) (inl low) = absurd (omega arith)
other_count (v ∷ w ∷ x ∷ y ∷ []) (inr high) = absurd (omega arith)
other_count vs other = refl
