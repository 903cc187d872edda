-- Law: what is proved of the definitions of Wave.antt.
use Rattle.std.specs.Prelude.{List, ℕ, slice_index}
use Rattle.pac_wave.specs.Wave.{Accumulators}

-- the accumulators of a list of three
abbrev pub accumulators_of_list : List ℕ → Accumulators
accumulators_of_list all = record { first = slice_index all 0; second = slice_index all 1; third = slice_index all 2 }
