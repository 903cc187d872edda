-- Law: each line of DAA's table holds.
use Rattle.std.specs.Prelude.{◌≡◌, true}
use Rattle.std.specs.List.{list_all}
use Rattle.pac_cpu_vectors.specs.Decimals.{is_as_printed, passes_below}
use Rattle.pac_cpu_vectors.specs.DaaTable.{daa_lines}

abbrev pub EachDaaLineHolds : Type 0
EachDaaLineHolds = list_all (λ line. passes_below 256 (is_as_printed line)) daa_lines ≡ true
