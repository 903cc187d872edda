-- Law: an answer whose value stands in a block of memory, by that value.
use Rattle.std.specs.Prelude.{Result, box_value}
use Rattle.std.specs.Result.{result_map_both}
use Rattle.std.specs.Global.{Box}

abbrev pub unboxed : {Value Error : Type 0} → Result (Box Value) Error → Result Value Error
unboxed result = result_map_both box_value (λ error. error) result
