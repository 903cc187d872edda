-- For proofs: the codes that are printed for a fault of an expression (this profile). The assembler prints its own.
use Rattle.std.specs.Prelude.{ℕ, List, codes}
use Rattle.pac_expr.specs.declared.evaluation.ValueError.{ValueError}
use Rattle.pac_expr.specs.declared.evaluation.ValueError.TheVariants.{Undefined, OutOfRange, DivisionByZero}

abbrev pub value_error_code : ValueError → List ℕ
value_error_code Undefined = codes "E1"
value_error_code OutOfRange = codes "E2"
value_error_code DivisionByZero = codes "E3"
