-- For proofs: parts of what the first phase does for a line.
use Rattle.std.specs.Prelude.{ℕ, List, Result}
use Rattle.std.specs.Option.{ok_or}
use Rattle.pac_lex.specs.Tokens.{Lexeme}
use Rattle.pac_expr.specs.Trees.{Tree}
use Rattle.pac_asm_line.specs.Forms.{form_of}
use Rattle.pac_asm.specs.Results.{◌>>=◌}
use Rattle.pac_asm.specs.Standings.{Standing, known_value, within_rom}
use Rattle.pac_asm.specs.Phase1.{after_form}
use Rattle.pac_asm.specs.declared.fault.AsmCode.{AsmCode}
use Rattle.pac_asm.specs.declared.fault.AsmCode.TheVariants.{Syntax}

-- an address, or a count of bytes, whose names are all defined above
abbrev pub known_place : Standing → Tree → Result ℕ AsmCode
known_place above tree = known_value above tree >>= within_rom

-- after a line of these tokens
abbrev pub after_tokens : Standing → List Lexeme → Result Standing AsmCode
after_tokens above lexemes = ok_or (form_of lexemes) Syntax >>= after_form above
