-- Believed: what a line says, where no IF skips it, or why it says nothing (this profile).
use Rattle.std.specs.Prelude.{ℕ, List, Result}
use Rattle.std.specs.Option.{ok_or}
use Rattle.std.specs.Result.{result_map_both}
use Rattle.pac_lex.specs.Scan.{tokens_of}
use Rattle.pac_asm_line.specs.Statements.{Form}
use Rattle.pac_asm_line.specs.Forms.{form_of}
use Rattle.pac_asm.specs.Results.{◌>>=◌}
use Rattle.pac_asm.specs.declared.fault.AsmCode.{AsmCode}
use Rattle.pac_asm.specs.declared.fault.AsmCode.TheVariants.{Token, Syntax}

-- A1 and A2: the form of a line
unfoldable pub form_of_line : List ℕ → Result Form AsmCode
form_of_line line = result_map_both (λ tokens. tokens) Token (tokens_of line) >>= λ tokens. ok_or (form_of tokens) Syntax
