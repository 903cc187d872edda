-- For proofs: what `assemble` answers where a source can't be assembled, in the words of the definitions (`AssemblyFails`,
-- `AssemblyGives`). What is said of a line, and of a value that a call changes, is for proofs.
use Rattle.std.specs.Prelude.{◌≡◌, ℕ, Result, Ok, Err}
use Rattle.pac_lex.specs.declared.fault.LexError.{LexError}
use Rattle.pac_lex.specs.declared.fault.LexError.TheVariants as lexing
use Rattle.pac_asm_line.specs.declared.gathered.ContentError.{ContentError}
use Rattle.pac_asm_line.specs.declared.gathered.ContentError.TheVariants as contents
use Rattle.pac_asm.specs.Phase2.{code_of_fault}
use Rattle.pac_asm.specs.declared.fault.AsmCode.{AsmCode}
use Rattle.pac_asm.specs.declared.fault.AsmCode.TheVariants.{Token}
use Rattle.pac_asm.specs.declared.fault.AsmFault.{AsmFault}
use Rattle.pac_asm.specs.declared.fault.AsmError.{AsmError}
use Rattle.pac_asm.specs.declared.fault.AsmError.TheVariants as errors
use Rattle.pac_asm.specs.declared.fault.LineError.{LineError}
use Rattle.pac_asm.specs.declared.fault.LineError.TheVariants.{Memory, Code}

-- why a line has no tokens
abbrev pub error_of_tokens : LexError → LineError
error_of_tokens lexing.Memory = Memory
error_of_tokens (lexing.Fault fault) = Code (Token fault)

-- why a statement has no content
abbrev pub error_of_content : ContentError → LineError
error_of_content contents.Memory = Memory
error_of_content (contents.Fault fault) = Code (code_of_fault fault)

-- an error of the line with this number
abbrev pub error_of_line : LineError → ℕ → AsmError
error_of_line Memory number = errors.Memory
error_of_line (Code code) number = errors.Fault (record { code = code; line = number })

-- A refusal of a line is what the definition says; want of memory says nothing of it.
abbrev pub LineFails : {Y : Type 0} → LineError → Result Y AsmCode → Type 0
LineFails Memory defined = Unit {0}
LineFails (Code code) defined = defined ≡ Err code

-- A value that a call changes has become what the definition says, or the call answered its refusal.
abbrev pub LineBecomes : {X Y : Type 0} → Result X LineError → Result Y AsmCode → Y → Type 0
LineBecomes (Ok x) defined new = defined ≡ Ok new
LineBecomes (Err error) defined new = LineFails error defined

-- A refusal of a source is what the definition says; want of memory says nothing of it.
abbrev pub AssemblyFails : {Y : Type 0} → AsmError → Result Y AsmFault → Type 0
AssemblyFails errors.Memory defined = Unit {0}
AssemblyFails (errors.Fault fault) defined = defined ≡ Err fault

abbrev pub AssemblyBecomes : {X Y : Type 0} → Result X AsmError → Result Y AsmFault → Y → Type 0
AssemblyBecomes (Ok x) defined new = defined ≡ Ok new
AssemblyBecomes (Err error) defined new = AssemblyFails error defined

-- What was returned is what the definition says, unless memory ran out.
abbrev pub AssemblyGives : {X : Type 0} → Result X AsmError → Result X AsmFault → Type 0
AssemblyGives (Ok x) defined = defined ≡ Ok x
AssemblyGives (Err error) defined = AssemblyFails error defined

-- What a line's step returned is what the definition says, unless memory ran out.
abbrev pub LineGives : {X : Type 0} → Result X LineError → Result X AsmCode → Type 0
LineGives (Ok x) defined = defined ≡ Ok x
LineGives (Err error) defined = LineFails error defined
