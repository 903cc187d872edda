-- Believed: the numbers that tell a host how a call for a source went (this profile).
use Rattle.std.specs.Prelude.{ℕ, List, ◌++◌, Result, Ok, Err}
use Rattle.std.specs.Int.{w16, w32, w64, to_le_bytes}
use Rattle.pac_lex.specs.declared.fault.LexFault.{LexFault}
use Rattle.pac_lex.specs.declared.fault.LexFault.TheVariants.{NoToken, WrongNumber, OpenText, LongLine}
use Rattle.pac_asm.specs.declared.fault.AsmCode.{AsmCode}
use Rattle.pac_asm.specs.declared.fault.AsmCode.TheVariants.{Token, Syntax, DefinedBefore, NotDefinedAbove, OutsideRom, Overlap}
use Rattle.pac_asm.specs.declared.fault.AsmCode.TheVariants.{TooManyLines, Undefined, OutOfRange, Arithmetic, TooDeep, NoOpenIf}
use Rattle.pac_asm.specs.declared.fault.AsmCode.TheVariants.{NeverClosed}
use Rattle.pac_source.specs.declared.codes.PacTold.{PacTold}
use Rattle.pac_source.specs.declared.codes.SourceFault.{SourceFault}
use Rattle.pac_source.specs.declared.codes.SourceFault.TheVariants.{WrongLength, NoRoom, NoMemory, Fault}

-- 0 where the call was done, or why it wasn't
abbrev pub source_code : Result ℕ SourceFault → ℕ
source_code (Ok size) = 0
source_code (Err WrongLength) = 1
source_code (Err (NoRoom size)) = 4
source_code (Err NoMemory) = 5
source_code (Err (Fault fault)) = 6

-- L1 to L4
abbrev pub lex_number : LexFault → ℕ
lex_number NoToken = 1
lex_number WrongNumber = 2
lex_number OpenText = 3
lex_number LongLine = 4

-- A1 to A14
abbrev pub asm_number : AsmCode → ℕ
asm_number (Token fault) = 1
asm_number Syntax = 2
asm_number DefinedBefore = 3
asm_number NotDefinedAbove = 4
asm_number OutsideRom = 5
asm_number Overlap = 6
asm_number TooManyLines = 7
asm_number Undefined = 8
asm_number OutOfRange = 9
asm_number Arithmetic = 10
asm_number TooDeep = 12
asm_number NoOpenIf = 13
asm_number NeverClosed = 14

-- what is no token, where that is the fault
abbrev pub token_number : AsmCode → ℕ
token_number (Token fault) = lex_number fault
token_number code = 0

-- what isn't to be told is 0
abbrev pub told_size : ℕ → PacTold
told_size size = record { listing = size; line = 0; fault = 0; token = 0 }

-- the bytes of the listing, written or not, or the fault with its line
abbrev pub answer_told : Result ℕ SourceFault → PacTold
answer_told (Ok size) = told_size size
answer_told (Err (NoRoom size)) = told_size size
answer_told (Err (Fault fault)) =
    record { listing = 0; line = fault.line; fault = asm_number fault.code; token = token_number fault.code }
answer_told (Err fault) = told_size 0

-- The 16 bytes in which it is told, as C lays out a `pac_told`: each field at its place, numbers with the low byte first. The
-- listing's bytes are at 0, the line at 8, the fault at 12, and what is no token at 14.
unfoldable pub told_bytes : PacTold → List ℕ
told_bytes told =
    to_le_bytes w64 told.listing ++ to_le_bytes w32 told.line ++ to_le_bytes w16 told.fault ++ to_le_bytes w16 told.token
