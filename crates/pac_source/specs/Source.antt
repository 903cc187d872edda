-- Believed: what a host's calls for a source and for an instruction do.
use Rattle.std.specs.Prelude.{◌≡◌, ◌≢◌, ◌<◌, ◌≤◌, ℕ, ◌-◌, List, [], ◌∷◌, ◌++◌, length, drop, replicate, Result, Ok, Err}
use Rattle.pac_asm.specs.Programs.{program_of}
use Rattle.pac_asm_program.specs.Programs.{Assembled, rom_size}
use Rattle.pac_dis.specs.Texts.{text_at, size_at}
use Rattle.pac_listing.specs.Listing.{listing}
use Rattle.pac_out.specs.Counted.{file_count}
use Rattle.pac_source.specs.declared.codes.SourceFault.{SourceFault}
use Rattle.pac_source.specs.declared.codes.SourceFault.TheVariants.{WrongLength, NoRoom, NoMemory, Fault}
use Rattle.pac_source.specs.Codes.{source_code, answer_told, told_bytes}

-- A call tells by a number and in 16 bytes what it came to.
pub record AnswersAndTells (comes_to : Result ℕ SourceFault → Type 0) (code : ℕ) (told : List ℕ) : Type 0 where
  pub answer : Result ℕ SourceFault
  pub code_is : code ≡ source_code answer
  pub told_is : told ≡ told_bytes (answer_told answer)
  pub done : comes_to answer

-- ---- a source

-- the ROM is the program's, and its listing is at the head of the buffer, whose rest stays
pub record HasAssembled (source rom list : List ℕ) (size : ℕ) (new_rom new_list : List ℕ) : Type 0 where
  pub rom_size_is : length rom ≡ rom_size
  pub program : Assembled
  pub program_is : program_of source ≡ Ok program
  pub size_is : size ≡ length (listing program source)
  pub room : size ≤ length list
  pub rom_is : new_rom ≡ program.rom
  pub list_is : new_list ≡ listing program source ++ drop size list

-- the source is a program, and its listing has more bytes than there is room for
pub record HasNoRoom (source rom list : List ℕ) (size : ℕ) : Type 0 where
  pub rom_size_is : length rom ≡ rom_size
  pub program : Assembled
  pub program_is : program_of source ≡ Ok program
  pub size_is : size ≡ file_count (length (listing program source))
  pub room : length list < length (listing program source)

-- why there is no ROM and no listing; where memory runs out, nothing is said of the source
abbrev pub AssemblesNothing : (source rom list : List ℕ) → SourceFault → Type 0
AssemblesNothing source rom list WrongLength = length rom ≢ rom_size
AssemblesNothing source rom list NoMemory = length rom ≡ rom_size
AssemblesNothing source rom list (Fault fault) = (length rom ≡ rom_size) × (program_of source ≡ Err fault)
AssemblesNothing source rom list (NoRoom size) = HasNoRoom source rom list size

abbrev pub AssemblesInto : (source rom list : List ℕ) → Result ℕ SourceFault → (new_rom new_list : List ℕ) → Type 0
AssemblesInto source rom list (Ok size) new_rom new_list = HasAssembled source rom list size new_rom new_list
AssemblesInto source rom list (Err fault) new_rom new_list =
    AssemblesNothing source rom list fault × (new_rom ≡ rom) × (new_list ≡ list)

-- ---- an instruction

-- a text of at most 16 bytes, with zeros up to 17
abbrev pub padded : List ℕ → List ℕ
padded text = text ++ replicate (17 - length text) 0

-- the text of what bytes begin with, the first of them at an address, and how many of them it has: of no bytes there is none
abbrev pub DisassemblesInto : (bytes : List ℕ) (at size : ℕ) (told : List ℕ) → Type 0
DisassemblesInto [] at size told = (size ≡ 0) × (told ≡ padded [])
DisassemblesInto (byte ∷ bytes) at size told =
    (size ≡ size_at (byte ∷ bytes)) × (told ≡ padded (text_at at (byte ∷ bytes)))
