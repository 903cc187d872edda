-- Where a part has to be there and none of its faults is found, its file has the part's size.
use Rattle.pac_roms_manifest.proofs.Common.{Bool, Bor, IfSome, List, Manifest, None, Option, Part, PartName, PlainEntry, Unnamed, [], arith}
use Rattle.pac_roms_manifest.proofs.Common.{both-none, fault_of_set, option_or, two_programs_fault}
use Rattle.pac_roms_manifest.proofs.Common.{bytes_named, code_of_part, entry_of_part, false, fault_at, file_fault, first_answer, is_some}
use Rattle.pac_roms_manifest.proofs.Common.{is_unnamed, length, length-append, needs_table, none-parts, option_copied, option_map}
use Rattle.pac_roms_manifest.proofs.Common.{parts_in_order, program_bytes, program_size, rom_part_bytes, rom_part_size, rules, true}
use Rattle.pac_roms_manifest.proofs.Common.{unnamed_fault, unwrap_or, ℕ, ◌>>=◌, ◌≡◌}
use Rattle.pac_roms_manifest.proofs.Searches.{nothing_at}

-- and so has the file of a part's entry
sized_entry : (assembled : Bool) (part : PartName) (files : List Part) (entry : Option PlainEntry) → needs_table assembled part ≡ true
    → is_unnamed assembled part entry ≡ false
    → ((entry >>= λ said. said.file)
    >>= λ name. option_map (fault_at part) (code_of_part part (entry >>= λ said. said.digest) (bytes_named files name))) ≡ None
    → length (unwrap_or ((entry >>= λ said. said.file) >>= bytes_named files) []) ≡ rom_part_size part
sized_entry assembled part files entry needed named right = search rules

-- where the first of three is none, none is there
all-none : {X : Type 0} (a b c : Option X) → option_or a (option_or b c) ≡ None → (a ≡ None) × (c ≡ None)
all-none a b c none = ((both-none a (option_or b c) none).0, (both-none b c (both-none a (option_or b c) none).1).1)

-- a set without a fault has no table that is missing, and no file that is wrong
pub faultless : (manifest : Manifest) (files : List Part) (assembled : Bool) → fault_of_set manifest files assembled ≡ None
    → (first_answer (unnamed_fault manifest assembled) parts_in_order ≡ None)
    × (first_answer (file_fault manifest files) parts_in_order ≡ None)
faultless manifest files assembled none = all-none (first_answer (unnamed_fault manifest assembled) parts_in_order)
    (two_programs_fault manifest assembled) (first_answer (file_fault manifest files) parts_in_order) none

-- a part that has to be there, where no fault is found
pub sized : (manifest : Manifest) (files : List Part) (assembled : Bool) (part : PartName) → needs_table assembled part ≡ true
    → fault_of_set manifest files assembled ≡ None → length (rom_part_bytes manifest files part) ≡ rom_part_size part
unfolding rom_part_bytes
sized manifest files assembled part needed none =
    sized_entry assembled part files (entry_of_part manifest part) needed
    (none-parts (is_unnamed assembled part (entry_of_part manifest part)) (fault_at part Unnamed) None
    (nothing_at (unnamed_fault manifest assembled) part (faultless manifest files assembled none).0)).0
    (nothing_at (file_fault manifest files) part (faultless manifest files assembled none).1)

-- so has what is lent of it
pub sized_loan : (manifest : Manifest) (files : List Part) (assembled : Bool) (part : PartName) (loan : List ℕ)
    → loan ≡ rom_part_bytes manifest files part → needs_table assembled part ≡ true → fault_of_set manifest files assembled ≡ None
    → length loan ≡ rom_part_size part
sized_loan manifest files assembled part loan same needed none = grind (arith, sized)

-- the program has its size: that of the source, and the four ROMs together
pub sized_program : (manifest : Manifest) (files : List Part) (assembled : Option (Bor (List ℕ))) (test : Bool) → test ≡ is_some assembled
    → IfSome assembled (λ rom. length rom.now ≡ program_size) → fault_of_set manifest files test ≡ None
    → length (program_bytes manifest files (option_copied assembled)) ≡ program_size
sized_program manifest files assembled test same size none = grind (arith, length-append, sized)

-- what is lent is there where the loan is
pub same_test : (lent : Option (Bor (List ℕ))) → is_some (option_copied lent) ≡ is_some lent
same_test lent = search rules
