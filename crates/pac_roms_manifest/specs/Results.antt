-- For proofs: what was returned, held against what there is: a value, or the fault that is told.
use Rattle.std.specs.Prelude.{◌≡◌, Option, Some, None, Result, Ok, Err}
use Rattle.pac_roms_manifest.specs.declared.fault.ManifestCode.TheVariants as code
use Rattle.pac_roms_manifest.specs.declared.fault.SetFault.{SetFault}
use Rattle.pac_roms_manifest.specs.declared.fault.SetError.{SetError}
use Rattle.pac_roms_manifest.specs.declared.fault.SetError.TheVariants.{Memory, Fault}
use Rattle.pac_roms_manifest.specs.declared.reading.Misread.{Misread}
use Rattle.pac_roms_manifest.specs.declared.reading.Misread.TheVariants as misread

-- what was returned of a call that fills a place, with what it has there then
abbrev pub filled : {A E : Type 0} → Result (Unit {0}) E → A → Result A E
filled (Ok done) value = Ok value
filled (Err error) value = Err error

-- What was returned is what there is, unless memory ran out.
abbrev pub SetGives : {A : Type 0} → Result A SetError → Result A SetFault → Type 0
SetGives (Ok value) answer = answer ≡ Ok value
SetGives (Err Memory) answer = Unit {0}
SetGives (Err (Fault fault)) answer = answer ≡ Err fault

-- What was read, as plain data, is what there is, unless memory ran out; where nothing was read, the form is another.
abbrev pub ReadsAs : {A B : Type 0} → (A → B) → Result A Misread → Option B → Type 0
ReadsAs plain (Ok value) form = form ≡ Some (plain value)
ReadsAs plain (Err misread.Memory) form = Unit {0}
ReadsAs plain (Err misread.Form) form = form ≡ None

-- What was read is what there is, unless memory ran out; where nothing was read, the form is another.
abbrev pub ReadsValue : {A : Type 0} → Result A Misread → Option A → Type 0
ReadsValue = ReadsAs (λ value. value)

-- another form is M1
abbrev pub error_of_misread : Misread → SetError
error_of_misread misread.Memory = Memory
error_of_misread misread.Form = Fault (record { code = code.Manifest; part = None })

-- A fault was told exactly where there is one, and that one.
abbrev pub FindsFault : Result Unit SetFault → Option SetFault → Type 0
FindsFault (Ok done) fault = fault ≡ None
FindsFault (Err told) fault = fault ≡ Some told
