-- For proofs: what proofs say of the definitions of Script.antt.
use Rattle.pac_inputs.specs.declared.fault.ScriptError.TheVariants as errors
use Rattle.pac_inputs.specs.declared.fault.ScriptError.{ScriptError}
use Rattle.pac_inputs.specs.Script.{meaning}
use Rattle.std.specs.Prelude.{Err, ◌≡◌, Result, List, Ok, ℕ, [], Option, None, Some, ◌∷◌, ◌⊎◌, ◌≤◌, ◌+◌, ◌<◌, length, ◌++◌}
use Rattle.pac_inputs.specs.declared.line.Stretch.{Stretch}
use Rattle.std.specs.Str.Lines.{lines}
use Rattle.pac_inputs.specs.Stretches.{total_frames, most_frames}
use Rattle.pac_inputs.specs.declared.fault.ScriptCode.{ScriptCode}
use Rattle.pac_inputs.specs.declared.fault.ScriptCode.TheVariants.{Length}
use Rattle.pac_inputs.specs.declared.fault.ScriptFault.{ScriptFault}

-- a script, or its fault
abbrev pub ScriptOrFault : Type 0
ScriptOrFault = Result (List Stretch) ScriptFault

-- what a line says by itself, or its fault
abbrev pub Meaning : Type 0
Meaning = Result (Option Stretch) ScriptCode

-- What was returned is what reading gives, unless memory ran out.
abbrev pub ScriptFails : ScriptError → ScriptOrFault → Type 0
ScriptFails errors.Memory defined = Unit {0}
ScriptFails (errors.Fault fault) defined = defined ≡ Err fault

abbrev pub ScriptGives : Result (List Stretch) ScriptError → ScriptOrFault → Type 0
ScriptGives (Ok lines) defined = defined ≡ Ok lines
ScriptGives (Err e) defined = ScriptFails e defined

-- What lines say, each by itself: these stretches in their order, with the lines left out that say nothing.
abbrev pub Says : List (List ℕ) → List Stretch → Type 0
Says [] said = said ≡ []
Says (line ∷ lines) said =
    ((meaning line ≡ Ok None) × Says lines said)
    ⊎ ((first : Stretch) × (more : List Stretch) × (meaning line ≡ Ok (Some first)) × (said ≡ first ∷ more) × Says lines more)

-- the text is this script
pub record IsScript (text : List ℕ) (said : List Stretch) : Type 0 where
  pub says : Says (lines text) said
  pub within : total_frames said ≤ most_frames

-- A line after so many frames has this fault: one of its own, or its frames are too many.
abbrev pub IsLineFault : ℕ → List ℕ → ScriptCode → Type 0
IsLineFault before line code =
    (meaning line ≡ Err code)
    ⊎ ((added : Stretch) × (meaning line ≡ Ok (Some added)) × (most_frames < before + added.frames) × (code ≡ Length))

-- the first line of the text that has a fault has this one; the lines before it are right
pub record HasScriptFault (text : List ℕ) (fault : ScriptFault) : Type 0 where
  pub earlier : List (List ℕ)
  pub wrong : List ℕ
  pub later : List (List ℕ)
  pub said : List Stretch
  pub parts : lines text ≡ earlier ++ wrong ∷ later
  pub line : fault.line ≡ length earlier + 1
  pub says : Says earlier said
  pub within : total_frames said ≤ most_frames
  pub faulty : IsLineFault (total_frames said) wrong fault.code

-- a fact of the fault, where there is one
abbrev pub OnScriptFault : ScriptError → (ScriptFault → Type 0) → Type 0
OnScriptFault errors.Memory P = Unit {0}
OnScriptFault (errors.Fault fault) P = P fault
