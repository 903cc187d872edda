-- A set that plays a program has the program's ROM, in which the program's items lie.
use Rattle.pac_run.proofs.Common.{All-nil, AllLie, Assembled, BoardValue, Box, Err, IsFirstBoard, IsPrepared, IsStarted, IsStateRefused}
use Rattle.pac_run.proofs.Common.{IsWhole, Judges, LieIn, Lies, List, Manifest, None, Ok, Option, Part, Parts, Prepares, RefusesState}
use Rattle.pac_run.proofs.Common.{Result, RunFault, RunInputs, SetError, SetFault, SetGives, Some, StartsBoard, StateFault, Stretch, arith}
use Rattle.pac_run.proofs.Common.{fault_of_set, fault_told, items_of, manifest_of, option_copied, option_map, option_map_or, parts_of_set}
use Rattle.pac_run.proofs.Common.{plan_of, plan_with, program_in, program_items, rules, script_of, script_told, set_in, set_of, set_told}
use Rattle.pac_run.proofs.Common.{subst, true, ℕ, ◌>>=◌, ◌≡◌}
use Rattle.pac_run.proofs.Answered.{NoWrite, script-writes}

told-program : (refused : Option SetFault) (parts set : Parts) → set_told (option_map_or Err refused (Ok parts)) ≡ Ok set
    → parts.program ≡ set.program
told-program refused parts set e = search rules

read-program : (read : Result Manifest SetFault) (files : List Part) (program : Assembled) (set : Parts)
    → set_told (read >>= λ manifest. set_of manifest files (Some program.rom)) ≡ Ok set → program.rom ≡ set.program
unfolding set_of
read-program (Ok manifest) files program set e =
    told-program (fault_of_set manifest files true) (parts_of_set manifest files (Some program.rom)) set e
read-program (Err refused) files program set e = absurd (cc)

pub items-lie : (manifest : List ℕ) (files : List Part) (program : Option Assembled) (set : Parts)
    → set_in manifest files program ≡ Ok set → LieIn program → AllLie set.program (program_items program)
items-lie manifest files None set e lie = All-nil (Lies set.program)
items-lie manifest files (Some program) set e lie =
    subst (λ rom. AllLie rom (items_of program)) (read-program (manifest_of manifest) files program set e) lie

-- a fault of the set, or want of memory
pub refused-set : (manifest : List ℕ) (files : List Part) (program : Option Assembled) (read : Manifest) (rom : Option (List ℕ))
    (error : SetError) → manifest_of manifest ≡ Ok read → rom ≡ option_map (λ (it : Assembled). it.rom) program
    → SetGives {A = Parts} (Err error) (set_of read files rom) → Judges {A = Parts} (Err (fault_told error)) (set_in manifest files program)
refused-set manifest files program read rom error m r gives = search rules

-- the plan of inputs, of which each part is told
plan-is : (inputs : RunInputs) (program : Option Assembled) (set : Parts) (script : List Stretch)
    → program_in (option_copied inputs.source) ≡ Ok program → set_in inputs.manifest.now inputs.parts.now program ≡ Ok set
    → script_told (script_of inputs.script.now) ≡ Ok script → plan_of inputs ≡ Ok (plan_with inputs program set script)
unfolding plan_of
plan-is inputs program set script one other third = search rules

-- the script is refused, after a source and a set without a fault
module _ (inputs : RunInputs) (program : Option Assembled) (set : Parts) (one : program_in (option_copied inputs.source) ≡ Ok program)
    (other : set_in inputs.manifest.now inputs.parts.now program ≡ Ok set) (from : Option (List ℕ)) where
  abbrev judged : Result (List Stretch) RunFault
  judged = script_told (script_of inputs.script.now)

  unscripted : (why : RunFault) → judged ≡ Err why → plan_of inputs ≡ Err why
  unfolding plan_of
  unscripted why refused = search rules

  pub script-refused : (why : RunFault) → Judges {A = List Stretch} (Err why) judged → Prepares inputs from (Err why)
  script-refused why refused = grind (arith, NoWrite, script-writes, unscripted)

module _ (inputs : RunInputs) (program : Option Assembled) (set : Parts) (script : List Stretch)
    (one : program_in (option_copied inputs.source) ≡ Ok program) (other : set_in inputs.manifest.now inputs.parts.now program ≡ Ok set)
    (third : script_told (script_of inputs.script.now) ≡ Ok script) where
  pub prepared : (from : Option (List ℕ)) (board : Box BoardValue) (image : List ℕ) → IsWhole set → LieIn program
      → IsStarted (IsFirstBoard set inputs.dip script from) set script board.value
      → IsPrepared inputs from (record { program = program; board = board; script = script; image = image })
  prepared from board image whole lie started = grind (arith, items-lie, plan-is)

  -- a state file that is refused
  pub state-refused : (from : Option (List ℕ)) (refusal : StateFault) → RefusesState set script from refusal
      → IsStateRefused inputs from refusal
  state-refused from refusal refuses = grind (arith, plan-is)

  -- there was no board to begin with
  pub unstarted : (from : Option (List ℕ)) (why : RunFault) → StartsBoard set inputs.dip script from (Err why)
      → Prepares inputs from (Err why)
  unstarted from why refuses = grind (arith, state-refused)
