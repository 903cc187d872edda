-- For proofs: what proofs say of the definitions of Outputs.antt.
use Rattle.std.specs.Prelude.{List, ◌∷◌, map, option_to_list}
use Rattle.pac_run_files.specs.Files.{WantedOutput}
use Rattle.pac_run_command.specs.declared.failure.Target.{Target}
use Rattle.pac_run_command.specs.declared.outputs.RunOutputs.{RunOutputs}
use Rattle.pac_run_command.specs.declared.outputs.Wanted.{Wanted}

-- an output as the code has it, and all of a run
abbrev pub told_wanted : Wanted → WantedOutput Target
told_wanted wanted = record { output = wanted.output; path = wanted.path.now; is_draft = wanted.is_draft }

abbrev pub told_outputs : RunOutputs → List (WantedOutput Target)
told_outputs outputs =
    told_wanted outputs.frames ∷ told_wanted outputs.wave ∷ told_wanted outputs.listing ∷ map told_wanted (option_to_list outputs.state)
