-- Believed: the names of the outputs, as messages have them.
use Rattle.std.specs.Prelude.{ℕ, List, codes}
use Rattle.pac_run.specs.declared.fault.Output.{Output}
use Rattle.pac_run.specs.declared.fault.Output.TheVariants.{Frames, Wave, Listing, Report, State, Text}

abbrev pub output_name : Output → List ℕ
output_name Frames = codes "frames"
output_name Wave = codes "wave"
output_name Listing = codes "listing"
output_name Report = codes "report"
output_name State = codes "state"
output_name Text = codes "text"
