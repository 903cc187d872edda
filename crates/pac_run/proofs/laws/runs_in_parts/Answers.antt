use Rattle.pac_run.proofs.InParts.{runs-in-parts}

pub returns : Rattle.pac_run.proofs.laws.runs_in_parts.Goals.returns
returns g = runs-in-parts
