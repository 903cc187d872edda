use Rattle.std.proofs.Common.{rules}

pub loop-rest-preserved : Rattle.pac_inputs.proofs.line.inputs_named.Goals.loop-rest-preserved
loop-rest-preserved c = search rules
