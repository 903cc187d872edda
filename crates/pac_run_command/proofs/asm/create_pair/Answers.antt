use Rattle.std.proofs.Common.{refl}

pub returns : Rattle.pac_run_command.proofs.asm.create_pair.Goals.returns
returns g c = (c.create.new.self, c.in-Some.ensures, (c.create-2.new.self, c.in-Some-create.ensures, refl))
