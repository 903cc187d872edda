use Rattle.std.specs.Io.KnownBytes.{Keeps}

abbrev pub invariant-loop : Rattle.pac_out.proofs.through.ThroughOut.write.Given.invariant-loop
invariant-loop g l = Keeps (g.W.Write.contents l.initial.self.inner) (g.W.Write.contents l.self.inner)
