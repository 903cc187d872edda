use Rattle.pac_debug_session.proofs.Swallowed.{swallowed}

pub returns : Rattle.pac_debug_session.proofs.silent.SilentSink.samples.Goals.returns
returns c = swallowed _ c.args.self.now
