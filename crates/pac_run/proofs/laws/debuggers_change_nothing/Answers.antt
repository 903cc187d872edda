-- What is so of a run under a debugger is so of the run without one: each answer's first half.
use Rattle.pac_run.proofs.Common.{rules}

pub returns : Rattle.pac_run.proofs.laws.debuggers_change_nothing.Goals.returns
returns g c old new text text_left inputs commands answer of debugs = search rules
