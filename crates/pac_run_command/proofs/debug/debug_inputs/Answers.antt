use Rattle.std.proofs.Common.{rules}
use Rattle.pac_run_command.proofs.debug.debug_inputs.Goals as goal

pub returns-in-Ok : goal.returns-in-Ok
returns-in-Ok g c = c.in-Ok.ensures

pub returns-in-Err : goal.returns-in-Err
returns-in-Err g c = record { fault = c.in-Err.fault; told = search rules; left = c.in-Err.ensures }
