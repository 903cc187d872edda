-- Steps that are done again lead where they led.
use Rattle.std.proofs.Common.{◌-◌, rules}
use Rattle.pac_debug_session.proofs.Backwards.{IsAgain}
use Rattle.pac_debug_session.proofs.session.Session.replay.Goals.{After-leap_again}

replayed : (c : After-leap_again) → IsAgain c.args.self.now c.again.self c.leap_again.new.self (c.args.index - c.index-in-again.result)
replayed c = search rules
