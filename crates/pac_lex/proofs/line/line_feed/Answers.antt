use Rattle.std.proofs.Common.{◌==◌}
use Rattle.pac_lex.proofs.FirstPlace.{first-place}

pub returns-clause-place : Rattle.pac_lex.proofs.line.line_feed.Goals.returns-clause-place
returns-clause-place c = first-place (λ b. b == 10) c.args.bytes.now c.memchr.result c.memchr.ensures
