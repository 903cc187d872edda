use Rattle.pac_lex.proofs.Common.{arith, common_steps, scan, view, views}
use Rattle.pac_lex.proofs.ScanLemmas.{goes-on}

pub loop-found-preserved : Rattle.pac_lex.proofs.reading.read.Goals.loop-found-preserved
loop-found-preserved g c =
    let earlier = views c.loop-found.found.items in
    let next = goes-on earlier (view c.in-Some.token) c.loop-found.rest.now c.in-Some.after.now (scan 0 c.args.line.now) in
    grind (arith, common_steps, next)
