use Rattle.pac_block.proofs.Common.{arith, get_or, get_or_default, pos, rules, sounding_took, to_z-of_z, took-more, ◌∙◌, ◌≡◌}
use mir.Syntax.{w16}
use mir.Val.{to_z, of_z}

pub loop-sample-preserved : Rattle.pac_block.proofs.sounds.Sounds.keep_each.Goals.loop-sample-preserved
loop-sample-preserved c =
    let samples = c.args.samples.now in
    let i = c.loop-sample.sample-index in
    let so_far = c.loop-sample.invariant in
    let sample = get_or samples i (pos 0) in
    let read : to_z w16 (of_z w16 sample) ≡ sample = to_z-of_z w16 sample (search rules) in
    record {
      took = took-more sounding_took samples (to_z w16 (of_z w16 sample)) i c.args.self.now c.loop-sample.self c.keep.new.self
          c.loop-sample-test.true (read ∙ get_or_default samples i (pos 0) (to_z w16 (of_z w16 sample)) c.loop-sample-test.true)
          so_far.took c.keep.ensures.took;
      room = omega (arith, c.keep.ensures.room, so_far.room);
    }
