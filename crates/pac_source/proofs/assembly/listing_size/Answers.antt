-- All of it is counted, or it is more than can be.
use Rattle.pac_source.proofs.Common.{Size, ap, arith, listing, refl, subst, ◌<◌, ◌^◌, ◌∙◌}
use Rattle.pac_source.proofs.Writing.{counted, greatest-counted}
use Rattle.pac_source.proofs.assembly.listing_size.Goals as goal

pub returns-in-Ok : goal.returns-in-Ok
returns-in-Ok c =
    let same = ap (λ (size : Size). size.bytes) c.into_writer.ensures in
    let range = c.into_writer.type_inv in
    let below : c.into_writer.result.bytes < 2 ^ 64 = omega (arith, range) in
    same
    ∙ counted (listing c.args.program.now c.args.source.now) _ c.new-file.result c.write_listing.new.file refl c.new-file.ensures
    c.in-Ok.ensures (subst (λ n. n < 2 ^ 64) same below)

pub returns-in-Err : goal.returns-in-Err
returns-in-Err c =
    greatest-counted (listing c.args.program.now c.args.source.now) _ c.new-file.result c.write_listing.new.file c.in-Err.field-0 refl
    c.new-file.ensures c.in-Err.ensures
