-- The block of the file's board, whose set is that of these ROMs.
use Rattle.pac_block.proofs.Common.{digest_of, refl, set_of_roms, size-of, sym}
use Rattle.pac_block.proofs.Loaded.{loaded, not-loaded}
use Rattle.pac_block.proofs.files.load.Goals as goal

pub fields_have_states-requires : goal.fields_have_states-requires
fields_have_states-requires c = (c.in-Ok.ensures (set_of_roms c.args.roms.now) (sym c.digest.ensures)).in_range

pub write_block-requires : goal.write_block-requires
write_block-requires c = (c.in-Ok.ensures (set_of_roms c.args.roms.now) (sym c.digest.ensures)).in_range

pub bring_up-requires-clause-in_range : goal.bring_up-requires-clause-in_range
bring_up-requires-clause-in_range c = (c.in-Ok.ensures (set_of_roms c.args.roms.now) (sym c.digest.ensures)).in_range

pub file_version-requires : goal.file_version-requires
file_version-requires c =
    size-of (digest_of (set_of_roms c.args.roms.now)) c.args.text.now
    (c.in-Ok.ensures (set_of_roms c.args.roms.now) (sym c.digest.ensures)).sound

pub returns-in-Ok : goal.returns-in-Ok
returns-in-Ok c =
    let set = set_of_roms c.args.roms.now in
    loaded c.args.roms.now c.args.text.now _ c.in-Ok.fields c.in_ok-check_roms.ensures (λ i. (c.type_inv.text i).fits)
    (c.in-Ok.ensures set (sym c.digest.ensures)) c.fields_have_states.ensures (rw c.file_version.ensures at c.bring_up.ensures)

pub returns-in-Err : goal.returns-in-Err
returns-in-Err c =
    let set = set_of_roms c.args.roms.now in (
      not-loaded c.args.roms.now c.args.text.now c.in-Err.fault c.in_ok-check_roms.ensures (λ i. (c.type_inv.text i).fits)
          (c.in-Err.ensures set (sym c.digest.ensures)),
      refl,
    )
