-- The file of the board's set and state.
use Rattle.pac_live.proofs.Common.{BoardState, ap, arith, body, digest_of, refl, sealed_file, state_of, written_version, ◌∙◌}
use Rattle.pac_live.proofs.live_files.save_board.Goals as goal

pub put_file-requires-clause-in_range : goal.put_file-requires-clause-in_range
put_file-requires-clause-in_range c = c.fields-fields.ensures.in_range

pub returns : goal.returns
returns c =
    let set = c.args.board.now.set in (
      omega (arith, c.if-text-ne-FILE_SIZE.false),
      c.put_file.ensures
          ∙ ap (λ digest. sealed_file (body written_version digest (state_of c.fields-fields.result)))
          (c.digest-set_digest.ensures ∙ ap digest_of c.set.ensures)
          ∙ ap (λ (state : BoardState). sealed_file (body written_version (digest_of set) state)) c.fields-fields.ensures.fields,
      refl,
    )
