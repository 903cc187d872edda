-- The board of the file's state, if it is one of the board's set.
use Rattle.pac_live.proofs.Common.{BoardState, BoardValue, Err, Fields, FindsFields, HasTakenFile, List, LoadFault, Loading, NoFile, Ok}
use Rattle.pac_live.proofs.Common.{Parts, accepts, ap, arith, digest_of, get_or, loaded_board, refl, rules, size-of, state_in, state_of}
use Rattle.pac_live.proofs.Common.{sym, upgraded_board, version_in, ℕ, ◌<◌, ◌∙◌, ◌≡◌}
use Rattle.pac_live.proofs.live_files.load_board.Goals as goal

upgraded-made : (version : ℕ) (set : Parts) (state : BoardState) (made : ℕ)
    → upgraded_board version (record { set = set; state = state; made = made })
    ≡ record (upgraded_board version (record { set = set; state = state; made = 0 })) { made = made }
upgraded-made version set state made = search rules

-- the board of a file's state, which counts its steps on
taken : (old new : BoardValue) (text : List ℕ) (fields : Fields) → ((i : ℕ) → get_or text i 0 < 256) → FindsFields old.set text (Ok fields)
    → new ≡ upgraded_board (version_in text) (record { set = old.set; state = state_of fields; made = old.made })
    → HasTakenFile text old new
taken old new text fields fits found is =
    let set = old.set in
    let read = accepts set text fits (Ok (loaded_board set text)) (record { sound = found.sound; text = found.text; board = refl }) in
    record {
      file = read.file;
      board =
          is
          ∙ ap (λ (state : BoardState). upgraded_board (version_in text) (record { set = set; state = state; made = old.made })) found.state
          ∙ upgraded-made (version_in text) set (state_in text) old.made
          ∙ ap (λ (board : BoardValue). record board { made = old.made }) (read.board read.file);
    }

not-taken : (board : BoardValue) (text : List ℕ) (fault : LoadFault) → ((i : ℕ) → get_or text i 0 < 256)
    → FindsFields board.set text (Err fault) → Loading text (Err (NoFile fault)) board board
not-taken board text fault fits found = (
  found.refuses,
  found.of_file,
  accepts board.set text fits (Err fault) (record { refuses = found.refuses; of_file = found.of_file }),
  refl,
)

pub put_fields-requires : goal.put_fields-requires
put_fields-requires c = (c.in-Ok.ensures c.args.board.now.set (sym (c.digest-set_digest.ensures ∙ ap digest_of c.set.ensures))).in_range

pub file_version-requires : goal.file_version-requires
file_version-requires c =
    size-of (digest_of c.args.board.now.set) c.args.text.now
    (c.in-Ok.ensures c.args.board.now.set (sym (c.digest-set_digest.ensures ∙ ap digest_of c.set.ensures))).sound

pub returns-in-Ok : goal.returns-in-Ok
returns-in-Ok c =
    let old = c.args.board.now in
    let found = c.in-Ok.ensures old.set (sym (c.digest-set_digest.ensures ∙ ap digest_of c.set.ensures)) in
    taken old c.bring_up.new.board c.args.text.now c.in-Ok.fields (λ i. (c.type_inv.text i).fits) found
    (c.bring_up.ensures
    ∙ (λ i. upgraded_board (c.file_version.ensures i) (c.put_fields.ensures i)))

pub returns-in-Err : goal.returns-in-Err
returns-in-Err c = search (rules, arith, not-taken)
