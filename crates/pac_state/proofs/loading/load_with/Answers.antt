-- The board of a file, made in a block of memory.
use Rattle.pac_state.proofs.Common.{BoardState, Err, Ok, ap, digest_of, err_from_is_err_and, inr, refl, restored_board, rules, state_of}
use Rattle.pac_state.proofs.Common.{sym, ◌∙◌}
use Rattle.pac_state.proofs.Files.{accepts}
use Rattle.pac_state.proofs.Taken.{size-of}
use Rattle.pac_state.proofs.loading.load_with.Goals as goal

pub returns-in_err-fields-clause-answer : goal.returns-in_err-fields-clause-answer
returns-in_err-fields-clause-answer c = search rules

pub returns-in_err-fields-clause-files : goal.returns-in_err-fields-clause-files
returns-in_err-fields-clause-files c =
    let found = c.in_err-fields.ensures c.args.set.now (sym c.digest.ensures) in
    let p = err_from_is_err_and c.from_residual.result c.from_residual.ensures.1 in
    rw (p.1, p.2) (λ file.
    absurd (accepts c.args.set.now c.args.bytes.now (λ i. (c.type_inv.bytes i).fits) (Err c.in_err-fields.field-0.0) (search rules) file))

pub file_version-requires : goal.file_version-requires
file_version-requires c =
    let found = c.in_ok-fields.ensures c.args.set.now (sym c.digest.ensures) in
    size-of (digest_of c.args.set.now) c.args.bytes.now found.sound

pub put_fields-requires : goal.put_fields-requires
put_fields-requires c = (c.in_ok-fields.ensures c.args.set.now (sym c.digest.ensures)).in_range

pub returns-in-Ok-clause-answer : goal.returns-in-Ok-clause-answer
returns-in-Ok-clause-answer c =
    let read = c.in_ok-fields.ensures c.args.set.now (sym c.digest.ensures) in
    let board = c.deref_mut-in-Ok.ensures.value ∙ c.put_fields.ensures
    ∙ ap (λ board. restored_board board (state_of c.in_ok-fields.fields)) (c.deref_mut.ensures.value ∙ c.in-Ok.ensures)
    ∙ ap (λ (state : BoardState). record { set = c.args.set.now; state = state; made = 0 }) read.state in
    record { sound = read.sound; text = read.text; board = c.bring_up.ensures ∙ rw (c.file_version.ensures, board) }

pub returns-in-Ok-clause-files : goal.returns-in-Ok-clause-files
returns-in-Ok-clause-files c =
    let answer = returns-in-Ok-clause-answer c in
    accepts c.args.set.now c.args.bytes.now (λ i. (c.type_inv.bytes i).fits) (Ok c.bring_up.new.board) (search rules)

pub returns-in-Err-clause-answer : goal.returns-in-Err-clause-answer
returns-in-Err-clause-answer c =
    let found = c.in_ok-fields.ensures c.args.set.now (sym c.digest.ensures) in
    record { same_set = refl; fault = inr (found.sound, tt) }
