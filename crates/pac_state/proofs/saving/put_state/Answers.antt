use Rattle.pac_state.proofs.Common.{[], append_assoc, body, err_from_is_err_and, puts-after, refuses-after, refuses-within, sha1, state_of}
use Rattle.pac_state.proofs.Common.{takes-joined, written_version}
use Rattle.pac_state.proofs.saving.put_state.Goals as goal

pub returns-in_err-put : goal.returns-in_err-put
returns-in_err-put g c =
    let p = err_from_is_err_and c.from_residual.result c.from_residual.ensures.1 in
    rw (p.1, p.2, append_assoc, ← c.front.ensures) (refuses-within c.in_err-put.ensures.put _)

pub returns-in_err-put_lines : goal.returns-in_err-put_lines
returns-in_err-put_lines g c =
    let p = err_from_is_err_and c.from_residual-in_err-put_lines.result c.from_residual-in_err-put_lines.ensures.1 in
    let digest = sha1 (body written_version c.args.digest.now (state_of c.args.fields.now)) in
    let refuses = refuses-within (refuses-after c.in_ok-put.ensures.put.takes c.in_err-put_lines.ensures.put) digest in
    rw (p.1, p.2) (rw c.front.ensures at refuses)

pub returns : goal.returns
returns g c =
    let digest = c.finalize.ensures _ (c.in_ok-put_lines.ensures.hashed _ (c.put.ensures.hashed [] c.new-hasher.ensures)) in
    rw (← c.front.ensures, ← digest)
    (puts-after g.W.Out.refused (takes-joined c.in_ok-put.ensures.put.takes c.in_ok-put_lines.ensures.put.takes) c.finalize.result
    c.put-2.result c.put-2.new.self c.put-2.ensures.put)
