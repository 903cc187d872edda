use Rattle.pac_debug.proofs.Common.{ap, arith, bytes_from, common_steps, read_of, refl, rules, session_byte_at, wrapped_address, ℕ, ◌+◌}
use Rattle.pac_debug.proofs.Common.{◌∙◌, ◌≡◌}

pub returns : Rattle.pac_debug.proofs.seen.four_bytes.Goals.returns
unfolding bytes_from
returns c =
    let s = c.args.session.now in
    let board = c.board-board.result.now in
    let seen : (at : ℕ) → read_of board.set.program board.state.now.board.memory at ≡ session_byte_at s at = grind (arith, common_steps) in
    let second = c.offset-second.ensures in
    let third : c.offset-third.result ≡ wrapped_address (wrapped_address (c.args.at + 1) + 1) = search rules in
    let fourth : c.offset-fourth.result ≡ wrapped_address (wrapped_address (wrapped_address (c.args.at + 1) + 1) + 1) =
    c.offset-fourth.ensures ∙ ap (λ a. wrapped_address (a + 1)) third in
    let one = c.peek.ensures ∙ seen c.args.at in
    let two = c.peek-2.ensures ∙ seen c.offset-second.result ∙ ap (session_byte_at s) second in
    let three = c.peek-3.ensures ∙ seen c.offset-third.result ∙ ap (session_byte_at s) third in
    let four = c.peek-4.ensures ∙ seen c.offset-fourth.result ∙ ap (session_byte_at s) fourth in
    rw (one, two, three, four) refl
