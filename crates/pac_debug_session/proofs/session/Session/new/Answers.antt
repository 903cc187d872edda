-- The session stands at the beginning of its run.
use Rattle.pac_debug_session.proofs.Common.{ap, arith, board_with_inputs, held, length, rules, ◌*◌, ◌∙◌, ◌≡◌}
use Rattle.pac_debug_session.proofs.Begun.{new-asked, stands-first, right-empty, value-first}
use Rattle.pac_debug_session.proofs.session.Session.new.Goals as goal

pub invariant_of-result : goal.invariant_of-result
invariant_of-result c =
    let board = c.args.board.value in
    let switches : c.peek-switches.result ≡ board.state.now.board.memory.switches = search rules in
    let hold : c.hold.new.board ≡ board_with_inputs board (held c.args.script 1) = search rules in
    record {
      limit = ap (λ n. 50688 * n) (c.from-limit.ensures ∙ c.frames.ensures.count);
      short = omega arith;
      unasked = new-asked board c.hold.new.board c.args.script c.peek-switches.result switches c.requires hold;
      standing = stands-first _ _ c.args.script _ switches c.requires hold _ _ c.in-Ok.ensures.0 c.in-Ok.ensures.1 c.in-Ok.ensures.2;
      slots =
          right-empty (record { set = c.hold.new.board.set; switches = c.peek-switches.result; script = c.args.script })
          c.in-Ok.slots.items c.in-Ok.ensures.3 c.in-Ok.ensures.4;
      breakpoints = omega (arith, ap length c.in-Ok.ensures.5);
    }

pub returns-clause-session : goal.returns-clause-session
returns-clause-session c =
    let board = c.args.board.value in
    let switches : c.peek-switches.result ≡ board.state.now.board.memory.switches = search rules in
    let hold : c.hold.new.board ≡ board_with_inputs board (held c.args.script 1) = search rules in
    rw c.in-Ok.ensures.5 (value-first _ _ _ _ switches c.requires hold _ c.in-Ok.ensures.3 c.in-Ok.ensures.4)
