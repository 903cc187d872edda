-- For proofs: what proofs say of the definitions of Session.antt.
use Rattle.pac_board_course.specs.State.{BoardValue, board_with_inputs, power_on_board, nothing_due}
use Rattle.std.specs.Prelude.{◌≡◌, Result, Ok, Err, ℕ, Bool, true, false, length, [], ◌<◌, ◌∷◌, ◌++◌}
use Rattle.pac_board_course.specs.SinksLaws.{Giving}
use Rattle.pac_debug_session.specs.Session.{SessionValue, most_breakpoints}
use Rattle.pac_board_course.specs.Sinks.{TookAll}
use Rattle.pac_debug_session.specs.SessionLaws.{session_due_outputs, IsSessionOfferRefused}

-- a board as `init` makes it; which inputs are held is all the same
abbrev pub IsNew : BoardValue → Type 0
IsNew board =
    board.state
    ≡ (board_with_inputs (power_on_board board.set board.state.now.board.memory.switches) board.state.now.board.memory.held).state

abbrev pub SessionOffers : {S A E : Type 0} → Giving S → SessionValue → S → Result A E → SessionValue → S → Type 0
SessionOffers to old sink (Ok done) new later =
    (new ≡ record old { due = nothing_due }) × TookAll to.took sink (session_due_outputs old) later
SessionOffers to old sink (Err refusal) new later = IsSessionOfferRefused to old sink new later

-- a breakpoint is set; a second time changes nothing, and a 65th is refused
abbrev pub IsSet : {A E : Type 0} → SessionValue → ℕ → Bool → Result A E → SessionValue → Type 0
IsSet old address true (Ok done) new = new ≡ old
IsSet old address true (Err full) new = ⊥
IsSet old address false (Ok done) new =
    (length old.breakpoints < most_breakpoints) × (new ≡ record old { breakpoints = old.breakpoints ++ address ∷ [] })
IsSet old address false (Err full) new = (length old.breakpoints ≡ most_breakpoints) × (new ≡ old)
