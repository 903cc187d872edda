-- One step of a board: how many samples and pictures it gives, and that none is refused where there is room for two.
use Rattle.pac_live.proofs.Common.{BoardValue, BoardView, Ends, Err, Fault, Goes, IsOfferRefused, IsStepRefused, Next, Refused, Sounds}
use Rattle.pac_live.proofs.Common.{StepsOn, TooFar, Walk, ap, arith, by, by_view, due-pictures, due-sounds, due_outputs, going-steps, inl}
use Rattle.pac_live.proofs.Common.{inr, latest, length, next_of, none-refused, once_at, open-goes-on, outputs_in, outputs_of_one}
use Rattle.pac_live.proofs.Common.{picture_count, pictures-append, refl, sound_count, sounding_refused, sounding_took, sounds-append, step}
use Rattle.pac_live.proofs.Common.{stop_of_next, stop_of_once, suc, walk_at_start, walks-are-timed, zero, ℕ, ◌+◌, ◌<◌, ◌∙◌, ◌≡◌, ◌≤◌, ◌⊎◌}
use Rattle.pac_board.proofs.Turns.{after-outputs}

pub few-due : (board : BoardValue) → (sound_count (due_outputs board) ≤ 1) × (picture_count (due_outputs board) ≤ 1)
few-due board = grind (arith, due-pictures, due-sounds)

pub few-of-one : (board : BoardValue) → (sound_count (outputs_of_one board) ≤ 2) × (picture_count (outputs_of_one board) ≤ 2)
few-of-one board =
    let now = board.state.now in
    let next = step (by_view board.set) in
    let limit = now.time + 1 in
    let first = going-steps next limit (walk_at_start now) (open-goes-on limit (walk_at_start now) refl (omega arith)) in
    let walked = ap (λ (w : Walk BoardView). w.outputs) first ∙ after-outputs (walk_at_start now) (next now) in
    let timed = walks-are-timed (by_view board.set) limit (suc zero) now in
    let last = timed.last (omega arith) in
    let few = few-due board in grind (arith, pictures-append, sounds-append)

-- where there is time, and room for two samples, a step is done
pub step-done : {A : Type 0} (fault : Fault) (board : BoardValue) (sink : Sounds) (new : BoardValue) (later : Sounds)
    → sink.taken ≡ 0 → sink.pictures ≡ 0 → board.state.now.time < latest → 2 ≤ length sink.samples.now
    → StepsOn (by sounding_took sounding_refused) board sink (Err fault) new later → A
step-done TooFar board sink new later none no_picture early room far = let past = far.0 in absurd (omega (arith, early, past))
step-done {A} Refused board sink new later none no_picture early room refused = choose refused.1
  where
    choose : IsOfferRefused (by sounding_took sounding_refused) board sink new later
        ⊎ IsStepRefused (by sounding_took sounding_refused) board sink new later → A
    choose (inl offer) =
        let all = sounds-append (due_outputs board) (outputs_in (next_of board)) in
        none-refused (due_outputs board) (due_outputs new) sink later none no_picture (omega (arith, all, (few-of-one board).0, room))
        offer.cut
    choose (inr held) =
        none-refused (outputs_of_one board) (due_outputs new) sink later none no_picture (omega (arith, (few-of-one board).0, room))
        held.cut

-- the stop that the answer tells
pub once-stop : (next : Next BoardView) (time : ℕ) → stop_of_once (once_at next time) ≡ stop_of_next next
once-stop (Goes moment outputs kind) time = refl
once-stop (Ends stop) time = refl
