-- Step by step from an index of a run on: by the course's steps, in time, and as they are told.
use Rattle.pac_debug_session.proofs.Common.{BoardView, Goes, IsTimely, List, Moment, Next, Option, PastStep, SessionValue, Some, [], ap}
use Rattle.pac_debug_session.proofs.Common.{arith, course_of, goes_at, kept-joined, next_in, noted, now_at, rules, stepped, subst, suc, sym}
use Rattle.pac_debug_session.proofs.Common.{told_at, true, zero, ℕ, ◌*◌, ◌+◌, ◌<◌, ◌∙◌, ◌∷◌, ◌≡◌, ◌≤◌}
use Rattle.pac_debug_session.proofs.Indices.{IsOpen, open-up-to, one-more, goes-on, goes-early, timely}
use Rattle.pac_debug_session.proofs.PlayedOn.{steps-same}

module _ (old : SessionValue) where
  abbrev pub next : Moment BoardView → Next BoardView
  next = next_in (course_of old)

  abbrev pub from : Moment BoardView
  from = now_at old.setting old.index

  abbrev pub told_here : Option (List PastStep)
  told_here = Some (told_at old.setting old.index)

  pub record IsReached (n : ℕ) : Type 0 where
    pub now_is : now_at old.setting (old.index + n) ≡ stepped next from n
    pub time : from.time + 4 * n ≤ (now_at old.setting (old.index + n)).time
    pub told : Some (told_at old.setting (old.index + n)) ≡ noted next from told_here n

  module _ (opened : IsOpen old.setting old.index) where
    pub reached : (n : ℕ) → ((earlier : ℕ) → earlier < old.index + n → goes_at old.setting earlier ≡ true) → IsReached n
    reached zero on = search rules
    reached (suc n) goes =
        let before = reached n (λ earlier less. goes earlier (omega arith)) in
        let place : ℕ = old.index + n in
        let there = now_at old.setting place in
        let here = goes place (omega arith) in
        let on = goes-on old.setting place here in
        let so_open = open-up-to old.setting place (λ earlier less. goes earlier (omega arith)) in
        let one = one-more old.setting place on.now on.outputs on.kind so_open (goes-early old.setting place here) on.is in
        let following : suc place ≡ old.index + suc n = omega arith in
        let times = subst (λ (h : Next BoardView). IsTimely there h) on.is (timely old.setting there) in
        let comes : next (stepped next from n) ≡ Goes on.now on.outputs on.kind
        = ap next (sym before.now_is) ∙ steps-same old opened there ∙ on.is in
        let now_there : now_at old.setting (old.index + suc n) ≡ on.now = ap (now_at old.setting) (sym following) ∙ one.now_is in
        let line : List PastStep = record { index = place; pc = there.regs.pc; kind = on.kind } ∷ [] in grind (arith, kept-joined, there)
