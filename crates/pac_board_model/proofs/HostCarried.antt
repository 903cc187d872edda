-- What a host does to one account of the board is what it does to the other, seen through the view.
use Rattle.pac_board_model.proofs.Common.{Account, Act, Carries, Entry, Host, HostsAgree, List, Moment, Next, StepsAgree, []}
use Rattle.pac_board_model.proofs.Common.{account_by_history, account_by_view, after_act, after_acts, ap, arith, board_after_entries}
use Rattle.pac_board_model.proofs.Common.{common_steps, decodes-prefix, host_view, length-code, map, moment_view, next_view, put_now, refl}
use Rattle.pac_board_model.proofs.Common.{rules, slice_index_or, sym, with_step, ℕ, ◌++◌, ◌∙◌, ◌∷◌, ◌≡◌}
use Rattle.pac_board_model.proofs.Carried.{play-step-carried, step-carried, view-carries}
use Rattle.pac_board_model.proofs.Told.{view-tells}

module _ {From To : Type 0} (view : From → To) (account : Account From) (other : Account To)
    (carries : Carries view account.ask other.ask) (same_held : (board : From) → account.held board ≡ other.held (view board)) where
  abbrev seen : Moment From → Moment To
  seen = moment_view view

  step-kept : (host : Host From) (next : Next From)
      → host_view view (with_step host next) ≡ with_step (host_view view host) (next_view view next)
  step-kept host next = search rules

  kept-more : (kept : List (Moment From)) (now : Moment From) → map seen (kept ++ now ∷ []) ≡ map seen kept ++ seen now ∷ []
  kept-more kept now = grind (arith, common_steps)

  kept-at : (kept : List (Moment From)) (number : ℕ) (now : Moment From)
      → seen (slice_index_or kept number now) ≡ slice_index_or (map seen kept) number (seen now)
  kept-at kept number now = grind (arith, common_steps)

  put-carried : (entry : Entry) (now : Moment From) → seen (put_now account.ask entry now) ≡ put_now other.ask entry (seen now)
  put-carried entry now = cc (carries.put now.board entry)

  act-carried : (host : Host From) (act : Act) → host_view view (after_act account host act) ≡ after_act other (host_view view host) act
  act-carried host act = grind (arith, kept-at, kept-more, put-carried, step-carried, step-kept)

  pub acts-carried : (acts : List Act) (host : Host From)
      → host_view view (after_acts account host acts) ≡ after_acts other (host_view view host) acts
  acts-carried [] host = refl
  acts-carried (act ∷ acts) host =
      acts-carried acts (after_act account host act) ∙ ap (λ h. after_acts other h acts) (act-carried host act)

pub steps-agree : StepsAgree
steps-agree set items start now whole lie fit = search (rules, decodes-prefix, length-code, play-step-carried, step-carried, view-carries)

pub hosts-agree : HostsAgree
hosts-agree set items start host acts whole lie fit =
    acts-carried (board_after_entries set start) (account_by_history set items start) (account_by_view set)
    (view-carries decodes-prefix length-code set items start whole lie fit)
    (λ entries. sym (view-tells set start entries fit).held) acts host
