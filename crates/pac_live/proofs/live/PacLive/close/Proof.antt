-- The seal of an open handle is taken away, and the board's memory is room again.
use Rattle.pac_live.proofs.Common.{BoardValue, live_memory, live_seal, live_size, nat_le}
use Rattle.pac_live.proofs.Walks.{[], ◌∷◌, ◌≡◌, ◌==◌, Bool, true, false, refl, sym, ap, lit<, proved, Ura, full_share, id⊢, ent, ftrue, fat, flft, froom, named, Val, vunit, Logic, sem, ‵, raw, ◌⊛◌, some, ◌$◌, ◌∵◌, !, qed, done, move, keep, drop, use1, split, join, fsplit3, pick, rewrite, suffices, frame, group, feq_i, enter, of_opd, lit, unit_lit, assigns, returns, stop, fld, alloc_all, pass_all, free_all, look_at, through, sets, Ptr, lies_at, room_at, in_a_block, part_out, lone, MutRef, mut_vals, mut_Tells, plain, nothing, heard, Stays, walk_of, says, stay_ref, Goes-ref, ends_at, whole, sub, store_in}
use Rattle.pac_board.specs.contracts.board.Board.{the_row as B}
use Rattle.pac_live.specs.contracts.live.PacLive.{the_row as R}
use Rattle.pac_live.proofs.LiveHandle.{handle_opens, handle_closes}
use Rattle.pac_live.specs.contracts.live.PacLive.close as f
use Rattle.pac_live.proofs.live.PacLive.close.Statement.{statement}
use Rattle.pac_live.proofs.live.PacLive.close.Code as code

abbrev stayed : Stays f.ended.signature.params f.ended.kept
stayed = (stay_ref (0 ∷ []) tt (plain (λ _. R)), tt)

module _ {M : Type 1} {𝓤 : Ura M} (𝓛 : Logic 𝓤) where
  -- where a board lies there is room for one
  to_room : (p : Ptr) (board : BoardValue) → ent 𝓤 (sem 𝓛 (lies_at B full_share p board)) (sem 𝓛 (room_at B p))
  to_room p board =
      qed 𝓛 (‵ (lies_at B full_share p board) ∷ []) ∵
      in_a_block ! p (λ r. lies_at B full_share r board) (id⊢ 𝓤 _) (λ b o e.
      use1 𝓛 (some (λ (v : Val). ‵ (fat full_share (lone B.mir) b o v) ⊛ ‵ (B.own_val board (v ∷ [])))) (part_out 𝓛 B refl full_share board b o) $
      pick ! (λ v. split ! $ keep ! (0 ∷ []) $ use1 𝓛 (‵ (froom (lone B.mir) b o)) (𝓛.laws.at_room (lone B.mir) b o v) $
      rewrite ! 0 (λ (r : Ptr). ‵ (room_at B r)) (sym e) refl $ done !))

  released : (large : Bool) (p : Ptr) (board : BoardValue)
      → ent 𝓤 (sem 𝓛 (live_memory true large p board)) (sem 𝓛 (live_memory false large p board))
  released true p board = to_room p board
  released false p board = qed 𝓛 (‵ (lies_at B full_share p board) ∷ []) ∵ drop ! $ nothing ! $ done !

pub close_spec : {M : Type 1} → statement M
close_spec 𝓤 𝓛 𝓜 𝓡 wired =
    let c = f.clauses 𝓛 𝓜.mem 𝓡.returns in let W = walk_of 𝓛 f.ended stayed c in
    proved 𝓛 f.ended stayed c 𝓜 𝓡 (Goes-ref 𝓛 1 0 tt (plain (λ _. R)), tt)
    f.Key.name code.function (code.unfolded 𝓤 𝓛.H 𝓜 𝓡 wired)
    (λ κs. (mut_vals, tt)) (λ κs. (mut_Tells (named 0) κs.0 R, tt)) (λ κs qs bounds a _ are.
    let b = a.0.ref_ptr.0 in let o = a.0.ref_ptr.1 in let h = a.0.now in let vs = mut_vals a.0 in
    let y : W.Ghost = ((κs, qs, bounds, a, (vs, tt)), tt) in
    qed 𝓛 (((‵ (flft κs.0 qs.0) ⊛ ‵ ftrue) ⊛ ‵ ((MutRef (named 0) κs.0 R).own_val a.0 vs) ⊛ ‵ ftrue) ∷ raw (contract.Monad.fact 𝓤 (h.seal ≡ live_seal)) ∷ []) ∵
    move ! (1 ∷ []) $ heard ! (h.seal ≡ live_seal) (λ asked.
    let sealed : (h.seal == live_seal) ≡ true = ap (λ n. n == live_seal) asked in
    split ! $ split ! $ move ! (2 ∷ []) $ split ! $ keep ! (0 ∷ 2 ∷ []) $
    enter ! _ _ _ _ _ $ alloc_all ! (λ l. pass_all ! refl ((tt, tt), tt) $
    fsplit3 ! $ move ! (1 ∷ 2 ∷ 3 ∷ []) $ handle_opens ! tt h b o (λ size_fits seal_fits.
    -- [what it owns; its words; the open borrow, in three entries]
    assigns ! (of_opd ! (lit ! tt)) (through ! refl (fld ! refl (stop !))) (store_in ! 1 (sub ! 2 refl (whole !)) (tt, record { fits = lit< tt })) $
    sets ! (of_opd ! (unit_lit !)) refl (tt, tt) $
    rewrite ! 0 (λ lies. ‵ (live_memory lies (nat_le live_size h.size) h.at h.board)) sealed refl $
    use1 𝓛 (‵ (live_memory false (nat_le live_size h.size) h.at h.board)) (released 𝓛 (nat_le live_size h.size) h.at h.board) $
    handle_closes ! tt (record h { seal = 0 }) size_fits (lit< tt) b o $
    returns ! (look_at ! 0 refl) $ free_all ! refl $ move ! (3 ∷ []) $
    suffices ! _ (ends_at 𝓛 f.ended stayed c y vunit tt (record h { seal = 0 }, tt) (tt, tt)) $ says ! refl $
    group ! 3 $ nothing ! $ move ! (1 ∷ 0 ∷ []) $ join ! $ nothing ! $ move ! (2 ∷ 0 ∷ []) $ join ! $ frame ! $ frame ! $
    feq_i ! _ (vunit ∷ []) _ refl $ done !))))
