-- The board of an open handle is lent, and the handle follows it.
use Rattle.pac_live.proofs.Common.{BoardValue, PacLive, live_memory, live_seal, live_size, live_with_board, nat_le}
use Rattle.pac_live.proofs.Walks.{ℕ, List, [], ◌∷◌, ◌≡◌, ◌==◌, true, refl, sym, ap, proved, Ura, full_share, id⊢, ent, sep, Fml, GName, ftrue, flft, fsep, named, Val, vptr, Logic, sem, tables, ‵, raw, ◌⊛◌, some, later, at_ret, ◌$◌, ◌∵◌, !, qed, done, move, keep, drop, use0, use1, split, join, fsplit, fsplit3, fjoin, fpack, pick, await, rewrite, suffices, frame, group, enter, of_opd, addr, load, first, blocks, exec, returns, stop, fld, alloc_all, pass_all, free_all, look_at, get, through, sets, sets_last, env, no, follows, Part, lends_Part, mem, cell_at, part_at, Ptr, block_ptr, lies_at, in_a_block, MutRef, mut_vals, mut_Tells, plain, mut_ref_to, nothing, heard, Stays, walk_of, says, stay_dropped, Goes-spent_ref, ends_at, whole, sub, look_in, after}
use denote.Memory.{part_of}
use Rattle.pac_board.specs.contracts.board.Board.{the_row as B}
use Rattle.pac_live.specs.contracts.live.PacLive.{the_row as R}
use Rattle.pac_live.proofs.LiveHandle.{handle_val, handle_own, handle_made, handle_opens, val_of}
use Rattle.pac_live.specs.contracts.live.PacLive.board as f
use Rattle.pac_live.proofs.live.PacLive.board.Statement.{statement}
use Rattle.pac_live.proofs.live.PacLive.board.Code as code

abbrev stayed : Stays f.ended.signature.params f.ended.kept
stayed = (stay_dropped (mut_ref_to (0 ∷ []) tt (plain (λ _. R))) no, tt)

module _ {M : Type 1} {𝓤 : Ura M} (𝓛 : Logic 𝓤) (h : PacLive) (rb ro b o : ℕ) where
  -- all of the handle but its board
  abbrev Rest : Fml
  Rest = fsep (handle_own h.at h.size h.seal (val_of h ∷ [])) (cell_at full_share R.mir (val_of h ∷ []) rb ro)

  back : h.at ≡ block_ptr b o → (h.seal == live_seal) ≡ true → (w : BoardValue)
      → ent 𝓤 (sep 𝓤 (sem 𝓛 ((mem B).own_at w b o)) (sem 𝓛 Rest)) (sem 𝓛 ((mem R).own_at (live_with_board h w) rb ro))
  unfolding part_of
  back at_b sealed w =
      qed 𝓛 (‵ (part_at B full_share w b o) ∷ ‵ Rest ∷ []) ∵
      rewrite ! 0 (λ (p : Ptr). ‵ (lies_at B full_share p w)) (sym at_b) refl $
      rewrite ! 0 (λ lies. ‵ (live_memory lies (nat_le live_size h.size) h.at w)) (sym sealed) refl $
      move ! (1 ∷ []) $ fsplit ! $ move ! (0 ∷ 2 ∷ []) $ fjoin ! $ move ! (1 ∷ 0 ∷ []) $ fjoin ! $
      fpack ! (List Val) (λ us. fsep (cell_at full_share R.mir us rb ro) (R.own_val (live_with_board h w) us)) (val_of h ∷ []) $ done !

pub board_spec : {M : Type 1} → statement M
board_spec 𝓤 𝓛 𝓜 𝓡 wired =
    let c = f.clauses 𝓛 𝓜.mem 𝓡.returns in let W = walk_of 𝓛 f.ended stayed c in let 𝓣 = tables 𝓤 𝓛.H 𝓜 𝓡 𝓡.env in
    proved 𝓛 f.ended stayed c 𝓜 𝓡 (Goes-spent_ref 𝓛 1 (0 ∷ []) tt (plain (λ _. R)), tt)
    f.Key.name code.function (code.unfolded 𝓤 𝓛.H 𝓜 𝓡 wired)
    (λ κs. (mut_vals, tt)) (λ κs. (mut_Tells (named 0) κs.0 R, tt)) (λ κs qs bounds a _ are.
    let κ = κs.0 in let q = qs.0 in let rb = a.0.ref_ptr.0 in let ro = a.0.ref_ptr.1 in let γ = a.0.ghost_name in let h = a.0.now in let vs = mut_vals a.0 in
    let y : W.Ghost = ((κs, qs, bounds, a, (vs, tt)), tt) in
    qed 𝓛 (((‵ (flft κ q) ⊛ ‵ ftrue) ⊛ ‵ ((MutRef (named 0) κ R).own_val a.0 vs) ⊛ ‵ ftrue) ∷ raw (contract.Monad.fact 𝓤 (h.seal ≡ live_seal)) ∷ []) ∵
    move ! (1 ∷ []) $ heard ! (h.seal ≡ live_seal) (λ asked.
    let sealed : (h.seal == live_seal) ≡ true = ap (λ n. n == live_seal) asked in
    split ! $ split ! $ move ! (2 ∷ []) $ split ! $ keep ! (0 ∷ 2 ∷ []) $
    enter ! _ _ _ _ _ $ alloc_all ! (λ l. pass_all ! refl ((tt, tt), tt) $
    fsplit3 ! $ drop ! $ move ! (0 ∷ 1 ∷ 2 ∷ []) $ handle_opens ! tt h rb ro (λ size_fits seal_fits.
    rewrite ! 0 (λ lies. ‵ (live_memory lies (nat_le live_size h.size) h.at h.board)) sealed refl $
    in_a_block ! h.at (λ p. lies_at B full_share p h.board) (id⊢ 𝓤 _) (λ b o at_b.
    let word = ap (λ (p : Ptr). handle_val p h.size h.seal ∷ []) at_b in
    let Cell = λ (ws : List Val). ‵ (cell_at full_share R.mir ws rb ro) in
    rewrite ! 1 Cell word refl $
    -- [the board; the words; the open borrow, in three entries]
    first ! $ blocks ! $
    sets ! (of_opd ! (load ! (through ! refl (fld ! refl (stop !))) (look_in ! 1 (sub ! 0 refl (whole !))))) refl (tt, tt) $ sets ! (of_opd ! (get ! refl)) refl (tt, tt) $
    sets_last ! (addr ! (through ! refl (stop !))) refl (tt, tt) $
    exec ! 𝓣.C 𝓣.Λ (env code.Mir.locals l) (after 1 (code.function).body) (at_ret _ (W.post y)) $
    sets ! (of_opd ! (get ! refl)) refl (tt, tt) $
    rewrite ! 1 Cell (sym word) refl $
    use0 𝓛 (‵ (handle_own h.at h.size h.seal (val_of h ∷ []))) (handle_made 𝓛 h.at h.size h.seal size_fits seal_fits) $
    move ! (0 ∷ 2 ∷ []) $ fjoin ! $ move ! (2 ∷ 3 ∷ 4 ∷ 1 ∷ 0 ∷ []) $ group ! 5 $
    use1 𝓛 (later (some (λ (γ' : GName). raw (Part 𝓛 R B (live_with_board h) (named 0) κ q rb ro b o γ (sem 𝓛 (Rest 𝓛 h rb ro b o)) (back 𝓛 h rb ro b o at_b sealed) h.board γ'))))
    (lends_Part 𝓛 R B (live_with_board h) (named 0) κ q rb ro b o γ (sem 𝓛 (Rest 𝓛 h rb ro b o)) (back 𝓛 h rb ro b o at_b sealed) (R.coded.code h) (R.coded.code h) h.board) $ await ! tt $ pick ! (λ γ'.
    returns ! (look_at ! 0 refl) $ free_all ! refl $ keep ! (0 ∷ []) $
    use1 𝓛 (‵ ((MutRef (named 0) κ B).own_val (record { ref_ptr = (b, o); ghost_name = γ'; now = h.board }) (vptr b o ∷ [])) ⊛ ‵ (flft κ q) ⊛ ‵ (follows R B γ γ' (live_with_board h))) (id⊢ 𝓤 _) $
    split ! $ move ! (1 ∷ []) $ split ! $ move ! (2 ∷ 0 ∷ 1 ∷ []) $
    -- [the board's reference; the token; what follows]
    suffices ! _ (ends_at 𝓛 f.ended stayed c y (vptr b o) (record { ref_ptr = (b, o); ghost_name = γ'; now = h.board }) (tt, tt) (tt, tt)) $
    nothing ! $ nothing ! $ fjoin ! $ join ! $ nothing ! $ move ! (2 ∷ 0 ∷ []) $ join ! $ join ! $ frame ! $ says ! refl $ done !))))))
