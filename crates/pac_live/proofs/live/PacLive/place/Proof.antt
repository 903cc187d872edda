-- A board is written into the memory that a closed handle is lent, and the seal is set.
use Rattle.pac_live.proofs.Common.{IsLent, arith, live_memory, live_seal, live_size, live_with_board, nat_le, nat_tests, ◌≢◌, ◌≤◌}
use Rattle.pac_live.proofs.Walks.{ℕ, List, [], ◌∷◌, ◌≡◌, ◌==◌, true, false, refl, sym, ap, proved_at, full_share, id⊢, SProp, ftrue, flft, named, Val, vunit, w64, tables, ‵, raw, ◌⊛◌, prop, at_ret, ◌$◌, ◌∵◌, !, qed, done, move, keep, use2, split, join, fsplit, fsplit3, feq_i, rewrite, regoal, suffices, frame, group, enter, of_opd, load, unit_lit, assigns, assigns_last, init, first, blocks, exec, returns, stop, fld, alloc_all, pass_all, free_all, look_at, get, through, sets, env, WpFn, Ptr, lies_at, room_at, in_a_block, part_at, part_in, lone, mut_Tells, uint_Tells, cell_at, ◌++◌, plain, types_at, owns, u64, nothing, heard, Stays, walk_of, says, stay_ref, stay_dropped, Goes-ref, Goes-dropped, Goes-blank, ends_at, whole, sub, look_in, store_in, after}
use Rattle.pac_board.specs.contracts.board.Board.{the_row as B}
use Rattle.pac_board.proofs.board.Board.TheLaws as board_laws
use Rattle.pac_live.specs.contracts.live.PacLive.{the_row as R}
use Rattle.pac_live.proofs.LiveHandle.{one, handle_val, handle_opens, handle_closes}
use Rattle.pac_live.specs.contracts.live.PacLive.place as f
use Rattle.pac_live.proofs.live.PacLive.place.Statement.{statement}
use Rattle.pac_live.proofs.live.PacLive.place.Code as code

not-equal : (n m : ℕ) → n ≢ m → (n == m) ≡ false
not-equal n m apart = grind (arith, nat_tests)

at-most : (n m : ℕ) → n ≤ m → nat_le n m ≡ true
at-most n m below = grind (arith, nat_tests)

abbrev stayed : Stays f.ended.signature.params f.ended.kept
stayed = (stay_ref (0 ∷ []) tt (plain (λ _. R)), (stay_dropped (plain (λ _. B)) f.ended.kept.1.0, (stay_dropped (plain (λ _. u64)) f.ended.kept.1.1.0, tt)))

pub place_spec : {M : Type 1} → statement M
place_spec 𝓤 𝓛 𝓜 𝓡 wired =
    let c = f.clauses 𝓛 𝓜.mem 𝓡.returns in let W = walk_of 𝓛 f.ended stayed c in let 𝓣 = tables 𝓤 𝓛.H 𝓜 𝓡 𝓡.env in
    proved_at 𝓛 f.ended stayed c 𝓜 𝓡 (Goes-ref 𝓛 1 0 tt (plain (λ _. R)), (Goes-blank 𝓛 1 (plain (λ _. B)) f.ended.kept.1.0 (λ κs x w. tt), (Goes-dropped 𝓛 1 (plain (λ _. u64)) f.ended.kept.1.1.0 (λ κs x w. refl), tt)))
    f.Key.name code.function (code.unfolded 𝓤 𝓛.H 𝓜 𝓡 wired) (λ z are.
    let a = z.0.3 in let vss = z.0.4 in let κ = z.0.0.0 in let q = z.0.1.0 in
    let b = a.0.ref_ptr.0 in let o = a.0.ref_ptr.1 in let h = a.0.now in let board = a.1.0 in let seal = a.1.1.0 in
    let got = one (lone B.mir) vss.1.0 (((board_laws.the_row_laws).lawful 𝓛).typed board vss.1.0 are.1.0) in let v = got.0 in
    let self_told = mut_Tells (named 0) κ R a.0 vss.0 are.0 in let seal_told = uint_Tells w64 seal vss.1.1.0 are.1.1.0 in
    let Post : Val → SProp 𝓤 = W.post z in
    qed 𝓛 (((‵ (flft κ q) ⊛ ‵ ftrue) ⊛ ‵ (owns (types_at f.ended.signature.params z.0.0) a vss)) ∷ raw (contract.Monad.fact 𝓤 (IsLent h seal)) ∷ []) ∵
    move ! (1 ∷ []) $ heard ! (IsLent h seal) (λ asked.
    split ! $ split ! $ move ! (2 ∷ []) $ fsplit ! $ move ! (1 ∷ []) $ fsplit ! $ keep ! (0 ∷ 2 ∷ 3 ∷ []) $
    rewrite ! 0 (λ (us : List Val). ‵ (B.own_val board us)) got.1 refl $
    regoal ! (λ (us : List Val). prop (WpFn 𝓤 𝓛.H 𝓣.C 𝓣.Λ code.function us Post)) (λ i. self_told i ++ (got.1 i ++ (seal_told i ++ []))) refl $
    enter ! _ _ _ _ _ $ alloc_all ! (λ l. pass_all ! refl ((tt, tt), (got.2, ((tt, record { fits = are.1.1.0.1 }), tt))) $
    -- [what the board owns; the handle's reference; the token; the locals]
    move ! (1 ∷ []) $ fsplit3 ! $ move ! (1 ∷ 2 ∷ 4 ∷ []) $ handle_opens ! tt h b o (λ size_fits seal_fits.
    rewrite ! 0 (λ lies. ‵ (live_memory lies (nat_le live_size h.size) h.at h.board)) (not-equal h.seal live_seal asked.closed) refl $
    rewrite ! 0 (λ large. ‵ (live_memory false large h.at h.board)) (at-most live_size h.size asked.size) refl $
    in_a_block ! h.at (λ p. room_at B p) (id⊢ 𝓤 _) (λ b' o' at_b.
    let word = ap (λ (p : Ptr). handle_val p h.size h.seal ∷ []) at_b in
    let back = ap (λ (p : Ptr). handle_val p h.size seal ∷ []) at_b in
    let Cell = λ (ws : List Val). ‵ (cell_at full_share R.mir ws b o) in
    rewrite ! 1 Cell word refl $
    -- [the room; the words; the open borrow, in three entries; where the reference lies; what the board owns]
    first ! $ blocks ! $
    sets ! (of_opd ! (load ! (through ! refl (fld ! refl (stop !))) (look_in ! 1 (sub ! 0 refl (whole !))))) refl (tt, tt) $ sets ! (of_opd ! (get ! refl)) refl (tt, tt) $
    assigns_last ! (of_opd ! (get ! refl)) (through ! refl (stop !)) (init ! 0 refl got.2) $
    exec ! 𝓣.C 𝓣.Λ (env code.Mir.locals l) (after 1 (code.function).body) (at_ret _ Post) $
    assigns ! (of_opd ! (get ! refl)) (through ! refl (fld ! refl (stop !))) (store_in ! 1 (sub ! 2 refl (whole !)) (tt, record { fits = are.1.1.0.1 })) $
    sets ! (of_opd ! (unit_lit !)) refl (tt, tt) $
    rewrite ! 1 Cell (sym back) refl $
    move ! (0 ∷ 6 ∷ []) $ use2 𝓛 (‵ (part_at B full_share board b' o')) (part_in 𝓛 B refl full_share board b' o' v) $
    rewrite ! 0 (λ (p : Ptr). ‵ (lies_at B full_share p board)) (sym at_b) refl $
    rewrite ! 0 (λ lies. ‵ (live_memory lies (nat_le live_size h.size) h.at board)) (sym (ap (λ n. n == live_seal) asked.seal_is)) refl $
    let new = record (live_with_board h board) { seal = seal } in
    handle_closes ! tt new size_fits (are.1.1.0.1) b o $
    returns ! (look_at ! 0 refl) $ free_all ! refl $ move ! (3 ∷ []) $
    suffices ! _ (ends_at 𝓛 f.ended stayed c z vunit tt (new, (tt, (tt, tt))) (tt, (tt, (tt, tt)))) $ says ! refl $
    group ! 3 $ nothing ! $ nothing ! $ join ! $ nothing ! $ join ! $ move ! (1 ∷ 0 ∷ []) $ join ! $ nothing ! $ move ! (2 ∷ 0 ∷ []) $ join ! $ frame ! $ frame ! $
    feq_i ! _ (vunit ∷ []) _ refl $ done !)))))
