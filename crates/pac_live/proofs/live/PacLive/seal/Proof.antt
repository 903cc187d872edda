-- A word of the handle is read: the borrow is opened, the word is copied, and the borrow is closed as it was.
use Rattle.pac_live.proofs.Walks.{[], ◌∷◌, refl, w64, proved, ftrue, flft, named, vint, ‵, ◌⊛◌, ◌$◌, ◌∵◌, !, qed, done, move, keep, split, join, fsplit3, suffices, frame, group, enter, of_opd, load, stop, fld, returns, alloc_all, pass_all, free_all, look_at, through, sets, u64, MutRef, mut_vals, mut_Tells, plain, nothing, owned, Stays, walk_of, says, stay_ref, Goes-ref, ends_at, uint_Makes, whole, sub, look_in}
use Rattle.pac_live.specs.contracts.live.PacLive.{the_row as R}
use Rattle.pac_live.proofs.LiveHandle.{handle_opens, handle_closes}
use Rattle.pac_live.specs.contracts.live.PacLive.seal as f
use Rattle.pac_live.proofs.live.PacLive.seal.Statement.{statement}
use Rattle.pac_live.proofs.live.PacLive.seal.Code as code

abbrev stayed : Stays f.ended.signature.params f.ended.kept
stayed = (stay_ref (0 ∷ []) tt (plain (λ _. R)), tt)

pub seal_spec : {M : Type 1} → statement M
seal_spec 𝓤 𝓛 𝓜 𝓡 wired =
    let c = f.clauses 𝓛 𝓜.mem 𝓡.returns in let W = walk_of 𝓛 f.ended stayed c in
    proved 𝓛 f.ended stayed c 𝓜 𝓡 (Goes-ref 𝓛 1 0 tt (plain (λ _. R)), tt)
    f.Key.name code.function (code.unfolded 𝓤 𝓛.H 𝓜 𝓡 wired)
    (λ κs. (mut_vals, tt)) (λ κs. (mut_Tells (named 0) κs.0 R, tt)) (λ κs qs bounds a _ are.
    let b = a.0.ref_ptr.0 in let o = a.0.ref_ptr.1 in let h = a.0.now in let vs = mut_vals a.0 in
    let y : W.Ghost = ((κs, qs, bounds, a, (vs, tt)), tt) in
    qed 𝓛 (((‵ (flft κs.0 qs.0) ⊛ ‵ ftrue) ⊛ ‵ ((MutRef (named 0) κs.0 R).own_val a.0 vs) ⊛ ‵ ftrue) ∷ ‵ ftrue ∷ []) ∵
    split ! $ split ! $ move ! (2 ∷ []) $ split ! $ keep ! (0 ∷ 2 ∷ []) $
    enter ! _ _ _ _ _ $ alloc_all ! (λ l. pass_all ! refl ((tt, tt), tt) $
    fsplit3 ! $ move ! (1 ∷ 2 ∷ 3 ∷ []) $ handle_opens ! tt h b o (λ size_fits seal_fits.
    -- [what it owns; its words; the open borrow, in three entries]
    sets ! (of_opd ! (load ! (through ! refl (fld ! refl (stop !))) (look_in ! 1 (sub ! 2 refl (whole !))))) refl (tt, record { fits = seal_fits }) $
    handle_closes ! tt h size_fits seal_fits b o $
    returns ! (look_at ! 0 refl) $ free_all ! refl $ move ! (3 ∷ []) $
    suffices ! _ (ends_at 𝓛 f.ended stayed c y (vint w64 h.seal) h.seal (h, tt) (tt, tt)) $ says ! (refl, refl) $
    group ! 3 $ nothing ! $ move ! (1 ∷ 0 ∷ []) $ join ! $ nothing ! $ move ! (2 ∷ 0 ∷ []) $ join ! $ frame ! $ frame ! $
    owned ! u64 _ (uint_Makes 𝓛 w64) h.seal _ (refl, seal_fits) $ done !)))
