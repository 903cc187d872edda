-- The words of a live board's handle: what is owned tells them, and is made of nothing; and a handle behind a `&mut`, opened and closed.
use Rattle.pac_live.proofs.Common.{List, PacLive, [], live_owns, refl, w64, ℕ, ◌++◌, ◌<◌, ◌^◌, ◌∙◌, ◌∷◌, ◌≡◌}
use seplogic.Ra.Ura.{Ura}
use base.Fraction.{full_share}
use base.Stored.{Gv}
use lib.Dec.{T}
use mir.Syntax.{Ty}
use mir.Val.{Val, has_ty, WT, vint, vstruct, vcons, vnil, of_list}
use base.Logic.{ent, emp}
use base.Fml.{Fml, Lft, GName, Share, flft, fobs, fauth, fbor, fobor}
use types.Logic.{Logic, sem}
use types.Kit.{Item, Goal, Soaks, Seq, Step, step, ‵, ◌$◌, move, drop, use0, rewrite, fsplit, fjoin}
use types.SemTy.{Body}
use denote.RattleType.{RattleType}
use denote.Builtin.{usize, u64}
use denote.Laws.{Is, Typed, shows}
use denote.Memory.{mem, cell_at}
use denote.RawPtr.{Ptr, RawPtr, ptr_val}
use denote.Shadow.{shadow, makes_shadow}
use denote.Steps.{opens, closes, peeks}
use denote.Struct.Struct.{Struct}
use Rattle.pac_live.specs.contracts.live.PacLive.{the_row as R}

-- a struct of these words: what it owns doesn't read its name
abbrev words : RattleType
words = Struct (record { name = []; args = []; types = []; fields = RawPtr ∷ usize ∷ u64 ∷ [] })

abbrev pub handle_val : Ptr → ℕ → ℕ → Val
handle_val at size seal = vstruct (vcons (ptr_val at) (vcons (vint w64 size) (vcons (vint w64 seal) vnil)))

abbrev pub handle_own : Ptr → ℕ → ℕ → List Val → Fml
handle_own at size seal = words.own_val (at, (size, (seal, tt)))

pub handle_told : (at : Ptr) (size seal : ℕ) (vs : List Val) → shadow (handle_own at size seal vs)
    → (vs ≡ handle_val at size seal ∷ []) × (size < 2 ^ 64) × (seal < 2 ^ 64)
handle_told at size seal vs s = (
  s.1.0 ∙ (λ i. vstruct (of_list (s.1.1.0 i ++ (s.1.1.1.0.0 i ++ (s.1.1.1.1.0.0 i ++ [])))) ∷ []),
  s.1.1.1.0.1,
  s.1.1.1.1.0.1,
)

pub handle_made : {M : Type 1} {𝓤 : Ura M} (𝓛 : Logic 𝓤) (at : Ptr) (size seal : ℕ) → size < 2 ^ 64 → seal < 2 ^ 64
    → ent 𝓤 (emp 𝓤) (sem 𝓛 (handle_own at size seal (handle_val at size seal ∷ [])))
handle_made 𝓛 at size seal size_fits seal_fits =
    makes_shadow 𝓛 (handle_own at size seal (handle_val at size seal ∷ [])) (λ _. (tt, (tt, ((tt, tt), ((tt, tt), tt))))) (
      (ptr_val at ∷ [], (vint w64 size ∷ [], (vint w64 seal ∷ [], tt))),
      (refl, (refl, ((refl, size_fits), ((refl, seal_fits), tt)))),
    )

-- a value of one machine word or struct
pub one : (τ : Ty) (vs : List Val) → Typed (τ ∷ []) vs → (v : Val) × (vs ≡ v ∷ []) × (T (has_ty τ v) × WT v)
one τ [] t = absurd t
one τ (v ∷ []) t = (v, refl, t.0)
one τ (v ∷ w ∷ vs) t = absurd t.1

-- what the handle has beside its words
abbrev pub owned_by : PacLive → Fml
owned_by live = live_owns live.seal live.size live.at live.board

abbrev pub val_of : PacLive → Val
val_of live = handle_val live.at live.size live.seal

module _ {M : Type 1} {𝓤 : Ura M} {𝓛 : Logic 𝓤} {K : Type 0} {Γ : List (Item 𝓤)} {G : Goal 𝓤 𝓛.H} where
  pub handle_opens : K → Soaks G → {κ : Lft} {q : Share} {γ : GName} (h : PacLive) (b o : ℕ)
      → (h.size < 2 ^ 64 → h.seal < 2 ^ 64
      → Seq K 𝓛 (‵ (owned_by h) ∷ ‵ (cell_at full_share R.mir (val_of h ∷ []) b o) ∷ ‵ (fobor κ q (Body (mem R) b o γ))
      ∷ ‵ (fobs γ (R.coded.code h)) ∷ ‵ (fauth γ (R.coded.code h)) ∷ Γ) G)
      → Seq K 𝓛 (‵ (fobs γ (R.coded.code h)) ∷ ‵ (fbor κ (Body (mem R) b o γ)) ∷ ‵ (flft κ q) ∷ Γ) G
  handle_opens t z h b o k =
      opens t z R {h = h} b o (λ us. move t (1 ∷ []) $ peeks t R (Is R) (shows 𝓛 R) h us (λ is.
      let told = handle_told h.at h.size h.seal us is.0 in
      fsplit t $ drop t $ move t (1 ∷ []) $ rewrite t 0 (λ (ws : List Val). ‵ (cell_at full_share R.mir ws b o)) told.0 refl $
      move t (1 ∷ 0 ∷ []) $ k told.1 told.2))

  pub handle_closes : K → Soaks G → {κ : Lft} {q : Share} {v w : Gv} {γ : GName} (h : PacLive) → h.size < 2 ^ 64 → h.seal < 2 ^ 64
      → (b o : ℕ)
      → Step K 𝓛 (‵ (fobs γ (R.coded.code h)) ∷ ‵ (fbor κ (Body (mem R) b o γ)) ∷ ‵ (flft κ q) ∷ Γ) G
      (‵ (owned_by h) ∷ ‵ (cell_at full_share R.mir (val_of h ∷ []) b o) ∷ ‵ (fobor κ q (Body (mem R) b o γ)) ∷ ‵ (fobs γ v) ∷ ‵ (fauth γ w) ∷ Γ) G
  handle_closes t z h size_fits seal_fits b o = step (λ s.
      use0 𝓛 (‵ (handle_own h.at h.size h.seal (val_of h ∷ []))) (handle_made 𝓛 h.at h.size h.seal size_fits seal_fits) $ fjoin t $
      move t (1 ∷ 0 ∷ []) $ closes t z R h (val_of h ∷ []) b o $ s)
