-- Two scripts, one after another, are one play.
use Rattle.pac_run.proofs.Common.{Bool, List, Stretch, [], ap, arith, cases_Bool, held, held_after, if◌then◌else◌, inl, inr, le-ltb, nat_le}
use Rattle.pac_run.proofs.Common.{nat_tests, play_of, plays_joined, refl, rules, total_frames, true, ℕ, ◌++◌, ◌+◌, ◌-◌, ◌∙◌, ◌∷◌, ◌≡◌, ◌≤◌}

-- ---- frames

pub total-joined : (one other : List Stretch) → total_frames (one ++ other) ≡ total_frames one + total_frames other
total-joined [] other = omega arith
total-joined (line ∷ lines) other = let more = total-joined lines other in omega (arith, more)

-- ---- the inputs held

-- before the first of some lines nothing is held
unheld : (before frame : ℕ) (lines : List Stretch) → frame ≤ before → held_after before lines frame ≡ 0
unheld before frame [] early = refl
unheld before frame (line ∷ lines) early = rw (le-ltb before frame early) (unheld (before + line.frames) frame lines (omega (arith, early)))

same-test : (one other : Bool) → (one ≡ true → other ≡ true) → (other ≡ true → one ≡ true) → one ≡ other
same-test one other there back = search rules

-- frames may be counted from any one on
shifted : (shift before frame : ℕ) (lines : List Stretch) → shift ≤ frame
    → held_after (shift + before) lines frame ≡ held_after before lines (frame - shift)
shifted shift before frame [] within = refl
shifted shift before frame (line ∷ lines) within =
    grind (arith, nat_tests, same-test, shifted shift (before + line.frames) frame lines within)

-- of two tests the first is passed only where the second is
pick : (first within : Bool) (mask other next : ℕ) → (first ≡ true → within ≡ true)
    → (if first then mask else if within then other else next) ≡ (if within then (if first then mask else other) else next)
pick first within mask other next only = search rules

held-after : (before frame : ℕ) (one other : List Stretch)
    → held_after before (one ++ other) frame
    ≡ (if nat_le frame (before + total_frames one) then held_after before one frame else held_after (before + total_frames one) other frame)
held-after before frame [] other = grind (arith, cases_Bool, nat_tests, unheld)
held-after before frame (line ∷ lines) other = grind (arith, nat_tests, pick, held-after (before + line.frames) frame lines other)

held-joined : (one other : List Stretch) (frame : ℕ)
    → held (one ++ other) frame ≡ (if nat_le frame (total_frames one) then held one frame else held other (frame - total_frames one))
held-joined one other frame =
    let none : 0 + total_frames one ≡ total_frames one = omega arith in
    let all = held-after 0 frame one other
    ∙ ap (λ n. if nat_le frame n then held one frame else held_after n other frame) none in
    all
    ∙ (elim (cases_Bool (nat_le frame (total_frames one))) [
      | inl e ↦ rw e refl
      | inr e ↦ rw e (later (grind (arith, nat_tests, e)))
    ])
  where
    later : total_frames one ≤ frame → held_after (total_frames one) other frame ≡ held other (frame - total_frames one)
    later within =
        let none : total_frames one ≡ total_frames one + 0 = omega arith in
        ap (λ n. held_after n other frame) none ∙ shifted (total_frames one) 0 frame other within

-- ---- the play

pub play-joined : (one other : List Stretch) → play_of (one ++ other) ≡ plays_joined (play_of one) (play_of other)
play-joined one other = λ i. record { frames = total-joined one other i; held = λ frame. held-joined one other frame i }
