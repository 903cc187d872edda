-- What a run gives between its indices, piece by piece.
use Rattle.pac_debug_session.proofs.Common.{BoardView, Setting, Walk, [], ap, append-nil, append_assoc, arith, by_view, cases_lt, drop}
use Rattle.pac_debug_session.proofs.Common.{drop-append_seam, drop-length, ended-for-good, frame_steps, inl, inr, length, limit, next_from}
use Rattle.pac_debug_session.proofs.Common.{outputs_between, outputs_from, play_of, power_on_board_view, run, runs-are-joined, runs-end}
use Rattle.pac_debug_session.proofs.Common.{sym, total_frames, whole_run, ℕ, ◌*◌, ◌++◌, ◌+◌, ◌-◌, ◌∙◌, ◌≡◌, ◌≤◌}
use mathlib.Core.List.{IsPrefix}
use Rattle.pac_debug_session.proofs.Indices.{between}

-- ---- outputs, piece by piece

module _ (setting : Setting) where
  prefix : (from index : ℕ) → from ≤ index → IsPrefix (run setting from).outputs (run setting index).outputs
  prefix from index less =
      let same : from + (index - from) ≡ index = omega arith in
      let joined = runs-are-joined (by_view setting.set) (play_of setting.script) (power_on_board_view setting.switches) from
      (index - from) in
      rw same at joined

  pub between-joined : (first second third : ℕ) → first ≤ second → second ≤ third
      → outputs_between setting first second ++ outputs_between setting second third ≡ outputs_between setting first third
  between-joined first second third less more = let before = prefix _ _ less in
      let after = prefix second third more in
      ap (λ xs. xs ++ outputs_between setting second third) (between setting first second before.0 (sym before.1))
      ∙ ap (λ xs. before.0 ++ xs) (between setting second third after.0 (sym after.1))
      ∙ sym (between setting first third (before.0 ++ after.0)
      (sym after.1 ∙ ap (λ xs. xs ++ after.0) (sym before.1) ∙ append_assoc (run setting first).outputs before.0 after.0))

  pub between-self : (index : ℕ) → outputs_between setting index index ≡ []
  between-self index = drop-length (run setting index).outputs

  -- up to its end it gives no more than the whole of it
  whole-prefix : (index : ℕ) → IsPrefix (run setting index).outputs (whole_run setting).outputs
  whole-prefix index =
      let last : ℕ = frame_steps * total_frames setting.script in elim (cases_lt index last) [
        | inl less ↦ prefix index last (omega arith)
        | inr less ↦
            let same : index ≡ last + (index - last) = omega arith in
            let ended = (runs-end (by_view setting.set) (play_of setting.script) (power_on_board_view setting.switches) last).0 in
            let stays = ended-for-good (next_from setting) (limit setting) (run setting 0).now last (index - last) index same ended in
            ([], append-nil (run setting index).outputs ∙ ap (λ (w : Walk BoardView). w.outputs) stays)
      ]

  pub joined-to-end : (from index : ℕ) → from ≤ index
      → outputs_between setting from index ++ outputs_from setting index ≡ outputs_from setting from
  joined-to-end from index less = let before = prefix _ _ less in
      let after = whole-prefix index in
      let rest : outputs_from setting index ≡ after.0
      = ap (drop (length (run setting index).outputs)) (sym after.1) ∙ drop-append_seam (run setting index).outputs after.0 in
      let all : (whole_run setting).outputs ≡ (run setting from).outputs ++ (before.0 ++ after.0)
      = sym after.1 ∙ ap (λ xs. xs ++ after.0) (sym before.1) ∙ append_assoc (run setting from).outputs before.0 after.0 in
      grind (arith, between, drop-append_seam)
