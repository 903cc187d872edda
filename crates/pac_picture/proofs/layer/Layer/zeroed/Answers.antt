use Rattle.pac_picture.proofs.Common.{Shadow, ap, stale_rows, tabulate, ◌∙◌, ◌≡◌}
use Rattle.pac_picture.proofs.Layers.{new-layer}
use Rattle.pac_picture.proofs.layer.Layer.zeroed.Goals as goal

pub invariant_of-result : goal.invariant_of-result
unfolding stale_rows
invariant_of-result c =
    let stale : c.repeated.result ≡ stale_rows =
    c.repeated.ensures ∙ ap (λ (shadow : Shadow). tabulate 28 (λ _. shadow)) c.new.ensures in
    new-layer c.zeroed.result c.repeated.result c.of.result stale

pub returns : goal.returns
unfolding stale_rows
returns c =
    let stale : c.repeated.result ≡ stale_rows =
    c.repeated.ensures ∙ ap (λ (shadow : Shadow). tabulate 28 (λ _. shadow)) c.new.ensures in
    λ i. record { roms = c.zeroed.ensures i; shadows = stale i }
