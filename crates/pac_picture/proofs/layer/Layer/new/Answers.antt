use Rattle.pac_picture.proofs.Common.{List, Shadow, ap, stale_rows, tabulate, ◌∙◌, ◌≡◌}
use Rattle.pac_picture.proofs.Layers.{new-layer}
use Rattle.pac_picture.proofs.layer.Layer.new.Goals as goal

pub invariant_of-result : goal.invariant_of-result
unfolding stale_rows
invariant_of-result c =
    let stale : c.repeated.result ≡ stale_rows =
    c.repeated.ensures ∙ ap (λ (shadow : Shadow). tabulate 28 (λ _. shadow)) c.new.ensures in
    new-layer c.args.graphics c.repeated.result c.of.result stale

pub returns : goal.returns
unfolding stale_rows
returns c = ap (λ (shadows : List Shadow). record { roms = c.args.graphics; shadows = shadows })
    (c.repeated.ensures ∙ ap (λ (shadow : Shadow). tabulate 28 (λ _. shadow)) c.new.ensures)
