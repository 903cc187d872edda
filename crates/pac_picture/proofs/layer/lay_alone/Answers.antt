use Rattle.pac_picture.proofs.Common.{ap, cells_of, drawn_from, kept_dot, shadow_from, tabulate, ◌/◌, ◌∙◌, ◌≡◌}

pub returns : Rattle.pac_picture.proofs.layer.lay_alone.Goals.returns
returns c =
    let roms = c.args.graphics.now in
    let shadow : shadow_from c.tiles-tiles.result c.colours-colours.result ≡ drawn_from c.args.screen.now (c.args.y / 8) =
    ap (λ tiles. shadow_from tiles c.colours-colours.result) c.tiles-tiles.ensures
    ∙ ap (shadow_from (cells_of c.args.screen.now.tile_ram (c.args.y / 8))) c.colours-colours.ensures in
    c.lay_bytes.ensures ∙ ap (λ shadow. tabulate 288 (λ x. kept_dot roms shadow x c.args.y)) shadow
