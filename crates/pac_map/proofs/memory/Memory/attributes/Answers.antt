-- The last 16 bytes of the work RAM are what follows the others.
use Rattle.pac_map.proofs.Common.{List, ap, drop, length, length-drop, sprite_attributes, sym, take, take-length, ℕ, ◌-◌, ◌∙◌, ◌≡◌}

rest-taken : (bytes : List ℕ) → length bytes ≡ 1024 → take 16 (drop 1008 bytes) ≡ drop 1008 bytes
rest-taken bytes long =
    let rest : length (drop 1008 bytes) ≡ 16 = length-drop 1008 bytes ∙ ap (λ n. n - 1008) long in
    ap (λ count. take count (drop 1008 bytes)) (sym rest) ∙ take-length (drop 1008 bytes)

pub returns-clause-bytes : Rattle.pac_map.proofs.memory.Memory.attributes.Goals.returns-clause-bytes
returns-clause-bytes c =
    rest-taken c.self.inside.work c.self.invariant.work
    ∙ ap sprite_attributes c.self.view_is
