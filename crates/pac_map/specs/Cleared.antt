-- Believed: RAM as it is at power-on: all 0 (this profile).
use Rattle.std.specs.Prelude.{ℕ, List, replicate}

unfoldable pub zero_ram : ℕ → List ℕ
zero_ram count = replicate count 0
