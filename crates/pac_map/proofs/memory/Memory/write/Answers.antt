-- A bit of the latch that is written.
use Rattle.pac_map.proofs.Common.{Latch, Latched, View, ap, sym, the_view, view_after_write, ◌∙◌}

pub returns-in-Latch : Rattle.pac_map.proofs.memory.Memory.write.Goals.returns-in-Latch
returns-in-Latch c =
    ap (λ (latched : Latched). the_view (record c.self.inside { latch = latched })) c.write_latch.ensures
    ∙ ap (λ (view : View). view_after_write view (Latch c.in-Latch.place) c.args.byte) c.self.view_is
    ∙ sym (ap (λ place. view_after_write c.args.self.now place c.args.byte) c.in-Latch.is)
