-- The ring is full before and after: the oldest checkpoint goes, and another one comes.
use Rattle.pac_debug_session.proofs.Common.{Buffer, SessionSnapshot, [], ap, drop, keep_last, kept_of, length, ring_with_checkpoint, ◌++◌}
use Rattle.pac_debug_session.proofs.Common.{◌+◌, ◌∙◌, ◌∷◌, ◌≡◌}
use Rattle.pac_debug_session.proofs.Rings.{one-for-one, as-many}
use Rattle.pac_debug_session.proofs.checkpoints.Checkpoints.take.Goals as goal

pub invariant_of-self : goal.invariant_of-self
invariant_of-self c =
    let ring = c.self.inside.ring in
    let popped = c.pop_front.ensures.items in
    let pushed = c.push_back.ensures.items in
    record {
      count = ap (λ (b : Buffer SessionSnapshot). length b.items) pushed
          ∙ ap (λ (b : Buffer SessionSnapshot). length (keep_last b.capacity (b.items ++ c.write.new.self ∷ []))) popped
          ∙ ap length (one-for-one ring.items c.write.new.self ring.capacity c.self.invariant.count c.self.invariant.capacity)
          ∙ as-many ring.items c.write.new.self c.self.invariant.count;
      capacity = ap (λ (b : Buffer SessionSnapshot). b.capacity) pushed ∙ ap (λ (b : Buffer SessionSnapshot). b.capacity) popped
          ∙ c.self.invariant.capacity;
    }

pub returns : goal.returns
returns c =
    let ring = c.self.inside.ring in
    let popped = c.pop_front.ensures.items in
    let pushed = c.push_back.ensures.items in
    let kept = kept_of c.args.board.now c.args.history.now in
    let items : c.push_back.new.self.items ≡ drop 1 ring.items ++ kept ∷ [] =
    ap (λ (b : Buffer SessionSnapshot). b.items) pushed
    ∙ ap (λ (b : Buffer SessionSnapshot). keep_last b.capacity (b.items ++ c.write.new.self ∷ [])) popped
    ∙ one-for-one ring.items c.write.new.self ring.capacity c.self.invariant.count c.self.invariant.capacity
    ∙ ap (λ one. drop 1 ring.items ++ one ∷ []) c.write.ensures in
    (λ i. record { kept = items i; taken = c.self.inside.taken + 1 }) ∙ ap (λ old. ring_with_checkpoint old kept) c.self.view_is
