use Rattle.pac_state.proofs.Common.{AreWritten, BoardState, IsStateInRange, IsText, subst, sym}
use Rattle.pac_state.proofs.reading.fields_in.Goals as goal

pub returns-then-are_taken : goal.returns-then-are_taken
returns-then-are_taken c =
    let taken = c.are_taken.ensures.0 c.if-are_taken.true in
    let same = c.fields-fields.ensures in
    record {
      holds = record {
        in_range = subst IsStateInRange same taken.0;
        written = subst (λ (state : BoardState). AreWritten state c.args.bytes.now) same taken.1;
      };
      state = same;
      in_range = taken.0;
    }

pub returns-else-are_taken : goal.returns-else-are_taken
returns-else-are_taken c = λ (text : IsText c.args.bytes.now).
    let same = sym c.fields-fields.ensures in
    let range = subst IsStateInRange same text.in_range in
    let written = subst (λ (state : BoardState). AreWritten state c.args.bytes.now) same text.written in
    absurd (cc (c.if-are_taken.false, c.are_taken.ensures.1 (range, written)))
