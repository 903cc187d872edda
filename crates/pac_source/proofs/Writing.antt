-- A listing that is counted, and one that is written to the head of a buffer.
use Rattle.pac_source.proofs.Common.{Counted, Err, HasPut, HasTaken, HostBuffer, LeavesText, List, MutBor, Ok, Puts, Refuses, Result, Size}
use Rattle.pac_source.proofs.Common.{WriteFault, [], ap, arith, buffer_refused, buffer_took, drop, file_count, length, length-take-le}
use Rattle.pac_source.proofs.Common.{lent_refused, lent_took, min-eq_left, min-eq_right, size_refused, size_took, subst, sym, take}
use Rattle.pac_source.proofs.Common.{take-append-drop, ℕ, ◌++◌, ◌-◌, ◌<◌, ◌^◌, ◌∙◌, ◌≡◌, ◌≤◌}

-- a count is that of a text where it is its length
counted-all : (size count : ℕ) → count ≡ size → count < 2 ^ 64 → count ≡ file_count size
counted-all size count same below = same ∙ sym (min-eq_left (omega (arith, same, below)))

-- a file that only counts has counted all of a text
pub counted : (text : List ℕ) (start : Size) (old new : Counted Size) → start.bytes ≡ 0 → HasTaken size_took start [] old
    → HasPut size_took old text new → new.writer.bytes < 2 ^ 64 → new.writer.bytes ≡ file_count (length text)
counted text start old new zero before put below =
    let written = (put.takes.after start [] before).written in
    counted-all (length text) new.writer.bytes (omega (arith, zero, written)) below

-- or it has the greatest count, where the text has more bytes than can be counted
pub greatest-counted : (text : List ℕ) (start : Size) (old new : Counted Size) (fault : WriteFault) → start.bytes ≡ 0
    → HasTaken size_took start [] old → Refuses size_took size_refused old text fault new → 2 ^ 64 - 1 ≡ file_count (length text)
greatest-counted text start old new fault zero before refusal =
    let stop = (refusal.after start [] before).stopped in
    let some = stop.some_left in
    let took = stop.before in
    let full = stop.refusal in
    let taken = length-take-le (refusal.after start [] before).taken text (omega (arith, some)) in
    sym (min-eq_right (omega (arith, zero, some, took, full, taken)))

-- a writer that is lent for a text
pub what-is-left : {W A : Type 0} (took : W → List ℕ → W → Type 0) (refused : W → W → Type 0) (text : List ℕ) (result : Result A WriteFault)
    (start : MutBor W) (old new : Counted (MutBor W)) (owned : W) → HasTaken (lent_took took) start [] old
    → Puts (lent_took took) (lent_refused refused) old text result new → (writer : MutBor W) → writer ≡ new.writer
    → (start.ghost_name ≡ writer.ghost_name → owned ≡ writer.now) → LeavesText took refused start.now text result owned
what-is-left took refused text (Ok done) start old new owned taken put writer same handed =
    let ends = subst (λ (it : MutBor _). start.ghost_name ≡ it.ghost_name → owned ≡ it.now) same handed in
    let took_it = (put.takes.after start [] taken).written in
    subst (took start.now text) (sym (ends (sym took_it.0))) took_it.1
what-is-left took refused text (Err fault) start old new owned taken put writer same handed =
    let ends = subst (λ (it : MutBor _). start.ghost_name ≡ it.ghost_name → owned ≡ it.now) same handed in
    let stop = put.after start [] taken in
    let stopped = stop.stopped in (
      stop.taken,
      record {
        some_left = stopped.some_left;
        asked = stopped.asked.now;
        before = stopped.before.1;
        refusal =
            subst (λ new. refused stopped.asked.now new) (sym (ends (sym (stopped.refusal.0 ∙ stopped.before.0)))) stopped.refusal.1;
      },
    )

-- a buffer that has room for a text takes all of it, from its head on, and what is after it stays
pub filled-head : {A : Type 0} (text : List ℕ) (result : Result A WriteFault) (old new : HostBuffer) (left : List ℕ) → old.taken ≡ 0
    → length text ≤ length old.bytes.now → LeavesText buffer_took buffer_refused old text result new
    → (old.bytes.ghost_name ≡ new.bytes.ghost_name → left ≡ new.bytes.now) → left ≡ text ++ drop (length text) old.bytes.now
filled-head text (Ok done) old new left head room took ends =
    let count = took.taken in
    let all : new.taken ≡ length text = omega (arith, head, count) in
    ends (sym took.same)
    ∙ sym (take-append-drop new.taken new.bytes.now)
    ∙ ap (λ part. part ++ drop new.taken new.bytes.now) (took.text ∙ ap (λ n. take n old.bytes.now ++ text) head)
    ∙ ap (λ part. text ++ part) took.rest
    ∙ ap (λ n. text ++ drop n old.bytes.now) all
filled-head text (Err fault) old new left head room stop ends =
    let some = stop.1.some_left in
    let count = stop.1.before.taken in
    let size = stop.1.before.size in
    let full = stop.1.refusal in
    let below : stop.0 ≤ length text = omega (arith, some) in
    let part = length-take-le stop.0 text below in
    let no : ⊥ = omega (arith, head, room, some, count, size, full, part) in
    absurd no
