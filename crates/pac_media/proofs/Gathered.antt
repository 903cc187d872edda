-- What a wave file was given in parts, and silence sample by sample.
use Rattle.pac_media.proofs.Common.{Bool, Counted, Delivers, Err, FinishesSound, Gains, HasStopped, Joins, List, Ok, Refuses, Result, Sound}
use Rattle.pac_media.proofs.Common.{SoundFails, Stops, StopsAfter, WriteFault, [], append-nil, append_assoc, arith, common_steps}
use Rattle.pac_media.proofs.Common.{flat_map-append, flat_map_more, if◌then◌else◌, length, pos, replicate, replicate-append-replicate}
use Rattle.pac_media.proofs.Common.{replicate_more, rules, sample_text, samples_text, stops-after, stops-within, subst, sym, ℕ, ◌++◌, ◌+◌}
use Rattle.pac_media.proofs.Common.{◌-◌, ◌/◌, ◌<◌, ◌∙◌, ◌≡◌, ◌≤◌}
use Rattle.std.proofs.Common.{ℤ, map, get_or, ◌∷◌}
use Rattle.std.proofs.lemmas.List.{get_or_default}
use Rattle.pac_media.proofs.Common.{flat_map}
use Rattle.std.proofs.lemmas.List.{same_lists, length-map, get_or-map}
use Rattle.std.proofs.lemmas.List.Folds.{flat_map-map}

-- where there is room for a sample, its two bytes fit
pub room-left : (failed : Bool) (waiting : ℕ) → 0 < (if failed then 0 else (8192 - waiting) / 2) → waiting + 2 ≤ 8192
room-left failed waiting some = search rules

-- a text in other words: as much of it is taken
abbrev pub in-other-words : {W : Type 0} {took : W → List ℕ → W → Type 0} {refused : W → W → Type 0} {start : W} {one other : List ℕ}
    {file : Counted W} → one ≡ other → HasStopped took refused start one file → HasStopped took refused start other file
in-other-words {took = took} {refused = refused} {start = start} {file = file} same stopped =
    record {
      taken = stopped.taken;
      stopped = subst (λ (text : List ℕ). StopsAfter took refused start text stopped.taken file.writer) same stopped.stopped;
      count_is = stopped.count_is;
      closed = stopped.closed;
    }

module _ {W : Type 0} {took : W → List ℕ → W → Type 0} where
  -- nothing was given
  pub gains-nothing : (wave : Sound W) → Gains took wave [] wave
  gains-nothing wave = record { at_least = omega arith; after = grind (arith, common_steps); further = λ start text has. omega arith }

  -- some bytes, and then others
  pub gains-joined : {old mid new : Sound W} {one other : List ℕ} → Gains took old one mid → Gains took mid other new
      → Gains took old (one ++ other) new
  gains-joined {new = new} {one = one} {other = other} first second =
      record {
        at_least = let e = first.at_least in let f = second.at_least in omega (arith, e, f);
        after = λ start text has. let later = second.after start (text ++ one) (first.after start text has) in
            record { prefix = later.prefix; parts = rw append_assoc at later.parts; taken = later.taken };
        further = search rules;
      }

  -- bytes that wait
  pub gains-waiting : {file : Counted W} {waiting later given bytes : List ℕ} {owed left : ℕ} {before : Sound W}
      → record { file = file; waiting = waiting; owed = owed } ≡ before → given ≡ bytes → later ≡ waiting ++ given
      → Gains took before bytes (record { file = file; waiting = later; owed = left })
  gains-waiting {file = file} {waiting = waiting} {later = later} {given = given} {left = left} {before = before} is same kept =
      rw (← is, ← same) (record { at_least = omega arith; after = grind (arith, common_steps); further = λ start text has. omega arith })

  -- how many samples are still to come is another matter
  pub gains-owed : {old new : Sound W} {file : Counted W} {waiting given bytes : List ℕ} {owed left : ℕ}
      → record { file = file; waiting = waiting; owed = owed } ≡ new → given ≡ bytes → Gains took old given new
      → Gains took old bytes (record { file = file; waiting = waiting; owed = left })
  gains-owed {old = old} {file = file} {waiting = waiting} {given = given} {owed = owed} {left = left} is same gains =
      let held = subst (Gains took old given) (sym is) gains in
      rw (← same) (record {
        at_least = held.at_least;
        after = λ start text has. let later = held.after start text has in search rules;
        further = held.further;
      })

  -- what was given is written, and nothing waits
  pub delivered-gains : {old new : Sound W} {bytes : List ℕ} → Delivers took old bytes new → Gains took old bytes new
  delivered-gains {old = old} {bytes = bytes} done = grind (arith, common_steps)

  module _ {refused : W → W → Type 0} {fault : WriteFault} where
    -- a refusal within what waits
    pub fails-waiting : Joins took → {old new : Counted W} {waiting later : List ℕ} {owed left : ℕ} {before : Sound W}
        → record { file = old; waiting = waiting; owed = owed } ≡ before
        → Refuses took refused old waiting fault new → Stops took refused old waiting new
        → SoundFails took refused before [] fault (record { file = new; waiting = later; owed = left })
    fails-waiting joined {new = new} {waiting = waiting} {later = later} {left = left} is refuses stops =
        rw (← is) (record {
          told = refuses.told;
          at_least = refuses.at_least;
          after = λ start text has. in-other-words (sym has.parts ∙ sym (append-nil text))
              (record {
                taken = length has.prefix + stops.taken;
                stopped = stops-after joined has.taken.written stops.stopped;
                count_is = let counted = has.taken.count_is in let more = stops.count_is in omega (arith, counted, more);
                closed = refuses.closed;
              });
          past = λ start text has. omega arith;
        })

  -- a refusal after some bytes, and within more
  pub fails-within : {refused : W → W → Type 0} {old mid new : Sound W} {one other : List ℕ} {fault : WriteFault} → Gains took old one mid
      → SoundFails took refused mid other fault new → (more : List ℕ)
      → SoundFails took refused old ((one ++ other) ++ more) fault new
  fails-within {refused = refused} {new = new} {one = one} {other = other} first second more =
      record {
        told = second.told;
        at_least = let e = first.at_least in let f = second.at_least in omega (arith, e, f);
        after = λ start text has. let stop = second.after start (text ++ one) (first.after start text has) in
            in-other-words {one = ((text ++ one) ++ other) ++ more} (simp append_assoc) (grind (arith, stops-within));
        past = λ start text has. let e = first.further start text has in
            let f = second.past start (text ++ one) (first.after start text has) in omega (arith, e, f);
      }

  -- what was given is written
  pub finishes-after : {A : Type 0} (refused : W → W → Type 0) (result : Result A WriteFault) (new : Sound W) {old mid : Sound W}
      {bytes : List ℕ} → Gains took old bytes mid → FinishesSound took refused mid [] result new
      → FinishesSound took refused old bytes result new
  finishes-after refused (Ok done) new {bytes = bytes} first second =
      record {
        at_least = let e = first.at_least in let f = second.at_least in omega (arith, e, f);
        after = λ start text has. rw append-nil at (second.after start (text ++ bytes) (first.after start text has));
        none_waits = second.none_waits;
      }
  finishes-after refused (Err fault) new {old} {bytes = bytes} first second =
      subst (λ (all : List ℕ). SoundFails took refused old all fault new) (simp append-nil) (fails-within first second [])

-- one sample of silence more
pub silence-more : (count : ℕ)
    → samples_text (replicate count (pos 0)) ++ sample_text (pos 0) ≡ samples_text (replicate (count + 1) (pos 0))
silence-more count = rw (flat_map_more sample_text [], replicate_more)

-- and the rest of it
pub silence-rest : (count all : ℕ) → count < all
    → (samples_text (replicate count (pos 0)) ++ sample_text (pos 0)) ++ samples_text (replicate (all - (count + 1)) (pos 0))
    ≡ samples_text (replicate all (pos 0))
silence-rest count all below =
    let sum : (count + 1) + (all - (count + 1)) ≡ all = omega (arith, below) in
    rw (silence-more count, ← flat_map-append sample_text, replicate-append-replicate, sum)

-- the bytes of samples, joined
pub bytes-joined : (samples : List ℤ) (bytes : List (List ℕ)) → length samples ≡ 16 → length bytes ≡ 16 →
    ((k : ℕ) → k < 16 → get_or bytes k [] ≡ sample_text (get_or samples k (pos 0))) → flat_map (λ x. x) bytes ≡ samples_text samples
bytes-joined samples bytes long same each =
    rw (same_lists bytes (map sample_text samples) (same ∙ sym long ∙ sym (length-map samples sample_text))
    (λ k d inside. get_or_default bytes k d [] inside ∙ each k (omega (arith, same, inside))
    ∙ sym (get_or-map sample_text samples k (pos 0) d (omega (arith, same, long, inside)))))
    (flat_map-map (λ x. x) sample_text samples)

-- samples that were given, and those that are left
pub parts-kept : (given more : List ℤ) (waiting : List ℕ) {left : List ℤ} {later bytes all : List ℕ} → left ≡ given ++ more →
    bytes ≡ samples_text given → later ≡ waiting ++ bytes → waiting ++ samples_text left ≡ all → later ++ samples_text more ≡ all
parts-kept given more waiting parts text kept whole =
    rw (kept, text, append_assoc) (rw (parts, flat_map-append sample_text given more) at whole)

-- where no samples are left, all were given
pub none-left : {W : Type 0} (sound : Sound W) (more : ℕ) (samples : List ℤ) {file : Counted W} {waiting all : List ℕ} {owed left : ℕ} →
    (file ≡ sound.file) × (owed ≡ sound.owed) → length samples ≡ 0 → waiting ++ samples_text samples ≡ all → left ≡ owed - more →
    ◌≡◌ {A = Sound W} (record { file = file; waiting = waiting; owed = left })
    (record { file = sound.file; waiting = all; owed = sound.owed - more })
none-left sound more [] others none text left = grind (arith, append-nil)
none-left sound more (sample ∷ later) others none text left = absurd (omega (arith, none))
