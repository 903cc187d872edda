-- Each motion comes to rest, and each command is answered: so all lines tell something.
use Rattle.pac_debug.proofs.Common.{AllLinesTell, AnswersBack, AnswersReturn, AtStop, Bool, Command, Err, HasTravelled, IsCommandObeyed}
use Rattle.pac_debug.proofs.Common.{List, Motion, MotionEnd, NoCommand, None, Ok, Option, RestsBy, Result, SessionValue, SetsBreakpoint}
use Rattle.pac_debug.proofs.Common.{Some, Stop, TellsOfCommand, [], answer_text, arith, back_to, command_of, ending_of, false, filter}
use Rattle.pac_debug.proofs.Common.{goes_at, has_breakpoint, has_met, is_late, kept_at, length, length-append, length-filter_both, met-by}
use Rattle.pac_debug.proofs.Common.{most, most_breakpoints, motion_of, moved_to, nat_le, nat_lt, nat_tests, not, oldest_index, or_right}
use Rattle.pac_debug.proofs.Common.{over-later, refl, rests, rules, search-up, session_without_due, slot_index, stop_at, takes_all, true, ℕ}
use Rattle.pac_debug.proofs.Common.{◌++◌, ◌+◌, ◌-◌, ◌<◌, ◌==◌, ◌∷◌, ◌≡◌, ◌≤◌, ◌⊎◌}
use mathlib.Core.Logic.{inl, inr}
use Rattle.pac_debug_text.specs.declared.command.Command.TheVariants as commands
use Rattle.pac_debug_text.specs.declared.place.Ending.TheVariants as endings
use Rattle.pac_debug_text.specs.declared.refusal.Refusal.TheVariants as refusals
use Rattle.pac_debug_session.specs.declared.motion.Motion.TheVariants as motions
use Rattle.pac_debug.specs.declared.answer.Answer.TheVariants as answers
use Rattle.pac_debug.proofs.Telling.{all-taken, told-then}

-- ---- each motion comes to rest

module _ (s : SessionValue) (motion : Motion) where
  record RestsSomehow (index : ℕ) : Type 0 where
    pub why : MotionEnd
    pub why_is : RestsBy s motion s.index index why

  stopped-by : (index : ℕ) (found : Option Stop) → stop_at s.setting index ≡ found → is_late s.setting index ≡ false
      → has_met s motion s.index index ≡ false → not (goes_at s.setting index) ≡ true → RestsSomehow index
  stopped-by index (Some stop) e early unmet ended =
      record { why = AtStop stop; why_is = record { early = early; unmet = unmet; stop_is = e } }
  stopped-by index None e early unmet ended = search rules

  rests-by : (index : ℕ) (late met : Bool) → is_late s.setting index ≡ late → has_met s motion s.index index ≡ met
      → rests s motion s.index index ≡ true → RestsSomehow index
  rests-by index late met e f rest = grind (arith, met-by, stopped-by)

  pub record ComesToRest : Type 0 where
    pub why : MotionEnd
    pub new : SessionValue
    pub travelled : HasTravelled takes_all s motion tt why new tt

  pub comes-to-rest : ComesToRest
  comes-to-rest =
      let found =
      search-up (rests s motion s.index) (most s.setting) s.index
      (or_right (has_met s motion s.index (s.index + most s.setting)) _ (over-later s.setting s.index)) in
      let index = found.index in
      let rest = rests-by index (is_late s.setting index) (has_met s motion s.index index) refl refl found.least.here in
      record {
        why = rest.why;
        new = moved_to s index;
        travelled = record { rest = found.least; why_is = rest.why_is; session = refl; sink_is = all-taken _ };
      }

-- ---- each command is answered

-- what is told, an answer or a text, the session then, and that its breakpoints are few
record Tells {A : Type 0} (tells : A → SessionValue → Type 0) : Type 0 where
  pub told : A
  pub new : SessionValue
  pub holds : tells told new
  pub few : length new.breakpoints ≤ most_breakpoints

goes-back : (old : SessionValue) (count : ℕ) → length old.breakpoints ≤ most_breakpoints → Tells (AnswersBack old count)
goes-back old count few =
    choose (nat_le count old.index) (nat_le (oldest_index old.furthest) (old.index - count)) refl refl
  where
    too-far : (old.index < count) ⊎ (old.index - count < oldest_index old.furthest) → Tells (AnswersBack old count)
    too-far older = record {
      told = answers.Refused (refusals.TooFarBack (oldest_index old.furthest));
      new = old;
      holds = record { older = older; oldest_is = refl; session = refl };
      few = few;
    }

    choose : (enough kept : Bool) → nat_le count old.index ≡ enough → nat_le (oldest_index old.furthest) (old.index - count) ≡ kept
        → Tells (AnswersBack old count)
    choose true true e f = record {
      told = answers.Moved endings.Back;
      new = back_to old (old.index - count);
      holds = record { enough = grind (arith, nat_tests); kept = grind (arith, nat_tests); session = refl };
      few = few;
    }
    choose false kept e f = too-far (inl (grind (arith, nat_tests)))
    choose true false e f = too-far (inr (grind (arith, nat_tests)))

comes-back : (old : SessionValue) (kept : Option ℕ) → length old.breakpoints ≤ most_breakpoints → Tells (AnswersReturn old kept)
comes-back old (Some index) few = search rules
comes-back old None few = record { told = answers.Refused refusals.EmptySlot; new = old; holds = (refl, refl); few = few }

sets-breakpoint : (old : SessionValue) (address : ℕ) (is_set room : Bool) → nat_lt (length old.breakpoints) most_breakpoints ≡ room
    → length old.breakpoints ≤ most_breakpoints → Tells (SetsBreakpoint old address is_set)
sets-breakpoint old address true room e few = record { told = answers.Done; new = old; holds = (refl, refl); few = few }
sets-breakpoint old address false true e few =
    let less : length old.breakpoints < most_breakpoints = grind (arith, nat_tests) in
    record {
      told = answers.Done;
      new = record old { breakpoints = old.breakpoints ++ address ∷ [] };
      holds = (less, refl);
      few = omega (arith, less, length-append old.breakpoints (address ∷ []));
    }
sets-breakpoint old address false false e few =
    let full : length old.breakpoints ≡ most_breakpoints = grind (arith, nat_tests) in
    record { told = answers.Refused refusals.NoRoom; new = old; holds = (full, refl); few = few }

abbrev IsDone : SessionValue → Result Command NoCommand → Type 0
IsDone old asked = Tells (λ answer new. IsCommandObeyed takes_all old asked tt answer new tt)

fewer : (address : ℕ) (list : List ℕ) → length (filter (λ other. not (other == address)) list) ≤ length list
fewer address list =
    let both = length-filter_both (λ other. not (other == address)) (λ other. not (not (other == address))) (λ other. refl) list in
    omega (arith, both)

moves-on : (old : SessionValue) (command : Command) (motion : Motion) → motion_of command ≡ Some motion
    → length old.breakpoints ≤ most_breakpoints → IsDone old (Ok command)
moves-on old command motion is few =
    let gone = comes-to-rest old motion in
    record {
      told = answers.Moved (ending_of gone.why);
      new = gone.new;
      holds = search rules;
      few = rw gone.travelled.session few;
    }

does : (old : SessionValue) (command : Command) → length old.breakpoints ≤ most_breakpoints → IsDone old (Ok command)
does old (commands.Step count) few = moves-on old (commands.Step count) (motions.Steps count) refl few
does old commands.Continue few = moves-on old commands.Continue motions.Continue refl few
does old (commands.Frames count) few = moves-on old (commands.Frames count) (motions.Frames count) refl few
does old (commands.Back count) few = let back = goes-back old count few in search rules
does old (commands.Return slot) few = let back = comes-back old (kept_at old (slot_index slot)) few in search rules
does old (commands.Keep slot) few = search rules
does old (commands.Break at) few =
    let set_is = sets-breakpoint old at (has_breakpoint old at) (nat_lt (length old.breakpoints) most_breakpoints) refl few in
    record { told = set_is.told; new = set_is.new; holds = (set_is.holds, refl); few = set_is.few }
does old (commands.Unbreak at) few = grind (arith, fewer)
does old commands.Regs few = record { told = answers.Registers; new = old; holds = ((refl, refl), refl); few = few }
does old (commands.Mem at count) few = record { told = answers.Bytes at count; new = old; holds = ((refl, refl), refl); few = few }
does old (commands.Dis at count) few = search rules
does old (commands.History count) few = record { told = answers.Steps count; new = old; holds = ((refl, refl), refl); few = few }

-- ---- lines

line-tells : (found : Option (Result Command NoCommand)) (old : SessionValue) → length old.breakpoints ≤ most_breakpoints
    → Tells (TellsOfCommand found old)
line-tells None old few = record { told = []; new = old; holds = (refl, refl); few = few }
line-tells (Some (Err none)) old few = record {
  told = answer_text (session_without_due old) (answers.Refused refusals.NoCommand);
  new = session_without_due old;
  holds = record { answer = answers.Refused refusals.NoCommand; obeyed = (refl, refl, refl); text_is = refl };
  few = few;
}
line-tells (Some (Ok command)) old few =
    let done = does (session_without_due old) command few in
    record {
      told = answer_text done.new done.told;
      new = done.new;
      holds = record { answer = done.told; obeyed = done.holds; text_is = refl };
      few = done.few;
    }

pub all_lines_tell : AllLinesTell
all_lines_tell [] old few = record { text = []; new = old; tells = (refl, refl); few = few }
all_lines_tell (line ∷ more) old few =
    let first = line-tells (command_of line) old few in
    let rest = all_lines_tell more first.new first.few in
    let tells_is = told-then line more old first.new rest.new first.told rest.text first.holds rest.tells in grind (arith, told-then)
