-- What lines tell, and where they leave a session, is determined by them and by where the session stood.
use Rattle.pac_debug.proofs.Common.{Answer, AtEnd, AtStop, Bool, Command, IsCommandPerformed, IsLeast, List, Motion, MotionEnd, NoCommand}
use Rattle.pac_debug.proofs.Common.{None, Option, Output, RestsBy, Result, SessionValue, Some, Stays, Stop, TellsOfCommand, TellsOneThing}
use Rattle.pac_debug.proofs.Common.{[], arith, breaks_at, command_of, false, has_met, is_late, motion_ending, rules, stop_at, sym, true, ℕ}
use Rattle.pac_debug.proofs.Common.{◌∙◌, ◌∷◌, ◌≡◌}
use Rattle.pac_debug_text.specs.declared.command.Command.TheVariants as commands

-- ---- where a motion rests

least-once : (test : ℕ → Bool) (from index other : ℕ) → IsLeast test from index → IsLeast test from other → index ≡ other
least-once test from index other one two = search rules

-- why it rests, by the same tests in the same order
why : (late met : Bool) → Option Stop → MotionEnd → MotionEnd
why true met stop word = AtEnd
why false true stop word = word
why false false (Some stop) word = AtStop stop
why false false None word = AtEnd

module _ (s : SessionValue) (motion : Motion) (from index : ℕ) where
  abbrev why_here : MotionEnd
  why_here =
      why (is_late s.setting index) (has_met s motion from index) (stop_at s.setting index) (motion_ending motion (breaks_at s index))

  rests-why : (rest : MotionEnd) → RestsBy s motion from index rest → rest ≡ why_here
  unfolding why
  rests-why rest done = search rules

-- ---- a line with words

abbrev Same : (one other : Answer) (new last : SessionValue) → Type 0
Same one other new last = (one ≡ other) × (new ≡ last)

module _ (old new last : SessionValue) where
  stays-once : (command : Command) (one other : Answer) → Stays old command one new → Stays old command other last → Same one other new last
  stays-once (commands.Back count) one other a b = search rules
  stays-once (commands.Return slot) one other a b = search rules
  stays-once (commands.Break at) one other a b = search rules
  stays-once (commands.Step count) one other a b = absurd a
  stays-once commands.Continue one other a b = absurd a
  stays-once (commands.Frames count) one other a b = absurd a
  stays-once _ one other a b = (a.0 ∙ sym b.0, a.1 ∙ sym b.1)

module _ {S : Type 0} (took : S → Output → S → Type 0) (old : SessionValue) (sink : S) where
  performed-once : (command : Command) (found : Option Motion) (one other : Answer) (new last : SessionValue) (later end : S)
      → IsCommandPerformed took old command found sink one new later → IsCommandPerformed took old command found sink other last end
      → Same one other new last
  performed-once command found one other new last later end a b = grind (arith, stays-once, least-once, rests-why, why)

-- ---- lines

told-once : (old : SessionValue) (found : Option (Result Command NoCommand)) (text other : List ℕ) (new last : SessionValue)
    → TellsOfCommand found old text new → TellsOfCommand found old other last → (text ≡ other) × (new ≡ last)
told-once old found text other new last a b = grind (arith, performed-once)

pub tells_one_thing : TellsOneThing
tells_one_thing [] old text other new last a b = (a.0 ∙ sym b.0, a.1 ∙ sym b.1)
tells_one_thing (line ∷ more) old text other new last a b =
    let first = told-once old (command_of line) a.text_before b.text_before a.between b.between a.before b.before in
    let then = tells_one_thing more b.between a.text_after b.text_after new last (rw first.1 at a.after) b.after in search (rules, arith)
