-- A text is read as the script that it is, and refused at the fault that it has.
use Rattle.pac_inputs.proofs.Common.{Err, HasScriptFault, IfErr, IfOk, IsLineFault, IsScript, Length, List, Meaning, None, Ok}
use Rattle.pac_inputs.proofs.Common.{OnScriptFault, Result, Says, ScriptCode, ScriptError, ScriptFault, ScriptGives, ScriptOrFault, Some}
use Rattle.pac_inputs.proofs.Common.{Stretch, [], ap, append-nil, append_assoc, arith, cases_lt, common_steps, inl, inr, le-ltb, length}
use Rattle.pac_inputs.proofs.Common.{lines, meaning, refl, rules, script_from_line, script_of, subst, sym, total_frames, ℕ, ◌++◌, ◌+◌, ◌∙◌}
use Rattle.pac_inputs.proofs.Common.{◌∷◌, ◌≡◌, ◌≤◌, ◌⊎◌}
use Rattle.pac_inputs.proofs.Frames.{total-after}

abbrev at : ScriptCode → ℕ → ScriptFault
at code number = record { code = code; line = number }

-- ---- one line further

abbrev Line : Type 0
Line = List ℕ

read-nothing : (n : ℕ) (before : List Stretch) (line : Line) (more : List Line) → meaning line ≡ Ok None
    → script_from_line n before (line ∷ more) ≡ script_from_line (n + 1) before more
unfolding script_from_line
read-nothing n before line more e = rw e refl

read-stretch : (n : ℕ) (before : List Stretch) (line : Line) (more : List Line) (s : Stretch) → meaning line ≡ Ok (Some s)
    → total_frames before + s.frames ≤ 36000
    → script_from_line n before (line ∷ more) ≡ script_from_line (n + 1) (before ++ s ∷ []) more
unfolding script_from_line
read-stretch n before line more s e h = rw (e, le-ltb 36000 (total_frames before + s.frames) h) refl

read-fault : (n : ℕ) (before : List Stretch) (line : Line) (more : List Line) (code : ScriptCode) →
    IsLineFault (total_frames before) line code
    → script_from_line n before (line ∷ more) ≡ Err (at code n)
unfolding script_from_line
read-fault n before line more code given = search rules

read-end : (n : ℕ) (before : List Stretch) → script_from_line n before [] ≡ Ok before
unfolding script_from_line
read-end n before = refl

-- ---- what is so is read

says-on : (n : ℕ) (before : List Stretch) (earlier later : List Line) (said : List Stretch) → Says earlier said
    → total_frames before + total_frames said ≤ 36000
    → script_from_line n before (earlier ++ later) ≡ script_from_line (length earlier + n) (before ++ said) later
says-on n before [] later said says h = search rules
says-on n before (line ∷ earlier) later said (inl (e, says)) h =
    read-nothing n before line (earlier ++ later) e
    ∙ (says-on (n + 1) before earlier later said says h ∙ ap (λ k. script_from_line k (before ++ said) later) (omega arith))
says-on n before (line ∷ earlier) later said (inr (s, more, e, parts, says)) h =
    let sum : total_frames said ≡ s.frames + total_frames more = ap total_frames parts in
    let sum' = total-after before s in
    let same : (before ++ s ∷ []) ++ more ≡ before ++ said = grind (arith, common_steps) in
    read-stretch n before line (earlier ++ later) s e (omega (arith, sum, h))
    ∙ (says-on (n + 1) (before ++ s ∷ []) earlier later more says (omega (arith, sum, sum', h))
    ∙ (search rules))

pub script-again : (text : List ℕ) (said : List Stretch) → IsScript text said → script_of text ≡ Ok said
script-again text said h =
    let all : 0 + total_frames said ≤ 36000 = omega arith in
    cc (append-nil (lines text), says-on 1 [] (lines text) [] said h.says all, read-end (length (lines text) + 1) said)

pub fault-again : (text : List ℕ) (fault : ScriptFault) → HasScriptFault text fault → script_of text ≡ Err fault
fault-again text fault h =
    let all : 0 + total_frames h.said ≤ 36000 = omega arith in
    ap (λ (x : List Line). script_from_line 1 [] x) h.parts
    ∙ (says-on 1 [] h.earlier (h.wrong ∷ h.later) h.said h.says all
    ∙ (read-fault (length h.earlier + 1) h.said h.wrong h.later fault.code h.faulty ∙ ap (λ n. failed (at fault.code n)) (sym h.line)))
  where
    failed : ScriptFault → ScriptOrFault
    failed f = Err f

-- ---- each text is a script or has a fault

says-both : (xs ys : List Line) (said more : List Stretch) → Says xs said → Says ys more → Says (xs ++ ys) (said ++ more)
says-both [] ys said more none h = subst (λ (before : List Stretch). Says ys (before ++ more)) (sym none) h
says-both (x ∷ xs) ys said more (inl (is, says)) h = inl (is, says-both xs ys said more says h)
says-both (x ∷ xs) ys said more (inr (s, rest, is, parts, says)) h =
    inr (s, rest ++ more, is, ap (λ (before : List Stretch). before ++ more) parts, says-both xs ys rest more says h)

abbrev IsEither : List ℕ → Type 0
IsEither text = ((said : List Stretch) × IsScript text said) ⊎ ((fault : ScriptFault) × HasScriptFault text fault)

-- where the lines before one are right: it has a fault, or the lines up to it say this
module _ (text : List ℕ) (earlier : List Line) (said : List Stretch) (says : Says earlier said) (within : total_frames said ≤ 36000)
    (line : Line) (later : List Line) (parts : lines text ≡ earlier ++ line ∷ later) where
  fails : (code : ScriptCode) → IsLineFault (total_frames said) line code → IsEither text
  fails code faulty = inr (
    at code (length earlier + 1),
    record {
      earlier = earlier;
      wrong = line;
      later = later;
      said = said;
      parts = parts;
      line = refl;
      says = says;
      within = within;
      faulty = faulty;
    },
  )

  goes-on : (m : Meaning) → meaning line ≡ m
      → ((new : List Stretch) → Says (line ∷ []) new → total_frames (said ++ new) ≤ 36000 → IsEither text) → IsEither text
  goes-on (Ok None) is next = next [] (inl (is, refl)) (rw append-nil within)
  goes-on (Err code) is next = fails code (inl is)
  goes-on (Ok (Some s)) is next = elim (cases_lt 36000 (total_frames said + s.frames)) [
    | inl long ↦ fails Length (inr (s, is, long, refl))
    | inr fits ↦ next (s ∷ []) (inr (s, [], is, refl, refl)) (omega (arith, fits, total-after said s))
  ]

by-lines : (text : List ℕ) (earlier : List Line) (said : List Stretch) → Says earlier said → total_frames said ≤ 36000
    → (rest : List Line) → lines text ≡ earlier ++ rest → IsEither text
by-lines text earlier said says within [] parts =
    inl (said, record { says = subst (λ (ls : List Line). Says ls said) (sym (parts ∙ append-nil earlier)) says; within = within })
by-lines text earlier said says within (line ∷ later) parts =
    goes-on text earlier said says within line later parts (meaning line) refl (λ new here fits.
    by-lines text (earlier ++ line ∷ []) (said ++ new) (says-both earlier (line ∷ []) said new says here) fits later
    (parts ∙ sym (append_assoc earlier (line ∷ []) later)))

is-either : (text : List ℕ) → IsEither text
is-either text = by-lines text [] [] refl (omega arith) (lines text) refl

-- ---- so what is read is so

pub is-script : (text : List ℕ) (all : List Stretch) → script_of text ≡ Ok all → IsScript text all
is-script text all e = elim (is-either text) [
  | inl (said, is) ↦ subst (IsScript text) (cc (script-again text said is, e)) is
  | inr (fault, has) ↦ absurd (cc (fault-again text fault has, e))
]

pub has-fault : (text : List ℕ) (fault : ScriptFault) → script_of text ≡ Err fault → HasScriptFault text fault
has-fault text fault e = elim (is-either text) [
  | inl (said, is) ↦ absurd (cc (script-again text said is, e))
  | inr (other, has) ↦ subst (HasScriptFault text) (cc (fault-again text other has, e)) has
]

-- ---- the same of an answer

pub read-is-script : (text : List ℕ) (result : Result (List Stretch) ScriptError) → ScriptGives result (script_of text)
    → IfOk result (IsScript text)
read-is-script text result h = grind (arith, is-script)

pub told-is-fault : (text : List ℕ) (result : Result (List Stretch) ScriptError) → ScriptGives result (script_of text)
    → IfErr result (λ e. OnScriptFault e (HasScriptFault text))
told-is-fault text result h = grind (arith, has-fault)
