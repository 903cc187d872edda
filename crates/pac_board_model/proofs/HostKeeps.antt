-- The lines of a picture: when each is composed, that it's composed at no other moment, and that a frame's picture has those of its own
-- frame,
-- in each run and whatever a host does.
use Rattle.pac_board_model.proofs.Common.{Account, Act, Blank, BoardView, Bool, Entry, Host, HostsAreLineExact, IsComposed, IsLineInTime}
use Rattle.pac_board_model.proofs.Common.{Item, Line, LinesHaveNoOtherMoments, LinesHaveTheirMoments, List, Moment, Parts}
use Rattle.pac_board_model.proofs.Common.{PicturesAreLineExact, Questions, Sample, StepProgress, [], account_by_history, after_act}
use Rattle.pac_board_model.proofs.Common.{after_acts, ap, arith, at_moment, blank_event, by_history, common_steps, false, get_or-tabulate}
use Rattle.pac_board_model.proofs.Common.{height, hidden_lines, host_at, if◌then◌else◌, line_at, line_event, line_moment, line_ticks}
use Rattle.pac_board_model.proofs.Common.{memory_at, nat_tests, picture_line, power_on_board_view, refl, rules, sample_event, sample_ticks}
use Rattle.pac_board_model.proofs.Common.{scan_frame, scan_line, slice_index_or, step, subst, suc, sym, true, video_roms, with_step, zero}
use Rattle.pac_board_model.proofs.Common.{ℕ, ◌++◌, ◌+◌, ◌-◌, ◌/◌, ◌<◌, ◌==◌, ◌∙◌, ◌∷◌, ◌≡◌, ◌≤◌}
use Rattle.pac_board_model.proofs.RunsKeep.{ends_line, is_quiet, lined-holds, run-told, sampled-holds, step-told-then, with_line}

pub lines-timed : (Board : Type 0) → LinesHaveTheirMoments Board
lines-timed Board ask earlier y met below = search rules

line-placed : (moment : ℕ) → 1 ≤ moment → ends_line moment ≡ true
    → (1 ≤ scan_frame moment) × (scan_line moment - hidden_lines < height)
    × (line_moment (scan_frame moment) (scan_line moment - hidden_lines) ≡ moment)
line-placed moment some ends = search rules

-- ---- at no other moment

pub lines-placed : (Board : Type 0) → LinesHaveNoOtherMoments Board
lines-placed Board ask moment met some others = choose (ends_line moment) refl
  where
    choose : (b : Bool) → ends_line moment ≡ b → (if b then with_line ask moment met else met) ≡ met
    choose true e =
        let placed = line-placed moment some e in
        absurd (others (scan_frame moment) (scan_line moment - hidden_lines) placed.0 placed.1 (sym placed.2))
    choose false e = refl

-- ---- among the entries

abbrev pub IsPlaced : (from to : ℕ) → List Entry → Type 0
IsPlaced from to [] = Unit {0}
IsPlaced from to (Line frame y ∷ older) = IsLineInTime from to frame y older × IsPlaced from to older
IsPlaced from to (entry ∷ older) = IsPlaced from to older

placed-later : (from to later : ℕ) (entries : List Entry) → to ≤ later → IsPlaced from to entries → IsPlaced from later entries
placed-later from to later [] less placed = tt
placed-later from to later (Line frame y ∷ older) less placed = grind (arith, common_steps, placed-later from to later older less placed.1)
placed-later from to later (entry ∷ older) less placed = placed-later from to later older less placed

placed-at : (from to frame y : ℕ) (later older : List Entry) → IsPlaced from to (later ++ Line frame y ∷ older)
    → IsLineInTime from to frame y older
placed-at from to frame y [] older placed = placed.0
placed-at from to frame y (Line other line ∷ later) older placed = placed-at from to frame y later older placed.1
placed-at from to frame y (entry ∷ later) older placed = placed-at from to frame y later older placed

sampled-now : (ask : Questions (List Entry)) (moment : ℕ) (met : StepProgress (List Entry))
    → ((entries : List Entry) (entry : Entry) → ask.put entries entry ≡ entry ∷ entries) → ends_line moment ≡ true
    → (sample_event ask moment met).board ≡ Sample (moment / sample_ticks) ∷ met.board
sampled-now ask moment met puts ends = search rules

placed-now : (from moment : ℕ) (older before : List Entry) → from < moment → ends_line moment ≡ true
    → older ≡ Sample (moment / sample_ticks) ∷ before → IsLineInTime from moment (scan_frame moment) (scan_line moment - hidden_lines) older
placed-now from moment older before after ends sample = grind (arith, line-placed)

-- ---- the frame for which each line was last composed

-- the frame for which a line was last composed, 0 where it never was
abbrev pub composed_frame : ℕ → List Entry → ℕ
composed_frame y [] = 0
composed_frame y (Line frame line ∷ older) = if line == y then frame else composed_frame y older
composed_frame y (entry ∷ older) = composed_frame y older

-- how many of the moments at which line y is composed have come
abbrev pub compositions : ℕ → ℕ → ℕ
compositions y time = (time / line_ticks + (223 - y)) / 264

-- ---- a line that was composed is among the entries

record IsFound (set : Parts) (start : BoardView) (frame y : ℕ) (entries : List Entry) : Type 0 where
  after : List Entry
  before : List Entry
  among : entries ≡ after ++ Line frame y ∷ before
  line : line_at set start entries y ≡ picture_line (video_roms set) (memory_at start.memory before) y

found-older : (set : Parts) (start : BoardView) (frame y : ℕ) (entry : Entry) (older : List Entry)
    → line_at set start (entry ∷ older) y ≡ line_at set start older y → IsFound set start frame y older
    → IsFound set start frame y (entry ∷ older)
found-older set start frame y entry older same found =
    record {
      after = entry ∷ found.after;
      before = found.before;
      among = ap (λ entries. entry ∷ entries) found.among;
      line = same ∙ found.line;
    }

composed-found : (set : Parts) (start : BoardView) (frame y : ℕ) (entries : List Entry) → 1 ≤ frame
    → composed_frame y entries ≡ frame → IsFound set start frame y entries
composed-found set start frame y [] some h = absurd (omega arith)
composed-found set start frame y (Line other line ∷ older) some h =
    choose (line == y) refl (composed-found set start frame y older some)
  where
    choose : (b : Bool) → (line == y) ≡ b → (composed_frame y older ≡ frame → IsFound set start frame y older)
        → IsFound set start frame y (Line other line ∷ older)
    choose true e rest =
        let here : line ≡ y = grind (arith, nat_tests) in
        let now : other ≡ frame = ap (λ b. if b then other else composed_frame y older) (sym e) ∙ h in
        record {
          after = [];
          before = older;
          among = ap (λ number. Line number line ∷ older) now ∙ ap (λ number. Line frame number ∷ older) here;
          line = ap (λ b. if b then picture_line (video_roms set) (memory_at start.memory older) y else line_at set start older y) e;
        }
    choose false e rest = search (rules, found-older)
composed-found set start frame y (entry ∷ older) some h =
    found-older set start frame y entry older refl (composed-found set start frame y older some h)

found-composed : (set : Parts) (start : BoardView) (frame y : ℕ) (entries : List Entry) → y < height → IsFound set start frame y entries
    → IsComposed set start frame y entries
found-composed set start frame y entries below found = search (rules, get_or-tabulate)

-- ---- each blank finds all lines composed for its frame

abbrev pub IsExact : (from : ℕ) → List Entry → Type 0
IsExact from [] = Unit {0}
IsExact from (Blank frame ∷ older) =
    (1 ≤ frame)
    × ((y : ℕ) → y < height → compositions y from < frame → composed_frame y older ≡ frame)
    × IsExact from older
IsExact from (entry ∷ older) = IsExact from older

exact-at : (from : ℕ) (later older : List Entry) (frame : ℕ) → IsExact from (later ++ Blank frame ∷ older)
    → (1 ≤ frame) × ((y : ℕ) → y < height → compositions y from < frame → composed_frame y older ≡ frame)
exact-at from [] older frame exact = (exact.0, exact.1)
exact-at from (Blank other ∷ later) older frame exact = exact-at from later older frame exact.2
exact-at from (entry ∷ later) older frame exact = exact-at from later older frame exact

-- ---- from one moment to the next

no-line : (time moment y : ℕ) → moment ≡ suc time → y < height → ends_line moment ≡ false → compositions y time ≡ compositions y moment
no-line time moment y next below ends = grind (arith, common_steps)

-- ---- the run

-- what a history from a time on says of its lines at a later time
pub record IsTold (from time : ℕ) (entries : List Entry) : Type 0 where
  pub since : from ≤ time
  pub composed : (y : ℕ) → y < height → compositions y from < compositions y time → composed_frame y entries ≡ compositions y time
  pub exact : IsExact from entries
  pub placed : IsPlaced from time entries

pub nothing-told : (time : ℕ) → IsTold time time []
nothing-told time = record { since = omega arith; composed = λ y below grown. absurd (omega (arith, grown)); exact = tt; placed = tt }

pub quiet-kept : (from time : ℕ) (entry : Entry) (entries : List Entry) → is_quiet entry ≡ true → IsTold from time entries
    → IsTold from time (entry ∷ entries)
quiet-kept from time entry entries quiet told = grind (arith, common_steps)

composed-now : (from time moment y : ℕ) (entries : List Entry) → moment ≡ suc time → y < height → ends_line moment ≡ true
    → compositions y from < compositions y moment
    → (compositions y from < compositions y time → composed_frame y entries ≡ compositions y time)
    → composed_frame y (Line (scan_frame moment) (scan_line moment - hidden_lines) ∷ entries) ≡ compositions y moment
composed-now from time moment y entries next below ends grown h = grind (arith, common_steps)

module _ (set : Parts) (items : List Item) (start : BoardView) (from : ℕ) where
  abbrev ask : Questions (List Entry)
  ask = by_history set items start

  lined-kept : (time moment : ℕ) (met : StepProgress (List Entry)) (before : List Entry) → moment ≡ suc time → IsTold from time met.board
      → (ends_line moment ≡ true → met.board ≡ Sample (moment / sample_ticks) ∷ before)
      → IsTold from moment (line_event ask moment met).board
  lined-kept time moment met before next told sample =
      let since : from ≤ moment = omega (arith, told.since) in
      let placed = placed-later from time moment met.board (omega arith) told.placed in
      lined-holds ask (λ after. IsTold from moment after.board) moment met
      (λ ends.
      let now = placed-now from moment met.board before (omega (arith, told.since)) ends (sample ends) in
      let composed = λ (y : ℕ) (below : y < height). composed-now from time moment y met.board next below ends in
      grind arith)
      (λ none. grind (arith, no-line))

  blank-kept : (time moment : ℕ) (met : StepProgress (List Entry)) → moment ≡ suc time → IsTold from moment met.board
      → IsTold from moment (blank_event ask moment met).board
  blank-kept time moment met next told = grind (arith, common_steps)

  pub moment-kept : (time moment : ℕ) (met : StepProgress (List Entry)) → moment ≡ suc time → IsTold from time met.board
      → IsTold from moment (at_moment ask moment met).board
  moment-kept time moment met next told =
      let sounded = sampled-holds ask (λ after. IsTold from time after.board) moment met (λ _. search rules) (λ _. told) in
      let after = sample_event ask moment met in
      blank-kept time moment (line_event ask moment after) next
      (lined-kept time moment after met.board next sounded
      (λ ends. sampled-now ask moment met (λ entries entry. refl) ends))

-- ---- what it says of a line

-- the moment of a line has come as often as its frame's number says
before-frame : (from frame y : ℕ) → 1 ≤ frame → y < height → from < line_moment frame y → compositions y from < frame
before-frame from frame y some below early = omega arith

shown-composed : (set : Parts) (start : BoardView) (from frame y : ℕ) (later older : List Entry)
    → IsExact from (later ++ Blank frame ∷ older) → y < height → (1 ≤ frame → compositions y from < frame)
    → IsComposed set start frame y older
shown-composed set start from frame y later older exact below early = search (rules, composed-found, exact-at, found-composed)

standing-composed : (set : Parts) (start : BoardView) (frame y : ℕ) (entries : List Entry) → y < height → 1 ≤ frame
    → composed_frame y entries ≡ frame → IsComposed set start frame y entries
standing-composed set start frame y entries below some is = search (rules, composed-found, found-composed)

pub pictures-are-line-exact : PicturesAreLineExact
pictures-are-line-exact set items switches index frame play later older e y below =
    let first = power_on_board_view switches in
    let run = run-told (by_history set items first) (λ time given entries. IsTold 0 time entries)
    (λ time given entries entry. quiet-kept 0 time entry entries) (λ time moment given. moment-kept set items first 0 time moment) play []
    index (nothing-told 0) in
    shown-composed set first 0 frame y later older (subst (IsExact 0) e run.exact) below (λ some. omega arith)

-- ---- What a host's acts keep: a fact of the time and of the board, which no write, output, acceptance, reset or held input changes, and
-- which the events of each moment carry on to the next. Moments that are kept have it, so going back to one has it too.

module _ {Board : Type 0} (account : Account Board) (Told : ℕ → Board → Type 0)
    (quiet : (time : ℕ) (board : Board) (entry : Entry) → is_quiet entry ≡ true → Told time board
    → Told time (account.ask.put board entry))
    (moves : (time moment : ℕ) (met : StepProgress Board) → moment ≡ suc time → Told time met.board
    → Told moment (at_moment account.ask moment met).board) where
  abbrev HasTold : Moment Board → Type 0
  HasTold now = Told now.time now.board

  abbrev AllTold : List (Moment Board) → Type 0
  AllTold [] = Unit {0}
  AllTold (now ∷ kept) = HasTold now × AllTold kept

  abbrev HostTold : Host Board → Type 0
  HostTold host = HasTold host.now × AllTold host.kept

  more-told : (kept : List (Moment Board)) (now : Moment Board) → AllTold kept → HasTold now → AllTold (kept ++ now ∷ [])
  more-told [] now all told = (told, tt)
  more-told (first ∷ kept) now all told = (all.0, more-told kept now all.1 told)

  kept-told : (kept : List (Moment Board)) (number : ℕ) (now : Moment Board) → AllTold kept → HasTold now
      → HasTold (slice_index_or kept number now)
  kept-told [] number now all told = told
  kept-told (first ∷ kept) zero now all told = all.0
  kept-told (first ∷ kept) (suc number) now all told = kept-told kept number now all.1 told

  step-told : (host : Host Board) → HostTold host → HostTold (with_step host (step account.ask host.now))
  step-told host told =
      step-told-then account.ask (λ time given. Told time) (λ time given. quiet time) (λ time moment given. moves time moment) host.now []
      told.0
      (λ after outputs kind e kept. subst (λ next. HostTold (with_step host next)) (sym e) (kept, told.1))
      (λ stop e. subst (λ next. HostTold (with_step host next)) (sym e) told)

  act-told : (host : Host Board) (act : Act) → HostTold host → HostTold (after_act account host act)
  act-told host act told = search (rules, kept-told, more-told, step-told)

  acts-told : (acts : List Act) (host : Host Board) → HostTold host → HostTold (after_acts account host acts)
  acts-told [] host told = told
  acts-told (act ∷ acts) host told = acts-told acts (after_act account host act) (act-told host act told)

-- the last frame in which a line's moment has come
last-frame : (frame y time : ℕ) → 1 ≤ frame → y < height → line_moment frame y ≤ time → time < line_moment (frame + 1) y
    → compositions y time ≡ frame
last-frame frame y time some below come early = omega arith

pub hosts-are-line-exact : HostsAreLineExact
hosts-are-line-exact set items start regs time steps acts =
    let first = host_at (record { regs = regs; board = []; time = time; steps = steps }) in
    let account = account_by_history set items start in
    let now = (after_acts account first acts).now in
    let told : IsTold time now.time now.board =
    (acts-told account (IsTold time) (λ at entries entry. quiet-kept time at entry entries) (moment-kept set items start time) acts first
    (nothing-told time, tt)).0 in
    record {
      in_time = λ frame y later older e. placed-at time now.time frame y later older (subst (IsPlaced time now.time) e told.placed);
      shown = λ frame y later older e below early.
          shown-composed set start time frame y later older (subst (IsExact time) e told.exact) below
          (λ some. before-frame time frame y some below early);
      standing = λ frame y some below early come before.
          let last = last-frame frame y now.time some below come before in
          standing-composed set start frame y now.board below some
          (told.composed y below (rw last (before-frame time frame y some below early)) ∙ last);
    }
