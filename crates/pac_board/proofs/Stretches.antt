-- A stretch of a board is steps that give samples alone, and then one turn: so the loop over stretches goes along the same walk as one
-- over turns.
use Rattle.std.proofs.Common.{rules}
use Rattle.pac_board.proofs.Common.{BoardValue, BoardView, Bool, Giving, HasBatch, HasGone, HasStretched, IsHeardUntil}
use Rattle.pac_board.proofs.Common.{IsLastTurn, IsOfferRefused, IsStretchRefused, IsStretched, IsTimely, IsTurn, IsWayRefused, List, Moment}
use Rattle.pac_board.proofs.Common.{Next, None, Option, Output, Some, Sound, Stop, TookAll, Walk, [], ap, arith, batch_of, board_after_walk}
use Rattle.pac_board.proofs.Common.{by, by_view, due_outputs, ended-whole, false, going-is-early, going-steps, has_ended, is_some, map}
use Rattle.pac_board.proofs.Common.{more-joined, next_from_moment, not-both, nothing_due, on-the-way, once_at, outputs_in, outputs_of_step}
use Rattle.pac_board.proofs.Common.{refl, step, step-timely, stretch_end, stretch_of, subst, suc, sym, walk, walk_after_step, walk_to}
use Rattle.pac_board.proofs.Common.{way_at, with_due, ℕ, ℤ, ◌++◌, ◌+◌, ◌<◌, ◌||◌, ◌∙◌, ◌≡◌, ◌≤◌}
use Rattle.pac_board.proofs.Pieces.{walked-twice}
use Rattle.pac_board.proofs.Sinks.{cut-along, took-both}
use Rattle.pac_board.proofs.Turns.{IsUnderway, after-outputs, refused-goes, stepped-moved, turn-goes-on, turn-longer, turn-refused}
use Rattle.pac_board.proofs.Turns.{turn-stops}
use Rattle.pac_board.proofs.Walked.{step-ends, walked-after}

-- ---- the last step of a stretch

pub has-no-stop : (stop : Option Stop) (late : Bool) → (is_some stop || late) ≡ false → stop ≡ None
has-no-stop it1 late going = search (rules, not-both)

pub no-stop : (stop : Option Stop) → is_some stop ≡ false → stop ≡ None
no-stop it1 none = search rules

outputs-same : (h : Next BoardView) → outputs_of_step h ≡ outputs_in h
outputs-same it1 = search rules

-- a turn, by its answer

last-turn : {S : Type 0} (took : S → Output → S → Type 0) (between new : BoardValue) (sink later : S) (w : Walk BoardView)
    (h : Next BoardView) (time : ℕ) (stop : Option Stop) → stop ≡ (walk_after_step w h).stop
    → IsTurn took between sink (once_at h time) new later → IsLastTurn took between sink stop new later
last-turn took between new sink later w it7 time stop met turn = search rules

module _ {old : BoardValue} {near : ℕ} {stop : Option Stop} {given : List ℤ} {mid : BoardValue} (batch : HasBatch old near stop given mid)
  where
    abbrev next : Moment BoardView → Next BoardView
    next = step (by_view old.set)

    abbrev before_last : Walk BoardView
    before_last = batch_of old near batch.tries

    abbrev last_next : Next BoardView
    last_next = next_from_moment old.set before_last.now

    timely : (now : Moment BoardView) → IsTimely now (next now)
    timely now = step-timely (by_view old.set) now

    last-is : batch_of old near (suc batch.tries) ≡ walk_after_step before_last last_next
    last-is = going-steps next near before_last batch.going

    last-later : old.state.now.steps ≤ before_last.now.steps
    last-later = (walked-after next near timely old.state.now batch.tries).steps

    last-outputs : due_outputs mid ≡ outputs_in last_next
    last-outputs = batch.outputs ∙ outputs-same last_next

    heard-before : (limit : ℕ) → near ≤ limit → IsHeardUntil old limit given (board_after_walk old before_last)
    heard-before limit less =
        let on = on-the-way next near limit old.state.now batch.tries (omega arith) in
        let there = going-is-early near before_last batch.going in
        record {
          steps = on.0;
          board = ap (board_after_walk old) on.1;
          open_yet = sym (ap (λ (v : Walk BoardView). v.stop) on.1) ∙ has-no-stop before_last.stop _ batch.going;
          early = let time = ap (λ (v : Walk BoardView). v.now.time) on.1 in omega arith;
          heard = sym (ap (λ (v : Walk BoardView). v.outputs) on.1) ∙ batch.before;
        }

    -- ---- a stretch of one step

    pub single-goes : near ≡ old.state.now.time + 1 → given ≡ [] → IsStretched old (old.state.now.time + 1) stop mid
    single-goes near_is none =
        let so_far = (walked-after next near timely old.state.now batch.tries).time in
        let over = ap (has_ended near) last-is ∙ step-ends near before_last last_next (timely before_last.now) (omega arith) in
        let until_is : near ≡ stretch_end (old.state.now.time + 1) old.state.now.time = omega arith in
        let whole : batch_of old near (suc batch.tries) ≡ stretch_of old (old.state.now.time + 1)
        = ended-whole next near timely old.state.now (suc batch.tries) over
        ∙ ap (λ (until : ℕ). walk_to next until old.state.now) until_is in
        let silent : before_last.outputs ≡ [] = batch.before ∙ ap (map Sound) none in
        record {
          board = batch.board ∙ ap (λ (w : Walk BoardView). with_due (board_after_walk old w) mid.state.due) whole;
          outputs =
              last-outputs ∙ ap (λ (xs : List Output). xs ++ outputs_in last_next) (sym silent) ∙ sym (after-outputs before_last last_next)
              ∙ ap (λ (w : Walk BoardView). w.outputs) (sym last-is ∙ whole);
          stop_is = batch.stop_is ∙ ap (λ (w : Walk BoardView). w.stop) whole;
        }

    -- ---- the offer of what it gave

    -- all of it was taken
    pub stretch-taken : {S : Type 0} {took : S → Output → S → Type 0} {new : BoardValue} {limit : ℕ} {sink later : S} (asked : S)
        → near ≤ limit → TookAll took sink (map Sound given) asked → new ≡ with_due mid nothing_due
        → TookAll took asked (due_outputs mid) later → HasStretched took old limit sink stop new later
    stretch-taken {took = took} {new = new} {limit = limit} {later = later} asked less taken same all =
        let w = before_last in
        record {
          given = given;
          between = board_after_walk old w;
          before = heard-before limit less;
          asked = asked;
          batch = taken;
          turn = last-turn took (board_after_walk old w) new asked later w last_next w.now.time stop
              (batch.stop_is ∙ ap (λ (v : Walk BoardView). v.stop) last-is)
              (record {
                board =
                    same ∙ ap (λ (board : BoardValue). with_due board nothing_due) batch.board ∙ ap (board_after_walk old) last-is
                    ∙ sym (stepped-moved old w last_next last-later (timely w.now));
                once_is = refl;
                sink_is = rw (← last-outputs) all;
              });
        }

    -- some of it was refused
    pub stretch-left : {S : Type 0} {to : Giving S} {new : BoardValue} {limit : ℕ} {sink later : S} (asked : S) → near ≤ limit
        → TookAll to.took sink (map Sound given) asked → IsOfferRefused to mid asked new later
        → IsStretchRefused to old limit sink new later
    stretch-left {new = new} {limit = limit} asked less taken offer =
        let w = before_last in
        let cut = cut-along (sym last-outputs) refl offer.cut in
        let goes = refused-goes old w last_next new.state.due cut last-later (timely w.now) in
        record {
          given = given;
          between = board_after_walk old w;
          before = heard-before limit less;
          asked = asked;
          batch = taken;
          turn = record {
            board = offer.board ∙ ap (λ (board : BoardValue). with_due board new.state.due) batch.board
                ∙ ap (λ (v : Walk BoardView). with_due (board_after_walk old v) new.state.due) last-is ∙ sym goes.0;
            cut = cut;
          };
        }

-- ---- the loop

module _ {S : Type 0} {took : S → Output → S → Type 0} {start : BoardValue} {limit : ℕ} {sink : S} {board : BoardValue} {taker : S}
    (under : IsUnderway took start limit sink board taker) where
  -- where the steps before the last have brought a board, and its sink
  record IsOn (between : BoardValue) (asked : S) : Type 0 where
    pub under_yet : IsUnderway took start limit sink between asked
    pub later : board.state.now.time ≤ between.state.now.time
    pub early : between.state.now.time < limit

  is-on : (between : BoardValue) (given : List ℤ) (asked : S) → IsHeardUntil board limit given between
      → TookAll took taker (map Sound given) asked → IsOn between asked
  is-on between given asked before taken =
      let next = step (by_view start.set) in
      let timely : (now : Moment BoardView) → IsTimely now (next now) = λ now. step-timely (by_view start.set) now in
      let v = way_at start limit under.steps in
      let heard = subst (λ (b : BoardValue). IsHeardUntil b limit given between) under.board_is before in
      let u = walk next limit v.now heard.steps in
      let joins = more-joined next limit start.state.now under.steps heard.steps (under.steps + heard.steps) refl under.open_yet in
      let from_there = walked-after next limit timely v.now heard.steps in
      let time = ap (λ (b : BoardValue). b.state.now.time) heard.board in
      let begun = ap (λ (b : BoardValue). b.state.now.time) under.board_is in
      record {
        under_yet = record {
          steps = under.steps + heard.steps;
          board_is =
              heard.board
              ∙ walked-twice start v u (walked-after next limit timely start.state.now under.steps).steps from_there.steps
              ∙ ap (board_after_walk start) joins;
          open_yet = sym (ap (λ (w : Walk BoardView). w.stop) joins) ∙ heard.open_yet;
          sink_is =
              rw (← joins, heard.heard) (took-both took v.outputs (map Sound given) sink taker asked under.sink_is taken);
        };
        later = omega (arith, from_there.time);
        early = omega (arith, heard.early);
      }

  -- a stretch that goes on, one that meets a stop, and one that is refused
  pub stretch-goes-on : {new : BoardValue} {later : S} {answer : Option Stop} → HasStretched took board limit taker answer new later
      → answer ≡ None → IsUnderway took start limit sink new later
  stretch-goes-on stretched is =
      let one = rw is at stretched in
      let on = is-on one.between one.given one.asked one.before one.batch in turn-goes-on on.under_yet on.early one.turn.turn refl

  pub stretch-longer : {new : BoardValue} {later : S} {answer : Option Stop} → HasStretched took board limit taker answer new later
      → answer ≡ None → board.state.now.time < new.state.now.time
  stretch-longer stretched is =
      let one = rw is at stretched in
      let on = is-on one.between one.given one.asked one.before one.batch in
      omega (arith, on.later, turn-longer one.turn.turn refl)

  pub stretch-stops : {new : BoardValue} {later : S} {answer : Option Stop} {stop : Stop}
      → HasStretched took board limit taker answer new later → answer ≡ Some stop → HasGone took start limit sink (Some stop) new later
  stretch-stops {stop = stop} stretched is =
      let one = rw is at stretched in
      let on = is-on one.between one.given one.asked one.before one.batch in turn-stops on.under_yet on.early one.turn refl

  pub stretch-refused : {refused : S → Output → S → Type 0} {new : BoardValue} {later : S}
      → IsStretchRefused (by took refused) board limit taker new later → IsWayRefused (by took refused) start limit sink new later
  stretch-refused stretched =
      let on = is-on stretched.between stretched.given stretched.asked stretched.before stretched.batch in
      turn-refused on.under_yet on.early stretched.turn
