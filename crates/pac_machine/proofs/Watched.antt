-- What steps do at addresses that are watched: the writes of a step over a bus that looks at them, its reads, and steps one after another.
use Rattle.pac_machine.proofs.Common.{Access, Accumulators, Action, Acts, BoardStanding, BoardView, Bool, BurstsQuietly, CpuStep}
use Rattle.pac_machine.proofs.Common.{DoesCpuStep, IsNoted, IsWatched, List, Map, Moment, Next, None, Once, Option, Parts, PastStep, Regs}
use Rattle.pac_machine.proofs.Common.{Some, Stop, Stopped, Surroundings, WatchedBus, Write, [], actions_of, arith, burst_at}
use Rattle.pac_machine.proofs.Common.{bus_after_actions, by_view, cpu_step, eventless_step, false, first_read, first_write, is_some}
use Rattle.pac_machine.proofs.Common.{map_after_action, map_byte_at, map_input_at, nat_tests, refl, rules, step, stepped, suc, surroundings}
use Rattle.pac_machine.proofs.Common.{surroundings_of, true, watched_after_action, watched_at, watched_byte_at, watched_in}
use Rattle.pac_machine.proofs.Common.{watched_input_at, watches_writes, ℕ, ◌++◌, ◌+◌, ◌-◌, ◌<◌, ◌∙◌, ◌∷◌, ◌≡◌, ◌≤◌}
use Rattle.pac_cpu.specs.Action.{Output}
use Rattle.pac_machine.specs.declared.watch.Access.TheVariants as access
use Rattle.pac_machine.proofs.Batches.{IsStill, lines_after, lines_to, played_now, surroundings-played, voices_after}
use Rattle.pac_machine.proofs.Noted.{stepped-joined, burst-within, told-at}
use Rattle.pac_machine.proofs.Processor.{surroundings-agree, board_of}

pub none-met : {A : Type 0} (met : Option A) → is_some met ≡ false → met ≡ None
none-met met none = search rules

-- ---- nothing is watched

free-of-writes : (seen : Surroundings) (done left : List Action) → first_write seen None done left ≡ None
free-of-writes seen done [] = refl
free-of-writes seen done (Write address byte ∷ left) = free-of-writes seen (done ++ Write address byte ∷ []) left
free-of-writes seen done (Output port byte ∷ left) = free-of-writes seen (done ++ Output port byte ∷ []) left

free-of-reads : (cells : List ℕ) → first_read None cells ≡ None
free-of-reads [] = refl
free-of-reads (address ∷ cells) = free-of-reads cells

pub unwatched : (seen : Surroundings) (regs : Regs) (request : Option ℕ) (part : CpuStep) → watched_in seen None regs request part ≡ None
unwatched seen regs request part = search (rules, free-of-writes, free-of-reads)

pub unwatched-at : (set : Parts) (now : Moment BoardView) → watched_at set None now ≡ None
unwatched-at set now =
    let ask = by_view set in
    let seen = surroundings ask now.board in
    unwatched seen now.regs (ask.request now.board) (cpu_step seen now.regs (ask.request now.board))

-- ---- the bus that looks at each write

abbrev after_all : WatchedBus → List Action → WatchedBus
after_all = bus_after_actions watched_after_action

abbrev seen_by : Map → Surroundings
seen_by map = surroundings_of map_byte_at map_input_at map_after_action map

pub map-acted : (bus : WatchedBus) (actions : List Action)
    → (after_all bus actions).map.now ≡ bus_after_actions map_after_action bus.map.now actions
map-acted bus [] = refl
map-acted bus (action ∷ actions) = map-acted (watched_after_action bus action) actions

name-kept : (bus : WatchedBus) (actions : List Action) → (after_all bus actions).map.ghost_name ≡ bus.map.ghost_name
name-kept bus [] = refl
name-kept bus (action ∷ actions) = name-kept (watched_after_action bus action) actions

seen-alike : (bus : WatchedBus)
    → surroundings_of watched_byte_at watched_input_at watched_after_action bus ≡ seen_by bus.map.now
seen-alike bus = search (rules, map-acted)

-- a write to what a bus keeps
abbrev write_over : (address byte : ℕ) → Map → Access
write_over address byte before = access.Write address (map_byte_at before address) byte

-- once one was met it stays
met-stays : (bus : WatchedBus) (one : Access) (actions : List Action) → bus.met ≡ Some one → (after_all bus actions).met ≡ Some one
met-stays bus one [] met = met
met-stays bus one (action ∷ actions) met = met-stays (watched_after_action bus action) one actions (search rules)

done-more : (map : Map) (done : List Action) (action : Action)
    → bus_after_actions map_after_action map (done ++ action ∷ []) ≡ map_after_action (bus_after_actions map_after_action map done) action
done-more map [] action = refl
done-more map (first ∷ done) action = done-more (map_after_action map first) done action

met-first : (map : Map) (bus : WatchedBus) (done left : List Action) → bus.map.now ≡ bus_after_actions map_after_action map done
    → bus.met ≡ None → (after_all bus left).met ≡ first_write (seen_by map) (Some bus.marks.now) done left
met-first map bus done [] there none = none
met-first map bus done (Output port byte ∷ left) there none =
    met-first map (watched_after_action bus (Output port byte)) (done ++ Output port byte ∷ []) left
    (cc (done-more map done (Output port byte))) none
met-first map bus done (Write address byte ∷ left) there none =
    here (watches_writes (Some bus.marks.now) address) refl
    (met-first map after (done ++ Write address byte ∷ []) left (cc (done-more map done (Write address byte))))
  where
    after : WatchedBus
    after = watched_after_action bus (Write address byte)

    here : (b : Bool) → watches_writes (Some bus.marks.now) address ≡ b
        → (after.met ≡ None
        → (after_all after left).met ≡ first_write (seen_by map) (Some bus.marks.now) (done ++ Write address byte ∷ []) left)
        → (after_all after left).met ≡ first_write (seen_by map) (Some bus.marks.now) done (Write address byte ∷ left)
    here true is more =
        let kept : after.met ≡ Some (write_over address byte bus.map.now) = cc in met-stays after _ left kept ∙ cc
    here false is more = more (cc) ∙ cc

-- a step over it
module _ (bus new : WatchedBus) (regs left : Regs) (request : Option ℕ) (once : Once)
    (did : DoesCpuStep watched_after_action
    (cpu_step (surroundings_of watched_byte_at watched_input_at watched_after_action bus) regs request) regs bus left new once) where
  abbrev part : CpuStep
  part = cpu_step (seen_by bus.map.now) regs request

  did_alike : DoesCpuStep watched_after_action part regs bus left new once
  did_alike = rw (seen-alike bus) at did

  pub watched-did : DoesCpuStep map_after_action part regs bus.map.now left new.map.now once
  watched-did = record {
    regs = did_alike.regs;
    bus = cc (did_alike.bus, map-acted bus (actions_of part));
    once = did_alike.once;
  }

  pub watched-name : new.map.ghost_name ≡ bus.map.ghost_name
  watched-name = cc (did_alike.bus, name-kept bus (actions_of part))

  pub written-met : bus.met ≡ None → new.met ≡ first_write (seen_by bus.map.now) (Some bus.marks.now) [] (actions_of part)
  written-met none = search (rules, did_alike, met-first)

-- ---- the processor's part of a step

pub acts-watched : (map : Map) (regs : Regs) (accumulators : Accumulators) (lines : List (List ℕ)) (marks : Option (List ℕ))
    (request asked : Option ℕ) → request ≡ asked
    → watched_in (seen_by map) marks regs request (cpu_step (seen_by map) regs request)
    ≡ watched_in (surroundings (by_view map.set) (board_of map accumulators lines)) marks regs asked
    (cpu_step (surroundings (by_view map.set) (board_of map accumulators lines)) regs asked)
acts-watched map regs accumulators lines marks request asked same = rw (same, surroundings-agree map accumulators lines)

-- a stop does nothing
pub stop-does-nothing : (self mid : BoardStanding) (once : Once) (stop : Stop) (marks : Option (List ℕ)) → Acts self mid once
    → once ≡ Stopped stop → watched_at self.set marks self.now ≡ None
stop-does-nothing self mid once stop marks acts is = search rules

-- ---- one step after another

module _ (set : Parts) (marks : Option (List ℕ)) (next : Moment BoardView → Next BoardView) (from : Moment BoardView) where
  abbrev Watched : (steps : ℕ) (met : Option Access) → Type 0
  Watched = IsWatched set marks next from

  pub watched-first : (steps : ℕ) → steps ≡ from.steps → Watched steps None
  watched-first steps same = search rules

  -- one more
  pub watched-on : {until : ℕ} {to : Moment BoardView} {told after : Option (List PastStep)} (met : Option Access)
      → IsNoted next until from to told after → Watched to.steps None → watched_at set marks to ≡ met → Watched (to.steps + 1) met
  watched-on met so_far watched one = search rules

  -- some, and then some more
  pub watched-more : {until : ℕ} {mid : Moment BoardView} {told between : Option (List PastStep)} (steps : ℕ) (met : Option Access)
      → IsNoted next until from mid told between → Watched mid.steps None → mid.steps ≤ steps → IsWatched set marks next mid steps met
      → Watched steps met
  watched-more {until} {mid} {told} steps met one watched later more =
      let so_many = one.steps in
      record {
        before = λ n few. grind (arith, nat_tests, first n, more.before (n - one.count), there n);
        last = λ n same. grind (arith, nat_tests, first n, more.last (n - one.count), more.none, there n);
        none = λ few. more.none (omega arith);
      }
    where
      there : (n : ℕ) → one.count ≤ n → stepped next mid (n - one.count) ≡ stepped next from n
      there n after_first =
          let same : one.count + (n - one.count) ≡ n = omega arith in
          cc (one.now, stepped-joined next from told one.count (n - one.count))

      first : (n : ℕ) → n < one.count → watched_at set marks (stepped next from n) ≡ None
      first n less = let so_many = one.steps in grind (arith, nat_tests, watched.before n, watched.last n)

-- ---- a stretch

watched-played : (set : Parts) (marks : Option (List ℕ)) (all : Accumulators) (lines : List (List ℕ)) (now : Moment BoardView)
    → watched_at set marks (played_now all lines now) ≡ watched_at set marks now
watched-played set marks all lines now = search (rules, surroundings-played)

pub stretch-watched : {old mid : BoardStanding} {until begun : ℕ} {stop : Option Stop} {told after : Option (List PastStep)}
    (burst : BurstsQuietly old until mid stop begun) (still : IsStill old mid until burst.tries)
    (bare : IsNoted (eventless_step (by_view old.set)) until old.now mid.now told after) (marks : Option (List ℕ)) (met : Option Access)
    (steps : ℕ) → IsWatched old.set marks (eventless_step (by_view old.set)) old.now mid.now.steps met → steps ≡ mid.now.steps
    → IsWatched old.set marks (step (by_view old.set)) old.now steps met
stretch-watched {old} {mid} {until} burst still bare marks met steps watched same = record {
  before = λ n few. alike n (omega arith) ∙ watched.before n (omega arith);
  last = λ n few. alike n (omega arith) ∙ watched.last n (omega arith);
  none = λ few. watched.none (omega arith);
}
  where
    alike : (n : ℕ) → old.now.steps + suc n ≤ mid.now.steps
        → watched_at old.set marks (stepped (step (by_view old.set)) old.now n)
        ≡ watched_at old.set marks (stepped (eventless_step (by_view old.set)) old.now n)
    alike n few =
        let within = burst-within burst still bare in
        let so_many = bare.steps in
        let there = told-at burst still n (omega arith) in
        let now = (burst_at old until n).now in
        cc (
          there.whole,
          there.laid.now,
          there.bare,
          watched-played old.set marks (voices_after old there.laid.count) (lines_after old (lines_to old now.time)) now,
        )
