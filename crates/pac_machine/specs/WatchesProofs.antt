-- For proofs: the board's bus, where each write is looked at.
use Rattle.std.specs.Prelude.{ℕ, not, is_some, ◌&&◌, Option, Some, if◌then◌else◌}
use Rattle.pac_cpu.specs.Action.{Action, Write, Output}
use Rattle.pac_map.specs.ContentsProofs.{map_byte_at, map_input_at, map_after_action}
use Rattle.pac_machine.specs.declared.watch.WatchedBus.{WatchedBus}
use Rattle.pac_machine.specs.declared.watch.Access.{Access}
use Rattle.pac_machine.specs.declared.watch.Access.TheVariants as access
use Rattle.pac_machine.specs.Watches.{watches_writes}

-- the write that is kept once this one has come
abbrev pub looked_at : WatchedBus → (address byte : ℕ) → Option Access
looked_at bus address byte =
    if watches_writes (Some bus.marks.now) address && not (is_some bus.met)
    then Some (access.Write address (map_byte_at bus.map.now address) byte)
    else bus.met

abbrev pub watched_byte_at : WatchedBus → ℕ → ℕ
watched_byte_at bus address = map_byte_at bus.map.now address

abbrev pub watched_input_at : WatchedBus → ℕ → ℕ
watched_input_at bus port = map_input_at bus.map.now port

-- the write that is kept after an action
abbrev pub met_after : WatchedBus → Action → Option Access
met_after bus (Write address byte) = looked_at bus address byte
met_after bus (Output port byte) = bus.met

abbrev pub watched_after_action : WatchedBus → Action → WatchedBus
watched_after_action bus action =
    record bus { map = record bus.map { now = map_after_action bus.map.now action }; met = met_after bus action }
