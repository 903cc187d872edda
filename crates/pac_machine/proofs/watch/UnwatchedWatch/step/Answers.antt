-- Nothing is met where nothing is watched.
use Rattle.pac_machine.proofs.Common.{cpu_step, map_after_action, map_byte_at, map_input_at, surroundings_of, sym}
use Rattle.pac_machine.proofs.Watched.{unwatched}

pub returns-clause-met : Rattle.pac_machine.proofs.watch.UnwatchedWatch.step.Goals.returns-clause-met
returns-clause-met c =
    let seen = surroundings_of map_byte_at map_input_at map_after_action c.args.map.now in
    λ none. sym (unwatched seen c.args.cpu.now c.args.request (cpu_step seen c.args.cpu.now c.args.request))
