-- The laws, by the files of src/laws that state them.
use Rattle.pac_board_model.proofs.Agreed.{runs-agree}
use Rattle.pac_board_model.proofs.Forgotten.{picture-is-forgotten}
use Rattle.pac_board_model.proofs.HostKeeps.{hosts-are-line-exact, lines-placed, lines-timed, pictures-are-line-exact}
use Rattle.pac_board_model.proofs.Outputs.{frames-sampled, outputs-of-history, resumed-outputs}
use Rattle.pac_board_model.proofs.HostCarried.{hosts-agree, steps-agree}
use Rattle.pac_board_model.proofs.MemoryAlone.{memory-decides}
use Rattle.pac_board_model.proofs.Resumed.{plays-join, runs-are-continued, runs-begin}
use Rattle.pac_board_model.proofs.Runs.{runs-are-joined, runs-end, runs-go-by-frames}
use Rattle.pac_board_model.proofs.Told.{view-answers, view-tells}
use Rattle.pac_board_model.proofs.Walks.{walks-end, walks-go-on, walks-join}

pub ruleset history = (hosts-agree, runs-agree, steps-agree, view-answers, view-tells)

pub ruleset outputs = (frames-sampled, hosts-are-line-exact, outputs-of-history, pictures-are-line-exact, lines-timed, lines-placed)

pub ruleset resumed = (plays-join, resumed-outputs, runs-are-continued, runs-begin)

pub ruleset walks = (memory-decides, picture-is-forgotten, runs-are-joined, runs-end, runs-go-by-frames, walks-end, walks-go-on, walks-join)
