-- The block of a file's board.
use Rattle.pac_block.proofs.Common.{BoardState, BoardValue, Bool, Err, Fields, FindsFields, HasLoaded, IsBlockOf, IsState, List, LoadFails}
use Rattle.pac_block.proofs.Common.{LoadFault, NoFile, Ok, Parts, accepts, ap, arith, block_text, false, get_or, if◌then◌else◌, length}
use Rattle.pac_block.proofs.Common.{loaded_board, recomposed_state, refl, roms_size, rules, set_of_roms, state_in, state_of, subst, true}
use Rattle.pac_block.proofs.Common.{upgraded_board, upgraded_state, version_in, ℕ, ◌<◌, ◌==◌, ◌∙◌, ◌≡◌}
use Rattle.pac_block.proofs.Becoming.{block-of}
use Rattle.pac_block.proofs.Recomposing.{recomposed-is-state}

upgraded-is : (set : Parts) (version : ℕ) (state : BoardState)
    → upgraded_state set version state ≡ (upgraded_board version (record { set = set; state = state; made = 0 })).state
upgraded-is set version state = search rules

upgraded-is-state : (set : Parts) (version : ℕ) (state : BoardState) → IsState state → IsState (upgraded_state set version state)
upgraded-is-state set version state is = either (version == 1)
  where
    either : (is_old : Bool) → IsState (if is_old then recomposed_state set state else state)
    either true = recomposed-is-state _ _ _ _ (omega arith) is
    either false = is

-- the block of the state that is left is that of the file's board
pub loaded : (roms text new : List ℕ) (fields : Fields) → length roms ≡ roms_size → ((i : ℕ) → get_or text i 0 < 256)
    → FindsFields (set_of_roms roms) text (Ok fields) → IsState (state_of fields)
    → new ≡ block_text (upgraded_state (set_of_roms roms) (version_in text) (state_of fields)) → HasLoaded roms text new
loaded roms text new fields sized fits found is written =
    let set = set_of_roms roms in
    let version = version_in text in
    let read = accepts set text fits (Ok (loaded_board set text)) (record { sound = found.sound; text = found.text; board = refl }) in
    let same : upgraded_state set version (state_of fields) ≡ (loaded_board set text).state =
    ap (upgraded_state set version) found.state ∙ upgraded-is set version (state_in text) in
    let block = block-of (upgraded_state set version (state_of fields)) new (upgraded-is-state set version (state_of fields) is) written in
    record {
      roms_are = sized;
      file = read.file;
      board = λ file. subst (λ state. IsBlockOf state new) (same ∙ ap (λ (board : BoardValue). board.state) (read.board file)) block;
    }

pub not-loaded : (roms text : List ℕ) (fault : LoadFault) → length roms ≡ roms_size → ((i : ℕ) → get_or text i 0 < 256)
    → FindsFields (set_of_roms roms) text (Err fault) → LoadFails roms text (NoFile fault)
not-loaded roms text fault sized fits found =
    let set = set_of_roms roms in
    (sized, found.refuses, found.of_file, accepts set text fits (Err fault) (record { refuses = found.refuses; of_file = found.of_file }))
