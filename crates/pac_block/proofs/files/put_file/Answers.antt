-- The file fills the buffer, which has its size.
use Rattle.pac_block.proofs.Common.{HostBuffer, List, Result, Saves, WriteFault, arith, body, buffer_refused, buffer_took, file-size}
use Rattle.pac_block.proofs.Common.{length, length-take-le, refl, sealed_file, state_of, sym, take_all, written_version, ℕ, ◌∙◌, ◌≡◌}

-- there is room for all of it, so nothing is refused
filled : {A : Type 0} (text : List ℕ) (result : Result A WriteFault) (old new : HostBuffer) (left : List ℕ) → old.taken ≡ 0
    → length text ≡ length old.bytes.now → Saves buffer_took buffer_refused old text result new
    → (old.bytes.ghost_name ≡ new.bytes.ghost_name → left ≡ new.bytes.now) → left ≡ text
filled text result old new left head long saves ends = grind (arith, length-take-le, take_all)

pub returns : Rattle.pac_block.proofs.files.put_file.Goals.returns
returns c =
    let state = state_of c.args.fields.now in
    let digest = c.args.digest.now in
    let size = file-size digest state c.told-digest c.fields_have_states.ensures in
    filled (sealed_file (body written_version digest state)) c.save_fields.result _ c.save_fields.new.out _ refl
    (size ∙ sym c.requires.size) c.save_fields.ensures assumption
