use Rattle.pac_media.proofs.Common.{Sound, ap, arith, err_from_is_err_and, length, refl, ◌+◌, ◌∙◌, ◌≤◌}
use Rattle.pac_media.proofs.Gathered.{fails-within, gains-nothing, gains-joined, gains-waiting, delivered-gains}
use Rattle.pac_media.proofs.wave_file.WaveFile.make_room.Goals as goal

pub returns-in_err-flush-clause-put : goal.returns-in_err-flush-clause-put
returns-in_err-flush-clause-put g c =
    let told = err_from_is_err_and c.from_residual.result c.from_residual.ensures.1 in
    rw (told.1, told.2) (fails-within (gains-nothing c.args.self.now) c.in_err-flush.ensures.written c.args.bytes.now)

pub returns-clause-put : goal.returns-clause-put
returns-clause-put g c =
    let written = c.in_ok-flush.ensures.written in
    let none = ap (λ (sound : Sound g.row.W.Denot). length sound.waiting) c.self.view_is ∙ ap length written.none_waits in
    let room : length c.self.inside.waiting.items + length c.args.bytes.now ≤ 8192 = omega (arith, none, c.fits-bytes) in
    gains-joined (delivered-gains written) (gains-waiting c.self.view_is refl (rw (c.keep.ensures.room room) at c.keep.ensures.kept))
