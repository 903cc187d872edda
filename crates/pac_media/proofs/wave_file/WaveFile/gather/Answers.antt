use Rattle.std.proofs.Common.{refl}
use Rattle.pac_media.proofs.Gathered.{gains-waiting}

pub returns-then-keep-clause-put : Rattle.pac_media.proofs.wave_file.WaveFile.gather.Goals.returns-then-keep-clause-put
returns-then-keep-clause-put g c = gains-waiting c.self.view_is refl c.if-keep.ensures.kept
