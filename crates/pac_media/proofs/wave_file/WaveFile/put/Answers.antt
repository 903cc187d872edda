use Rattle.pac_media.proofs.Common.{ap, sample_text, to_z-of_z, w16, ◌∙◌}
use Rattle.pac_media.proofs.Gathered.{gains-owed}

pub returns-clause-put : Rattle.pac_media.proofs.wave_file.WaveFile.put.Goals.returns-clause-put
returns-clause-put g c =
    gains-owed c.self-2.view_is (c.bytes_of.ensures ∙ ap sample_text (to_z-of_z w16 c.args.sample c.ranges.sample))
    c.in_ok-gather.ensures.put
