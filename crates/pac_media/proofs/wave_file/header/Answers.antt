use Rattle.pac_media.proofs.Common.{refl, wav_header}

pub returns : Rattle.pac_media.proofs.wave_file.header.Goals.returns
unfolding wav_header
returns c =
    rw (c.to_le_bytes.ensures, c.to_le_bytes-2.ensures, c.to_le_bytes-3.ensures, c.to_le_bytes-4.ensures, c.to_le_bytes-5.ensures)
    refl
