-- Believed: the text of a wave file: RIFF WAVE with PCM samples (IBM and Microsoft, "Multimedia Programming Interface and
-- Data Specifications 1.0"), here on one plane, 96,000 of 16 bits a second. All numbers stand low byte first.
use Rattle.std.specs.Prelude.{ℕ, ℤ, ◌+◌, ◌*◌, List, [], ◌∷◌, codes}
use Rattle.std.specs.List.{flat_map}
use Rattle.std.specs.Int.{w16, w32, to_le_bytes, cast_unsigned}
use Rattle.pac_out.specs.Pieces.{joined_pieces}

-- the samples of a second, and the bytes of a sample
abbrev pub rate : ℕ
rate = 96000

abbrev pub sample_size : ℕ
sample_size = 2

-- the bytes of the file that follow its own size: 36 of the header and then the samples
abbrev pub riff_size : ℕ → ℕ
riff_size samples = 36 + sample_size * samples

-- the header of a file of so many samples, and how many bytes it has
abbrev pub header_size : ℕ
header_size = 44

unfoldable pub wav_header : ℕ → List ℕ
wav_header samples =
    joined_pieces
    (codes "RIFF" ∷ to_le_bytes w32 (riff_size samples) ∷ codes "WAVE"
    -- 16 bytes of the format: PCM, which is 1, and one plane; samples and bytes a second; bytes and bits of a sample
    ∷ codes "fmt " ∷ to_le_bytes w32 16
    ∷ to_le_bytes w16 1 ∷ to_le_bytes w16 1
    ∷ to_le_bytes w32 rate ∷ to_le_bytes w32 (sample_size * rate)
    ∷ to_le_bytes w16 sample_size ∷ to_le_bytes w16 16
    ∷ codes "data" ∷ to_le_bytes w32 (sample_size * samples) ∷ [])

-- a sample, in two's complement
abbrev pub sample_text : ℤ → List ℕ
sample_text sample = to_le_bytes w16 (cast_unsigned w16 sample)

-- samples one after another
abbrev pub samples_text : List ℤ → List ℕ
samples_text samples = flat_map sample_text samples
