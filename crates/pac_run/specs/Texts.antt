-- Believed: the four texts of a run: the images of its pictures, its sound, the listing and the report.
use Rattle.std.specs.Prelude.{ℕ, ℤ, pos, ◌*◌, ◌-◌, length, replicate, Option, None, Some, slice_index, List, [], ◌∷◌, ◌++◌, codes, decimal}
use Rattle.std.specs.List.{flat_map}
use Rattle.pac_listing.specs.Hexadecimal.{hex_byte, hex_word}
use Rattle.pac_media.specs.Pieces.{joined_pieces}
use Rattle.pac_board_course.specs.Stop.{Stop}
use Rattle.pac_board_course.specs.Cause.{Cause}
use Rattle.pac_board_course.specs.CauseVariants.{Opcode, Vector}
use Rattle.pac_media.specs.Images.{ppm_of}
use Rattle.pac_media.specs.Samples.{wav_header, sample_text, samples_text}
use Rattle.pac_board_course.specs.Step.{frame_samples}
use Rattle.pac_board_course.specs.Output.{Output, Sound, Show}
use Rattle.pac_board_course.specs.declared.outcome.Outcome.{Outcome}

-- the bytes of an output: of a picture among the images, and of a sample in the sound
abbrev pub image_bytes : Output → List ℕ
image_bytes (Show image) = ppm_of image.lines image.palette
image_bytes (Sound sample) = []

abbrev pub sample_bytes : Output → List ℕ
sample_bytes (Sound sample) = sample_text sample
sample_bytes (Show image) = []

-- the samples among outputs, in order
abbrev pub samples_in : List Output → List ℤ
samples_in [] = []
samples_in (Sound sample ∷ more) = sample ∷ samples_in more
samples_in (Show image ∷ more) = samples_in more

-- the images of the pictures, one after another
abbrev pub images_text : List Output → List ℕ
images_text outputs = flat_map image_bytes outputs

-- the bytes of so many samples: after a stop zeros stand in for those that never came
abbrev pub sound_text : ℕ → List Output → List ℕ
sound_text count outputs = samples_text (samples_in outputs ++ replicate (count - length (samples_in outputs)) (pos 0))

-- a wave file of so many frames
abbrev pub wave_file_text : ℕ → List Output → List ℕ
wave_file_text frames outputs = wav_header (frame_samples * frames) ++ sound_text (frame_samples * frames) outputs

-- a wave file as far as these outputs go, without the zeros after them
abbrev pub wave_so_far : ℕ → List Output → List ℕ
wave_so_far frames outputs = wav_header (frame_samples * frames) ++ samples_text (samples_in outputs)

-- how a run ended: done, or at a stop with its bytes, or with the vector byte that is no RST
abbrev pub cause_text : ℕ → List ℕ → Cause → List ℕ
cause_text pc bytes Opcode =
    joined_pieces (codes "stop S1 at " ∷ hex_word pc ∷ codes " bytes " ∷ hex_byte (slice_index bytes 0) ∷ codes " "
    ∷ hex_byte (slice_index bytes 1)
    ∷ codes " " ∷ hex_byte (slice_index bytes 2) ∷ codes " " ∷ hex_byte (slice_index bytes 3) ∷ codes "\n" ∷ [])
cause_text pc bytes (Vector vector) =
    joined_pieces (codes "stop S2 at " ∷ hex_word pc ∷ codes " byte " ∷ hex_byte vector ∷ codes "\n" ∷ [])

abbrev pub end_text : Option Stop → List ℕ
end_text None = codes "end done\n"
end_text (Some stop) = cause_text stop.pc stop.bytes stop.cause

-- the frames shown of those asked for, the steps and the T-states
abbrev pub counts_text : ℕ → ℕ → ℕ → ℕ → List ℕ
counts_text shown total steps ticks =
    joined_pieces (codes "frames " ∷ decimal shown ∷ codes " of " ∷ decimal total ∷ codes "\nsteps " ∷ decimal steps ∷ codes " ticks "
    ∷ decimal ticks ∷ codes "\n" ∷ [])

-- the report of what a run of so many frames came to
abbrev pub report : Outcome → ℕ → List ℕ
report outcome total = counts_text outcome.frames total outcome.steps outcome.ticks ++ end_text outcome.stop
