-- Law: a host that plays frame by frame, what it hears and what it sees, and the laws of its film, each proved on a public
-- function of the crate.
use Rattle.std.specs.Prelude.{◌≡◌, ◌≤◌, ℕ, zero, suc, ℤ, ◌+◌, List, [], ◌∷◌, ◌++◌, map, take, length, slice_index}
use Rattle.pac_board_model.specs.Trace.{Play, by_history, trace}
use Rattle.pac_board.specs.BoardView.{power_on_board_view}
use Rattle.pac_board.specs.Step.{frame_samples}
use Rattle.pac_board.specs.Output.{Output, Image, Sound, Show}
use Rattle.pac_board.specs.PlacedItems.{Item, AllLie}
use Rattle.pac_board.specs.State.{frame_microseconds, most_asked}
use Rattle.pac_state.specs.Block.{IsBlock}
use Rattle.pac_state.specs.Reading.{bytes_at_place, saved_word_at, saved_double_word_at, saved_long_word_at, state_in}
use Rattle.pac_block.specs.declared.ran.PacRan.{PacRan}
use Rattle.pac_block.specs.Codes.{Answers}
use Rattle.pac_block.specs.Host.{roms_size, set_of_roms, asked_in, board_holding, samples_given, rgba_of, rgba_size}
use Rattle.pac_block.specs.Host.{Inits, Becomes, Execs, Draws}
use Rattle.pac_block.specs.HostLaws.{IsNotBehind}

-- ---- a host

-- what a host keeps from frame to frame: the board's block, its buffers for samples and for a picture, and the 32 bytes that tell of
-- the last call for some time
pub record Player : Type 0 where
  pub block : List ℕ
  pub samples : List ℤ
  pub told : List ℕ
  pub rgba : List ℕ

-- the mask of all 16 inputs
abbrev pub all_inputs : ℕ
all_inputs = 0xFFFF

-- The three calls of a frame, each with the code that it answers: all inputs are let go and those of the frame are held, the time of a
-- frame goes by, and the picture is drawn.
pub record FrameCalls (roms : List ℕ) (inputs : ℕ) (hold_code exec_code draw_code : ℕ) (old new : Player) : Type 0 where
  pub between : List ℕ
  pub hold : Answers (λ answer. Becomes (board_holding inputs all_inputs) old.block answer between) hold_code
  pub exec :
      Answers (λ answer. Execs roms between frame_microseconds old.samples old.told answer new.block new.samples new.told) exec_code
  pub draw : Answers (λ answer. Draws roms new.block old.rgba answer new.rgba) draw_code

-- a frame is played where each of them was done
abbrev pub IsHostFrame : (roms : List ℕ) (inputs : ℕ) (old new : Player) → Type 0
IsHostFrame roms inputs old new = FrameCalls roms inputs 0 0 0 old new

-- what a host reads in the bytes that it is told
abbrev pub ran_read : List ℕ → PacRan
ran_read told = record {
  ticks = saved_long_word_at 0 told;
  samples = saved_double_word_at 8 told;
  pictures = saved_double_word_at 12 told;
  stop = saved_double_word_at 16 told;
  pc = saved_word_at 20 told;
  bytes = bytes_at_place 22 4 told;
  vector = slice_index told 26;
  zero = slice_index told 27;
}

-- what a host has of the frame then: the samples at the head of its buffer, and a picture, if the frame came to its blank
abbrev pub heard : Player → List ℤ
heard player = take (ran_read player.told).samples player.samples

abbrev pub seen_if : (pictures : ℕ) → List ℕ → List (List ℕ)
seen_if zero rgba = []
seen_if (suc pictures) rgba = rgba ∷ []

abbrev pub seen : Player → List (List ℕ)
seen player = seen_if (ran_read player.told).pictures player.rgba

-- what follows a frame: the frames after it, if no stop was told; and nothing else
abbrev pub FollowedBy : (stop : ℕ) (others : List ℤ → List (List ℕ) → Type 0) → (sound : List ℤ) (pictures : List (List ℕ)) → Type 0
FollowedBy zero others sound pictures = others sound pictures
FollowedBy (suc cause) others sound pictures = (sound ≡ []) × (pictures ≡ [])

-- a frame, and what follows it; all that is heard and seen
pub record FrameThen (roms : List ℕ) (inputs : ℕ) (others : Player → List ℤ → List (List ℕ) → Type 0) (old : Player) (sound : List ℤ)
    (pictures : List (List ℕ))
    : Type 0 where
  pub new : Player
  pub frame : IsHostFrame roms inputs old new
  pub more : List ℤ
  pub others_seen : List (List ℕ)
  pub after : FollowedBy (ran_read new.told).stop (others new) more others_seen
  pub sound_is : sound ≡ heard new ++ more
  pub pictures_are : pictures ≡ seen new ++ others_seen

-- A host plays so many frames from one on, or up to a stop, and this is all that it hears and sees.
abbrev pub PlaysFrames : (roms : List ℕ) (held : ℕ → ℕ) (frame left : ℕ) → Player → List ℤ → List (List ℕ) → Type 0
PlaysFrames roms held frame zero player sound pictures = (sound ≡ []) × (pictures ≡ [])
PlaysFrames roms held frame (suc left) player sound pictures =
    FrameThen roms (held frame) (λ new more others. PlaysFrames roms held (suc frame) left new more others) player sound pictures

-- ---- its film

-- the pictures among outputs
abbrev pub pictures_given : List Output → List Image
pictures_given [] = []
pictures_given (Sound sample ∷ more) = pictures_given more
pictures_given (Show image ∷ more) = image ∷ pictures_given more

-- a picture as `pac_draw` writes it
abbrev pub rgba_of_image : Image → List ℕ
rgba_of_image image = rgba_of image.palette image.lines

-- The samples are those of these outputs, in order, and each picture is theirs.
pub record IsFilm (outputs : List Output) (sound : List ℤ) (pictures : List (List ℕ)) : Type 0 where
  pub sound_is : sound ≡ samples_given outputs
  pub pictures_are : pictures ≡ map rgba_of_image (pictures_given outputs)

-- A host that plays a script from power-on, frame by frame, hears the samples and sees the pictures of the script's trace: no sample
-- and no picture more or less. The trace is that of the instructions at the places of any source whose items lie in the program.
abbrev pub HostsPlayTheFilm : Type 0
HostsPlayTheFilm =
    (roms : List ℕ) (items : List Item) (switches : ℕ) (play : Play) (block : List ℕ) (player : Player) (sound : List ℤ)
    (pictures : List (List ℕ))
    → AllLie (set_of_roms roms).program items
    → Answers (λ answer. Inits roms switches block answer player.block) 0
    → PlaysFrames roms play.held 1 play.frames player sound pictures
    → IsFilm (trace (by_history (set_of_roms roms) items (power_on_board_view switches)) play []).outputs sound pictures

-- ---- none of its calls fails

-- what a host hands in beside its board: ROMs of their length, room for two samples more than a frame has, and for a picture
pub record HasRoom (roms : List ℕ) (player : Player) : Type 0 where
  pub roms_are : length roms ≡ roms_size
  pub samples : frame_samples + 2 ≤ length player.samples
  pub rgba : length player.rgba ≡ rgba_size

-- a block between two frames: its board isn't behind
pub record IsBetweenFrames (block : List ℕ) : Type 0 where
  pub block_is : IsBlock block
  pub in_time : IsNotBehind (state_in block)

-- each call answered 0, and the board stands between two frames again, or at its stop
pub record IsFrameAnswered (hold_code exec_code draw_code : ℕ) (new : Player) : Type 0 where
  pub hold : hold_code ≡ 0
  pub exec : exec_code ≡ 0
  pub draw : draw_code ≡ 0
  pub goes_on : IsBetweenFrames new.block

-- So a host that has room, and plays from power-on on, never gets another code than 0 until 35 years were asked, also after a stop.
pub record FramesAreDone (roms : List ℕ) : Type 0 where
  pub first : (switches : ℕ) (old new : List ℕ) → Answers (λ answer. Inits roms switches old answer new) 0 → IsBetweenFrames new
  pub each : (inputs hold_code exec_code draw_code : ℕ) (old new : Player) → HasRoom roms old → IsBetweenFrames old.block
      → asked_in old.block + frame_microseconds ≤ most_asked → FrameCalls roms inputs hold_code exec_code draw_code old new
      → IsFrameAnswered hold_code exec_code draw_code new

abbrev pub AllFramesAreDone : Type 0
AllFramesAreDone = (roms : List ℕ) → FramesAreDone roms
