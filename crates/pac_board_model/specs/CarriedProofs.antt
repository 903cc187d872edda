-- For proofs: what proofs say of the definitions of Carried.antt.
use Rattle.pac_board_model.specs.Step.{Questions}
use Rattle.pac_map.specs.Entry.{Entry}
use Rattle.std.specs.Prelude.{ℕ, ◌≡◌}

pub record Carries {From To : Type 0} (view : From → To) (ask : Questions From) (told : Questions To) : Type 0 where
  pub put : (board : From) (entry : Entry) → view (ask.put board entry) ≡ told.put (view board) entry
  pub read : (board : From) (address : ℕ) → ask.read board address ≡ told.read (view board) address
  pub instruction : (board : From) (address : ℕ) → ask.instruction board address ≡ told.instruction (view board) address
  pub request : (board : From) → ask.request board ≡ told.request (view board)
  pub sample : (board : From) → ask.sample board ≡ told.sample (view board)
  pub image : (board : From) → ask.image board ≡ told.image (view board)
  pub is_due : (board : From) → ask.is_due board ≡ told.is_due (view board)
