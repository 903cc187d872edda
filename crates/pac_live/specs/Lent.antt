-- For proofs: a closed handle that is to be opened.
use Rattle.std.specs.Prelude.{◌≡◌, ◌≢◌, ◌≤◌, ℕ}
use Rattle.pac_live.specs.declared.live.PacLive.{PacLive}
use Rattle.pac_live.specs.LiveMemory.{live_seal, live_size}

-- a closed handle that is lent memory enough, and is to be opened
pub record IsLent (live : PacLive) (seal : ℕ) : Type 0 where
  pub closed : live.seal ≢ live_seal
  pub size : live_size ≤ live.size
  pub seal_is : seal ≡ live_seal
