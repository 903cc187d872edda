-- The block of the handle's board: the handle was looked at, its board was lent, and the call was made on that.
use Rattle.pac_live.proofs.Common.{PacLive, ap, inl, live_with_board}

pub returns : Rattle.pac_live.proofs.live_calls.give.Goals.returns
returns c =
    let looked = c.in_ok-check_open.ensures in
    inl (record {
      is_open = looked.handle;
      handle = ap (λ (live : PacLive). live_with_board live c.give_block.new.board) looked.same;
      made = rw (← looked.same, ← c.board.ensures.value) c.give_block.ensures;
    })
