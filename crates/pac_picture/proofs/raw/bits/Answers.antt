use Rattle.pac_picture.proofs.Common.{arith, below_more, bit_or, get_or, le_or_l, le_or_r, or_lt, ◌<◌}

pub loop-number-preserved : Rattle.pac_picture.proofs.raw.bits.Goals.loop-number-preserved
loop-number-preserved c =
    let before = c.loop-number.bits in
    let number = get_or c.args.numbers.now c.loop-number.number-index 0 in (
      (λ (all : bit_or before number < 16).
          let left = le_or_l before number in
          let right = le_or_r before number in
          let first : before < 16 = omega (arith, all, left) in
          let last : number < 16 = omega (arith, all, right) in
          below_more (λ i. get_or c.args.numbers.now i 0 < 16) c.loop-number.number-index (c.loop-number.invariant.0 first) last),
      (λ below. or_lt 4 before number
          (c.loop-number.invariant.1 (λ i inside. below i (omega (arith, inside)))) (below c.loop-number.number-index (omega arith))),
    )
