use Rattle.pac_asm_program.proofs.Common.{List, ap, arith, bytes_in, bytes_of, get_or, get_or-take, length, length-take-le, rom_size, take}
use Rattle.pac_asm_program.proofs.Common.{ℕ, ◌+◌, ◌-◌, ◌∙◌, ◌≡◌, ◌≤◌}
use Rattle.pac_asm_program.proofs.WrittenOver.{written-over, left-as-it-is}
use borrow.Rule.Slice.PartMut.{put_mid}
use Rattle.pac_asm_program.proofs.rom.put.Goals as goal

pub returns-then-at-lt-ROM_SIZE : goal.returns-then-at-lt-ROM_SIZE
returns-then-at-lt-ROM_SIZE c =
    let item = c.args.item.now in
    let old = c.args.rom.now in
    let ys = c.copy_from_slice.new.self in
    let at = c.at-at.result in
    let k = c.min-count.result in
    let from : at ≡ item.at = c.at-at.ensures in
    let lent : c.as_slice-bytes.result.now ≡ bytes_of item =
    c.as_slice-bytes.ensures ∙ c.bytes-bytes.ensures ∙ ap bytes_in c.content.ensures in
    let taken : ys ≡ take k (bytes_of item) = c.copy_from_slice.ensures.after ∙ ap (take k) lent in
    let sizes = ap length lent in
    let part : k ≤ length (bytes_of item) = omega (arith, c.min-count.ensures, sizes) in
    ap (λ n. put_mid n (at + k - at) old ys) from
    ∙ ap (λ n. put_mid item.at n old ys) (omega arith)
    ∙ written-over item old ys k rom_size c.told-rom (omega (arith, c.min-count.ensures, c.if-at-lt-ROM_SIZE.true, from))
    (ap length taken ∙ length-take-le k (bytes_of item) part)
    (λ j below. ap (λ (l : List ℕ). get_or l j 0) taken ∙ get_or-take k (bytes_of item) j 0 below)
    part
    (λ n below past. omega (arith, c.min-count.ensures, sizes, from))

pub returns-else-at-lt-ROM_SIZE : goal.returns-else-at-lt-ROM_SIZE
returns-else-at-lt-ROM_SIZE c =
    left-as-it-is c.args.item.now c.args.rom.now rom_size c.told-rom (omega (arith, c.at-at.ensures, c.if-at-lt-ROM_SIZE.false))
