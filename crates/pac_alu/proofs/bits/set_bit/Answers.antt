-- A byte whose bit is 0 has room for the bit's weight.
use Rattle.std.proofs.Common.{◌≡◌, ◌+◌, ◌/◌, ◌%◌, ◌^◌, ◌<◌, ℕ, zero, suc, arith}

has-room : (byte place : ℕ) → byte < 256 → place < 8 → byte / 2 ^ place % 2 ≡ 0 → byte + 2 ^ place < 256
has-room byte zero fits below clear = omega arith
has-room byte (suc zero) fits below clear = omega arith
has-room byte (suc (suc zero)) fits below clear = omega arith
has-room byte (suc (suc (suc zero))) fits below clear = omega arith
has-room byte (suc (suc (suc (suc zero)))) fits below clear = omega arith
has-room byte (suc (suc (suc (suc (suc zero))))) fits below clear = omega arith
has-room byte (suc (suc (suc (suc (suc (suc zero)))))) fits below clear = omega arith
has-room byte (suc (suc (suc (suc (suc (suc (suc zero))))))) fits below clear = omega arith
has-room byte (suc (suc (suc (suc (suc (suc (suc (suc place)))))))) fits below clear = absurd (omega arith)

pub overflow_add-result : Rattle.pac_alu.proofs.bits.set_bit.Goals.overflow_add-result
overflow_add-result c = grind (arith, has-room)
