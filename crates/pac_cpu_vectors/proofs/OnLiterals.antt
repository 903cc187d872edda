-- A name that opens all that the definition of a step is made of, for a proof that computes it on a literal.
use Rattle.pac_cpu_vectors.proofs.Common.{accumulator_rotation_of, arithmetic_of, bit_operation_effect, bit_test_of, byte_arithmetic_effect}
use Rattle.pac_cpu_vectors.proofs.Common.{byte_load_effect, call_effect, carry_flipped_of, carry_set_of, complement_of, control_effect}
use Rattle.pac_cpu_vectors.proofs.Common.{control_load_flags_of, copy_flags_of, cpu_step, decimal_of, decrement_of, difference_of}
use Rattle.pac_cpu_vectors.proofs.Common.{effect_by, exchange_effect, field_condition, field_operation, field_shift, increment_of}
use Rattle.pac_cpu_vectors.proofs.Common.{input_flags_of, is_met, jump_effect, left_digits_of, logic_of, negation_of, port_effect}
use Rattle.pac_cpu_vectors.proofs.Common.{port_flags_of, right_digits_of, rotate_and_shift_effect, row_at, row_of, search_flags_of}
use Rattle.pac_cpu_vectors.proofs.Common.{shift_of, sum_of, table, with_bit, without_bit, word_arithmetic_effect}
use Rattle.pac_cpu_vectors.proofs.Common.{word_difference_with_carry_of, word_load_effect, word_sum_of, word_sum_with_carry_of, ⊤}
use lib.Count.{ones}

unfoldable pub step_on_literals : ⊤
unfolding ones table row_at row_of effect_by control_effect byte_load_effect word_load_effect exchange_effect byte_arithmetic_effect
    word_arithmetic_effect rotate_and_shift_effect bit_operation_effect jump_effect call_effect port_effect sum_of difference_of logic_of
    field_operation arithmetic_of increment_of decrement_of negation_of complement_of carry_set_of carry_flipped_of decimal_of bit_test_of
    with_bit without_bit word_sum_of word_sum_with_carry_of word_difference_with_carry_of field_shift shift_of accumulator_rotation_of
    left_digits_of right_digits_of input_flags_of control_load_flags_of copy_flags_of search_flags_of port_flags_of field_condition is_met
    cpu_step
step_on_literals = tt
