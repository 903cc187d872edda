-- A token has a byte at least.
use Rattle.pac_lex.proofs.Common.{List, begins, is_ascii_alphanumeric, is_ascii_digit, is_name_byte, is_name_start, prefix_len, rules, true}
use Rattle.pac_lex.proofs.Common.{ℕ, ◌<◌, ◌≡◌}

pub name-has-bytes : (bytes : List ℕ) → begins is_name_start bytes ≡ true → 0 < prefix_len is_name_byte bytes
name-has-bytes bytes e = search rules

pub number-has-bytes : (bytes : List ℕ) → begins is_ascii_digit bytes ≡ true → 0 < prefix_len is_ascii_alphanumeric bytes
number-has-bytes bytes e = search rules

pub ruleset tokens_have_bytes = (name-has-bytes, number-has-bytes)
