-- What the text of the DIP switches reads as.
use Rattle.pac_run_options.proofs.Common.{Accepts-accepts, Bool, Err, Found, IsNumeral, List, None, Option, ParsesUnsigned, ReadsOne}
use Rattle.pac_run_options.proofs.Common.{Result, Some, accepts-Accepts, ap, arith, byte_of_text, cond, digits_value, false, is_unsigned_in}
use Rattle.pac_run_options.proofs.Common.{one_of, one_text, one_text-rows, option_and_then, refl, rows_of, sym, true, without_leading_plus}
use Rattle.pac_run_options.proofs.Common.{ℕ, ◌<◌, ◌^◌, ◌∙◌, ◌≡◌}
use Rattle.clap.specs.declared.builder.value_parser.ValueParser.TheVariants as parser

is_byte : (text : List ℕ) → IsNumeral 10 (without_leading_plus text) → digits_value 10 (without_leading_plus text) < 2 ^ 8
    → is_unsigned_in 0 255 text ≡ true
is_byte text numeral small = Accepts-accepts false (parser.Unsigned 0 255) text (numeral, omega arith, omega arith, omega arith)

-- what u8 reads from a text
pub read_is : {E : Type 0} (gives : List ℕ → Result ℕ E → Type 0) (text : List ℕ) (r : Option ℕ)
    → ((u : List ℕ) (x : Result ℕ E) → gives u x → ParsesUnsigned 8 10 u x) → ReadsOne gives text r → r ≡ byte_of_text text
read_is gives text (Some v) only h = grind (arith, is_byte)
read_is gives text None only h = go (is_unsigned_in 0 255 text) refl
  where
    go : (b : Bool) → is_unsigned_in 0 255 text ≡ b → None ≡ cond b (Some (digits_value 10 (without_leading_plus text))) None
    go false e = refl
    go true e =
        let in_range = accepts-Accepts false (parser.Unsigned 0 255) text e in
        absurd (only text (Err h.0) h.1 (in_range.0, omega (arith, in_range.3)))

-- what the rows say where u8 was read from the first value
pub dip_read : {E : Type 0} (f : Found) (id : List ℕ) (gives : List ℕ → Result ℕ E → Type 0) (r : Option ℕ)
    → (one_text f id ≡ None → r ≡ None) → ((t : List ℕ) → one_text f id ≡ Some t → ReadsOne gives t r)
    → ((u : List ℕ) (x : Result ℕ E) → gives u x → ParsesUnsigned 8 10 u x) → option_and_then byte_of_text (one_of id (rows_of f)) ≡ r
dip_read f id gives r none given only = ap (option_and_then byte_of_text) (sym (one_text-rows f id)) ∙ go (one_text f id) refl
  where
    go : (o : Option (List ℕ)) → one_text f id ≡ o → option_and_then byte_of_text o ≡ r
    go None e = sym (none e)
    go (Some t) e = sym (read_is gives t r only (given t e))
