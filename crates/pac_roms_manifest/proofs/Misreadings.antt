-- What is read, or isn't, in a form of several parts.
use Rattle.pac_roms_manifest.proofs.Common.{Err, Misread, Option, ReadsAs, ReadsValue, Result, option_and_then, rules, ◌≡◌}

-- a part that isn't read leaves the whole unread
pub unread : {A B : Type 0} (result : Result B Misread) (told why : Misread) (form : Option A) (more : A → Option B) → result ≡ Err told
    → told ≡ why → ReadsAs (λ (it : A). it) (Err why) form → ReadsValue result (option_and_then more form)
unread result told why form more is same part = search rules
