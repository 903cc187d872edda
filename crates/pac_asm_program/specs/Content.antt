-- For proofs: what stands at an address, as it is held and as its bytes are lent.
use Rattle.pac_asm_program.specs.declared.content.Held.{Held}
use Rattle.pac_asm_program.specs.declared.content.Held.TheVariants as held
use Rattle.std.specs.Prelude.{ℕ, List}
use Rattle.pac_asm_program.specs.declared.content.Lent.{Lent}
use Rattle.pac_asm_program.specs.declared.content.Lent.TheVariants as lent
use Rattle.pac_code.specs.Items.{Content, Code, Data}

abbrev pub content_held : Held → Content
content_held (held.Code instruction) = Code instruction
content_held (held.Data bytes) = Data bytes.items

-- the bytes of a content, as they are lent
abbrev pub bytes_lent : Lent → List ℕ
bytes_lent (lent.Code code) = code
bytes_lent (lent.Data bytes) = bytes.now
