-- Law: how many opcodes the manual documents: 698, by the prefix under which they stand (Zilog Z80 CPU User Manual
-- UM0080, "Z80 Instruction Set").
use Rattle.std.specs.Prelude.{◌≡◌, ℕ, zero, suc, ◌+◌, ◌==◌, Bool, ◌&&◌, if◌then◌else◌}
use Rattle.std.specs.List.{list_any}
use Rattle.pac_table.specs.declared.patterns.Page.{Page}
use Rattle.pac_table.specs.declared.patterns.Page.TheVariants as page
use Rattle.pac_table.specs.declared.table.Row.{Row}
use Rattle.pac_table.specs.Patterns.{is_opcode}
use Rattle.pac_table.specs.Table.{table}

-- a number for each page, to compare pages by
abbrev pub page_number : Page → ℕ
page_number page.Plain = 0
page_number page.Cb = 1
page_number page.Ed = 2
page_number page.Dd = 3
page_number page.Fd = 4
page_number page.DdCb = 5
page_number page.FdCb = 6

-- whether a row stands on a page and a byte is its opcode byte
abbrev pub is_on_page : Page → ℕ → Row → Bool
is_on_page page byte row = page_number row.pattern.page == page_number page && is_opcode row.pattern byte

-- whether a row takes an opcode byte of a page
abbrev pub is_documented : Page → ℕ → Bool
is_documented page byte = list_any (is_on_page page byte) table

-- how many numbers below a limit pass
abbrev pub count_below : (ℕ → Bool) → ℕ → ℕ
count_below test zero = 0
count_below test (suc n) = (if test n then 1 else 0) + count_below test n

abbrev pub opcode_count : Page → ℕ
opcode_count page = count_below (is_documented page) 256

-- the opcodes of each page, 698 together
pub record CountsOpcodes : Type 0 where
  pub plain : opcode_count page.Plain ≡ 252
  pub cb : opcode_count page.Cb ≡ 248
  pub ed : opcode_count page.Ed ≡ 58
  pub dd : opcode_count page.Dd ≡ 39
  pub fd : opcode_count page.Fd ≡ 39
  pub dd_cb : opcode_count page.DdCb ≡ 31
  pub fd_cb : opcode_count page.FdCb ≡ 31
