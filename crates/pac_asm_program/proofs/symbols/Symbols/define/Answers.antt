use Rattle.pac_asm_program.proofs.Common.{List, None, ap, bytes_eq, insert_entry-new, is_none, is_none-where-some, is_some, lookup}
use Rattle.pac_asm_program.proofs.Common.{none-from-is_some, subst, sym, to_z-of_z, w32, ℕ, ◌∙◌, ◌≡◌}
use Rattle.pac_asm_program.proofs.Seen.{seen, lookup-seen, with-old, seen-new}
use Rattle.pac_asm_program.proofs.symbols.Symbols.define.Goals as goal

pub returns-then-contains_key-clause-is_new : goal.returns-then-contains_key-clause-is_new
returns-then-contains_key-clause-is_new c =
    let found = lookup-seen (λ key. key.items) c.args.name.now c.self.inside.names.entries in
    rw (← c.self.view_is) (is_none-where-some _ (ap is_some (sym found) ∙ sym c.contains_key.ensures ∙ c.if-contains_key.true))

pub returns-then-contains_key-clause-defined : goal.returns-then-contains_key-clause-defined
returns-then-contains_key-clause-defined c =
    let found = lookup-seen (λ key. key.items) c.args.name.now c.self.inside.names.entries in
    rw (← c.self.view_is)
    (with-old _ c.args.name.now c.args.number (ap is_some (sym found) ∙ sym c.contains_key.ensures ∙ c.if-contains_key.true))

pub returns-clause-is_new : goal.returns-clause-is_new
returns-clause-is_new c =
    let found = lookup-seen (λ key. key.items) c.args.name.now c.self.inside.names.entries in
    let absent = none-from-is_some _ (ap is_some (sym found) ∙ sym c.contains_key.ensures ∙ c.if-contains_key.false) in
    rw (← c.self.view_is) (ap is_none (sym absent))

pub returns-clause-defined : goal.returns-clause-defined
returns-clause-defined c =
    let found = lookup-seen (λ key. key.items) c.args.name.now c.self.inside.names.entries in
    let absent = none-from-is_some _ (ap is_some (sym found) ∙ sym c.contains_key.ensures ∙ c.if-contains_key.false) in
    let entries = c.self.inside.names.entries in
    let key = c.in_ok-key.key in
    let same : key.items ≡ c.args.name.now = c.in_ok-key.ensures.items in
    let unknown = subst (λ (name : List ℕ). lookup (λ other. bytes_eq name other.items) entries ≡ None) (sym same) (found ∙ absent) in
    let last = c.in_ok-insert.ensures.entries ∙ insert_entry-new _ c.self.inside.names key _ unknown in
    let passed = to_z-of_z w32 c.args.number c.ranges.number in
    rw (← c.self.view_is) (ap (seen (λ other. other.items)) last ∙ seen-new (λ other. other.items) entries key _ same passed absent)
