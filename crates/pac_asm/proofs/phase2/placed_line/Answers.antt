use Rattle.pac_asm.proofs.Common.{List, Some, ap, form_of, seen_form, sym, views, ◌∙◌, ◌≡◌}
use Rattle.pac_lex.specs.declared.token.Token.{Token}
use Rattle.pac_asm.proofs.Filling.{fits-form}

pub line_of-requires : Rattle.pac_asm.proofs.phase2.placed_line.Goals.line_of-requires
line_of-requires c =
    let formed : form_of (views c.in_ok-tokens.tokens.items) ≡ Some (seen_form c.in-Some.form) =
    ap (λ (tokens : List Token). form_of (views tokens)) (sym c.deref.ensures.value) ∙ sym c.in-Some.ensures in
    fits-form _ c.args.span _ _ c.in_ok-tokens.ensures.exact formed c.requires
