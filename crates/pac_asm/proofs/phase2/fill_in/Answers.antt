use Rattle.pac_asm.proofs.Common.{AsmError, AssemblyFails, [], arith, inl, lines, rules, subst, sym}
use Rattle.pac_asm.specs.Phase2 as spec
use Rattle.pac_asm.proofs.Filling.{onward, ends, finished}
use Rattle.pac_asm.proofs.phase2.fill_in.Goals as goal
use Rattle.pac_asm.proofs.phase2.fill_in.Goals.{in-Some+in_default-first_place, in_default}

pub loop-line-init : goal.loop-line-init
loop-line-init c = search rules

pub line_at-requires : goal.line_at-requires
line_at-requires c = search rules

pub returns-in-Err-clause-exact : goal.returns-in-Err-clause-exact
returns-in-Err-clause-exact c =
    subst (λ (error : AsmError). AssemblyFails error (spec.phase2 c.args.symbols.now 1 [] (lines c.args.source.now) c.args.places.now))
    (sym c.in_line.ensures)
    (ends _ _ c.in-Some.below.now _ _ _ _ _ _ _ _ c.in-Some.ensures.some c.in-Some-first_place.ensures c.loop-line.invariant
    _ c.in-Err.ensures.exact)

pub loop-line-preserved : goal.loop-line-preserved
loop-line-preserved c = grind (arith, onward)

pub returns-clause-exact : goal.returns-clause-exact
returns-clause-exact c =
    elim c.match-first_line.branch [
      | in-Some+in_default-first_place w ↦ grind (arith, finished)
      | in_default w ↦
          finished _ _ _ _ _ _ _ (inl w.in_default.ensures.none) c.loop-line.invariant
    ]

pub returns-clause-items : goal.returns-clause-items
returns-clause-items c = (c.loop-line.invariant.laid.apart, c.loop-line.invariant.laid.fit)
