-- What lines that go on offer to the sink: each output in order, until it is taken.
use Rattle.pac_debug.proofs.Common.{AreInOrder, CommandFault, Err, Giving, IsFurther, LinesGive, List, Offered, Output, Result}
use Rattle.pac_debug.proofs.Common.{SessionValue, TookAll, WasOffered, WasRefused, WasTaken, [], arith, between-joined, between-self}
use Rattle.pac_debug.proofs.Common.{common_steps, outputs_between, outputs_until, refl, rules, session_due_outputs, subst, ◌++◌, ◌∷◌, ◌≡◌}
use Rattle.pac_debug.specs.declared.line.CommandFault.TheVariants as faults
use Rattle.pac_debug.proofs.Giving.{further-on}

-- ---- offers in order

-- all of these were taken
abbrev taken_offers : List Output → List Offered
taken_offers [] = []
taken_offers (output ∷ more) = WasTaken output ∷ taken_offers more

order-taken : (outputs left : List Output) → AreInOrder (outputs ++ left) (taken_offers outputs) left
order-taken [] left = refl
order-taken (output ∷ more) left = (refl, order-taken more left)

order-refused : (outputs rest : List Output) (first : Output)
    → AreInOrder (outputs ++ first ∷ rest) (taken_offers outputs ++ WasRefused first ∷ []) (first ∷ rest)
order-refused [] rest first = (refl, refl)
order-refused (output ∷ more) rest first = (refl, order-refused more rest first)

order-both : (outputs more : List Output) (first second : List Offered) (left last : List Output) → AreInOrder outputs first left
    → AreInOrder (left ++ more) second last → AreInOrder (outputs ++ more) (first ++ second) last
order-both outputs more [] second left last before after = subst (λ xs. AreInOrder (xs ++ more) second last) before after
order-both [] more (offer ∷ first) second left last before after = absurd before
order-both (output ∷ outputs) more (WasTaken given ∷ first) second left last before after =
    (before.0, order-both outputs more first second left last before.1 after)
order-both (output ∷ outputs) more (WasRefused given ∷ first) second left last before after =
    (before.0, order-both (output ∷ outputs) more first second left last before.1 after)

module _ {S : Type 0} (to : Giving S) where
  all-offered : (outputs : List Output) (old new : S) → TookAll to.took old outputs new → WasOffered to old (taken_offers outputs) new
  all-offered [] old new same = same
  all-offered (output ∷ more) old new took = grind (arith, common_steps, all-offered more took.between new took.after)

  offered-both : (first second : List Offered) (old between new : S) → WasOffered to old first between → WasOffered to between second new
      → WasOffered to old (first ++ second) new
  offered-both [] second old between new before after = subst (λ s. WasOffered to s second new) before after
  offered-both (WasTaken output ∷ more) second old between new before after =
      search (rules, arith, offered-both more second before.between between new before.after after)
  offered-both (WasRefused output ∷ more) second old between new before after =
      search (rules, arith, offered-both more second before.between between new before.after after)

  -- ---- what one line gave, and what lines gave

  pub record HasGiven (old : SessionValue) (sink : S) (new : SessionValue) (later : S) : Type 0 where
    pub further : IsFurther old new
    pub offers : List Offered
    pub offered : WasOffered to sink offers later
    pub in_order : AreInOrder (outputs_until old new) offers (session_due_outputs new)

  pub gave-none : (s : SessionValue) (sink : S) → HasGiven s sink s sink
  gave-none s sink = grind (arith, between-self)

  pub gave-by : {A : Type 0} (answer : Result A CommandFault) (old : SessionValue) (sink : S) (new : SessionValue) (later : S)
      → LinesGive to old sink answer new later → HasGiven old sink new later
  gave-by (Err faults.Refused) old sink new later gave =
      let cut = gave.cut in
      let offered_is =
      offered-both (taken_offers cut.taken) (WasRefused cut.refuses.first ∷ []) sink cut.refuses.asked later
      (all-offered cut.taken sink cut.refuses.asked cut.refuses.before)
      (record { between = later; before = cut.refuses.refusal; after = refl }) in
      grind (arith, all-offered, offered-both, order-refused)
  gave-by answer old sink new later gave = record {
    further = gave.further;
    offers = taken_offers gave.taken;
    offered = all-offered gave.taken sink later gave.sink_is;
    in_order = rw gave.parts (order-taken gave.taken (session_due_outputs new));
  }

  pub gave-on : (old mid new : SessionValue) (sink between later : S) → HasGiven old sink mid between → HasGiven mid between new later
      → HasGiven old sink new later
  gave-on old mid new sink between later first second =
      let joined : outputs_until old mid ++ outputs_between mid.setting mid.furthest new.furthest ≡ outputs_until old new
      = grind (arith, between-joined) in
      let further_is = further-on old mid new first.further second.further in
      let offers_is = first.offers ++ second.offers in
      let offered_is = offered-both first.offers second.offers sink between later first.offered second.offered in
      grind (arith, further-on, offered-both, order-both)
