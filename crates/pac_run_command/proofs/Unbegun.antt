-- A run whose outputs couldn't all be begun.
use Rattle.pac_run_command.proofs.Common.{AskedPlay, Err, Failure, FirstUnbegun, Handling, IsRunUncreated, List, Opens, Result, Target}
use Rattle.pac_run_command.proofs.Common.{WantedOutput, Write, ap, run_outputs, subst, ◌≡◌}

module _ {Disk File A : Type 0} (handling : Handling Disk File) (asked : AskedPlay) (wanted : List (WantedOutput Target))
    (begun : A → Type 0) (old new : Disk) (is : wanted ≡ run_outputs asked) where
  by-failure : (failure : Failure) → Opens begun (λ output. FirstUnbegun handling old wanted output new) (Err failure)
      → IsRunUncreated handling asked old (Err failure) new
  by-failure (Write output count) opens = record {
    output = output;
    answer_is = ap (λ k. Err (Write output k)) opens.0;
    first = subst (λ all. FirstUnbegun handling old all output new) is opens.1;
  }
  by-failure _ opens = absurd opens

  pub uncreated : (answer : Result A Failure) (failure : Failure) → answer ≡ Err failure
      → Opens begun (λ output. FirstUnbegun handling old wanted output new) answer → IsRunUncreated handling asked old (Err failure) new
  uncreated answer failure fails opens =
      by-failure failure (subst (Opens begun (λ output. FirstUnbegun handling old wanted output new)) fails opens)
