use Rattle.pac_picture.proofs.Common.{count_by, false, get_or, tabulate, ◌≡◌, ◌≤◌}

abbrev pub invariant-loop-column : Rattle.pac_picture.proofs.strip.marked.Given.invariant-loop-column
invariant-loop-column l = record {
  below : l.count ≤ l.column;
  counted : l.count ≡ count_by (λ k. get_or l.mask k false) (tabulate l.column (λ k. k));
}
