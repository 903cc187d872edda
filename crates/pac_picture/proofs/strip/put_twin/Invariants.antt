use Rattle.pac_picture.proofs.Common.{[], get_or, if◌then◌else◌, length, row_dot, twin_dot, ℕ, ◌%◌, ◌/◌, ◌<◌, ◌==◌, ◌≡◌, ◌≤◌}

abbrev pub invariant-loop-y : Rattle.pac_picture.proofs.strip.put_twin.Given.invariant-loop-y
invariant-loop-y l = record {
  long : length l.lines ≡ 8;
  done : (x k : ℕ) → k < l.y →
      row_dot l.lines x k ≡ (if x / 16 == l.place then twin_dot l.twin (x % 16) k else row_dot l.initial.lines x k);
  rest : (k : ℕ) → l.y ≤ k → get_or l.lines k [] ≡ get_or l.initial.lines k [];
}
