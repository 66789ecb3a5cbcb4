use Rattle.std.proofs.Common.{◌≡◌, ◌≤◌, vec_len, vec_capacity}
use Rattle.local_graph.proofs.BlankLemmas.{zeros}
use Rattle.local_graph.proofs.numbers.add_zeros.Given as goal

abbrev pub invariant-loop-place : goal.invariant-loop-place
invariant-loop-place l = record {
  items : l.numbers.items ≡ zeros l._place;
  many : vec_len l.numbers ≡ l._place;
  room : l.count ≤ vec_capacity l.numbers;
}
