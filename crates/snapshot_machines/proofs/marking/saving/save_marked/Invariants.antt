use Rattle.std.proofs.Common.{◌≡◌, ◌+◌, ◌≤◌, drop, length}
use Rattle.snapshot_machines.specs.marking.Inner.Marks.{edges_left, with_edges}
use Rattle.snapshot_machines.proofs.marking.saving.save_marked.Given as goal

abbrev pub invariant-loop-place : goal.invariant-loop-place
invariant-loop-place l = record {
  saved : with_edges (edges_left l.numbers l.known (drop l.place l.sides)) l.snaps ≡ with_edges (edges_left l.numbers l.known l.sides) l.initial.snaps;
  room : length l.sides ≤ l.place + l.snaps.room.edges;
}
