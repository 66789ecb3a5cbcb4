use Rattle.std.proofs.Common.{◌≡◌, ℕ, ◌<◌, ◌==◌, false, length, slice_index_or, take}
use Rattle.std.specs.List.{list_any}
use Rattle.gl_base.specs.declared.numbers.Vertex.{Vertex}
use Rattle.full_cluster.specs.Owners.{owner_in}
use Rattle.full_cluster.proofs.ways.owner_marks.Given as goal

abbrev pub invariant-loop-u : goal.invariant-loop-u
invariant-loop-u l =
    record {
      long : length l.marks.items ≡ l.fn.machines;
      marked : (a : ℕ) → a < l.fn.machines → slice_index_or l.marks.items a false ≡ list_any (λ (u : Vertex). owner_in l.owner u.0 == a) (take l.u-index l.vertices);
    }
