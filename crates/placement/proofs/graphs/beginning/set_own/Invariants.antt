use Rattle.std.proofs.Common.{◌≡◌, ◌<◌, ℕ, Some, get_or}
use Rattle.gl_base.specs.declared.numbers.Vertex.{Vertex}
use Rattle.placement.specs.graphs.Placed.{is_own, own_datum}
use Rattle.placement.specs.graphs.Beginnings.{first_datum}
use Rattle.placement.proofs.graphs.beginning.set_own.Given as goal

abbrev pub invariant-loop-place : goal.invariant-loop-place
invariant-loop-place l =
    record {
      own : (x : ℕ) → is_own l.local x ≡ is_own l.initial.local x;
      done : (i : ℕ) (d : Vertex) → i < l.place → own_datum l.local (get_or l.initial.local.owned i d).0 ≡ Some (first_datum l.values l.mark (get_or l.initial.local.owned i d).0);
      rest : l.local ≡ record l.initial.local { kept = l.local.kept };
    }
