use Rattle.std.proofs.Common.{◌≡◌, ◌<◌, ℕ, Some, is_some, get_or}
use Rattle.gl_base.specs.declared.atoms.GhostLine.{GhostLine}
use Rattle.placement.specs.graphs.Beginnings.{first_datum, ghost_datum}
use Rattle.placement.proofs.graphs.beginning.set_ghosts.Given as goal

abbrev pub invariant-loop-line : goal.invariant-loop-line
invariant-loop-line l =
    record {
      known : (x : ℕ) → is_some (ghost_datum l.cache x) ≡ is_some (ghost_datum l.initial.cache x);
      done : (i : ℕ) (d : GhostLine) → i < l.line-index → ghost_datum l.cache (get_or l.ghosts i d).vertex.0 ≡ Some (first_datum l.values l.mark (get_or l.ghosts i d).vertex.0);
    }
