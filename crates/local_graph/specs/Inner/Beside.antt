-- What a machine keeps beside the lists that are made from half-edges.
use Rattle.std.specs.Prelude.{◌≡◌, ℕ, List, length, map, replicate, false}
use Rattle.gl_base.specs.declared.atoms.GhostLine.{GhostLine}
use Rattle.gl_base.specs.declared.atoms.VertexLine.{VertexLine}
use Rattle.local_graph.specs.declared.playing.Beside.{Beside}
use Rattle.local_graph.specs.Played.{no_datum}

-- the ghosts, the identifiers of the vertices in this order, no number set, of these and of so many edges, and no row out
pub record AreBeside (ghosts : List GhostLine) (order : List VertexLine) (edges : ℕ) (b : Beside) : Type 0 where
  pub ghosts_are : b.ghosts.items ≡ ghosts
  pub ids : b.ids.items ≡ map (λ v. v.id) order
  pub kept : b.kept.items ≡ replicate (length order) no_datum
  pub outs : b.outs.items ≡ replicate (length order) false
  pub numbers : b.numbers ≡ replicate edges 0
