-- Both ends of each edge of lines, by the numbers of these.
use Rattle.std.specs.Prelude.{ℕ, min, Bool, List, [], ◌∷◌}
use Rattle.gl_base.specs.declared.atoms.EdgeLine.{EdgeLine}
use Rattle.graph_core.specs.declared.halves.Half.{Half}
use Rattle.local_graph.specs.Lines.{line_out, line_into}

-- the half-edges of lines, each behind the vertex where it is, where that is below `none`
abbrev pub end_pairs : Bool → ℕ → List EdgeLine → List (ℕ × Half)
end_pairs directed none [] = []
end_pairs directed none (e ∷ edges) = (min e.from.0 none, line_out directed e) ∷ (min e.to.0 none, line_into directed e) ∷ end_pairs directed none edges
