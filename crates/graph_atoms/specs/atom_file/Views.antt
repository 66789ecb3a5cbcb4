-- Records as they are read where they lie.
use Rattle.std.specs.Prelude.{ℕ, zero, suc, List, [], ◌∷◌, drop}
use Rattle.gl_base.specs.declared.atoms.VertexLine.{VertexLine}
use Rattle.gl_base.specs.declared.atoms.GhostLine.{GhostLine}
use Rattle.gl_base.specs.declared.atoms.EdgeLine.{EdgeLine}
use Rattle.graph_atoms.specs.atom_file.Fields.{field}

-- the record that begins here, behind its tag
abbrev pub vertex_at : List ℕ → VertexLine
vertex_at bytes = record { vertex = record { 0 = field bytes 1 4 }; id = field bytes 5 8 }

abbrev pub ghost_at : List ℕ → GhostLine
ghost_at bytes =
    record {
      vertex = record { 0 = field bytes 1 4 };
      id = field bytes 5 8;
      atom = record { 0 = field bytes 13 2 };
    }

abbrev pub edge_at : List ℕ → EdgeLine
edge_at bytes =
    record {
      edge = record { 0 = field bytes 1 4 };
      from = record { 0 = field bytes 5 4 };
      to = record { 0 = field bytes 9 4 };
      weight = field bytes 13 4;
    }

-- n records of this size, one after another
abbrev pub records_in : {T : Type 0} → (List ℕ → T) → ℕ → ℕ → List ℕ → List T
records_in read size zero bytes = []
records_in read size (suc n) bytes = read bytes ∷ records_in read size n (drop size bytes)
