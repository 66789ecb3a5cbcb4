-- What the file of an atom looks like to its reader.
use Rattle.std.specs.Prelude.{◌≡◌, ℕ, ◌+◌, ◌*◌, List, length, None}
use Rattle.graph_atoms.specs.atom_file.Fields.{field}
use Rattle.graph_atoms.specs.atom_file.Faults.{header_fault}
use Rattle.graph_atoms.specs.atom_file.Inner.Runs.{IsRecordRun}

-- behind a header without a fault stand so many vertices, so many ghosts and so many edges, and nothing else
pub record AreCounts (bytes : List ℕ) (vertices ghosts edges : ℕ) : Type 0 where
  pub header : header_fault bytes ≡ None
  pub whole : length bytes ≡ 20 + 13 * vertices + 15 * ghosts + 17 * edges
  pub count : field bytes 16 4 ≡ vertices + ghosts + edges
  pub vertices_run : IsRecordRun bytes 1 13 20 vertices
  pub ghosts_run : IsRecordRun bytes 2 15 (20 + 13 * vertices) ghosts
  pub edges_run : IsRecordRun bytes 3 17 (20 + 13 * vertices + 15 * ghosts) edges
