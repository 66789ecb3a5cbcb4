use Rattle.partition.proofs.local_parts.laws.atoms_by_owner_are_lines.Goals as goal

pub returns : goal.returns
returns c = λ st all outline atoms machines vertices edges directed a d low.
    record {
      machine = low;
      atom = atoms.each a d low;
      machines = machines;
      vertices = vertices;
      edges = edges;
      directed = directed;
    }
