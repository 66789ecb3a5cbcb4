use Rattle.std.proofs.Common.{◌≡◌, ℕ, List, take, subst, rules}
use Rattle.graph_atoms.specs.atom_file.Atoms.{atom_bytes, atom_of}
use Rattle.job_io.specs.whole_files.AtomNames.{atom_name}
use Rattle.job_io.specs.whole_files.Leaves.{KeepsOrGives}
use Rattle.job_io.proofs.graph_files.cutting.write_lines.Goals as goal

pub returns-clause-front : goal.returns-clause-front
returns-clause-front g c =
    let old = g.F.Files.state c.args.files.now in
    let new = g.F.Files.state c.write_file.new.files in
    let named : c.as_str.result.now ≡ atom_name c.args.prefix.now c.args.atom.0 = search rules in
    let is : c.deref.result.now ≡ atom_bytes (atom_of c.args.atom.0 c.args.lines.now) = search rules in
    let P : List ℕ → List ℕ → Type 0 = λ n t. KeepsOrGives old.sinks.names (old.contents n) (new.contents n) (λ held. (count : ℕ) × (held ≡ take count t)) in
    subst (λ (n : List ℕ). P n (atom_bytes (atom_of c.args.atom.0 c.args.lines.now))) named (subst (P c.as_str.result.now) is c.write_file.ensures.front)
