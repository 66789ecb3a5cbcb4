use Rattle.std.proofs.Common.{◌≡◌, ◌≤◌, length, IfSome}
use Rattle.gl_outside.specs.Frames.{ChangesSources}
use Rattle.gl_outside.specs.Names.{AppendsNames}
use Rattle.job_io.specs.whole_files.AtomNames.{atom_name}
use Rattle.job_io.specs.whole_files.InTurn.{first_names}
use Rattle.job_io.specs.job_files.Inner.AtomsRead.{HaveAtoms}
use Rattle.job_io.proofs.job_files.atoms.read_atoms.Given as goal

abbrev pub invariant-loop-a : goal.invariant-loop-a
invariant-loop-a g l = record {
  frame : ChangesSources (g.F.Files.state l.fn.files) (g.F.Files.state l.files);
  handed : AppendsNames (g.F.Files.state l.fn.files).sources.names (g.F.Files.state l.files).sources.names (first_names (atom_name l.fn.prefix) l.a);
  later : (g.F.Files.state l.fn.files).sources.faults ≤ (g.F.Files.state l.files).sources.faults;
  long : length l.read.items ≡ l.a;
  have : IfSome (g.F.Files.state l.fn.files).sources.names (λ told. HaveAtoms (g.F.Files.state l.fn.files) l.fn.prefix l.a l.read.items);
}
