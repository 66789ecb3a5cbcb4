use Rattle.std.proofs.Common.{◌≡◌, ◌+◌, Ok, rules}
use Rattle.job_io.specs.whole_files.AtomNames.{atom_name}
use Rattle.job_io.proofs.job_files.AtomsTaken.{atom-unformed, file-renamed}
use Rattle.job_io.proofs.job_files.atoms.read_atom.Goals as goal

pub returns-clause-answer : goal.returns-clause-answer
returns-clause-answer g c =
    let files = g.F.Files.state c.args.files.now in
    let now = (g.F.Files.state c.read_file.new.files).sources.faults in
    let named : c.as_str.result.now ≡ atom_name c.args.prefix.now c.args.atom = search rules in
    let some = c.in-Err.ensures.fault in
    rw c.fault_in.ensures
    (atom-unformed files now c.args.prefix.now c.args.atom c.in_ok-bytes.bytes c.in-Err.fault
    (file-renamed files now c.as_str.result.now (atom_name c.args.prefix.now c.args.atom) (c.args.atom + 1) (Ok c.in_ok-bytes.bytes) named c.in_ok-bytes.ensures.answer)
    (rw c.deref.ensures.value at some))
