use Rattle.std.proofs.Common.{◌≡◌, ◌∷◌, [], Some, None, Ok, Err, ap, rules}
use Rattle.std.proofs.lemmas.Result.{err_from_is_err_and}
use Rattle.job_io.specs.whole_files.AtomNames.{index_name}
use Rattle.job_io.proofs.job_files.AtomsLooked.{index-formed, index-unformed, index-untaken, looks-gathered, looks-untaken, reads-atoms, reads-index, tells-gathered}
use Rattle.job_io.proofs.job_files.AtomsTaken.{atoms-before, file-renamed}
use Rattle.job_io.proofs.job_files.atoms.read_cut.Goals as goal

pub returns-in_err-index-clause-answer : goal.returns-in_err-index-clause-answer
returns-in_err-index-clause-answer g c =
    let exit = err_from_is_err_and c.from_residual-in_err-index.result c.from_residual-in_err-index.ensures.1 in
    let files = g.F.Files.state c.args.files.now in
    let now = (g.F.Files.state c.read_file.new.files).sources.faults in
    let named : c.as_str.result.now ≡ index_name c.args.prefix.now = search rules in
    rw (exit.1, exit.2) (index-untaken files now c.args.prefix.now c.args.graph.now c.in_err-index.field-0.0
    (file-renamed files now c.as_str.result.now (index_name c.args.prefix.now) 0 (Err c.in_err-index.field-0.0) named c.in_err-index.ensures.answer))

pub returns-in_err-index-clause-read : goal.returns-in_err-index-clause-read
returns-in_err-index-clause-read g c =
    let named : c.as_str.result.now ≡ index_name c.args.prefix.now = search rules in
    reads-index (g.F.Files.state c.args.files.now) (g.F.Files.state c.read_file.new.files) c.args.prefix.now c.as_str.result.now named c.in_err-index.ensures.read

pub returns-in-Err-clause-answer : goal.returns-in-Err-clause-answer
returns-in-Err-clause-answer g c =
    let files = g.F.Files.state c.args.files.now in
    let now = (g.F.Files.state c.read_file.new.files).sources.faults in
    let named : c.as_str.result.now ≡ index_name c.args.prefix.now = search rules in
    let some = c.in-Err.ensures.fault in
    rw c.fault_in.ensures
    (index-unformed files now c.args.prefix.now c.args.graph.now c.in_ok-index.index c.in-Err.fault
    (file-renamed files now c.as_str.result.now (index_name c.args.prefix.now) 0 (Ok c.in_ok-index.index) named c.in_ok-index.ensures.answer)
    (rw c.deref.ensures.value at some))

pub returns-in-Err-clause-read : goal.returns-in-Err-clause-read
returns-in-Err-clause-read g c =
    let named : c.as_str.result.now ≡ index_name c.args.prefix.now = search rules in
    reads-index (g.F.Files.state c.args.files.now) (g.F.Files.state c.read_file.new.files) c.args.prefix.now c.as_str.result.now named c.in_ok-index.ensures.read

pub returns-in_err-read-clause-answer : goal.returns-in_err-read-clause-answer
returns-in_err-read-clause-answer g c =
    let exit = err_from_is_err_and c.from_residual-in_err-read.result c.from_residual-in_err-read.ensures.1 in
    let files = g.F.Files.state c.args.files.now in
    let mid = g.F.Files.state c.read_file.new.files in
    let now = (g.F.Files.state c.read_atoms.new.files).sources.faults in
    let named : c.as_str.result.now ≡ index_name c.args.prefix.now = search rules in
    let index = c.in_ok-index.index in
    let taken = file-renamed files mid.sources.faults c.as_str.result.now (index_name c.args.prefix.now) 0 (Ok index) named c.in_ok-index.ensures.answer in
    let none = c.in-Ok.ensures.none in
    let count = c.in-Ok.ensures.atoms in
    rw (exit.1, exit.2) (looks-untaken files now c.args.prefix.now c.args.graph.now index.items c.in-Ok.atoms c.in_err-read.field-0.0 (rw c.deref.ensures.value at count)
    (index-formed files mid.sources.faults c.args.prefix.now index taken (rw c.deref.ensures.value at none))
    (atoms-before files mid now (c.as_str.result.now ∷ []) c.args.prefix.now c.in-Ok.atoms (Err c.in_err-read.field-0.0) c.in_ok-index.ensures.read.frame c.in_ok-index.ensures.handed c.in_ok-index.ensures.read.later c.in_err-read.ensures.fault))

pub returns-in_err-read-clause-read : goal.returns-in_err-read-clause-read
returns-in_err-read-clause-read g c =
    let files = g.F.Files.state c.args.files.now in
    let mid = g.F.Files.state c.read_file.new.files in
    let new = g.F.Files.state c.read_atoms.new.files in
    let named : c.as_str.result.now ≡ index_name c.args.prefix.now = search rules in
    let index = c.in_ok-index.index in
    let taken = file-renamed files mid.sources.faults c.as_str.result.now (index_name c.args.prefix.now) 0 (Ok index) named c.in_ok-index.ensures.answer in
    let none = c.in-Ok.ensures.none in
    let count = c.in-Ok.ensures.atoms in
    reads-atoms files mid new c.args.prefix.now c.as_str.result.now index.items c.in-Ok.atoms named (rw c.deref.ensures.value at count)
    (index-formed files mid.sources.faults c.args.prefix.now index taken (rw c.deref.ensures.value at none)) c.in_ok-index.ensures.read c.in_ok-index.ensures.handed c.in_err-read.ensures.read

pub returns-in-Ok-gathered-clause-answer : goal.returns-in-Ok-gathered-clause-answer
returns-in-Ok-gathered-clause-answer g c =
    let files = g.F.Files.state c.args.files.now in
    let mid = g.F.Files.state c.read_file.new.files in
    let new = g.F.Files.state c.read_atoms.new.files in
    let named : c.as_str.result.now ≡ index_name c.args.prefix.now = search rules in
    let index = c.in_ok-index.index in
    let taken = file-renamed files mid.sources.faults c.as_str.result.now (index_name c.args.prefix.now) 0 (Ok index) named c.in_ok-index.ensures.answer in
    let formed_none = c.in-Ok.ensures.none in
    let count = c.in-Ok.ensures.atoms in
    let formed = index-formed files mid.sources.faults c.args.prefix.now index taken (rw c.deref.ensures.value at formed_none) in
    let was = c.in_ok-index.ensures in
    let have = atoms-before files mid new.sources.faults (c.as_str.result.now ∷ []) c.args.prefix.now c.in-Ok.atoms (Ok c.in_ok-read.read.items) was.read.frame was.handed was.read.later c.in_ok-read.ensures.read_all in
    let found = c.in-Ok-gathered.ensures.none in
    let assigned = c.in-Ok-gathered.ensures.assignment in
    let are = c.in-Ok-gathered.ensures.files in (
      looks-gathered files c.args.prefix.now c.args.graph.now index.items c.in-Ok.atoms c.in_ok-read.read.items None (rw c.deref.ensures.value at count) formed have
          (rw (c.deref-2.ensures.value, c.deref-3.ensures.value) at found),
      tells-gathered files c.args.prefix.now c.args.graph.now index.items c.in-Ok.atoms c.in-Ok-gathered.made.of c.in_ok-read.read.items (rw c.deref.ensures.value at count) formed have
          (rw c.deref-2.ensures.value at assigned) (rw (c.deref-2.ensures.value, c.deref-3.ensures.value) at are),
    )

pub returns-in-Err-Fault-clause-answer : goal.returns-in-Err-Fault-clause-answer
returns-in-Err-Fault-clause-answer g c =
    let files = g.F.Files.state c.args.files.now in
    let mid = g.F.Files.state c.read_file.new.files in
    let new = g.F.Files.state c.read_atoms.new.files in
    let named : c.as_str.result.now ≡ index_name c.args.prefix.now = search rules in
    let index = c.in_ok-index.index in
    let taken = file-renamed files mid.sources.faults c.as_str.result.now (index_name c.args.prefix.now) 0 (Ok index) named c.in_ok-index.ensures.answer in
    let formed_none = c.in-Ok.ensures.none in
    let count = c.in-Ok.ensures.atoms in
    let formed = index-formed files mid.sources.faults c.args.prefix.now index taken (rw c.deref.ensures.value at formed_none) in
    let was = c.in_ok-index.ensures in
    let have = atoms-before files mid new.sources.faults (c.as_str.result.now ∷ []) c.args.prefix.now c.in-Ok.atoms (Ok c.in_ok-read.read.items) was.read.frame was.handed was.read.later c.in_ok-read.ensures.read_all in
    let found = c.in-Err-Fault.ensures.fault c.in-Err-Fault.fault (ap Err c.in-Err-Fault.field-0-is) in
    looks-gathered files c.args.prefix.now c.args.graph.now index.items c.in-Ok.atoms c.in_ok-read.read.items (Some c.in-Err-Fault.fault) (rw c.deref.ensures.value at count) formed have
    (rw (c.deref-2.ensures.value, c.deref-3.ensures.value) at found)

pub returns-in-Ok-gathered-clause-read : goal.returns-in-Ok-gathered-clause-read
returns-in-Ok-gathered-clause-read g c =
    let files = g.F.Files.state c.args.files.now in
    let mid = g.F.Files.state c.read_file.new.files in
    let new = g.F.Files.state c.read_atoms.new.files in
    let named : c.as_str.result.now ≡ index_name c.args.prefix.now = search rules in
    let index = c.in_ok-index.index in
    let taken = file-renamed files mid.sources.faults c.as_str.result.now (index_name c.args.prefix.now) 0 (Ok index) named c.in_ok-index.ensures.answer in
    let formed_none = c.in-Ok.ensures.none in
    let count = c.in-Ok.ensures.atoms in
    let formed = index-formed files mid.sources.faults c.args.prefix.now index taken (rw c.deref.ensures.value at formed_none) in
    reads-atoms files mid new c.args.prefix.now c.as_str.result.now index.items c.in-Ok.atoms named (rw c.deref.ensures.value at count) formed c.in_ok-index.ensures.read c.in_ok-index.ensures.handed c.in_ok-read.ensures.read

pub returns-in-Err-Fault-clause-read : goal.returns-in-Err-Fault-clause-read
returns-in-Err-Fault-clause-read g c =
    let files = g.F.Files.state c.args.files.now in
    let mid = g.F.Files.state c.read_file.new.files in
    let new = g.F.Files.state c.read_atoms.new.files in
    let named : c.as_str.result.now ≡ index_name c.args.prefix.now = search rules in
    let index = c.in_ok-index.index in
    let taken = file-renamed files mid.sources.faults c.as_str.result.now (index_name c.args.prefix.now) 0 (Ok index) named c.in_ok-index.ensures.answer in
    let formed_none = c.in-Ok.ensures.none in
    let count = c.in-Ok.ensures.atoms in
    let formed = index-formed files mid.sources.faults c.args.prefix.now index taken (rw c.deref.ensures.value at formed_none) in
    reads-atoms files mid new c.args.prefix.now c.as_str.result.now index.items c.in-Ok.atoms named (rw c.deref.ensures.value at count) formed c.in_ok-index.ensures.read c.in_ok-index.ensures.handed c.in_ok-read.ensures.read

pub returns-clause-read : goal.returns-clause-read
returns-clause-read g c =
    let files = g.F.Files.state c.args.files.now in
    let mid = g.F.Files.state c.read_file.new.files in
    let new = g.F.Files.state c.read_atoms.new.files in
    let named : c.as_str.result.now ≡ index_name c.args.prefix.now = search rules in
    let index = c.in_ok-index.index in
    let taken = file-renamed files mid.sources.faults c.as_str.result.now (index_name c.args.prefix.now) 0 (Ok index) named c.in_ok-index.ensures.answer in
    let formed_none = c.in-Ok.ensures.none in
    let count = c.in-Ok.ensures.atoms in
    let formed = index-formed files mid.sources.faults c.args.prefix.now index taken (rw c.deref.ensures.value at formed_none) in
    reads-atoms files mid new c.args.prefix.now c.as_str.result.now index.items c.in-Ok.atoms named (rw c.deref.ensures.value at count) formed c.in_ok-index.ensures.read c.in_ok-index.ensures.handed c.in_ok-read.ensures.read
