use Rattle.std.proofs.Common.{◌≡◌, ◌+◌, ◌-◌, Err, sym, ap, ◌∙◌, arith}
use Rattle.std.proofs.lemmas.Result.{err_from_is_err_and}
use Rattle.gl_base.specs.declared.memory.OrNoMemory.{OrNoMemory}
use Rattle.graph_atoms.specs.atom_gather.Files.{atom_file_at}
use Rattle.graph_atoms.proofs.atom_gather.FileLemmas.{files_next, files_here, lines_fault}
use Rattle.graph_atoms.proofs.atom_gather.gathering.check_files.Goals as goal

pub returns-in_err-check_atom-clause-fault : goal.returns-in_err-check_atom-clause-fault
returns-in_err-check_atom-clause-fault c = λ fault g of is are.
    let exit = err_from_is_err_and c.from_residual.result c.from_residual.ensures.1 in
    let left = exit.1 in
    let from = exit.2 in
    let same : c.in_err-check_atom.field-0.0 ≡ OrNoMemory.Fault fault = cc in
    let file = atom_file_at c.args.files.now in
    let a = c.loop-a.a in
    sym (c.loop-a.invariant g of are)
    ∙ files_here g of file (c.args.atoms - (a + 1)) (c.args.atoms - a) a fault (omega arith)
    (lines_fault g of c.args.atoms a c.args.lines.now c.index-lines-a.result c.file_of.result.now (file a) are c.loop-a-test.true c.index-lines-a.is c.file_of.ensures
    ∙ c.in_err-check_atom.ensures.fault fault (ap Err same))

pub loop-a-preserved : goal.loop-a-preserved
loop-a-preserved c = λ g of are.
    let file = atom_file_at c.args.files.now in
    let a = c.loop-a.a in
    files_next g of file (c.args.atoms - (a + 1)) (c.args.atoms - a) a (omega arith)
    (lines_fault g of c.args.atoms a c.args.lines.now c.index-lines-a.result c.file_of.result.now (file a) are c.loop-a-test.true c.index-lines-a.is c.file_of.ensures ∙ c.in_ok-check_atom.ensures.none)
    ∙ c.loop-a.invariant g of are
