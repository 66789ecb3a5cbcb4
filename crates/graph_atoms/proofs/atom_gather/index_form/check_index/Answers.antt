-- A head without a fault, and then the meta-edges.
use Rattle.std.proofs.Common.{None, Some}
use Rattle.std.proofs.lemmas.Result.{err_from_is_err_and}
use Rattle.graph_atoms.proofs.atom_gather.MetaLemmas.{index_behind, index_first}
use Rattle.graph_atoms.proofs.atom_gather.index_form.check_index.Goals as goal

pub returns-in_err-atoms-clause-fault : goal.returns-in_err-atoms-clause-fault
returns-in_err-atoms-clause-fault c =
    let p = err_from_is_err_and c.from_residual.result c.from_residual.ensures.1 in
    rw (p.1, p.2) (index_first c.args.bytes.now c.in_err-atoms.field-0.0 c.in_err-atoms.ensures.fault)

pub returns-in_err-check_metas-clause-fault : goal.returns-in_err-check_metas-clause-fault
returns-in_err-check_metas-clause-fault c =
    let e = c.in_ok-atoms.ensures in
    let p = err_from_is_err_and c.from_residual-in_err-check_metas.result c.from_residual-in_err-check_metas.ensures.1 in
    rw (p.1, p.2)
    (index_behind c.args.bytes.now c.in_ok-atoms.atoms c.u32_at.result (Some c.in_err-check_metas.field-0.0) e.atoms c.u32_at.ensures e.none c.in_err-check_metas.ensures.fault)

pub returns-clause-none : goal.returns-clause-none
returns-clause-none c =
    let e = c.in_ok-atoms.ensures in
    index_behind c.args.bytes.now c.in_ok-atoms.atoms c.u32_at.result None e.atoms c.u32_at.ensures e.none c.in_ok-check_metas.ensures.none
