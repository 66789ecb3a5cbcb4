use Rattle.std.proofs.Common.{◌≡◌, List, Some, None, Err, sym, ap, ◌∙◌, subst}
use Rattle.std.proofs.lemmas.Result.{err_from_is_err_and}
use Rattle.gl_base.specs.declared.memory.OrNoMemory.{OrNoMemory}
use Rattle.gl_base.specs.declared.atoms.AtomsFault.{AtomsFault}
use Rattle.graph_atoms.specs.atom_file.Atoms.{Atom, IsAtom}
use Rattle.gl_base.specs.declared.atoms.Lines.{Lines}
use Rattle.gl_base.specs.declared.numbers.AtomNo.{AtomNo}
use Rattle.graph_atoms.specs.atom_cut.Atoms.{AreAtoms}
use Rattle.graph_atoms.specs.atom_cut.Index.{index_bytes}
use Rattle.graph_atoms.specs.atom_cut.Cuts.{atom_numbers}
use Rattle.graph_atoms.proofs.atom_cut.RangeLemmas.{graph_atom-is}
use Rattle.graph_atoms.specs.atom_gather.Files.{atom_file_at}
use Rattle.graph_atoms.proofs.atom_gather.GatherLemmas.{cut_files, cut_index, no_difference}
use Rattle.graph_atoms.proofs.atom_gather.gathering.gathered_under.Goals as goal

pub check_files-requires-clause-atoms : goal.check_files-requires-clause-atoms
check_files-requires-clause-atoms c = λ a d h.
    let g = c.args.graph.now in
    let lines = subst (λ (ls : List Lines). AreAtoms g (atom_numbers c.deref.result.now) c.args.atoms ls) (sym c.deref-2.ensures.value) c.in_ok-lines.ensures in
    subst (λ (x : Atom). IsAtom x) (sym (lines.each a d h)) (graph_atom-is g (atom_numbers c.deref.result.now) a c.requires.graph)

pub returns-in_err-check_files-clause-fault : goal.returns-in_err-check_files-clause-fault
returns-in_err-check_files-clause-fault c = λ fault is.
    let exit = err_from_is_err_and c.from_residual-in_err-check_files.result c.from_residual-in_err-check_files.ensures.1 in
    let left = exit.1 in
    let from = exit.2 in
    let same : c.in_err-check_files.field-0.0 ≡ OrNoMemory.Fault fault = cc in
    let g = c.args.graph.now in
    let lines = subst (λ (ls : List Lines). AreAtoms g (atom_numbers c.deref.result.now) c.args.atoms ls) (sym c.deref-2.ensures.value) c.in_ok-lines.ensures in
    let under = subst (λ (os : List AtomNo). AreAtoms g (atom_numbers os) c.args.atoms c.deref-2.result.now) c.deref.ensures.value lines in
    cut_files g (atom_numbers c.args.of.items) c.args.atoms c.args.index.now (atom_file_at c.args.files.now) fault
    (c.in_err-check_files.ensures.fault fault g (atom_numbers c.args.of.items) (ap Err same) under)

pub returns-in-Ok-clause-index : goal.returns-in-Ok-clause-index
returns-in-Ok-clause-index c = sym (no_difference 0 c.args.index.now c.deref-5.result.now c.in-Ok.ensures.none ∙ c.deref-5.ensures.value)

pub returns-in-Ok-clause-none : goal.returns-in-Ok-clause-none
returns-in-Ok-clause-none c =
    let g = c.args.graph.now in
    let of = atom_numbers c.args.of.items in
    let file = atom_file_at c.args.files.now in
    let lines = subst (λ (ls : List Lines). AreAtoms g (atom_numbers c.deref.result.now) c.args.atoms ls) (sym c.deref-2.ensures.value) c.in_ok-lines.ensures in
    let under = subst (λ (os : List AtomNo). AreAtoms g (atom_numbers os) c.args.atoms c.deref-2.result.now) c.deref.ensures.value lines in
    let made : c.deref-5.result.now ≡ index_bytes g of c.args.atoms =
    c.deref-5.ensures.value ∙ c.in_ok-wanted.ensures ∙ ap (λ (os : List AtomNo). index_bytes g (atom_numbers os) c.args.atoms) c.deref-3.ensures.value in
    cut_index g of c.args.atoms c.args.index.now c.deref-5.result.now file None (c.in_ok-check_files.ensures.none g of under) made c.in-Ok.ensures.none

pub returns-in-Err-clause-fault : goal.returns-in-Err-clause-fault
returns-in-Err-clause-fault c = λ fault is.
    let same : c.in-Err.fault ≡ fault = cc in
    let g = c.args.graph.now in
    let of = atom_numbers c.args.of.items in
    let file = atom_file_at c.args.files.now in
    let lines = subst (λ (ls : List Lines). AreAtoms g (atom_numbers c.deref.result.now) c.args.atoms ls) (sym c.deref-2.ensures.value) c.in_ok-lines.ensures in
    let under = subst (λ (os : List AtomNo). AreAtoms g (atom_numbers os) c.args.atoms c.deref-2.result.now) c.deref.ensures.value lines in
    let made : c.deref-5.result.now ≡ index_bytes g of c.args.atoms =
    c.deref-5.ensures.value ∙ c.in_ok-wanted.ensures ∙ ap (λ (os : List AtomNo). index_bytes g (atom_numbers os) c.args.atoms) c.deref-3.ensures.value in
    cut_index g of c.args.atoms c.args.index.now c.deref-5.result.now file (Some fault) (c.in_ok-check_files.ensures.none g of under) made
    (c.in-Err.ensures.fault ∙ ap (λ (f : AtomsFault). Some f) same)
