use Rattle.std.proofs.Common.{◌≡◌, ℕ, List, Some, None, Err, sym, ap, ◌∙◌, subst}
use Rattle.std.proofs.lemmas.Result.{err_from_is_err_and, IfOk-weaker, on_ok_weaker}
use Rattle.gl_base.specs.declared.memory.OrNoMemory.{OrNoMemory}
use Rattle.gl_base.specs.declared.atoms.AtomsFault.{AtomsFault}
use Rattle.gl_base.specs.declared.numbers.AtomNo.{AtomNo}
use Rattle.graph_core.specs.DataGraph.{size}
use Rattle.graph_atoms.specs.atom_cut.Atoms.{AreAtoms}
use Rattle.graph_atoms.specs.atom_cut.Cuts.{atom_numbers}
use Rattle.graph_atoms.specs.atom_gather.IndexForm.{atoms_in}
use Rattle.graph_atoms.specs.atom_gather.Files.{atom_file_at, AreFiles}
use Rattle.graph_atoms.specs.atom_gather.Owners.{added_by, owners_of, AreHeld}
use Rattle.graph_atoms.specs.atom_gather.Gathered.{IsAssignment}
use Rattle.graph_atoms.proofs.atom_gather.GatherLemmas.{gather_index, gather_forms, gather_owner, gather_late, cut_same, owners_below, owners_each, length-numbers, is_assignment, if_ok_both}
use Rattle.graph_atoms.proofs.atom_gather.BackLemmas.{owners_told}
use Rattle.graph_atoms.proofs.atom_gather.gathering.gathered.Goals as goal

pub returns-in-Err-clause-fault : goal.returns-in-Err-clause-fault
returns-in-Err-clause-fault c = λ fault is.
    let same : c.fault_in.result ≡ fault = cc in
    gather_index c.args.graph.now c.args.index.now (atom_file_at c.args.files.now) c.in-Err.fault fault c.in-Err.ensures.fault (ap (λ (f : AtomsFault). Some f) (sym c.fault_in.ensures ∙ same))

pub returns-in_err-owners-clause-fault : goal.returns-in_err-owners-clause-fault
returns-in_err-owners-clause-fault c = λ fault is.
    let exit = err_from_is_err_and c.from_residual.result c.from_residual.ensures.1 in
    let left = exit.1 in
    let from = exit.2 in
    let same : c.in_err-owners.field-0.0 ≡ OrNoMemory.Fault fault = cc in
    gather_forms c.args.graph.now c.args.index.now (atom_file_at c.args.files.now) c.in-Ok.atoms fault c.in-Ok.ensures.none c.in-Ok.ensures.atoms (c.in_err-owners.ensures.fault fault (ap Err same))

pub returns-in_err-of-clause-fault : goal.returns-in_err-of-clause-fault
returns-in_err-of-clause-fault c = λ fault is.
    let exit = err_from_is_err_and c.from_residual-in_err-of.result c.from_residual-in_err-of.ensures.1 in
    let left = exit.1 in
    let from = exit.2 in
    let same : c.in_err-of.field-0.0 ≡ OrNoMemory.Fault fault = cc in
    let g = c.args.graph.now in
    let file = atom_file_at c.args.files.now in
    let k = c.in-Ok.atoms in
    let held = subst (λ (n : ℕ). AreHeld n (added_by file k) c.in_ok-owners.owners) c.n.ensures.count c.in_ok-owners.ensures.held in
    gather_owner g c.args.index.now file k fault c.in-Ok.ensures.none c.in-Ok.ensures.atoms c.in_ok-owners.ensures.none (c.in_err-of.ensures.fault fault (size g) (added_by file k) (ap Err same) held)

pub gathered_under-requires-clause-each : goal.gathered_under-requires-clause-each
gathered_under-requires-clause-each c =
    let g = c.args.graph.now in
    let file = atom_file_at c.args.files.now in
    let k = c.in-Ok.atoms in
    let held = subst (λ (n : ℕ). AreHeld n (added_by file k) c.in_ok-owners.owners) c.n.ensures.count c.in_ok-owners.ensures.held in
    sym (length-numbers c.in_ok-of.of.items)
    ∙ owners_each (size g) (added_by file k) (atom_numbers c.in_ok-of.of.items) (c.in_ok-of.ensures.of (size g) (added_by file k) held)

pub gathered_under-requires-clause-below : goal.gathered_under-requires-clause-below
gathered_under-requires-clause-below c =
    let g = c.args.graph.now in
    let file = atom_file_at c.args.files.now in
    let k = c.in-Ok.atoms in
    let held = subst (λ (n : ℕ). AreHeld n (added_by file k) c.in_ok-owners.owners) c.n.ensures.count c.in_ok-owners.ensures.held in
    owners_below (size g) k file c.in_ok-of.of.items c.in-Ok.ensures.some (c.in_ok-of.ensures.of (size g) (added_by file k) held)

pub returns-clause-assignment : goal.returns-clause-assignment
returns-clause-assignment c =
    let g = c.args.graph.now in
    let file = atom_file_at c.args.files.now in
    let k = c.in-Ok.atoms in
    let held = subst (λ (n : ℕ). AreHeld n (added_by file k) c.in_ok-owners.owners) c.n.ensures.count c.in_ok-owners.ensures.held in
    let of_is = c.in_ok-of.ensures.of (size g) (added_by file k) held in
    let of = c.in_ok-of.of.items in
    let each = sym (length-numbers of) ∙ owners_each (size g) (added_by file k) (atom_numbers of) of_is in
    let below = owners_below (size g) k file of c.in-Ok.ensures.some of_is in
    let told = is_assignment g k (atoms_in c.args.index.now) of c.in-Ok.ensures.atoms c.in-Ok.ensures.some c.in-Ok.ensures.few each below in
    IfOk-weaker c.gathered_under.result _ _ (λ made same. subst (λ (os : List AtomNo). IsAssignment g (atoms_in c.args.index.now) (atom_numbers os)) (sym same) told) c.gathered_under.ensures.of

pub returns-clause-files : goal.returns-clause-files
returns-clause-files c =
    let g = c.args.graph.now in
    let file = atom_file_at c.args.files.now in
    let index = c.args.index.now in
    let k = c.in-Ok.atoms in
    if_ok_both c.gathered_under.result _ _ _
    (λ made same none. subst (λ (os : List AtomNo). AreFiles g (atoms_in index) (atom_numbers os) index file) (sym same)
    (subst (λ (n : ℕ). AreFiles g n (atom_numbers c.in_ok-of.of.items) index file) c.in-Ok.ensures.atoms (cut_same g (atom_numbers c.in_ok-of.of.items) k index file none)))
    c.gathered_under.ensures.of c.gathered_under.ensures.none

pub returns-clause-lines : goal.returns-clause-lines
returns-clause-lines c =
    let g = c.args.graph.now in
    let index = c.args.index.now in
    if_ok_both c.gathered_under.result _ _ _
    (λ made same lines. subst (λ (os : List AtomNo). AreAtoms g (atom_numbers os) (atoms_in index) made.lines.items) (sym same)
    (subst (λ (n : ℕ). AreAtoms g (atom_numbers c.in_ok-of.of.items) n made.lines.items) c.in-Ok.ensures.atoms lines))
    c.gathered_under.ensures.of c.gathered_under.ensures.lines

pub returns-clause-index : goal.returns-clause-index
returns-clause-index c = c.gathered_under.ensures.index

pub returns-clause-only : goal.returns-clause-only
returns-clause-only c = λ atoms of under are.
    let g = c.args.graph.now in
    let file = atom_file_at c.args.files.now in
    let k = c.in-Ok.atoms in
    let held = subst (λ (n : ℕ). AreHeld n (added_by file k) c.in_ok-owners.owners) c.n.ensures.count c.in_ok-owners.ensures.held in
    let of_is = c.in_ok-of.ensures.of (size g) (added_by file k) held in
    let told = of_is ∙ ap (λ (n : ℕ). owners_of (size g) (added_by file n)) c.in-Ok.ensures.atoms ∙ owners_told g atoms of c.args.index.now file c.n.ensures.graph under are in
    IfOk-weaker c.gathered_under.result _ _ (λ made same. ap atom_numbers same ∙ told) c.gathered_under.ensures.of

pub returns-clause-none : goal.returns-clause-none
returns-clause-none c =
    let g = c.args.graph.now in
    let file = atom_file_at c.args.files.now in
    let index = c.args.index.now in
    let k = c.in-Ok.atoms in
    let held = subst (λ (n : ℕ). AreHeld n (added_by file k) c.in_ok-owners.owners) c.n.ensures.count c.in_ok-owners.ensures.held in
    on_ok_weaker c.gathered_under.result
    (λ none. gather_late g index file k (atom_numbers c.in_ok-of.of.items) None c.in-Ok.ensures.none c.in-Ok.ensures.atoms c.in_ok-owners.ensures.none (c.in_ok-of.ensures.none (size g) (added_by file k) held) (c.in_ok-of.ensures.of (size g) (added_by file k) held) none)
    c.gathered_under.ensures.none

pub returns-clause-fault : goal.returns-clause-fault
returns-clause-fault c = λ fault is.
    let g = c.args.graph.now in
    let file = atom_file_at c.args.files.now in
    let index = c.args.index.now in
    let k = c.in-Ok.atoms in
    let held = subst (λ (n : ℕ). AreHeld n (added_by file k) c.in_ok-owners.owners) c.n.ensures.count c.in_ok-owners.ensures.held in
    gather_late g index file k (atom_numbers c.in_ok-of.of.items) (Some fault) c.in-Ok.ensures.none c.in-Ok.ensures.atoms c.in_ok-owners.ensures.none (c.in_ok-of.ensures.none (size g) (added_by file k) held) (c.in_ok-of.ensures.of (size g) (added_by file k) held)
    (c.gathered_under.ensures.fault fault is)
