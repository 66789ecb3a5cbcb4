use Rattle.std.proofs.Common.{◌≡◌, ◌+◌, ◌-◌, ◌++◌, ℕ, List, Some, sym, ap, ◌∙◌, subst, arith}
use Rattle.gl_base.specs.declared.atoms.AtomsFault.{AtomsFault}
use Rattle.graph_atoms.specs.atom_file.Faults.{atom_fault}
use Rattle.graph_atoms.specs.atom_gather.Files.{atom_file_at, form_of}
use Rattle.graph_atoms.specs.atom_gather.Owners.{vertices_added, with_atom, added_by, AreHeld}
use Rattle.graph_atoms.proofs.atom_gather.FileLemmas.{forms_next, forms_here, added_more}
use Rattle.graph_atoms.proofs.atom_gather.gathering.owners_in.Goals as goal

pub returns-in-Err-clause-fault : goal.returns-in-Err-clause-fault
returns-in-Err-clause-fault c = λ fault is.
    let same : c.in-Err.fault ≡ fault = cc in
    let file = atom_file_at c.args.files.now in
    let a = c.loop-a.a in
    sym c.loop-a.invariant.rest
    ∙ forms_here file (c.args.atoms - (a + 1)) (c.args.atoms - a) a fault (omega arith)
    (ap (λ (bs : List ℕ). form_of (a + 1) (atom_fault bs)) (sym c.file_of.ensures) ∙ c.in-Err.ensures.fault ∙ ap (λ (f : AtomsFault). Some f) same)

pub loop-a-preserved : goal.loop-a-preserved
loop-a-preserved c =
    let file = atom_file_at c.args.files.now in
    let a = c.loop-a.a in
    let more : added_by file a ++ with_atom a (vertices_added c.file_of.result.now) ≡ added_by file (a + 1) =
    ap (λ (bs : List ℕ). added_by file a ++ with_atom a (vertices_added bs)) c.file_of.ensures ∙ sym (added_more file a) in
    record {
      held = subst (λ (ps : List (ℕ × ℕ)). AreHeld c.args.vertices ps c.add.new.self) more (c.in-Ok.ensures.added c.args.vertices (added_by file a) c.loop-a.invariant.held);
      rest =
          forms_next file (c.args.atoms - (a + 1)) (c.args.atoms - a) a (omega arith) (ap atom_fault (sym c.file_of.ensures) ∙ c.in-Ok.ensures.none)
          ∙ c.loop-a.invariant.rest;
    }
