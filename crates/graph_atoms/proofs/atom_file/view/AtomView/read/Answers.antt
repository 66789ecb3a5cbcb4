use Rattle.std.proofs.Common.{◌≡◌, ℕ, Option, Some, None, sym, ap, ◌∙◌, subst, arith}
use Rattle.graph_atoms.specs.declared.atom_file.faults.AtomFault.{AtomFault}
use Rattle.graph_atoms.specs.atom_file.Atoms.{AtomFits, atom_bytes}
use Rattle.graph_atoms.specs.atom_file.Faults.{atom_fault}
use Rattle.graph_atoms.proofs.atom_file.ReadLemmas.{told, told-fits, told-atom, told-bytes}
use Rattle.graph_atoms.proofs.atom_file.AtomLemmas.{atom_fault-atom_bytes, one_atom}
use Rattle.graph_atoms.proofs.atom_file.view.AtomView.read.Goals as goal

two_faults : (fault : AtomFault) (found : Option AtomFault) → found ≡ None → found ≡ Some fault → ⊥
two_faults fault found none some = cc

pub returns-in_err-counts-clause-only : goal.returns-in_err-counts-clause-only
returns-in_err-counts-clause-only c = λ a is fits same.
    absurd (two_faults c.in_err-counts.field-0.0 (atom_fault c.args.bytes.now) (ap atom_fault same ∙ atom_fault-atom_bytes a is fits) c.in_err-counts.ensures.fault)

pub returns-clause-bytes : goal.returns-clause-bytes
returns-clause-bytes c =
    let bytes = c.args.bytes.now in
    let counts = c.in_ok-counts.counts in
    told-bytes bytes counts.vertices counts.ghosts counts.edges (λ k. let h = c.type_inv.bytes k in omega (arith, h)) c.in_ok-counts.ensures.counts
    ∙ ap (λ (number : ℕ). atom_bytes (told bytes number counts.vertices counts.ghosts counts.edges)) (sym c.u16_at.ensures)

pub returns-clause-atom : goal.returns-clause-atom
returns-clause-atom c =
    let counts = c.in_ok-counts.counts in
    told-atom c.args.bytes.now c.u16_at.result counts.vertices counts.ghosts counts.edges (λ k. let h = c.type_inv.bytes k in omega (arith, h)) c.in_ok-counts.ensures.counts

pub returns-clause-fits : goal.returns-clause-fits
returns-clause-fits c =
    let bytes = c.args.bytes.now in
    let counts = c.in_ok-counts.counts in
    subst (λ (number : ℕ). AtomFits (told bytes number counts.vertices counts.ghosts counts.edges)) (sym c.u16_at.ensures)
    (told-fits bytes counts.vertices counts.ghosts counts.edges (λ k. let h = c.type_inv.bytes k in omega (arith, h)))

pub returns-clause-only : goal.returns-clause-only
returns-clause-only c = λ a is fits same.
    let bytes = c.args.bytes.now in
    let counts = c.in_ok-counts.counts in
    one_atom (told bytes c.u16_at.result counts.vertices counts.ghosts counts.edges) a (returns-clause-fits c) fits (sym (returns-clause-bytes c) ∙ same)
