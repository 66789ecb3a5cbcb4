use Rattle.std.proofs.Common.{◌≡◌, ℕ, List, length, Some, Err, sym, ap, ◌∙◌, subst}
use Rattle.std.proofs.lemmas.Result.{err_from_is_err_and}
use Rattle.gl_base.specs.declared.memory.OrNoMemory.{OrNoMemory}
use Rattle.gl_base.specs.declared.atoms.AtomsFault.{AtomsFault}
use Rattle.graph_atoms.specs.atom_cut.Cuts.{atom_numbers}
use Rattle.graph_atoms.specs.declared.atom_gather.owners.Held.{Held}
use Rattle.graph_atoms.specs.atom_gather.Owners.{owner_at}
use Rattle.graph_atoms.specs.atom_gather.Inner.Holding.{AreAllHeld, IsFirstUnheld}
use Rattle.graph_atoms.proofs.atom_gather.HoldLemmas.{owners_held, no_owner_fault, beyond_fault, unheld_fault}
use Rattle.graph_atoms.proofs.atom_gather.owners.Owners.of.Goals as goal

pub returns-in_err-of-clause-fault : goal.returns-in_err-of-clause-fault
returns-in_err-of-clause-fault c = λ fault n added is are.
    let exit = err_from_is_err_and c.from_residual.result c.from_residual.ensures.1 in
    let left = exit.1 in
    let from = exit.2 in
    let same : c.in_err-of.field-0.0 ≡ OrNoMemory.Fault fault = cc in
    unheld_fault n added c.args.self.now fault are (subst (λ (hs : List Held). IsFirstUnheld hs fault) c.deref.ensures.value (c.in_err-of.ensures.first fault (ap Err same)))

pub returns-then-self-clause-fault : goal.returns-then-self-clause-fault
returns-then-self-clause-fault c = λ fault n added is are.
    let same : c.owner_at.result ≡ fault = cc in
    let all = subst (λ (hs : List Held). AreAllHeld hs (atom_numbers c.in_ok-of.of.items)) c.deref.ensures.value c.in_ok-of.ensures.all in
    beyond_fault n added c.args.self.now (atom_numbers c.in_ok-of.of.items) are all c.if-self.true
    ∙ ap (λ (v : ℕ). Some (owner_at v)) (ap length (sym c.deref.ensures.value) ∙ c.deref.ensures.len ∙ sym c.len.ensures) ∙ ap (λ (f : AtomsFault). Some f) (sym c.owner_at.ensures ∙ same)

pub returns-clause-of : goal.returns-clause-of
returns-clause-of c = λ n added are.
    owners_held n added c.args.self.now (atom_numbers c.in_ok-of.of.items) are (subst (λ (hs : List Held). AreAllHeld hs (atom_numbers c.in_ok-of.of.items)) c.deref.ensures.value c.in_ok-of.ensures.all)

pub returns-clause-none : goal.returns-clause-none
returns-clause-none c = λ n added are.
    no_owner_fault n added c.args.self.now (atom_numbers c.in_ok-of.of.items) are (subst (λ (hs : List Held). AreAllHeld hs (atom_numbers c.in_ok-of.of.items)) c.deref.ensures.value c.in_ok-of.ensures.all) c.if-self.false
