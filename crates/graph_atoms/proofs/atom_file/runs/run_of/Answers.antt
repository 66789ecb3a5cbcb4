use Rattle.std.proofs.Common.{◌≡◌, ◌+◌, ◌≤◌, length, slice_index, sym, ap, ◌∙◌, arith}
use Rattle.std.proofs.lemmas.Result.{err_from_is_err_and}
use Rattle.graph_atoms.specs.declared.atom_file.runs.Place.{Place}
use Rattle.graph_atoms.specs.atom_file.Inner.Runs.{tag_of, size_of}
use Rattle.graph_atoms.proofs.atom_file.RunLemmas.{behind, fault_from-behind, fault_from-fault, Follows-more}
use Rattle.graph_atoms.proofs.atom_file.runs.run_of.Goals as goal

pub returns-in_err-place-clause-fault : goal.returns-in_err-place-clause-fault
returns-in_err-place-clause-fault c =
    let exit = err_from_is_err_and c.from_residual.result c.from_residual.ensures.1 in
    rw (exit.1, exit.2)
    (sym c.records.invariant.rest ∙ fault_from-fault c.args.bytes.now c.records.place c.in_err-place.field-0.0 c.records-test.true c.in_err-place.ensures.fault)

pub records-preserved : goal.records-preserved
records-preserved c =
    let bytes = c.args.bytes.now in
    let place = c.records.place in
    let next : c.in_ok-place.place ≡ behind bytes c.args.kind place = c.in_ok-place.ensures.next in
    let tag : slice_index bytes place.at ≡ tag_of c.args.kind = c.if-bytes-place.true ∙ c.tag.ensures in
    let within : place.at + size_of c.args.kind ≤ length bytes = omega (arith, ap (λ (p : Place). p.at) next, c.in_ok-place.ensures.inside) in
    record {
      follows = rw next (Follows-more bytes c.args.kind c.args.start c.records.count place c.records.invariant.follows tag c.records-test.true c.in_ok-place.ensures.risen within);
      rest = rw next (fault_from-behind bytes c.args.kind place tag c.records-test.true c.in_ok-place.ensures.none ∙ c.records.invariant.rest);
      inside = c.in_ok-place.ensures.inside;
    }
