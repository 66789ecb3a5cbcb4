-- Where the number did not change, the datum stands as it would be written.
use Rattle.std.proofs.Common.{◌≡◌, Option, sym, ap, ◌∙◌}
use Rattle.gl_base.specs.declared.scopes.Datum.{Datum}
use Rattle.local_graph.specs.Locals.{set_where}
use Rattle.partition.specs.machine_numbers.Views.{datum_or, own_datum, place_at}
use Rattle.partition.specs.machine_numbers.Steps.{renewed}
use Rattle.partition.proofs.machine_numbers.FinishLemmas.{set_as_it_was, renewed_same}
use Rattle.partition.proofs.machine_numbers.finishing.renew.Goals as goal

pub returns-else-value-old-clause-exact : goal.returns-else-value-old-clause-exact
returns-else-value-old-clause-exact c =
    let l = c.args.local.now in
    let v = c.args.v.0 in
    let d = c.datum-old.result in
    let same : renewed (datum_or (own_datum l v)) c.args.value ≡ d = ap (λ o. renewed (datum_or o) c.args.value) c.datum-old.ensures ∙ renewed_same d c.args.value c.if-value-old.false in
    sym (ap (set_where l.kept (place_at l v)) same ∙ set_as_it_was l.kept (place_at l v) d c.datum-old.ensures)
