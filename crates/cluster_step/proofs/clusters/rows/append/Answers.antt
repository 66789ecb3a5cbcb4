use Rattle.std.proofs.Common.{List, ap, sym, ◌++◌, ◌∙◌}
use Rattle.std.proofs.lemmas.Iterator.Adapters.{YieldsList-from_vec, fact_from_extend}
use Rattle.std.proofs.lemmas.List.{map-id}
use Rattle.cluster_step.proofs.clusters.rows.append.Goals as goal

pub returns : goal.returns
returns g c =
    fact_from_extend (λ x. x) c.extend.result c.extend.ensures.ran (λ it b. YieldsList-from_vec {s = it} _ b.0 (b.1 ∙ c.args.row.ok.0))
    (λ xs e h. h.0 ∙ ap (λ (ys : List g.row.T.Denot). c.args.list.now.items ++ ys) (sym (map-id xs) ∙ e))
