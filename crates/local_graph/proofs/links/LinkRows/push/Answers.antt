use Rattle.std.proofs.Common.{◌++◌, ◌∷◌, List, [], length, ap, ◌∙◌, ℕ}
use Rattle.update_api.specs.declared.links.Link.{Link}
use Rattle.local_graph.specs.declared.links.Way.{Way}
use Rattle.local_graph.specs.Inner.Ways.{links_along, rows_kept, ways_kept}
use Rattle.local_graph.proofs.WayLemmas.{kept_push}
use Rattle.local_graph.proofs.links.LinkRows.push.Goals as goal

pub returns : goal.returns
returns c =
    let g = c.self.inside in
    let kept = c.told.result.now in
    let count = length c.args.ways.now in
    ap (λ (rows : List (List Way)). rows_kept c.push_reserved.new.self.items rows) c.in_ok-push.ensures.pushed
    ∙ ap (λ (counts : List ℕ). rows_kept counts (g.ways ++ kept ∷ [])) (c.push_reserved.ensures.items ∙ ap (λ (counts : List ℕ). counts ++ count ∷ []) c.in_ok-reserve.ensures.items)
    ∙ kept_push g.counts.items g.ways count kept c.self.invariant.many
    ∙ ap (λ (rows : List (List Link)). rows ++ links_along 0 (ways_kept count kept) ∷ []) c.self.view_is
    ∙ ap (λ (ways : List Way). c.args.self.now ++ links_along 0 ways ∷ []) c.told.ensures.kept
