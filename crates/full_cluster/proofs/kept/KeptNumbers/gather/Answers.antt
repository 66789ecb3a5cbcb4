use Rattle.std.proofs.Common.{◌≡◌, [], ◌∷◌, ◌++◌, ◌∙◌, slice_index, subst, sym}
use Rattle.std.proofs.lemmas.Grind.{get_or_default_zero}
use Rattle.full_laws.specs.FullEffects.{gathers}
use Rattle.full_cluster.specs.Given.{IsSeenList}
use Rattle.full_cluster.proofs.GivenLemmas.{gathered_list}
use Rattle.full_cluster.proofs.kept.KeptNumbers.gather.Goals as goal

pub returns-clause-gathered : goal.returns-clause-gathered
returns-clause-gathered c = λ f seen.
    let numbers = c.args.self.now.numbers.items in
    let is : c.index.result.now ≡ slice_index numbers c.args.x.0 = c.index.ensures ∙ get_or_default_zero numbers c.args.x.0 c.index.result.now c.requires in
    rw c.in_ok-push.ensures.items
    (subst (λ n. IsSeenList (c.args.seen.now.items ++ (c.args.x, n) ∷ []) (gathers c.args.x.0 (slice_index numbers c.args.x.0) f)) (sym is)
    (gathered_list c.args.seen.now.items c.args.x (slice_index numbers c.args.x.0) f seen))
