use Rattle.std.proofs.Common.{ℕ, replicate, ap, ◌∙◌}
use Rattle.gl_base.specs.declared.numbers.AtomNo.{AtomNo}
use Rattle.placement.proofs.plans.PlacingLemmas.{is_whole}
use Rattle.placement.proofs.plans.placing.whole_placement.Goals as goal

pub returns : goal.returns
returns c = λ cut.
    let first : AtomNo = record { 0 = 0 } in
    is_whole c.args.graph.now cut c.args.plan (record { of = c.in_ok-of.of; owner = c.in_ok-owner.owner }) c.requires.one
    (c.in_ok-of.ensures.items_if_clones_equal (λ y clone. clone) ∙ ap (λ (n : ℕ). replicate n first) c.n.ensures.count) (c.in_ok-owner.ensures.items_if_clones_equal (λ y clone. clone))
