-- One vertex after another.
use Rattle.std.proofs.Common.{refl, ◌∙◌}
use Rattle.machine_core.proofs.color_parts.EnlistLemmas.{enlisted_more, enlisted_none}
use Rattle.machine_core.proofs.color_parts.enlisting.enlist_all.Goals as goal

pub loop-place-init : goal.loop-place-init
loop-place-init c = record { colours = refl; enlisted = enlisted_none c.args.which c.args.numbers.now c.args.lines.now c.args.vertices.now }

pub loop-place-preserved : goal.loop-place-preserved
loop-place-preserved c =
    let e = c.enlist.ensures in
    let kept = c.loop-place.invariant in
    record {
      colours = e.colours ∙ kept.colours;
      enlisted = enlisted_more c.args.which c.args.numbers.now c.args.lines.now c.loop-place.lines c.enlist.new.lines c.args.vertices.now c.loop-place.place c.loop-place-test.true kept.enlisted e.kept e.free e.there;
    }
