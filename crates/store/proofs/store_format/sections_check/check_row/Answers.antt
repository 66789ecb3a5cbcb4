use Rattle.std.proofs.Common.{◌≡◌, length, ap, sym, subst, ◌∙◌}
use Rattle.store.specs.store_format.Inner.Taken.{AreTaken}
use Rattle.store.proofs.store_format.KeyLemmas.{row_left, lent_back}
use Rattle.store.proofs.store_format.sections_check.check_row.Goals as goal

pub returns-clause-left : goal.returns-clause-left
returns-clause-left c = λ taken left.
    let marks = c.args.keys.now.marks in
    let count = c.u32_at-count.result in
    let lent : c.deref_mut.result.now ≡ marks.items = c.deref_mut.ensures.value in
    let same : length c.check_keys.new.marks ≡ length marks.items = c.check_keys.auto.marks ∙ ap length lent in
    let before : AreTaken c.deref_mut.result.now taken = subst (λ (l : _). AreTaken l taken) (sym lent) left.marked in
    rw (lent_back c.check_keys.new.marks marks.items marks.len same marks.ok.0)
    (row_left (length marks.items) c.args.keys.now.left c.args.more c.check_keys.new.marks c.args.body.now c.args.at count taken c.u32_at-count.ensures left.count c.in_ok-check_count.ensures.fits same (c.in_ok-check_keys.ensures.marked taken before))
