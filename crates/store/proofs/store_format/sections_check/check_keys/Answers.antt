use Rattle.std.proofs.Common.{◌≡◌, ◌+◌, ◌*◌, length, ap, ◌∙◌, sym, arith}
use Rattle.std.proofs.lemmas.Result.{err_from_is_err_and}
use Rattle.store.specs.store_format.Sections.{key_fault}
use Rattle.store.proofs.store_format.KeyLemmas.{keys_first, keys_next, keys_here, keys_none, keys_marked}
use Rattle.store.proofs.store_format.sections_check.check_keys.Goals as goal

pub loop-i-init : goal.loop-i-init
loop-i-init c = λ taken marked. keys_first c.args.marks.now c.args.body.now c.args.at c.args.count taken marked

pub loop-i-preserved : goal.loop-i-preserved
loop-i-preserved c = λ taken marked.
    let limit = length c.args.marks.now in
    let same : length c.loop-i.marks ≡ limit = omega (arith, c.loop-i.auto.marks) in
    keys_next limit c.loop-i.marks c.args.body.now c.args.at c.args.count c.loop-i.i c.loop-i.least taken (c.loop-i.invariant taken marked) _ c.u32_at.result c.in_ok-least.least c.loop-i-test.true c.u32_at.ensures c.in_ok-least.ensures.next
    (λ stood is. ap (λ (k : _). key_fault k stood c.loop-i.least c.u32_at.result (c.args.at + 12 * c.loop-i.i)) (sym same) ∙ c.in_ok-least.ensures.none stood is)
    (λ stood is. c.in_ok-least.ensures.marked stood is)

pub returns-in_err-least-clause-fault : goal.returns-in_err-least-clause-fault
returns-in_err-least-clause-fault c = λ taken marked.
    let exit = err_from_is_err_and c.from_residual.result c.from_residual.ensures.1 in
    let limit = length c.args.marks.now in
    let same : length c.loop-i.marks ≡ limit = omega (arith, c.loop-i.auto.marks) in
    rw (exit.1, exit.2)
    (keys_here limit c.loop-i.marks c.args.body.now c.args.at c.args.count c.loop-i.i c.loop-i.least taken (c.loop-i.invariant taken marked) c.u32_at.result c.in_err-least.field-0.0 c.loop-i-test.true c.u32_at.ensures
    (λ stood is. ap (λ (k : _). key_fault k stood c.loop-i.least c.u32_at.result (c.args.at + 12 * c.loop-i.i)) (sym same) ∙ c.in_err-least.ensures.fault stood is))

pub returns-clause-none : goal.returns-clause-none
returns-clause-none c = λ taken marked.
    keys_none (length c.args.marks.now) c.loop-i.marks c.args.body.now c.args.at c.args.count c.loop-i.i c.loop-i.least taken (c.loop-i.invariant taken marked) (omega arith)

pub returns-clause-marked : goal.returns-clause-marked
returns-clause-marked c = λ taken marked.
    keys_marked (length c.args.marks.now) c.loop-i.marks c.args.body.now c.args.at c.args.count c.loop-i.i c.loop-i.least taken (c.loop-i.invariant taken marked) (omega arith)
