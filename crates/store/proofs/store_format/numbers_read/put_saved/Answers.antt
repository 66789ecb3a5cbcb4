use Rattle.std.proofs.Common.{◌<◌, length, slice_index, ◌∙◌, arith}
use Rattle.store.proofs.store_format.NumberLemmas.{saved_put}
use Rattle.store.proofs.store_format.numbers_read.put_saved.Goals as goal

pub loop-i-preserved : goal.loop-i-preserved
loop-i-preserved c = λ key inside.
    let old = c.loop-i.numbers in
    let there : key < length old = omega (arith, c.loop-i.auto.numbers) in
    saved_put (slice_index old key) (slice_index c.put_number.new.numbers key) c.args.count c.loop-i.i c.args.at key c.u32_at.result c.u64_at.result c.args.body.now c.loop-i-test.true c.u32_at.ensures c.u64_at.ensures (c.put_number.ensures key there)
    ∙ c.loop-i.invariant key inside
