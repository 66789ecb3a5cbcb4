-- Number by number.
use Rattle.std.proofs.Common.{◌≡◌, ◌<◌, ◌∙◌, ℕ, List, arith, ap, length, map, slice_index, subst, sym, take}
use Rattle.std.proofs.Math.Seq.{take-length}
use Rattle.gl_base.specs.declared.numbers.Vertex.{Vertex}
use Rattle.engine_runs.specs.append.Inner.Numbers.{saved_or, vertex_pair}
use Rattle.engine_runs.proofs.append.Numbering.{put_more}
use Rattle.engine_runs.proofs.append.numbers.put_numbers.Goals as goal

pub loop-pair-preserved : goal.loop-pair-preserved
loop-pair-preserved c =
    record {
      long = c.put_number.ensures.length ∙ c.loop-pair.invariant.long;
      each = λ v low.
          let there : v < length c.loop-pair.values = subst (λ (n : ℕ). v < n) (sym c.loop-pair.invariant.long) low in
          put_more (slice_index c.args.values.now v) c.args.saved.now c.loop-pair.pair-index _ v _ _ c.loop-pair-test.true (c.put_number.ensures.each v there) (c.loop-pair.invariant.each v low);
    }

pub returns-clause-each : goal.returns-clause-each
returns-clause-each c = λ v low.
    let end : c.loop-pair.pair-index ≡ length c.args.saved.now = omega arith in
    c.loop-pair.invariant.each v low ∙ ap (λ (pairs : List (Vertex × ℕ)). saved_or (slice_index c.args.values.now v) (map vertex_pair pairs) v) (ap (λ (n : ℕ). take n c.args.saved.now) end ∙ take-length c.args.saved.now)
