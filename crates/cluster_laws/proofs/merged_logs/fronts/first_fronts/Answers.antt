use Rattle.std.proofs.Common.{◌<◌, ◌++◌, [], List, length, map, get_or, sym, subst, arith, Bor}
use Rattle.std.specs.Prelude.{slice_get}
use Rattle.std.specs.BinaryHeap.{heap_items}
use Rattle.std.proofs.lemmas.List.{length-map}
use Rattle.std.specs.List.Sorted.{IsPermutation}
use Rattle.gl_base.specs.declared.entries.Entry.{Entry}
use Rattle.cluster_laws.specs.merged_logs.Inner.Fronts.{IsFrontOf, front_of}
use Rattle.cluster_laws.proofs.merged_logs.FrontLemmas.{all_added, first_left, front_is, log_at}
use Rattle.cluster_laws.proofs.merged_logs.fronts.first_fronts.Goals as goal

pub loop-log-preserved : goal.loop-log-preserved
loop-log-preserved c =
    let logs : List (List Entry) = map (λ (log : Bor (List Entry)). log.now) c.args.logs.now in
    let i = c.loop-log.log in
    let old = heap_items c.loop-log.fronts in
    let new = heap_items c.add_front.new.fronts in
    let low : i < length logs = omega (arith, length-map c.args.logs.now (λ (log : Bor (List Entry)). log.now), c.loop-log-test.true) in
    let perm = subst (λ (entries : List Entry). IsPermutation (front_of i 0 (slice_get entries 0) ++ old) new) (sym (log_at c.args.logs.now i)) c.in_ok-add_front.ensures.added in
    record {
      fronts = all_added (IsFrontOf logs) (get_or logs i []) i 0 old new perm (λ inside. front_is logs i 0 low inside) c.loop-log.invariant.fronts;
      left = λ p. first_left logs p i old new low (c.loop-log.invariant.left p) perm;
      heap = c.in_ok-add_front.ensures.heap c.loop-log.invariant.heap;
    }
