use Rattle.std.proofs.Common.{◌≡◌, ◌≤◌, ◌+◌, ◌++◌, [], ◌∷◌, Bor, List, length, map, get_or, sym, subst, ◌∙◌, All, ap, arith}
use Rattle.std.specs.Prelude.{slice_get}
use Rattle.std.specs.BinaryHeap.{heap_items}
use Rattle.std.specs.List.Sorted.{IsPermutation}
use Rattle.std.proofs.lemmas.List.{length-append}
use Rattle.std.proofs.lemmas.List.Elements.{All-map}
use Rattle.gl_base.specs.declared.entries.Entry.{Entry}
use Rattle.cluster_laws.specs.merged_logs.Merges.{IsByTicket, all_logged}
use Rattle.cluster_laws.specs.merged_logs.Inner.Fronts.{front_of}
use Rattle.cluster_laws.proofs.merged_logs.FrontLemmas.{IsMerging, log_at, merged_one, no_entry}
use Rattle.cluster_laws.proofs.merged_logs.MergeLemmas.{is_short, is_merged}
use Rattle.cluster_laws.proofs.merged_logs.merging.merge.Goals as goal

pub loop-front-preserved : goal.loop-front-preserved
loop-front-preserved c =
    let logs : List (List Entry) = map (λ (log : Bor (List Entry)). log.now) c.args.logs.now in
    let x = c.in-Some.front in
    let is = log_at c.args.logs.now x.log in
    let rest = heap_items c.pop.new.self in
    let new = heap_items c.merge_one.new.fronts in
    let grown =
    subst (λ (entries : List Entry). IsPermutation (front_of x.log (x.place + 1) (slice_get entries (x.place + 1)) ++ rest) new) (sym is) c.in_ok-merge_one.ensures.added in
    let order =
    subst (λ (entries : List Entry). c.merge_one.new.order.items ≡ c.loop-front.order.items ++ get_or entries x.place no_entry ∷ []) (sym is) (c.in_ok-merge_one.ensures.entry no_entry) in
    let by_ticket : All IsByTicket logs = All-map IsByTicket (λ (log : Bor (List Entry)). log.now) c.args.logs.now c.requires in
    let heaps = c.in-Some.ensures.heap_order c.loop-front.invariant.heap in
    subst (λ (entries : List Entry). IsMerging logs entries new) (sym order)
    (merged_one logs c.loop-front.order.items (heap_items c.loop-front.fronts) rest new x by_ticket c.loop-front.invariant c.in-Some.ensures.permutation
    (c.in-Some.ensures.below_top c.loop-front.invariant.heap) grown (c.in_ok-merge_one.ensures.heap heaps.0))

pub loop-front-smaller : goal.loop-front-smaller
loop-front-smaller c =
    let logs : List (List Entry) = map (λ (log : Bor (List Entry)). log.now) c.args.logs.now in
    let entry = get_or (get_or c.args.logs.now c.in-Some.front.log (record { ref_ptr = (0, 0); now = [] })).now c.in-Some.front.place no_entry in
    let longer = ap length (c.in_ok-merge_one.ensures.entry no_entry) ∙ length-append c.loop-front.order.items (entry ∷ []) in
    let short : length c.merge_one.new.order.items ≤ length (all_logged logs) = is_short logs c.merge_one.new.order.items (heap_items c.merge_one.new.fronts) (loop-front-preserved c) in
    omega (arith, longer, short)

pub returns : goal.returns
returns c =
    let logs : List (List Entry) = map (λ (log : Bor (List Entry)). log.now) c.args.logs.now in
    is_merged logs c.loop-front.order.items (heap_items c.loop-front.fronts) c.loop-front.invariant (sym c.loop-front.fronts.data.ok.0 ∙ c.in_default.ensures.none)
