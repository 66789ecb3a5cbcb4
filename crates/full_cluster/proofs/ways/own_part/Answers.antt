use Rattle.std.proofs.Common.{◌∙◌, ◌+◌, ℕ, ◌<◌, ◌≤◌, ◌-◌, List, drop, map, slice_index_or, ap, inl, inr, ⊎_elim, arith}
use Rattle.gl_base.specs.declared.numbers.Vertex.{Vertex}
use Rattle.graph_core.specs.DataGraph.{size}
use Rattle.full_cluster.specs.Owners.{owner_in}
use Rattle.full_cluster.specs.Inner.Ways.{is_joined, passing}
use Rattle.full_cluster.proofs.WayLemmas.{head_is, map_pushed, next_near, none_left, own_end, own_step}
use Rattle.full_cluster.proofs.ways.own_part.Goals as goal

pub push_own-requires : goal.push_own-requires
push_own-requires c =
    let g = c.args.graph.now in
    let items = c.deref-u-items.result.now in
    let i = c.loop-u.u-index in
    let head = head_is items i (record { 0 = 0 }) (passing (is_joined g c.args.v.0) c.loop-u.from (size g - c.loop-u.from)) c.loop-u-test.true c.loop-u.invariant.near in
    let h = next_near g (owner_in c.args.owner.now) c.args.v.0 c.args.machine.0 (size g) c.loop-u.from (slice_index_or items i (record { 0 = 0 })).0 (map (λ (x : Vertex). x.0) (drop (i + 1) items)) c.loop-u.invariant.low head in
    let low = h.1 in
    let owners = c.requires.owners in
    omega (arith, low, owners)

pub overflow_add-from : goal.overflow_add-from
overflow_add-from c =
    let g = c.args.graph.now in
    let items = c.deref-u-items.result.now in
    let i = c.loop-u.u-index in
    let head = head_is items i (record { 0 = 0 }) (passing (is_joined g c.args.v.0) c.loop-u.from (size g - c.loop-u.from)) c.loop-u-test.true c.loop-u.invariant.near in
    let h = next_near g (owner_in c.args.owner.now) c.args.v.0 c.args.machine.0 (size g) c.loop-u.from (slice_index_or items i (record { 0 = 0 })).0 (map (λ (x : Vertex). x.0) (drop (i + 1) items)) c.loop-u.invariant.low head in
    let low = h.1 in
    let same = c.n-count.ensures.count in
    omega (arith, low, same)

pub loop-u-preserved : goal.loop-u-preserved
loop-u-preserved c =
    let g = c.args.graph.now in
    let owner : ℕ → ℕ = owner_in c.args.owner.now in
    let v = c.args.v.0 in
    let a = c.args.machine.0 in
    let items = c.deref-u-items.result.now in
    let i = c.loop-u.u-index in
    let from = c.loop-u.from in
    let u : Vertex = slice_index_or items i (record { 0 = 0 }) in
    let rest : List ℕ = map (λ (x : Vertex). x.0) (drop (i + 1) items) in
    let head = head_is items i (record { 0 = 0 }) (passing (is_joined g v) from (size g - from)) c.loop-u-test.true c.loop-u.invariant.near in
    let h = next_near g owner v a (size g) from u.0 rest c.loop-u.invariant.low head in
    let low = h.1 in
    let before = c.loop-u.part.items in
    let mid = c.push_between.new.part.items in
    let after = c.push_own.new.part.items in
    record {
      low = omega (arith, low);
      near = h.4;
      part = own_step g owner v a (size g) from u.0 rest (map (λ (x : Vertex). x.0) before) (map (λ (x : Vertex). x.0) mid) (map (λ (x : Vertex). x.0) after) c.loop-u.invariant.low head c.loop-u.invariant.part
          (λ least most. ap (map (λ (x : Vertex). x.0)) (c.in_ok-push_between.ensures.within least most) ∙ map_pushed before c.args.v _)
          (λ out. ap (map (λ (x : Vertex). x.0)) (c.in_ok-push_between.ensures.outside out))
          (ap (map (λ (x : Vertex). x.0)) c.in_ok-push_own.ensures ∙ map_pushed mid u _);
    }

pub returns : goal.returns
returns c =
    let g = c.args.graph.now in
    let from = c.loop-u.from in
    let before = c.loop-u.part.items in
    let same = c.n-count.ensures.count in
    own_end g (owner_in c.args.owner.now) c.args.v.0 c.args.machine.0 (size g) from (map (λ (x : Vertex). x.0) before) (map (λ (x : Vertex). x.0) c.push_between-2.new.part.items) c.loop-u.invariant.low
    (none_left c.deref-u-items.result.now c.loop-u.u-index c.loop-u-test.false ∙ c.loop-u.invariant.near) c.loop-u.invariant.part
    (λ least most. ap (map (λ (x : Vertex). x.0)) (c.in_ok-push_between-2.ensures.within least (omega (arith, most, same))) ∙ map_pushed before c.args.v _)
    (λ out. ap (map (λ (x : Vertex). x.0)) (c.in_ok-push_between-2.ensures.outside (⊎_elim (λ (early : c.args.v.0 < from). inl early) (λ (late : size g ≤ c.args.v.0). inr (omega (arith, late, same))) out)))
