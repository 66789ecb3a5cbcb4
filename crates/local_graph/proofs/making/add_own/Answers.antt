use Rattle.std.proofs.Common.{◌≡◌, ◌<◌, ◌++◌, true, [], ◌∷◌, List, length, get_or, map, sym, ap, ◌∙◌, arith}
use Rattle.std.proofs.lemmas.Bool.{lt-ltb}
use Rattle.gl_base.specs.declared.numbers.MachineNo.{MachineNo}
use Rattle.gl_base.specs.declared.numbers.Vertex.{Vertex}
use Rattle.graph_core.specs.declared.halves.Half.{Half}
use Rattle.local_graph.specs.Lines.{links_from}
use Rattle.local_graph.specs.declared.sides.Side.{Side}
use Rattle.local_graph.specs.Played.{numbers_of, side_of, sides_kept}
use Rattle.local_graph.specs.Inner.AtPlaces.{halves_known, machines_of, scope_numbers, sides_known}
use Rattle.local_graph.specs.Inner.Ways.{links_along}
use Rattle.local_graph.proofs.MakeLemmas.{IsAddedAround, made_own}
use Rattle.local_graph.proofs.WayLemmas.{links_are}
use Rattle.local_graph.proofs.making.add_own.Goals as goal

pub loop-place-preserved : goal.loop-place-preserved
loop-place-preserved c =
    let s = c.args.standing.now in
    let p = c.args.sources.now in
    let known = p.known.now in
    let k = c.loop-place.place in
    let d : Vertex = record { 0 = 0 } in
    let v : Vertex = get_or known k d in
    let side = side_of s.me s.many s.ghosts.now s.places.now in
    let inside : k < length known = let m = c.requires.many in omega arith in
    let is : c.row-halves.result.now ≡ halves_known p.halves.now known k = c.row-halves.ensures in
    let sides = c.fill.new.self.sides.items in
    let scope = c.fill.new.self.scope.items in
    let low : k < s.many = omega arith in
    let are_sides : sides ≡ sides_known side s.many p.halves.now known k =
    c.in_ok-fill.ensures.sides ∙ ap (λ (hs : List Half). sides_kept true s.many (map side hs)) is
    ∙ ap (λ b. sides_kept b s.many (map side (halves_known p.halves.now known k))) (sym (lt-ltb k s.many low)) in
    let is_scope : numbers_of scope ≡ scope_numbers p.owned.now v.0 sides = c.in_ok-fill.ensures.scope in
    let old = c.loop-place.lists in
    let new = c.push_around.new.self in
    let added : IsAddedAround side s.many s.me p.machines p.halves.now known p.owned.now k old new sides scope =
    record {
      to_sides = c.in_ok-push_around.ensures.sides ∙ ap (λ (rows : List (List Side)). rows ++ sides ∷ []) c.push_own.ensures.rest.0;
      to_part = c.in_ok-push_around.ensures.part ∙ ap (λ (rows : List (List Vertex)). rows ++ scope ∷ []) c.push_own.ensures.rest.1;
      are_sides = are_sides;
      is_scope = is_scope;
    } in
    made_own side s.many s.me p.machines p.halves.now known p.owned.now k old new sides scope (links_along 0 c.deref-in-loop-place.result.now) c.fill_machines.new.list.items c.loop-place.invariant added
    (c.push_around.ensures.rest.0 ∙ c.in_ok-push_own.ensures.links)
    (ap (links_along 0) (c.deref-in-loop-place.ensures.value ∙ c.in_ok-fill_ways.ensures) ∙ links_are 0 c.row-halves.result.now ∙ ap (λ (hs : List Half). links_from 0 hs) is)
    (c.push_around.ensures.rest.1 ∙ c.in_ok-push_own.ensures.parts ∙ ap (λ (ms : List MachineNo). old.parts ++ ms ∷ []) c.deref-in-loop-place-2.ensures.value)
    (c.in_ok-fill_machines.ensures ∙ ap (machines_of s.me p.machines) c.deref.ensures.value)
