use Rattle.std.proofs.Common.{◌≡◌, ◌<◌, ◌∙◌, sym, ap, subst, List, length, map, arith}
use Rattle.std.proofs.lemmas.List.{length-map}
use Rattle.std.proofs.lemmas.List.Elements.{All-map}
use Rattle.gl_base.specs.declared.atoms.GhostLine.{GhostLine}
use Rattle.gl_base.specs.declared.numbers.Vertex.{Vertex}
use Rattle.gl_base.specs.vertex_places.Placing.{AreTheirPlaces}
use Rattle.scope_locks.proofs.ghost_cache.CacheLemmas.{is_cache, are_ghosts}
use Rattle.scope_locks.proofs.ghost_cache.caches.GhostCache.new.Goals as goal

pub new-requires-clause-below : goal.new-requires-clause-below
new-requires-clause-below c =
    let below = All-map (λ (v : Vertex). v.0 < c.args.count) (λ (g : GhostLine). g.vertex) c.args.ghosts.now c.requires.below in
    rw (c.deref.ensures.value, c.in_ok-vertices.ensures) below

pub invariant_of-result : goal.invariant_of-result
invariant_of-result c =
    let ghosts = c.args.ghosts.now in
    let are : AreTheirPlaces c.in_ok-new.field-0 (map (λ (g : GhostLine). g.vertex) ghosts) = subst (λ (vs : List Vertex). AreTheirPlaces c.in_ok-new.field-0 vs) (c.deref.ensures.value ∙ c.in_ok-vertices.ensures) c.in_ok-new.ensures in
    let many : length c.in_ok-vertices.vertices.items ≡ length ghosts = ap length c.in_ok-vertices.ensures ∙ length-map ghosts (λ (g : GhostLine). g.vertex) in
    is_cache c.in_ok-new.field-0 ghosts (length c.in_ok-from_elem.field-0.items) are (let a = c.in_ok-from_elem.field-0.ok in let b = c.in_ok-vertices.vertices.ok in omega (arith, c.in_ok-from_elem.ensures.len, c.len.ensures))

pub returns : goal.returns
returns c =
    let ghosts = c.args.ghosts.now in
    let are : AreTheirPlaces c.in_ok-new.field-0 (map (λ (g : GhostLine). g.vertex) ghosts) = subst (λ (vs : List Vertex). AreTheirPlaces c.in_ok-new.field-0 vs) (c.deref.ensures.value ∙ c.in_ok-vertices.ensures) c.in_ok-new.ensures in
    let many : length c.in_ok-vertices.vertices.items ≡ length ghosts = ap length c.in_ok-vertices.ensures ∙ length-map ghosts (λ (g : GhostLine). g.vertex) in
    are_ghosts (record { places = c.in_ok-new.field-0; kept = c.in_ok-from_elem.field-0.items }) ghosts are (let a = c.in_ok-from_elem.field-0.ok in let b = c.in_ok-vertices.vertices.ok in omega (arith, c.in_ok-from_elem.ensures.len, c.len.ensures))
