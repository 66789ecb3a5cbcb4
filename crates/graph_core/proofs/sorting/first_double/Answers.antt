use Rattle.std.proofs.Common.{◌≡◌, ℕ, ◌<◌, ◌∙◌, true, false, List, map, length, take, get_or, eqb, sym, refl, arith}
use Rattle.std.specs.List.{list_any}
use Rattle.std.proofs.lemmas.Bool.{not-false, not-true}
use Rattle.std.proofs.lemmas.List.{get_or-map, length-map}
use Rattle.graph_core.proofs.SortLemmas.{distinct_none, distinct_more, seen_more, first_double_here}
use Rattle.graph_core.proofs.sorting.first_double.Goals as goal

-- the key that was read is the one at its place
key_is : {T : Type 0} (key : T → ℕ) (items : List T) (place : ℕ) (item : T) (k : ℕ) → place < length items → item ≡ get_or items place item → k ≡ key item → k ≡ get_or (map key items) place 0
key_is key items place item k inside read is =
    let at = get_or-map key items place item 0 inside in
    rw (at, ← read) is

pub loop-place-init : goal.loop-place-init
loop-place-init g c = (distinct_none, λ q. rw c.new-seen.ensures.empty refl)

pub returns-then-not-branch : goal.returns-then-not-branch
returns-then-not-branch g c =
    let key = g.T.HasKey.key in
    let items = c.args.items.now in
    let is = key_is key items c.loop-place.place c.index-items-place.result c.key.result (omega arith) c.index-items-place.is c.key.ensures in
    let had = not-false _ (sym c.in_ok-insert.ensures.added ∙ c.if-not-branch.true) in
    let again : list_any (eqb c.key.result) (take c.loop-place.place (map key items)) ≡ true = sym (c.loop-place.invariant.1 c.key.result) ∙ had in
    first_double_here (map key items) c.loop-place.place (omega (arith, length-map items key)) c.loop-place.invariant.0 (rw (← is) again)

pub loop-place-preserved : goal.loop-place-preserved
loop-place-preserved g c =
    let key = g.T.HasKey.key in
    let items = c.args.items.now in
    let is = key_is key items c.loop-place.place c.index-items-place.result c.key.result (omega arith) c.index-items-place.is c.key.ensures in
    let lacked = not-true _ (sym c.in_ok-insert.ensures.added ∙ c.if-not-branch.false) in
    let new : list_any (eqb c.key.result) (take c.loop-place.place (map key items)) ≡ false = sym (c.loop-place.invariant.1 c.key.result) ∙ lacked in (
      distinct_more (map key items) c.loop-place.place (omega (arith, length-map items key)) c.loop-place.invariant.0 (rw (← is) new),
      λ q. seen_more (map key items) c.loop-place.place c.key.result q _ _ (omega (arith, length-map items key)) is (c.in_ok-insert.ensures.updates.0 q) (c.loop-place.invariant.1 q),
    )
