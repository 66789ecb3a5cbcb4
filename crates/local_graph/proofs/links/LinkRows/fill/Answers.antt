use Rattle.std.proofs.Common.{ℕ, ◌≡◌, ◌<◌, ◌≤◌, List, [], length, get_or, replicate, sym, ap, ◌∙◌, subst, arith, vec_capacity}
use Rattle.std.proofs.lemmas.Bool.{eqb-true}
use Rattle.std.proofs.lemmas.List.{get_or_default, length-replicate}
use Rattle.update_api.specs.declared.links.Link.{Link}
use Rattle.local_graph.specs.declared.links.Way.{Way}
use Rattle.local_graph.specs.Inner.Ways.{links_along, plain_way, rows_kept}
use Rattle.local_graph.proofs.WayLemmas.{kept_along, kept_plain, length-along, length-kept, some_there}
use Rattle.local_graph.proofs.links.LinkRows.fill.Goals as goal

pub row-ways-requires : goal.row-ways-requires
row-ways-requires c =
    let inside = subst (λ (rows : List (List Link)). c.args.k < length rows) (sym c.self.view_is) c.requires.row in
    let many = c.self.invariant.many in
    omega (arith, length-kept c.self.inside.counts.items c.self.inside.ways many)

pub index-requires : goal.index-requires
index-requires c =
    let inside = subst (λ (rows : List (List Link)). c.args.k < length rows) (sym c.self.view_is) c.requires.row in
    let many = c.self.invariant.many in
    omega (arith, length-kept c.self.inside.counts.items c.self.inside.ways many)

pub fill_plain-requires : goal.fill_plain-requires
fill_plain-requires c =
    let counts = c.self.inside.counts.items in
    let ways = c.self.inside.ways in
    let k = c.args.k in
    let inside = subst (λ (rows : List (List Link)). k < length rows) (sym c.self.view_is) c.requires.row in
    let room = subst (λ (rows : List (List Link)). length (get_or rows k []) ≤ vec_capacity c.args.spare) (sym c.self.view_is) c.requires.room in
    let many = c.self.invariant.many in
    let low : k < length counts = omega (arith, length-kept counts ways many) in
    let none : length (get_or ways k []) ≡ 0 = ap length (sym c.row-ways.ensures) ∙ eqb-true (length c.row-ways.result.now) 0 (sym c.is_empty.ensures ∙ c.if-is_empty.true) in
    let count = get_or counts k 0 in
    let long : length (get_or (rows_kept counts ways) k []) ≡ count =
    ap length (kept_plain counts ways k many low none) ∙ length-along 0 (replicate count plain_way) ∙ length-replicate count plain_way in
    let is : c.index.result.now ≡ count = c.index.ensures ∙ get_or_default counts k c.index.result.now 0 low in
    omega arith

pub fill_along-requires-clause-room : goal.fill_along-requires-clause-room
fill_along-requires-clause-room c =
    let counts = c.self.inside.counts.items in
    let ways = c.self.inside.ways in
    let k = c.args.k in
    let inside = subst (λ (rows : List (List Link)). k < length rows) (sym c.self.view_is) c.requires.row in
    let room = subst (λ (rows : List (List Link)). length (get_or rows k []) ≤ vec_capacity c.args.spare) (sym c.self.view_is) c.requires.room in
    let many = c.self.invariant.many in
    let low : k < length counts = omega (arith, length-kept counts ways many) in
    let some : 0 < length (get_or ways k []) = subst (λ (ws : List Way). 0 < length ws) c.row-ways.ensures (some_there (length c.row-ways.result.now) (sym c.is_empty.ensures ∙ c.if-is_empty.false)) in
    let long : length (get_or (rows_kept counts ways) k []) ≡ length (get_or ways k []) = ap length (kept_along counts ways k many low some) ∙ length-along 0 (get_or ways k []) in
    let is = ap length c.row-ways.ensures in
    omega arith

pub returns-then-is_empty : goal.returns-then-is_empty
returns-then-is_empty c =
    let counts = c.self.inside.counts.items in
    let ways = c.self.inside.ways in
    let k = c.args.k in
    let inside = subst (λ (rows : List (List Link)). k < length rows) (sym c.self.view_is) c.requires.row in
    let many = c.self.invariant.many in
    let low : k < length counts = omega (arith, length-kept counts ways many) in
    let none : length (get_or ways k []) ≡ 0 = ap length (sym c.row-ways.ensures) ∙ eqb-true (length c.row-ways.result.now) 0 (sym c.is_empty.ensures ∙ c.if-is_empty.true) in
    c.fill_plain.ensures
    ∙ ap (λ (n : ℕ). links_along 0 (replicate n plain_way)) (c.index.ensures ∙ get_or_default counts k c.index.result.now 0 low)
    ∙ sym (kept_plain counts ways k many low none)
    ∙ ap (λ (rows : List (List Link)). get_or rows k []) c.self.view_is

pub returns-else-is_empty : goal.returns-else-is_empty
returns-else-is_empty c =
    let counts = c.self.inside.counts.items in
    let ways = c.self.inside.ways in
    let k = c.args.k in
    let inside = subst (λ (rows : List (List Link)). k < length rows) (sym c.self.view_is) c.requires.row in
    let many = c.self.invariant.many in
    let low : k < length counts = omega (arith, length-kept counts ways many) in
    let some : 0 < length (get_or ways k []) = subst (λ (ws : List Way). 0 < length ws) c.row-ways.ensures (some_there (length c.row-ways.result.now) (sym c.is_empty.ensures ∙ c.if-is_empty.false)) in
    c.fill_along.ensures ∙ ap (links_along 0) c.row-ways.ensures
    ∙ sym (kept_along counts ways k many low some)
    ∙ ap (λ (rows : List (List Link)). get_or rows k []) c.self.view_is
