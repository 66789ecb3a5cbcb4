use Rattle.std.proofs.Common.{◌≡◌, ℕ, ◌+◌, ◌<◌, if◌then◌else◌, List, length, slice_index, slice_index_or, slice_set, sym, ap, ◌∙◌, subst, arith}
use Rattle.update_api.specs.Directions.{leads_out, leads_into}
use Rattle.update_api.specs.Links.{near_at}
use Rattle.update_api.specs.declared.links.Direction.{Direction}
use Rattle.update_api.specs.declared.links.Link.{Link}
use Rattle.update_api.specs.Near.{Near}
use Rattle.update_api.specs.Scopes.{numbers, no_link}
use Rattle.update_api.specs.Updates.{is_tight}
use Rattle.update_api.proofs.MarksLaws.{AreMarkedBelow, marked_after, marked_all}
use Rattle.graph_programs.proofs.prog_paths.paths.mark_edges.Goals as goal

abbrev mark_at : ℕ → Near → ℕ
mark_at own near = if is_tight own near then 1 else 0

-- the mark of the same edge, where each thing that is read of it is what it was
same_mark : (own : ℕ) (values edges : List ℕ) (link : Link) (number weight : ℕ) (direction : Direction) →
    number ≡ slice_index values link.near → weight ≡ link.weight → direction ≡ link.direction →
    mark_at own (record { number = number; mark = slice_index edges link.edge; weight = weight; out = leads_out direction; into = leads_into direction })
    ≡ mark_at own (near_at values edges link)
same_mark own values edges link number weight direction e f g =
    λ i. mark_at own (record { number = e i; mark = slice_index edges link.edge; weight = f i; out = leads_out (g i); into = leads_into (g i) })

pub loop-i-preserved : goal.loop-i-preserved
loop-i-preserved c =
    let old = c.args.scope.now in let s = c.loop-i.scope in let i = c.loop-i.i in let inv = c.loop-i.invariant in let x = c.mark_of-mark.result in
    let mark = mark_at c.args.own in
    let link = slice_index_or old.links.now i no_link in
    let inside : i < length old.links.now = omega (arith, ap (λ xs. length xs) inv.same_links) in
    let centre : s.centre.now ≡ old.centre.now = ap (λ m. m.now) inv.same_centre in
    let same_numbers : numbers s ≡ numbers old = cc (inv.same_low, inv.same_high) in
    let same_link : slice_index_or s.links.now i no_link ≡ link = ap (λ xs. slice_index_or xs i no_link) inv.same_links in
    let seen = same_mark c.args.own (numbers old) old.edges.now link c.near.result c.weight.result c.direction.result
    (c.near.ensures ∙ ap (λ v. slice_index v (slice_index_or s.links.now i no_link).near) same_numbers ∙ ap (λ l. slice_index (numbers old) l.near) same_link)
    (c.weight.ensures ∙ ap (λ l. l.weight) same_link) (c.direction.ensures ∙ ap (λ l. l.direction) same_link) in
    let marked : x ≡ mark (near_at (numbers old) old.edges.now link) = c.mark_of-mark.ensures (slice_index old.edges.now link.edge) ∙ seen in
    record {
      marked = subst (λ (l : Link). AreMarkedBelow (i + 1) mark (numbers old) old.edges.now old.links.now (slice_set s.edges.now l.edge x)) (sym same_link)
          (marked_after mark (numbers old) old.edges.now old.links.now old.fit.apart old.fit.edge i x s.edges.now inside marked inv.marked);
      same_id = inv.same_id;
      same_links = inv.same_links;
      same_low = inv.same_low;
      same_centre = inv.same_centre;
      same_high = inv.same_high;
      same_edges = inv.same_edges;
    }

pub returns-clause-marks : goal.returns-clause-marks
returns-clause-marks c =
    let old = c.args.scope.now in
    let mark = mark_at c.args.own in
    let ended : c.loop-i.i ≡ length old.links.now = omega arith in
    marked_all mark (numbers old) old.edges.now old.links.now c.loop-i.scope.edges.now
    (subst (λ k. AreMarkedBelow k mark (numbers old) old.edges.now old.links.now c.loop-i.scope.edges.now) ended c.loop-i.invariant.marked)
