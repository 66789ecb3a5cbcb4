-- Each own vertex has its row once the lines were played.
use Rattle.std.proofs.Common.{◌≡◌, ℕ, ◌+◌, ◌<◌, zero, suc, true, List, [], ◌∷◌, length, get_or, map, Option, Some, None, is_some, refl, sym, ap, ◌∙◌, arith}
use Rattle.std.proofs.lemmas.List.{length-map}
use Rattle.gl_base.specs.declared.atoms.Lines.{Lines}
use Rattle.gl_base.specs.declared.numbers.MachineNo.{MachineNo}
use Rattle.gl_base.specs.declared.scopes.Datum.{Datum}
use Rattle.graph_core.specs.declared.halves.Half.{Half}
use Rattle.update_api.specs.declared.links.Link.{Link}
use Rattle.local_graph.specs.declared.outlines.Outline.{Outline}
use Rattle.local_graph.specs.Lines.{halves_of_lines, links_from}
use Rattle.local_graph.specs.Locals.{LocalView, got_at, is_own, is_placed, place_at, sides_at}
use Rattle.local_graph.specs.Played.{IsPlayedFrom, side_of, sides_kept}
use Rattle.local_graph.proofs.ListLemmas.{kept_all, length-links}
use Rattle.tests_parts.specs.Rows.{HasRow}

link_at : (k : ℕ) (hs : List Half) (i : ℕ) (d : Link) → i < length (links_from k hs)
    → ((get_or (links_from k hs) i d).near ≡ k + i) × ((get_or (links_from k hs) i d).edge ≡ k + i)
link_at k [] i d low = absurd (omega arith)
link_at k (h ∷ hs) zero d low = (omega arith, omega arith)
link_at k (h ∷ hs) (suc i) d low =
    let e : suc k + i ≡ k + suc i = omega arith in
    let rest = link_at (suc k) hs i d (omega arith) in
    (rest.0 ∙ e, rest.1 ∙ e)

own_placed : (kept : List Datum) (place : Option ℕ) → is_some (got_at kept place) ≡ true → is_some place ≡ true
own_placed kept None own = own
own_placed kept (Some k) own = refl

pub has_row : (me : MachineNo) (lines : Lines) (outline : Outline) (l : LocalView) → IsPlayedFrom me lines outline l → (v : ℕ) → is_own l v ≡ true → HasRow l v
has_row me lines outline l played v own =
    let hs = halves_of_lines outline.directed lines.edges.items v in
    let placed : is_placed l v ≡ true = own_placed l.kept (place_at l v) own in
    let side = side_of me (length played.order) lines.ghosts.items l.places in
    let sides : sides_at l v ≡ map side hs =
    played.sides v placed ∙ ap (λ b. sides_kept b (length played.order) (map side hs)) own ∙ kept_all (length played.order) (map side hs) in
    let many = ap length sides ∙ length-map hs side in
    record {
      links = links_from 0 hs;
      there = played.rows v own;
      row = record {
        many = length-links 0 hs ∙ sym many;
        near = λ i d low. let e : 0 + i ≡ i = omega arith in (link_at 0 hs i d low).0 ∙ e;
        edge = λ i d low. let e : 0 + i ≡ i = omega arith in (link_at 0 hs i d low).1 ∙ e;
      };
    }
