-- What is kept where a row moves out or in, and numbers are written.
use Rattle.std.proofs.Common.{◌≡◌, ℕ, ◌<◌, ◌≤◌, ◌==◌, if◌then◌else◌, Bool, true, Option, Some, None, is_some, List, [], length, get_or, slice_get, set, refl, sym, ap, ◌∙◌, subst, arith, inl, inr}
use Rattle.std.specs.List.{All}
use Rattle.std.proofs.lemmas.Bool.{cases_eq, cases_lt, true≢false}
use Rattle.std.proofs.lemmas.Option.{slice_get_past}
use Rattle.std.proofs.lemmas.List.{get_or-set_same, get_or-set_other, length-set, get_or_past}
use Rattle.gl_base.specs.declared.scopes.Datum.{Datum}
use Rattle.update_api.specs.declared.links.Link.{Link}
use Rattle.local_graph.specs.declared.sides.Side.{Side}
use Rattle.local_graph.specs.Locals.{LocalView, at_place, got_at, place_of_vertex}
use Rattle.local_graph.specs.Played.{place_or}
use Rattle.local_graph.specs.Inner.Kept.{IsWellKept}
use Rattle.local_graph.specs.Inner.Ways.{rows_in}
use Rattle.local_graph.proofs.PlaceLemmas.{at_written}
use Rattle.local_graph.proofs.WayLemmas.{rows_set}

-- one row is written as out or as it is, and all numbers
pub sound_after : (l : LocalView) (k : ℕ) (row : Option (List Link)) (numbers : List ℕ) → IsWellKept l → (is_some row ≡ true → row ≡ Some (get_or l.links k [])) → length numbers ≡ length l.numbers
    → IsWellKept (record l { rows = set l.rows k row; numbers = numbers })
sound_after l k row numbers sound is same =
    record {
      inside = sound.inside;
      apart = sound.apart;
      own = sound.own;
      part = sound.part;
      ids = sound.ids;
      rows = length-set l.rows k row ∙ sound.rows;
      parts = sound.parts;
      links = sound.links;
      same = λ j. elim (cases_eq j k) [
        | inl same_place ↦ elim (cases_lt k (length l.rows)) [
          | inl inside ↦
              let here : get_or (set l.rows k row) j None ≡ row = ap (λ (n : ℕ). get_or (set l.rows k row) n None) same_place ∙ get_or-set_same l.rows k row None inside in
              λ there. here ∙ is (sym (ap is_some here) ∙ there) ∙ ap (λ (n : ℕ). Some (get_or l.links n [])) (sym same_place)
          | inr past ↦
              let gone : get_or (set l.rows k row) j None ≡ None = get_or_past (set l.rows k row) j None (omega (arith, length-set l.rows k row)) in
              λ there. absurd (true≢false (sym there ∙ ap is_some gone))
        ]
        | inr other ↦
            let here = get_or-set_other l.rows k j row None other in
            λ there. here ∙ sound.same j (sym (ap is_some here) ∙ there)
      ];
      fit = sound.fit;
      edges = λ j. subst (λ (n : ℕ). All (λ (s : Side). s.edge.0 < n) (get_or l.sides j [])) (sym same) (sound.edges j);
      leads = sound.leads;
      few = sound.few;
    }

-- an own vertex has its place among the own ones
pub own_place : (kept : List Datum) (o : Option ℕ) (k : ℕ) → o ≡ Some k → is_some (got_at kept o) ≡ true → k < length kept
own_place kept o k at own = elim (cases_lt k (length kept)) [
  | inl inside ↦ inside
  | inr past ↦
      absurd (true≢false (sym own ∙ ap (λ p. is_some (got_at kept p)) at ∙ ap is_some (slice_get_past kept k past)))
]

-- the datum at the place of an own vertex, and none at another place
pub got_along : (kept : List Datum) (o : Option ℕ) (place : ℕ) → place ≡ place_or 4294967295 o → ((k : ℕ) → o ≡ Some k → k < 4294967295) → length kept ≤ 4294967295 → slice_get kept place ≡ got_at kept o
got_along kept None place is low few = ap (slice_get kept) is ∙ slice_get_past kept 4294967295 few
got_along kept (Some k) place is low few = let inside = low k refl in let at : place ≡ k = omega arith in ap (slice_get kept) at

-- a row that is not out stands at a place of the rows
pub row_place : (rows : List (Option (List Link))) (o : Option ℕ) (k : ℕ) → o ≡ Some k → is_some (at_place rows o None) ≡ true → k < length rows
row_place rows o k at there = elim (cases_lt k (length rows)) [
  | inl inside ↦ inside
  | inr past ↦
      absurd (true≢false (sym there ∙ ap (λ p. is_some (at_place rows p None)) at ∙ ap is_some (get_or_past rows k None past)))
]

-- what is seen of rows where one of them goes out or comes in
pub rows_after : (places : List (Option ℕ)) (outs : List Bool) (links : List (List Link)) (v k : ℕ) (out : Bool)
    → ((x y j : ℕ) → place_of_vertex places x ≡ Some j → place_of_vertex places y ≡ Some j → x ≡ y)
    → place_of_vertex places v ≡ Some k → k < length (rows_in outs links)
    → (x : ℕ) → at_place (rows_in (set outs k out) links) (place_of_vertex places x) None ≡ (if x == v then (if out then None else Some (get_or links k [])) else at_place (rows_in outs links) (place_of_vertex places x) None)
rows_after places outs links v k out apart at inside x =
    let row : Option (List Link) = if out then None else Some (get_or links k []) in
    ap (λ (rs : List (Option (List Link))). at_place rs (place_of_vertex places x) None) (rows_set outs links k out)
    ∙ at_written places (rows_in outs links) v k row None apart at inside x
