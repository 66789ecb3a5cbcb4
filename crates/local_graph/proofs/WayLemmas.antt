-- What is kept of the links of rows, and which rows are in.
use Rattle.std.proofs.Common.{◌≡◌, ℕ, zero, suc, ◌+◌, ◌<◌, ◌≤◌, ◌==◌, ◌++◌, Bool, true, false, not, ◌&&◌, if◌then◌else◌, Option, Some, None, is_some, List, [], ◌∷◌, length, get_or, map, replicate, set, take, refl, sym, ap, ◌∙◌, arith}
use Rattle.std.specs.List.{list_all}
use Rattle.std.proofs.lemmas.Bool.{eqb-true, true≢false}
use Rattle.std.proofs.lemmas.List.{length-replicate, length-take-le, take_more}
use Rattle.graph_core.specs.declared.halves.Half.{Half}
use Rattle.update_api.specs.declared.links.Direction.{Direction}
use Rattle.update_api.specs.declared.links.Direction.TheVariants.{Out, Into, Both}
use Rattle.update_api.specs.declared.links.Link.{Link}
use Rattle.local_graph.specs.declared.links.Way.{Way}
use Rattle.local_graph.specs.Lines.{link_of, links_from}
use Rattle.local_graph.specs.Inner.Ways.{is_plain, is_plain_with, link_along, links_along, plain_way, rows_in, rows_kept, way_of, ways_kept}

-- ---- links along ways

pub links_are : (k : ℕ) (hs : List Half) → links_along k (map way_of hs) ≡ links_from k hs
links_are k [] = refl
links_are k (h ∷ hs) = ap (λ (ls : List Link). link_of k h ∷ ls) (links_are (suc k) hs)

pub length-along : (k : ℕ) (ways : List Way) → length (links_along k ways) ≡ length ways
length-along k [] = refl
length-along k (w ∷ ways) = ap suc (length-along (suc k) ways)

along-append : (k : ℕ) (ways : List Way) (w : Way) → links_along k (ways ++ w ∷ []) ≡ links_along k ways ++ link_along (k + length ways) w ∷ []
along-append k [] w = let e : k + 0 ≡ k = omega arith in ap (λ (j : ℕ). link_along j w ∷ []) (sym e)
along-append k (v ∷ ways) w =
    let e : suc k + length ways ≡ k + suc (length ways) = omega arith in
    ap (λ (ls : List Link). link_along k v ∷ ls) (along-append (suc k) ways w ∙ ap (λ (j : ℕ). links_along (suc k) ways ++ link_along j w ∷ []) e)

pub along_more : (ways : List Way) (i : ℕ) (d : Way) → i < length ways → links_along 0 (take (i + 1) ways) ≡ links_along 0 (take i ways) ++ link_along i (get_or ways i d) ∷ []
along_more ways i d inside =
    let e : 0 + length (take i ways) ≡ i = omega (arith, length-take-le i ways) in
    ap (links_along 0) (take_more ways i d inside) ∙ along-append 0 (take i ways) (get_or ways i d)
    ∙ ap (λ (j : ℕ). links_along 0 (take i ways) ++ link_along j (get_or ways i d) ∷ []) e

plain_push : (n : ℕ) → replicate (n + 1) plain_way ≡ replicate n plain_way ++ plain_way ∷ []
plain_push zero = refl
plain_push (suc n) =
    let one : suc n + 1 ≡ suc (n + 1) = omega arith in
    ap (λ (k : ℕ). replicate k plain_way) one ∙ ap (λ (ws : List Way). plain_way ∷ ws) (plain_push n)

pub plain_more : (n : ℕ) → links_along 0 (replicate (n + 1) plain_way) ≡ links_along 0 (replicate n plain_way) ++ link_along n plain_way ∷ []
plain_more n =
    let e : 0 + length (replicate n plain_way) ≡ n = omega (arith, length-replicate n plain_way) in
    ap (links_along 0) (plain_push n) ∙ along-append 0 (replicate n plain_way) plain_way
    ∙ ap (λ (j : ℕ). links_along 0 (replicate n plain_way) ++ link_along j plain_way ∷ []) e

-- ---- plain edges

abbrev way_with : ℕ → Direction → Way
way_with weight direction = record { weight = weight; direction = direction }

plain_is : (w : Way) → is_plain w ≡ true → w ≡ plain_way
plain_is w is = by w.weight w.direction is
  where
    by : (weight : ℕ) (direction : Direction) → is_plain_with weight direction ≡ true → way_with weight direction ≡ plain_way
    by weight Both is = ap (λ (k : ℕ). way_with k Both) (eqb-true weight 1 is)
    by weight Out is = absurd (true≢false (sym is))
    by weight Into is = absurd (true≢false (sym is))

first_of : (a b : Bool) → (a && b) ≡ true → a ≡ true
first_of true b is = refl
first_of false b is = is

second_of : (a b : Bool) → (a && b) ≡ true → b ≡ true
second_of true b is = is
second_of false b is = absurd (true≢false (sym is))

pub all_plain : (ways : List Way) → list_all is_plain ways ≡ true → replicate (length ways) plain_way ≡ ways
all_plain [] is = refl
all_plain (w ∷ ways) is =
    ap (λ (ws : List Way). plain_way ∷ ws) (all_plain ways (second_of (is_plain w) (list_all is_plain ways) is))
    ∙ ap (λ (v : Way). v ∷ ways) (sym (plain_is w (first_of (is_plain w) (list_all is_plain ways) is)))

pub kept_told : (ways : List Way) → ways_kept (length ways) ways ≡ ways
kept_told [] = refl
kept_told (w ∷ ways) = refl

-- ---- rows of which this is kept

pub length-kept : (counts : List ℕ) (rows : List (List Way)) → length counts ≡ length rows → length (rows_kept counts rows) ≡ length counts
length-kept [] rows same = refl
length-kept (c ∷ counts) [] same = sym same
length-kept (c ∷ counts) (ways ∷ rows) same = ap suc (length-kept counts rows (omega arith))

pub kept_at : (counts : List ℕ) (rows : List (List Way)) (k : ℕ) → length counts ≡ length rows → k < length counts → get_or (rows_kept counts rows) k [] ≡ links_along 0 (ways_kept (get_or counts k 0) (get_or rows k []))
kept_at [] rows k same inside = absurd (omega arith)
kept_at (c ∷ counts) [] k same inside = absurd (omega arith)
kept_at (c ∷ counts) (ways ∷ rows) zero same inside = refl
kept_at (c ∷ counts) (ways ∷ rows) (suc k) same inside = kept_at counts rows k (omega arith) (omega arith)

pub kept_push : (counts : List ℕ) (rows : List (List Way)) (c : ℕ) (ways : List Way) → length counts ≡ length rows → rows_kept (counts ++ c ∷ []) (rows ++ ways ∷ []) ≡ rows_kept counts rows ++ links_along 0 (ways_kept c ways) ∷ []
kept_push [] [] c ways same = refl
kept_push [] (v ∷ rows) c ways same = absurd (omega arith)
kept_push (d ∷ counts) [] c ways same = absurd (omega arith)
kept_push (d ∷ counts) (v ∷ rows) c ways same = ap (λ (ls : List (List Link)). links_along 0 (ways_kept d v) ∷ ls) (kept_push counts rows c ways (omega arith))

-- ---- rows that are in

pub rows_set : (outs : List Bool) (rows : List (List Link)) (k : ℕ) (out : Bool) → rows_in (set outs k out) rows ≡ set (rows_in outs rows) k (if out then None else Some (get_or rows k []))
rows_set [] rows k out = refl
rows_set (o ∷ outs) [] zero out = refl
rows_set (o ∷ outs) [] (suc k) out = refl
rows_set (o ∷ outs) (links ∷ rows) zero out = refl
rows_set (o ∷ outs) (links ∷ rows) (suc k) out = ap (λ (rs : List (Option (List Link))). (if o then None else Some links) ∷ rs) (rows_set outs rows k out)

pub rows_short : (outs : List Bool) (rows : List (List Link)) → length (rows_in outs rows) ≤ length outs
rows_short [] rows = omega arith
rows_short (o ∷ outs) [] = omega arith
rows_short (o ∷ outs) (links ∷ rows) = omega (arith, rows_short outs rows)

pub in_at : (outs : List Bool) (rows : List (List Link)) (k : ℕ) (d : Bool) → k < length (rows_in outs rows) → is_some (get_or (rows_in outs rows) k None) ≡ not (get_or outs k d)
in_at [] rows k d inside = absurd (omega arith)
in_at (o ∷ outs) [] k d inside = absurd (omega arith)
in_at (true ∷ outs) (links ∷ rows) zero d inside = refl
in_at (false ∷ outs) (links ∷ rows) zero d inside = refl
in_at (o ∷ outs) (links ∷ rows) (suc k) d inside = in_at outs rows k d (omega arith)

pub in_same : (outs : List Bool) (rows : List (List Link)) (k : ℕ) → is_some (get_or (rows_in outs rows) k None) ≡ true → get_or (rows_in outs rows) k None ≡ Some (get_or rows k [])
in_same [] rows k is = absurd (true≢false (sym is))
in_same (o ∷ outs) [] k is = absurd (true≢false (sym is))
in_same (true ∷ outs) (links ∷ rows) zero is = absurd (true≢false (sym is))
in_same (false ∷ outs) (links ∷ rows) zero is = refl
in_same (o ∷ outs) (links ∷ rows) (suc k) is = in_same outs rows k is

pub all_in : {X : Type 0} (f : X → List Link) (xs : List X) → rows_in (replicate (length xs) false) (map f xs) ≡ map (λ x. Some (f x)) xs
all_in f [] = refl
all_in f (x ∷ xs) = ap (λ (rs : List (Option (List Link))). Some (f x) ∷ rs) (all_in f xs)

pub kept_plain : (counts : List ℕ) (rows : List (List Way)) (k : ℕ) → length counts ≡ length rows → k < length counts → length (get_or rows k []) ≡ 0 → get_or (rows_kept counts rows) k [] ≡ links_along 0 (replicate (get_or counts k 0) plain_way)
kept_plain counts rows k same inside none = kept_at counts rows k same inside ∙ ap (links_along 0) (by (get_or rows k []) none)
  where
    by : (ways : List Way) → length ways ≡ 0 → ways_kept (get_or counts k 0) ways ≡ replicate (get_or counts k 0) plain_way
    by [] none = refl
    by (w ∷ ways) none = absurd (omega arith)

pub kept_along : (counts : List ℕ) (rows : List (List Way)) (k : ℕ) → length counts ≡ length rows → k < length counts → 0 < length (get_or rows k []) → get_or (rows_kept counts rows) k [] ≡ links_along 0 (get_or rows k [])
kept_along counts rows k same inside some = kept_at counts rows k same inside ∙ ap (links_along 0) (by (get_or rows k []) some)
  where
    by : (ways : List Way) → 0 < length ways → ways_kept (get_or counts k 0) ways ≡ ways
    by [] some = absurd (omega arith)
    by (w ∷ ways) some = refl

pub some_there : (n : ℕ) → (n == 0) ≡ false → 0 < n
some_there zero is = absurd (true≢false is)
some_there (suc n) is = omega arith
