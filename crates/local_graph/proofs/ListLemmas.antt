-- Lists that grow item by item.
use Rattle.std.proofs.Common.{◌≡◌, ℕ, zero, suc, ◌+◌, ◌<◌, ◌||◌, ◌++◌, Bool, true, false, nat_lt, if◌then◌else◌, List, [], ◌∷◌, length, get_or, map, take, refl, sym, ap, ◌∙◌, arith}
use Rattle.std.specs.List.{filter, range_with_len}
use Rattle.std.proofs.lemmas.List.{append_assoc, map-append, map_more}
use Rattle.std.proofs.lemmas.List.Elements.{filter-append}
use Rattle.graph_core.specs.declared.halves.Half.{Half}
use Rattle.local_graph.specs.declared.sides.Side.{Side}
use Rattle.local_graph.specs.Lines.{links_from}
use Rattle.local_graph.specs.Played.{sides_kept}

-- one more item of a list that is mapped
pub mapped_more : {X Y : Type 0} (f : X → Y) (xs : List X) (i : ℕ) (d : X) (old new : List Y) (y : Y) → i < length xs → new ≡ old ++ y ∷ [] → y ≡ f (get_or xs i d) → old ≡ map f (take i xs) → new ≡ map f (take (i + 1) xs)
mapped_more {Y} f xs i d old new y inside grown is was =
    grown ∙ ap (λ (ys : List Y). ys ++ y ∷ []) was ∙ ap (λ (z : Y). map f (take i xs) ++ z ∷ []) is ∙ sym (map_more f xs i d inside)

-- the same behind other items
pub mapped_more_behind : {X Y : Type 0} (f : X → Y) (front : List Y) (xs : List X) (i : ℕ) (d : X) (old new : List Y) (y : Y) → i < length xs → new ≡ old ++ y ∷ [] → y ≡ f (get_or xs i d) → old ≡ front ++ map f (take i xs) → new ≡ front ++ map f (take (i + 1) xs)
mapped_more_behind {Y} f front xs i d old new y inside grown is was =
    grown ∙ ap (λ (ys : List Y). ys ++ y ∷ []) was ∙ append_assoc front (map f (take i xs)) (y ∷ []) ∙ ap (λ (ys : List Y). front ++ ys) (mapped_more f xs i d (map f (take i xs)) (map f (take i xs) ++ y ∷ []) y inside refl is refl)

-- one more side of those that are kept
pub kept_more : (side : Half → Side) (is_own : Bool) (many : ℕ) (hs : List Half) (i : ℕ) (d : Half) (old new : List Side) (y : Side) → i < length hs
    → new ≡ old ++ (if is_own || nat_lt y.place many then y ∷ [] else []) → y ≡ side (get_or hs i d) → old ≡ sides_kept is_own many (map side (take i hs)) → new ≡ sides_kept is_own many (map side (take (i + 1) hs))
kept_more side is_own many hs i d old new y inside grown is was =
    let test : Side → Bool = λ s. is_own || nat_lt s.place many in
    let one : Side → List Side = λ s. if is_own || nat_lt s.place many then s ∷ [] else [] in
    grown ∙ ap (λ (s : Side). old ++ one s) is ∙ ap (λ (ss : List Side). ss ++ one (side (get_or hs i d))) was
    ∙ sym (ap (sides_kept is_own many) (map_more side hs i d inside) ∙ filter-append test (map side (take i hs)) (side (get_or hs i d) ∷ []))

-- each side of an own vertex is kept
pub kept_all : (many : ℕ) (sides : List Side) → sides_kept true many sides ≡ sides
kept_all many [] = refl
kept_all many (s ∷ sides) = ap (λ (ss : List Side). s ∷ ss) (kept_all many sides)

-- one more number of a range
range_push : (a n : ℕ) → range_with_len a (n + 1) ≡ range_with_len a n ++ (a + n) ∷ []
range_push a zero = let e : a + 0 ≡ a = omega arith in ap (λ (k : ℕ). k ∷ []) (sym e)
range_push a (suc n) =
    let e : a + 1 + n ≡ a + suc n = omega arith in
    let one : suc n + 1 ≡ suc (n + 1) = omega arith in
    ap (range_with_len a) one ∙ ap (λ (ks : List ℕ). a ∷ ks) (range_push (a + 1) n ∙ ap (λ (k : ℕ). range_with_len (a + 1) n ++ k ∷ []) e)

pub range_more : (n : ℕ) → range_with_len 0 (n + 1) ≡ range_with_len 0 n ++ n ∷ []
range_more n = let e : 0 + n ≡ n = omega arith in range_push 0 n ∙ ap (λ (k : ℕ). range_with_len 0 n ++ k ∷ []) e

pub length-links : (k : ℕ) (hs : List Half) → length (links_from k hs) ≡ length hs
length-links k [] = refl
length-links k (h ∷ hs) = ap suc (length-links (suc k) hs)

-- ---- a range that is filtered and mapped

filter_more : (p : ℕ → Bool) (n : ℕ) → filter p (range_with_len 0 (n + 1)) ≡ filter p (range_with_len 0 n) ++ (if p n then n ∷ [] else [])
filter_more p n = ap (filter p) (range_more n) ∙ filter-append p (range_with_len 0 n) (n ∷ [])

-- one number more, where it passes
pub range_pushed : {Y : Type 0} (f : ℕ → Y) (p : ℕ → Bool) (n : ℕ) (b : Bool) (front out : List Y) → b ≡ p n → out ≡ front ++ map f (filter p (range_with_len 0 n))
    → out ++ (if b then f n ∷ [] else []) ≡ front ++ map f (filter p (range_with_len 0 (n + 1)))
range_pushed {Y} f p n b front out passes is =
    ap (λ (ys : List Y). ys ++ (if b then f n ∷ [] else [])) is ∙ append_assoc front (map f (filter p (range_with_len 0 n))) (if b then f n ∷ [] else [])
    ∙ ap (λ (ys : List Y). front ++ (map f (filter p (range_with_len 0 n)) ++ ys)) (mapped b ∙ ap (λ b. map f (if b then n ∷ [] else [])) passes)
    ∙ ap (λ (ys : List Y). front ++ ys) (sym (ap (map f) (filter_more p n) ∙ map-append f (filter p (range_with_len 0 n)) (if p n then n ∷ [] else [])))
  where
    mapped : (b : Bool) → (if b then f n ∷ [] else []) ≡ map f (if b then n ∷ [] else [])
    mapped true = refl
    mapped false = refl

pub map_range_more : {Y : Type 0} (f : ℕ → Y) (n : ℕ) → map f (range_with_len 0 (n + 1)) ≡ map f (range_with_len 0 n) ++ f n ∷ []
map_range_more f n = ap (map f) (range_more n) ∙ map-append f (range_with_len 0 n) (n ∷ [])
