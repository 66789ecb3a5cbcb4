-- The first unknown key of a map is the least.
use Rattle.std.proofs.Common.{◌≡◌, Bool, cond, true, false, List, [], ◌∷◌, Option, Some, None, String, Global, Ordering, Less, Equal, Greater, map, filter, refl, sym, string_bytes, string_cmp, nat_cmp}
use Rattle.std.specs.List.{AllByRecursion, find}
use Rattle.std.specs.List.Sorted.{IsStrictlySortedBy}
use Rattle.std.specs.Cmp.Lexicographic.{slice_cmp}
use Rattle.std.specs.Ordering.{match_ordering}
use Rattle.job_io.specs.job_config.Keys.{is_unknown, least_key, lesser_key}
use Rattle.gl_base.specs.Texts.{Text}

-- a text that is below another and below what is chosen with it
below_both : (k y : Text) (o : Option Text) → slice_cmp nat_cmp k y ≡ Less → lesser_key k o ≡ Some k → lesser_key k (lesser_key y o) ≡ Some k
below_both k y None less e = rw less refl
below_both k y (Some l) less e = go (slice_cmp nat_cmp y l) e
  where
    go : (o : Ordering) → lesser_key k (Some l) ≡ Some k → lesser_key k (match_ordering o (Some y) (Some y) (Some l)) ≡ Some k
    go Less h = rw less refl
    go Equal h = rw less refl
    go Greater h = h

below_all : (k : String Global) (ks : List (String Global)) → AllByRecursion (λ y. string_cmp k y ≡ Less) ks
    → lesser_key (string_bytes k) (least_key (filter is_unknown (map string_bytes ks))) ≡ Some (string_bytes k)
below_all k [] h = refl
below_all k (y ∷ ks) h = go (is_unknown (string_bytes y)) (below_all k ks h.1)
  where
    go : (b : Bool) → lesser_key (string_bytes k) (least_key (filter is_unknown (map string_bytes ks))) ≡ Some (string_bytes k)
        → lesser_key (string_bytes k) (least_key (cond b (string_bytes y ∷ filter is_unknown (map string_bytes ks)) (filter is_unknown (map string_bytes ks)))) ≡ Some (string_bytes k)
    go true rest = below_both (string_bytes k) (string_bytes y) (least_key (filter is_unknown (map string_bytes ks))) h.0 rest
    go false rest = rest

pub first_is_least : (ks : List (String Global)) → IsStrictlySortedBy string_cmp ks
    → find is_unknown (map string_bytes ks) ≡ least_key (filter is_unknown (map string_bytes ks))
unfolding IsStrictlySortedBy
first_is_least [] h = refl
first_is_least (k ∷ ks) h = go (is_unknown (string_bytes k)) (first_is_least ks h.1)
  where
    go : (b : Bool) → find is_unknown (map string_bytes ks) ≡ least_key (filter is_unknown (map string_bytes ks))
        → cond b (Some (string_bytes k)) (find is_unknown (map string_bytes ks)) ≡ least_key (cond b (string_bytes k ∷ filter is_unknown (map string_bytes ks)) (filter is_unknown (map string_bytes ks)))
    go true rest = sym (below_all k ks h.0)
    go false rest = rest
