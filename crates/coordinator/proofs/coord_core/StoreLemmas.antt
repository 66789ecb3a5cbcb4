-- Sections that have come, one by one.
use Rattle.std.proofs.Common.{◌≡◌, ℕ, suc, zero, ◌+◌, ◌<◌, ◌≤◌, ◌++◌, true, false, inl, inr, Option, None, Some, List, [], ◌∷◌, append_assoc, drop, get_or, length, map, replicate, set, take, refl, sym, ap, add-one, arith, subst, ◌∙◌}
use Rattle.std.specs.Prelude.{is_none, is_some, option_map, slice_index_or}
use Rattle.std.specs.List.Sorted.{IsNonDecreasingBy, IsPermutation}
use Rattle.std.proofs.lemmas.Bool.{cases_lt}
use Rattle.std.proofs.lemmas.List.{append-nil, drop_all, drop_more, get_or-map, get_or_append_left, get_or_at, length-map, length-replicate, map-set, replicate-append-replicate, set_at, take_all}
use Rattle.gl_base.specs.declared.snapshots.SavedPart.{SavedPart}
use Rattle.coordinator.specs.coord_core.Records.{IsPartOfRecord}
use Rattle.coordinator.specs.coord_core.Saving.{HaveAllCome, SectionView, come_at, entries_come, entries_told, section_view}
use Rattle.cluster_laws.specs.cluster_model.Totals.{total_from}
use Rattle.coordinator.proofs.coord_core.SavingLemmas.{total_last}
use Rattle.wire.specs.declared.wire_msgs.messages.Section.{Section}

abbrev pub told : List (Option Section) → List (Option SectionView)
told xs = map (option_map section_view) xs

pub come_is : (xs : List (Option Section)) (i : ℕ) (x : Option Section) → i < length xs → x ≡ get_or xs i x → come_at (told xs) i ≡ option_map section_view x
come_is xs i x inside is = get_or-map (option_map section_view) xs i x None inside ∙ ap (option_map section_view) (sym is)

has_some : (x : Option Section) → is_none x ≡ false → is_some (option_map section_view x) ≡ true
has_some None is = absurd (cc)
has_some (Some section) is = refl

has_none : (x : Option Section) → is_none x ≡ true → is_some (option_map section_view x) ≡ true → ⊥
has_none None is some = cc
has_none (Some section) is some = cc

pub all_more : (xs : List (Option Section)) (i : ℕ) (x : Option Section) → i < length xs → x ≡ get_or xs i x → is_none x ≡ false →
    ((a : ℕ) → a < i → is_some (come_at (told xs) a) ≡ true) → (a : ℕ) → a < i + 1 → is_some (come_at (told xs) a) ≡ true
all_more xs i x inside is some below a low = elim (cases_lt a i) [
  | inl less ↦ below a less
  | inr more ↦
      let same : i ≡ a = omega arith in
      subst (λ (k : ℕ). is_some (come_at (told xs) k) ≡ true) same (ap is_some (come_is xs i x inside is) ∙ has_some x some)
]

pub not_all : (xs : List (Option Section)) (i : ℕ) (x : Option Section) → i < length xs → x ≡ get_or xs i x → is_none x ≡ true → HaveAllCome (told xs) → ⊥
not_all xs i x inside is none all =
    let low : i < length (told xs) = subst (λ (n : ℕ). i < n) (sym (length-map xs (option_map section_view))) inside in
    has_none x none (sym (ap is_some (come_is xs i x inside is)) ∙ all i low)

-- ---- counting

pub none_below : (come : List (Option SectionView)) → entries_come 0 come ≡ 0
unfolding total_from
none_below come = refl

zero_more : (i : ℕ) → 0 + i ≡ i
zero_more i = omega arith

pub count_more : (xs : List (Option Section)) (i : ℕ) (x : Option Section) (entries count : ℕ) → i < length xs → x ≡ get_or xs i x →
    entries ≡ entries_come i (told xs) → count ≡ length (entries_told (option_map section_view x)) → entries + count ≡ entries_come (i + 1) (told xs)
count_more xs i x entries count inside is sum one =
    let last : entries_come (suc i) (told xs) ≡ entries_come i (told xs) + length (entries_told (come_at (told xs) i)) =
    total_last 0 i (λ a. length (entries_told (come_at (told xs) a))) ∙ ap (λ (k : ℕ). entries_come i (told xs) + length (entries_told (come_at (told xs) k))) (zero_more i)
    in
    let here : length (entries_told (come_at (told xs) i)) ≡ count = ap (λ (o : Option SectionView). length (entries_told o)) (come_is xs i x inside is) ∙ sym one in
    let next : entries_come (i + 1) (told xs) ≡ entries_come (suc i) (told xs) = ap (λ (n : ℕ). entries_come n (told xs)) (add-one i) in
    omega arith

-- ---- parts

pub sorted_part : (x : Option Section) (section : Section) (part : SavedPart) → x ≡ Some section → IsPermutation section.vertices.items part.vertices.items →
    IsPermutation section.edges.items part.edges.items → IsNonDecreasingBy (λ pair. pair.0.0) part.vertices.items → IsNonDecreasingBy (λ pair. pair.0.0) part.edges.items →
    IsPartOfRecord (option_map section_view x) part
sorted_part x section part is vertices edges by_vertex by_edge =
    subst (λ (o : Option Section). IsPartOfRecord (option_map section_view o) part) (sym is)
    (record { vertices = vertices; edges = edges; by_vertex = by_vertex; by_edge = by_edge })

pub parts_more : (xs : List (Option Section)) (i : ℕ) (x : Option Section) (parts : List SavedPart) (part : SavedPart) → i < length xs → x ≡ get_or xs i x → length parts ≡ i →
    IsPartOfRecord (option_map section_view x) part → ((a : ℕ) (d : SavedPart) → a < i → IsPartOfRecord (come_at (told xs) a) (slice_index_or parts a d)) →
    (a : ℕ) (d : SavedPart) → a < i + 1 → IsPartOfRecord (come_at (told xs) a) (slice_index_or (parts ++ part ∷ []) a d)
parts_more xs i x parts part inside is many new below a d low = elim (cases_lt a i) [
  | inl less ↦
      let at : a < length parts = omega arith in
      subst (IsPartOfRecord (come_at (told xs) a)) (sym (get_or_append_left parts (part ∷ []) d a at)) (below a d less)
  | inr more ↦
      let same : i ≡ a = omega arith in
      subst (λ (k : ℕ). IsPartOfRecord (come_at (told xs) k) (slice_index_or (parts ++ part ∷ []) k d)) same
      (subst (IsPartOfRecord (come_at (told xs) i)) (sym (get_or_at parts part [] d i many))
      (subst (λ (o : Option SectionView). IsPartOfRecord o part) (sym (come_is xs i x inside is)) new))
]

-- ---- forgetting

pub forget_more : (xs now : List (Option Section)) (i : ℕ) (d : Option Section) → i < length xs → now ≡ replicate i None ++ drop i xs → set now i None ≡ replicate (i + 1) None ++ drop (i + 1) xs
forget_more xs now i d inside is =
    let rest : drop i xs ≡ get_or xs i d ∷ drop (i + 1) xs = drop_more xs i d inside in
    let one : replicate i None ++ replicate 1 None ≡ replicate (i + 1) None = replicate-append-replicate i 1 None in
    ap (λ (ys : List (Option Section)). set ys i None) (is ∙ ap (λ (ys : List (Option Section)). replicate i None ++ ys) rest)
    ∙ set_at (replicate i None) (get_or xs i d) (drop (i + 1) xs) None i (length-replicate i None)
    ∙ sym (append_assoc (replicate i None) (None ∷ []) (drop (i + 1) xs))
    ∙ ap (λ (ys : List (Option Section)). ys ++ drop (i + 1) xs) one

none_told : (n : ℕ) → told (replicate n None) ≡ replicate n None
none_told zero = refl
none_told (suc n) = ap (λ (ys : List (Option SectionView)). None ∷ ys) (none_told n)

pub all_forgotten : (xs now : List (Option Section)) (n : ℕ) → n ≡ length xs → now ≡ replicate n None ++ drop n xs → told now ≡ replicate (length xs) None
all_forgotten xs now n many is =
    let over : length xs ≤ n = omega arith in
    ap told (is ∙ ap (λ (ys : List (Option Section)). replicate n None ++ ys) (drop_all n xs over) ∙ append-nil (replicate n None))
    ∙ none_told n ∙ ap (λ (k : ℕ). replicate k None) many

pub put_come : (xs : List (Option Section)) (i : ℕ) (section : Section) → told (set xs i (Some section)) ≡ set (told xs) i (Some (section_view section))
put_come xs i section = map-set (option_map section_view) xs i (Some section)

-- what is written through a slice is the list
pub kept_write : {X : Type 0} (xs ys : List X) (n : ℕ) → length ys ≡ length xs → n ≡ length xs → take n (ys ++ drop (length ys) xs) ≡ ys
kept_write xs ys n same many =
    let over : length xs ≤ length ys = omega arith in
    let all : length ys ≤ n = omega arith in
    ap (λ (zs : List _). take n (ys ++ zs)) (drop_all (length ys) xs over) ∙ ap (take n) (append-nil ys) ∙ take_all n ys all

-- the sections are gone from the list
pub all_gone : (xs ys : List (Option Section)) (n : ℕ) → n ≡ length xs → told ys ≡ replicate (length xs) None → told (take n (ys ++ drop (length ys) xs)) ≡ replicate (length (told xs)) None
all_gone xs ys n many gone =
    let same : length ys ≡ length xs = sym (length-map ys (option_map section_view)) ∙ ap length gone ∙ length-replicate (length xs) None in
    ap told (kept_write xs ys n same many) ∙ gone ∙ ap (λ (k : ℕ). replicate k None) (sym (length-map xs (option_map section_view)))
