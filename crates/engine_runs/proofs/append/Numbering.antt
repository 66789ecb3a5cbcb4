-- Numbers that are gone over, one by one.
use Rattle.std.proofs.Common.{◌≡◌, ℕ, ◌+◌, ◌==◌, ◌<◌, ◌∙◌, List, [], ◌∷◌, ◌++◌, get_or, if◌then◌else◌, length, map, take, sym, ap, subst}
use Rattle.std.proofs.Math.Seq.{take-length}
use Rattle.std.specs.List.{AllByRecursion, flat_map}
use Rattle.std.proofs.lemmas.Grind.{flat_map-append}
use Rattle.std.proofs.lemmas.List.{append-nil, map-append, take_more}
use Rattle.gl_base.specs.declared.numbers.Vertex.{Vertex}
use Rattle.gl_base.specs.declared.snapshots.SavedPart.{SavedPart}
use Rattle.graph_core.proofs.HalvesLaws.{each-append}
use Rattle.store.proofs.store_format.NumberLemmas.{saved-append}
use Rattle.engine_runs.specs.append.Inner.Numbers.{part_vertices, saved_or, vertex_pair}

-- what is so of one element more
pub each_more : {X : Type 0} (P : X → Type 0) (xs : List X) (i : ℕ) (d : X) → i < length xs → AllByRecursion P (take i xs) → P (get_or xs i d) → AllByRecursion P (take (i + 1) xs)
each_more P xs i d low all one = subst (AllByRecursion P) (sym (take_more xs i d low)) (each-append P (take i xs) (get_or xs i d ∷ []) all (one, tt))

pub all_mapped : {X Y : Type 0} (P : Y → Type 0) (f : X → Y) (xs : List X) → AllByRecursion (λ x. P (f x)) xs → AllByRecursion P (map f xs)
all_mapped P f [] all = tt
all_mapped P f (x ∷ xs) all = (all.0, all_mapped P f xs all.1)

pub all_joined : {X Y : Type 0} (P : Y → Type 0) (f : X → List Y) (xs : List X) → AllByRecursion (λ x. AllByRecursion P (f x)) xs → AllByRecursion P (flat_map f xs)
all_joined P f [] all = tt
all_joined P f (x ∷ xs) all = each-append P (f x) (flat_map f xs) all.0 (all_joined P f xs all.1)

-- the number that is saved last, with one vertex more
pub saved_more : (number : ℕ) (saved : List (Vertex × ℕ)) (i : ℕ) (d : Vertex × ℕ) (v : ℕ) → i < length saved →
    saved_or number (map vertex_pair (take (i + 1) saved)) v ≡ (if (get_or saved i d).0.0 == v then (get_or saved i d).1 else saved_or number (map vertex_pair (take i saved)) v)
saved_more number saved i d v low =
    ap (λ (pairs : List (Vertex × ℕ)). saved_or number (map vertex_pair pairs) v) (take_more saved i d low)
    ∙ ap (λ (pairs : List (ℕ × ℕ)). saved_or number pairs v) (map-append vertex_pair (take i saved) (get_or saved i d ∷ []))
    ∙ saved-append number (map vertex_pair (take i saved)) (vertex_pair (get_or saved i d) ∷ []) v

pub put_more : (number : ℕ) (saved : List (Vertex × ℕ)) (i : ℕ) (d : Vertex × ℕ) (v new before : ℕ) → i < length saved →
    new ≡ (if (get_or saved i d).0.0 == v then (get_or saved i d).1 else before) → before ≡ saved_or number (map vertex_pair (take i saved)) v → new ≡ saved_or number (map vertex_pair (take (i + 1) saved)) v
put_more number saved i d v new before low is so =
    is ∙ ap (λ (x : ℕ). if (get_or saved i d).0.0 == v then (get_or saved i d).1 else x) so ∙ sym (saved_more number saved i d v low)

-- and with one part more
pub part_more : (number : ℕ) (parts : List SavedPart) (i : ℕ) (d : SavedPart) (v : ℕ) → i < length parts →
    saved_or number (flat_map part_vertices (take (i + 1) parts)) v ≡ saved_or (saved_or number (flat_map part_vertices (take i parts)) v) (part_vertices (get_or parts i d)) v
part_more number parts i d v low =
    ap (λ (ps : List SavedPart). saved_or number (flat_map part_vertices ps) v) (take_more parts i d low)
    ∙ ap (λ (pairs : List (ℕ × ℕ)). saved_or number pairs v)
    (flat_map-append part_vertices (take i parts) (get_or parts i d ∷ []) ∙ ap (λ (pairs : List (ℕ × ℕ)). flat_map part_vertices (take i parts) ++ pairs) (append-nil (part_vertices (get_or parts i d))))
    ∙ saved-append number (flat_map part_vertices (take i parts)) (part_vertices (get_or parts i d)) v

-- all were gone over
pub all_taken : {X : Type 0} (P : X → Type 0) (xs : List X) (i : ℕ) → i ≡ length xs → AllByRecursion P (take i xs) → AllByRecursion P xs
all_taken P xs i is all = subst (AllByRecursion P) (ap (λ (n : ℕ). take n xs) is ∙ take-length xs) all
