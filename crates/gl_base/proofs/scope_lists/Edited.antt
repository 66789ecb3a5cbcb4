-- What is found in a list after a write, a removal, or a removal that puts the last element in the gap.
use Rattle.std.proofs.Common.{◌≡◌, ◌≢◌, ◌⊎◌, ℕ, suc, ◌-◌, ◌<◌, ◌≤◌, ◌==◌, nat_lt, true, false, None, List, length, slice_index_or, slice_set, if◌then◌else◌, refl, sym, ◌∙◌, ap, subst, inl, inr, ⊎_elim, arith, eq-eqb, ne_eqb}
use Rattle.std.specs.List.{All, AllPairs, remove, swap_remove}
use Rattle.std.proofs.Math.ListN.{length-set}
use Rattle.std.proofs.lemmas.Bool.{true≢false, cases_lt, cases_eq, lt-ltb, le-ltb}
use Rattle.std.proofs.lemmas.List.{length-take-le, get_or-take, get_or-set_same, get_or-set_other, get_or_default}
use Rattle.std.proofs.lemmas.List.Edits.{length-remove, get_or-remove_below, get_or-remove_above}
use Rattle.gl_base.specs.declared.scopes.ScopeId.{ScopeId}
use Rattle.gl_base.specs.scope_lists.Scopes.{is_scope, set_for}
use Rattle.gl_base.specs.scope_lists.Found.{by_scope, AreOfTwoScopes}
use Rattle.gl_base.proofs.scope_lists.SameScope.{scopes_same}
use Rattle.gl_base.proofs.scope_lists.FoundLemmas.{IsPickedFrom, apart_picked, found_picked, apart_places}

-- ---- one element is written, whose scope stays

scope_kept : {E : Type 0} (scope_of : E → ScopeId) (es : List E) (i : ℕ) (new : E) (d : E) → i < length es → scope_of new ≡ scope_of (slice_index_or es i d) → (k : ℕ) → scope_of (slice_index_or (slice_set es i new) k d) ≡ scope_of (slice_index_or es k d)
scope_kept scope_of es i new d within same k = ⊎_elim
    (λ (here : k ≡ i). subst (λ n. scope_of (slice_index_or (slice_set es i new) n d) ≡ scope_of (slice_index_or es n d)) (sym here) (ap scope_of (get_or-set_same es i new d within) ∙ same))
    (λ (there : k ≢ i). ap scope_of (get_or-set_other es i k new d there))
    (cases_eq k i)

pub apart_set : {E : Type 0} (scope_of : E → ScopeId) (es : List E) (i : ℕ) (new : E) → i < length es → ((d : E) → scope_of new ≡ scope_of (slice_index_or es i d)) → AllPairs (AreOfTwoScopes scope_of) es → AllPairs (AreOfTwoScopes scope_of) (slice_set es i new)
apart_set scope_of es i new within same apart = λ a b d before inside.
    let early : b < length es = let long = length-set es i new in omega arith in
    rw (scope_kept scope_of es i new d within (same d) a, scope_kept scope_of es i new d within (same d) b) (apart a b d before early)

-- ---- one element is taken out, and those behind it move up

abbrev pub from_removed : ℕ → ℕ → ℕ
from_removed i k = if nat_lt k i then k else suc k

from-below : (i k : ℕ) → k < i → from_removed i k ≡ k
from-below i k below = rw (lt-ltb k i below)

from-above : (i k : ℕ) → i ≤ k → from_removed i k ≡ suc k
from-above i k above = rw (le-ltb k i above)

from-other : (i k : ℕ) → from_removed i k ≢ i
from-other i k same = ⊎_elim
    (λ (below : k < i). let is = from-below i k below in absurd (omega arith))
    (λ (above : i ≤ k). let is = from-above i k above in absurd (omega arith))
    (cases_lt k i)

removed-inside : (i k many : ℕ) → i < many → suc k < many ⊎ (k < i) → from_removed i k < many
removed-inside i k many within less = ⊎_elim
    (λ (below : k < i). let is = from-below i k below in omega arith)
    (λ (above : i ≤ k). let is = from-above i k above in ⊎_elim (λ (a : suc k < many). omega arith) (λ (b : k < i). omega arith) less)
    (cases_lt k i)

removed-different : (i k l : ℕ) → from_removed i k ≡ from_removed i l → k ≡ l
removed-different i k l same = ⊎_elim
    (λ (below : k < i). let one = from-below i k below in ⊎_elim
    (λ (b : l < i). let two = from-below i l b in omega arith)
    (λ (a : i ≤ l). let two = from-above i l a in omega arith) (cases_lt l i))
    (λ (above : i ≤ k). let one = from-above i k above in ⊎_elim
    (λ (b : l < i). let two = from-below i l b in omega arith)
    (λ (a : i ≤ l). let two = from-above i l a in omega arith) (cases_lt l i))
    (cases_lt k i)

pub removed_picked : {E : Type 0} (es : List E) (i : ℕ) → i < length es → IsPickedFrom es (remove es i) (from_removed i)
removed_picked es i within = record {
  inside = λ k inside. let long = length-remove es i within in removed-inside i k (length es) within (inl (omega arith));
  same = λ k d inside. ⊎_elim
      (λ (below : k < i). rw (from-below i k below) (get_or-remove_below es i d k below within))
      (λ (above : i ≤ k). rw (from-above i k above) (get_or-remove_above es i d k above within ∙ ap (λ n. slice_index_or es n d) (omega arith)))
      (cases_lt k i);
  different = λ k l one other same. removed-different i k l same;
}

-- the place after the removal of an element that stays
kept_removed : {E : Type 0} (es : List E) (i : ℕ) → i < length es → (j : ℕ) → j < length es → j ≢ i → (k : ℕ) × (k < length (remove es i)) × (from_removed i k ≡ j)
kept_removed es i within j inside other =
    let long = length-remove es i within in
    ⊎_elim
    (λ (below : j < i). (j, omega arith, from-below i j below))
    (λ (above : i ≤ j). let is = from-above i (j - 1) (omega (arith, other)) in (j - 1, omega (arith, other), omega (arith, other)))
    (cases_lt j i)

not_there : {E : Type 0} (scope_of : E → ScopeId) (es : List E) (s : ScopeId) (i j : ℕ) (d : E) → is_scope (scope_of (slice_index_or es i d)) s ≡ true → is_scope (scope_of (slice_index_or es j d)) s ≡ false → j ≢ i
not_there scope_of es s i j d is other same = true≢false (sym (subst (λ n. is_scope (scope_of (slice_index_or es n d)) s ≡ true) (sym same) is) ∙ other)

pub found_removed : {E : Type 0} (scope_of : E → ScopeId) (es : List E) (s : ScopeId) (i : ℕ) → AllPairs (AreOfTwoScopes scope_of) es → i < length es → ((d : E) → is_scope (scope_of (slice_index_or es i d)) s ≡ true)
    → (t : ScopeId) → by_scope scope_of (remove es i) t ≡ set_for (by_scope scope_of es) s None t
found_removed scope_of es s i apart within is =
    let picked = removed_picked es i within in
    found_picked scope_of es (remove es i) (from_removed i) s apart picked
    (λ k d inside. subst (λ u. is_scope (scope_of (slice_index_or es (from_removed i k) d)) u ≡ false) (scopes_same (scope_of (slice_index_or es i d)) s (is d))
    (apart_places scope_of es (from_removed i k) i d apart (picked.inside k inside) within (from-other i k)))
    (λ j d inside other. kept_removed es i within j inside (not_there scope_of es s i j d (is d) other))

pub apart_removed : {E : Type 0} (scope_of : E → ScopeId) (es : List E) (i : ℕ) → AllPairs (AreOfTwoScopes scope_of) es → i < length es → AllPairs (AreOfTwoScopes scope_of) (remove es i)
apart_removed scope_of es i apart within = apart_picked scope_of es (remove es i) (from_removed i) apart (removed_picked es i within)

-- ---- one element is taken out, and the last one takes its place

abbrev pub from_swapped : ℕ → ℕ → ℕ → ℕ
from_swapped last i k = if k == i then last else k

from-here : (last i k : ℕ) → k ≡ i → from_swapped last i k ≡ last
from-here last i k here = rw (eq-eqb k i here)

from-there : (last i k : ℕ) → k ≢ i → from_swapped last i k ≡ k
from-there last i k there = rw (ne_eqb k i there)

pub length-swap_removed : {E : Type 0} (es : List E) (i : ℕ) (e : E) → i < length es → length (swap_remove es i e) ≡ length es - 1
length-swap_removed es i e within =
    let new = slice_set es i (slice_index_or es (length es - 1) e) in
    length-take-le (length es - 1) new (let long = length-set es i (slice_index_or es (length es - 1) e) in omega arith)

pub swapped_picked : {E : Type 0} (es : List E) (i : ℕ) (e : E) → i < length es → IsPickedFrom es (swap_remove es i e) (from_swapped (length es - 1) i)
swapped_picked es i e within =
    let last = length es - 1 in
    let long = length-swap_removed es i e within in
    record {
      inside = λ k inside. ⊎_elim
          (λ (here : k ≡ i). let is = from-here last i k here in omega arith)
          (λ (there : k ≢ i). let is = from-there last i k there in omega arith)
          (cases_eq k i);
      same = λ k d inside.
          let early : k < last = omega arith in
          let read = get_or-take last (slice_set es i (slice_index_or es last e)) k d early in
          ⊎_elim
          (λ (here : k ≡ i). rw (from-here last i k here)
          (read ∙ (subst (λ n. slice_index_or (slice_set es i (slice_index_or es last e)) n d ≡ slice_index_or es last e) (sym here) (get_or-set_same es i (slice_index_or es last e) d within) ∙ get_or_default es last e d (omega arith))))
          (λ (there : k ≢ i). rw (from-there last i k there) (read ∙ get_or-set_other es i k (slice_index_or es last e) d there))
          (cases_eq k i);
      different = λ k l one other same. ⊎_elim
          (λ (k_here : k ≡ i). let first = from-here last i k k_here in ⊎_elim
          (λ (l_here : l ≡ i). omega arith)
          (λ (l_there : l ≢ i). let second = from-there last i l l_there in absurd (omega arith)) (cases_eq l i))
          (λ (k_there : k ≢ i). let first = from-there last i k k_there in ⊎_elim
          (λ (l_here : l ≡ i). let second = from-here last i l l_here in absurd (omega arith))
          (λ (l_there : l ≢ i). let second = from-there last i l l_there in omega arith) (cases_eq l i))
          (cases_eq k i);
    }

kept_swapped : {E : Type 0} (es : List E) (i : ℕ) (e : E) → i < length es → (j : ℕ) → j < length es → j ≢ i → (k : ℕ) × (k < length (swap_remove es i e)) × (from_swapped (length es - 1) i k ≡ j)
kept_swapped es i e within j inside other =
    let long = length-swap_removed es i e within in
    ⊎_elim
    (λ (is_last : j ≡ length es - 1). (i, omega (arith, other), from-here (length es - 1) i i refl ∙ sym is_last))
    (λ (early : j ≢ length es - 1). (j, omega (arith, other, early), from-there (length es - 1) i j other))
    (cases_eq j (length es - 1))

swapped-other : (last i k : ℕ) → k < last → from_swapped last i k ≢ i ⊎ (last ≡ i)
swapped-other last i k early = ⊎_elim
    (λ (same : last ≡ i). inr same)
    (λ (other : last ≢ i). inl (λ is. ⊎_elim
    (λ (here : k ≡ i). let first = from-here last i k here in other (omega arith))
    (λ (there : k ≢ i). let first = from-there last i k there in there (omega arith))
    (cases_eq k i)))
    (cases_eq last i)

swapped-not : (last i k : ℕ) → k < last → from_swapped last i k ≢ i
swapped-not last i k early is = ⊎_elim
    (λ (other : from_swapped last i k ≢ i). other is)
    (λ (same : last ≡ i). let there : k ≢ i = λ h. absurd (omega arith) in let first = from-there last i k there in absurd (omega arith))
    (swapped-other last i k early)

pub found_swapped : {E : Type 0} (scope_of : E → ScopeId) (es : List E) (s : ScopeId) (i : ℕ) (e : E) → AllPairs (AreOfTwoScopes scope_of) es → i < length es → ((d : E) → is_scope (scope_of (slice_index_or es i d)) s ≡ true)
    → (t : ScopeId) → by_scope scope_of (swap_remove es i e) t ≡ set_for (by_scope scope_of es) s None t
found_swapped scope_of es s i e apart within is =
    let picked = swapped_picked es i e within in
    let long = length-swap_removed es i e within in
    let last = length es - 1 in
    found_picked scope_of es (swap_remove es i e) (from_swapped last i) s apart picked
    (λ k d inside. subst (λ u. is_scope (scope_of (slice_index_or es (from_swapped last i k) d)) u ≡ false) (scopes_same (scope_of (slice_index_or es i d)) s (is d))
    (apart_places scope_of es (from_swapped last i k) i d apart (picked.inside k inside) within (swapped-not last i k (omega arith))))
    (λ j d inside other. kept_swapped es i e within j inside (not_there scope_of es s i j d (is d) other))

pub apart_swapped : {E : Type 0} (scope_of : E → ScopeId) (es : List E) (i : ℕ) (e : E) → AllPairs (AreOfTwoScopes scope_of) es → i < length es → AllPairs (AreOfTwoScopes scope_of) (swap_remove es i e)
apart_swapped scope_of es i e apart within = apart_picked scope_of es (swap_remove es i e) (from_swapped (length es - 1) i) apart (swapped_picked es i e within)

-- what holds of each element holds of those that are left
pub all_picked : {E : Type 0} (P : E → Type 0) (xs ys : List E) (from : ℕ → ℕ) → IsPickedFrom xs ys from → All P xs → All P ys
all_picked P xs ys from is each = λ k d within. rw (is.same k d within) (each (from k) d (is.inside k within))

pub all_swapped : {E : Type 0} (P : E → Type 0) (es : List E) (i : ℕ) (e : E) → i < length es → All P es → All P (swap_remove es i e)
all_swapped P es i e within each = all_picked P es (swap_remove es i e) (from_swapped (length es - 1) i) (swapped_picked es i e within) each
