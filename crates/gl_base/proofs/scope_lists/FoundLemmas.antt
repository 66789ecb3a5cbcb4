-- What is found in a list after one element was put in, written or taken out.
use Rattle.std.proofs.Common.{◌≡◌, ◌≢◌, ℕ, zero, suc, ◌<◌, ◌≤◌, ◌||◌, Bool, true, false, Option, Some, None, is_some, IfSome, List, [], ◌∷◌, ◌++◌, length, slice_index_or, slice_set, if◌then◌else◌, refl, sym, ◌∙◌, ap, subst, ⊎_elim, arith}
use Rattle.std.specs.List.{list_any, AllPairs}
use Rattle.std.proofs.lemmas.Bool.{cases_Bool, cases_lt, true≢false}
use Rattle.std.proofs.lemmas.Option.{none-some, same_Some}
use Rattle.std.proofs.lemmas.List.Quantifiers.{all_pairs_push}
use Rattle.gl_base.specs.declared.scopes.ScopeId.{ScopeId}
use Rattle.gl_base.specs.scope_lists.Scopes.{is_scope, set_for}
use Rattle.gl_base.specs.scope_lists.Found.{by_scope, AreOfTwoScopes, StandsAt}
use Rattle.gl_base.proofs.scope_lists.SameScope.{same_scope, scopes_same, scope_turned, one_or_two, set_for-here}

-- ---- lists whose elements are apart

-- the first of a list is apart from those behind it
pub apart_head : {E : Type 0} (scope_of : E → ScopeId) (e : E) (es : List E) → AllPairs (AreOfTwoScopes scope_of) (e ∷ es) → (k : ℕ) (d : E) → k < length es → is_scope (scope_of e) (scope_of (slice_index_or es k d)) ≡ false
apart_head scope_of e es apart k d within = apart 0 (suc k) d (omega arith) (omega arith)

pub apart_tail : {E : Type 0} (scope_of : E → ScopeId) (e : E) (es : List E) → AllPairs (AreOfTwoScopes scope_of) (e ∷ es) → AllPairs (AreOfTwoScopes scope_of) es
apart_tail scope_of e es apart = λ i j d before within. apart (suc i) (suc j) d (omega arith) (omega arith)

pub apart_none : {E : Type 0} (scope_of : E → ScopeId) → AllPairs (AreOfTwoScopes scope_of) []
apart_none scope_of = λ i j d before within. absurd (omega arith)

-- ---- what is found

-- where nothing is found, the first element isn't of the scope, and nothing is found behind it
none_head : {E : Type 0} (scope_of : E → ScopeId) (e : E) (es : List E) (s : ScopeId) → by_scope scope_of (e ∷ es) s ≡ None → (is_scope (scope_of e) s ≡ false) × (by_scope scope_of es s ≡ None)
none_head scope_of e es s none = ⊎_elim
    (λ (is : is_scope (scope_of e) s ≡ true). let some : by_scope scope_of (e ∷ es) s ≡ Some e = rw is in absurd (none-some e (sym none ∙ some)))
    (λ (other : is_scope (scope_of e) s ≡ false). let rest : by_scope scope_of (e ∷ es) s ≡ by_scope scope_of es s = rw other in (other, sym rest ∙ none))
    (cases_Bool (is_scope (scope_of e) s))

-- where nothing is found, no element is of the scope
pub found_none : {E : Type 0} (scope_of : E → ScopeId) (es : List E) (s : ScopeId) → by_scope scope_of es s ≡ None → (k : ℕ) (d : E) → k < length es → is_scope (scope_of (slice_index_or es k d)) s ≡ false
found_none scope_of [] s none k d within = absurd (omega arith)
found_none scope_of (e ∷ es) s none zero d within = (none_head scope_of e es s none).0
found_none scope_of (e ∷ es) s none (suc k) d within = found_none scope_of es s (none_head scope_of e es s none).1 k d (omega arith)

pub none_found : {E : Type 0} (scope_of : E → ScopeId) (es : List E) (s : ScopeId) → ((k : ℕ) (d : E) → k < length es → is_scope (scope_of (slice_index_or es k d)) s ≡ false) → by_scope scope_of es s ≡ None
none_found scope_of [] s each = refl
none_found scope_of (e ∷ es) s each = rw (each 0 e (omega arith)) (none_found scope_of es s (λ k d within. each (suc k) d (omega arith)))

-- the first is no other one's scope
head_other : {E : Type 0} (scope_of : E → ScopeId) (e : E) (es : List E) (i : ℕ) (d : E) (s : ScopeId) → AllPairs (AreOfTwoScopes scope_of) (e ∷ es) → i < length es → is_scope (scope_of (slice_index_or es i d)) s ≡ true → is_scope (scope_of e) s ≡ false
head_other scope_of e es i d s apart within is =
    subst (λ t. is_scope (scope_of e) t ≡ false) (scopes_same (scope_of (slice_index_or es i d)) s is) (apart_head scope_of e es apart i d within)

-- an element is found by its scope
pub found_at : {E : Type 0} (scope_of : E → ScopeId) (es : List E) (s : ScopeId) (i : ℕ) (d : E) → AllPairs (AreOfTwoScopes scope_of) es → i < length es → is_scope (scope_of (slice_index_or es i d)) s ≡ true → by_scope scope_of es s ≡ Some (slice_index_or es i d)
found_at scope_of [] s i d apart within is = absurd (omega arith)
found_at scope_of (e ∷ es) s zero d apart within is = rw is
found_at scope_of (e ∷ es) s (suc i) d apart within is =
    let inside : i < length es = omega arith in
    rw (head_other scope_of e es i d s apart inside is) (found_at scope_of es s i d (apart_tail scope_of e es apart) inside is)

-- nothing is found where all elements are apart from the scope of the first
behind_none : {E : Type 0} (scope_of : E → ScopeId) (e : E) (es : List E) (s : ScopeId) → AllPairs (AreOfTwoScopes scope_of) (e ∷ es) → is_scope (scope_of e) s ≡ true → by_scope scope_of es s ≡ None
behind_none scope_of e es s apart is = none_found scope_of es s
    (λ k d within. scope_turned (scope_of (slice_index_or es k d)) s
    ∙ subst (λ t. is_scope t (scope_of (slice_index_or es k d)) ≡ false) (scopes_same (scope_of e) s is) (apart_head scope_of e es apart k d within))

-- ---- one more element at the end

pub found_pushed : {E : Type 0} (scope_of : E → ScopeId) (es : List E) (e : E) → by_scope scope_of es (scope_of e) ≡ None → (t : ScopeId) → by_scope scope_of (es ++ e ∷ []) t ≡ set_for (by_scope scope_of es) (scope_of e) (Some e) t
found_pushed scope_of [] e none t = rw (scope_turned (scope_of e) t)
found_pushed scope_of (x ∷ es) e none t =
    let parts = none_head scope_of x es (scope_of e) none in
    let rest = found_pushed scope_of es e parts.1 t in
    ⊎_elim
    (λ (is : is_scope (scope_of x) t ≡ true).
    let same = scopes_same (scope_of x) t is in
    let other : is_scope t (scope_of e) ≡ false = subst (λ u. is_scope u (scope_of e) ≡ false) same parts.0 in
    rw (is, other))
    (λ (other : is_scope (scope_of x) t ≡ false). rw other rest)
    (cases_Bool (is_scope (scope_of x) t))

pub apart_pushed : {E : Type 0} (scope_of : E → ScopeId) (es : List E) (e : E) → AllPairs (AreOfTwoScopes scope_of) es → by_scope scope_of es (scope_of e) ≡ None → AllPairs (AreOfTwoScopes scope_of) (es ++ e ∷ [])
apart_pushed scope_of es e apart none = all_pairs_push (AreOfTwoScopes scope_of) es e apart (λ k d within. found_none scope_of es (scope_of e) none k d within)

-- ---- one element is written, whose scope stays

if_twice : {X : Type 0} (b : Bool) (new old rest : X) → (if b then new else rest) ≡ (if b then new else (if b then old else rest))
if_twice true new old rest = refl
if_twice false new old rest = refl

pub found_set : {E : Type 0} (scope_of : E → ScopeId) (es : List E) (s : ScopeId) (i : ℕ) (d new : E) → AllPairs (AreOfTwoScopes scope_of) es → i < length es → is_scope (scope_of (slice_index_or es i d)) s ≡ true → scope_of new ≡ s
    → (t : ScopeId) → by_scope scope_of (slice_set es i new) t ≡ set_for (by_scope scope_of es) s (Some new) t
found_set scope_of [] s i d new apart within is same t = absurd (omega arith)
found_set scope_of (e ∷ es) s zero d new apart within is same t =
    let was : scope_of e ≡ s = scopes_same (scope_of e) s is in
    rw (same, was, scope_turned s t) (if_twice (is_scope t s) (Some new) (Some e) (by_scope scope_of es t))
found_set scope_of (e ∷ es) s (suc i) d new apart within is same t =
    let inside : i < length es = omega arith in
    let rest = found_set scope_of es s i d new (apart_tail scope_of e es apart) inside is same t in
    let first = head_other scope_of e es i d s apart inside is in
    ⊎_elim
    (λ (here : is_scope (scope_of e) t ≡ true).
    let other : is_scope t s ≡ false = subst (λ u. is_scope u s ≡ false) (scopes_same (scope_of e) t here) first in
    rw (here, other))
    (λ (there : is_scope (scope_of e) t ≡ false). rw there rest)
    (cases_Bool (is_scope (scope_of e) t))

-- where each of two places has the element of the scope, they are one place
at_most_once : {E : Type 0} (scope_of : E → ScopeId) (es : List E) (s : ScopeId) (i j : ℕ) (d : E) → AllPairs (AreOfTwoScopes scope_of) es → i < length es → j < length es → is_scope (scope_of (slice_index_or es i d)) s ≡ true → is_scope (scope_of (slice_index_or es j d)) s ≡ true → i ≡ j
at_most_once scope_of es s i j d apart here there one other =
    let first = scopes_same (scope_of (slice_index_or es i d)) s one in
    let second = scopes_same (scope_of (slice_index_or es j d)) s other in
    let same : scope_of (slice_index_or es i d) ≡ scope_of (slice_index_or es j d) = first ∙ sym second in
    let self : is_scope (scope_of (slice_index_or es i d)) (scope_of (slice_index_or es j d)) ≡ true = subst (λ t. is_scope (scope_of (slice_index_or es i d)) t ≡ true) same (same_scope (scope_of (slice_index_or es i d))) in
    ⊎_elim
    (λ (before : i < j). absurd (true≢false (sym self ∙ apart i j d before there)))
    (λ (after : j ≤ i). ⊎_elim
    (λ (behind : j < i). absurd (true≢false (sym self ∙ (scope_turned (scope_of (slice_index_or es i d)) (scope_of (slice_index_or es j d)) ∙ apart j i d behind here))))
    (λ (last : i ≤ j). omega arith)
    (cases_lt j i))
    (cases_lt i j)

-- elements at different places are apart
pub apart_places : {E : Type 0} (scope_of : E → ScopeId) (es : List E) (i j : ℕ) (d : E) → AllPairs (AreOfTwoScopes scope_of) es → i < length es → j < length es → i ≢ j → is_scope (scope_of (slice_index_or es i d)) (scope_of (slice_index_or es j d)) ≡ false
apart_places scope_of es i j d apart here there different = ⊎_elim
    (λ (before : i < j). apart i j d before there)
    (λ (after : j ≤ i). let behind : j < i = omega (arith, different) in scope_turned (scope_of (slice_index_or es i d)) (scope_of (slice_index_or es j d)) ∙ apart j i d behind here)
    (cases_lt i j)

-- what is found stands at a place
pub found_place : {E : Type 0} (scope_of : E → ScopeId) (es : List E) (s : ScopeId) (e : E) → by_scope scope_of es s ≡ Some e → (i : ℕ) × (i < length es) × (slice_index_or es i e ≡ e) × (scope_of e ≡ s)
found_place scope_of [] s e is = absurd (none-some e is)
found_place scope_of (x ∷ es) s e is = ⊎_elim
    (λ (here : is_scope (scope_of x) s ≡ true).
    let first : by_scope scope_of (x ∷ es) s ≡ Some x = rw here in
    let same : x ≡ e = same_Some x e (sym first ∙ is) in
    (0, omega arith, same, subst (λ y. scope_of y ≡ s) same (scopes_same (scope_of x) s here)))
    (λ (other : is_scope (scope_of x) s ≡ false).
    let rest : by_scope scope_of (x ∷ es) s ≡ by_scope scope_of es s = rw other in
    let place = found_place scope_of es s e (sym rest ∙ is) in
    (suc place.0, omega (arith, place.1), place.2, place.3))
    (cases_Bool (is_scope (scope_of x) s))

-- ---- elements of a list in another order, and some of them left out

-- ys has elements of xs, from different places
pub record IsPickedFrom {E : Type 0} (xs ys : List E) (from : ℕ → ℕ) : Type 0 where
  pub inside : (k : ℕ) → k < length ys → from k < length xs
  pub same : (k : ℕ) (d : E) → k < length ys → slice_index_or ys k d ≡ slice_index_or xs (from k) d
  pub different : (k l : ℕ) → k < length ys → l < length ys → from k ≡ from l → k ≡ l

pub apart_picked : {E : Type 0} (scope_of : E → ScopeId) (xs ys : List E) (from : ℕ → ℕ) → AllPairs (AreOfTwoScopes scope_of) xs → IsPickedFrom xs ys from → AllPairs (AreOfTwoScopes scope_of) ys
apart_picked scope_of xs ys from apart is = λ i j d before within.
    let early : i < length ys = omega arith in
    let different : from i ≢ from j = λ same. let one = is.different i j early within same in absurd (omega arith) in
    rw (is.same i d early, is.same j d within) (apart_places scope_of xs (from i) (from j) d apart (is.inside i early) (is.inside j within) different)

-- another scope is found as before
found_again : {E : Type 0} (scope_of : E → ScopeId) (xs ys : List E) (from : ℕ → ℕ) (s t : ScopeId) → AllPairs (AreOfTwoScopes scope_of) xs → IsPickedFrom xs ys from → AllPairs (AreOfTwoScopes scope_of) ys
    → ((j : ℕ) (d : E) → j < length xs → is_scope (scope_of (slice_index_or xs j d)) s ≡ false → (k : ℕ) × (k < length ys) × (from k ≡ j))
    → is_scope t s ≡ false → (o : Option E) → by_scope scope_of xs t ≡ o → by_scope scope_of ys t ≡ o
found_again scope_of xs ys from s t apart is now kept other None none = none_found scope_of ys t (λ k d within. rw (is.same k d within) (found_none scope_of xs t none (from k) d (is.inside k within)))
found_again scope_of xs ys from s t apart is now kept other (Some e) some =
    let place = found_place scope_of xs t e some in
    let at : scope_of (slice_index_or xs place.0 e) ≡ t = ap scope_of place.2 ∙ place.3 in
    let not_s : is_scope (scope_of (slice_index_or xs place.0 e)) s ≡ false = subst (λ u. is_scope u s ≡ false) (sym at) other in
    let k = kept place.0 e place.1 not_s in
    let read : slice_index_or ys k.0 e ≡ e = is.same k.0 e k.1 ∙ (ap (λ n. slice_index_or xs n e) k.2 ∙ place.2) in
    let here : is_scope (scope_of (slice_index_or ys k.0 e)) t ≡ true = subst (λ u. is_scope u t ≡ true) (sym (ap scope_of read ∙ place.3)) (same_scope t) in
    found_at scope_of ys t k.0 e now k.1 here ∙ ap Some read

-- where the element of s alone is left out, it alone isn't found any more
pub found_picked : {E : Type 0} (scope_of : E → ScopeId) (xs ys : List E) (from : ℕ → ℕ) (s : ScopeId) → AllPairs (AreOfTwoScopes scope_of) xs → IsPickedFrom xs ys from
    → ((k : ℕ) (d : E) → k < length ys → is_scope (scope_of (slice_index_or xs (from k) d)) s ≡ false)
    → ((j : ℕ) (d : E) → j < length xs → is_scope (scope_of (slice_index_or xs j d)) s ≡ false → (k : ℕ) × (k < length ys) × (from k ≡ j))
    → (t : ScopeId) → by_scope scope_of ys t ≡ set_for (by_scope scope_of xs) s None t
found_picked scope_of xs ys from s apart is out kept t =
    let now = apart_picked scope_of xs ys from apart is in
    ⊎_elim
    (λ (here : t ≡ s).
    let gone : by_scope scope_of ys s ≡ None = none_found scope_of ys s (λ k d within. rw (is.same k d within) (out k d within)) in
    subst (λ u. by_scope scope_of ys u ≡ set_for (by_scope scope_of xs) s None u) (sym here) (gone ∙ sym (set_for-here (by_scope scope_of xs) s None)))
    (λ (there : is_scope t s ≡ false). rw there (found_again scope_of xs ys from s t apart is now kept there (by_scope scope_of xs t) refl))
    (one_or_two t s)

-- ---- whether something is found

some_if : {E : Type 0} (b : Bool) (e : E) (o : Option E) → is_some (if b then Some e else o) ≡ (b || is_some o)
some_if true e o = refl
some_if false e o = refl

-- something is found exactly where an element is of the scope
pub some_found : {E : Type 0} (scope_of : E → ScopeId) (es : List E) (s : ScopeId) → is_some (by_scope scope_of es s) ≡ list_any (λ e. is_scope (scope_of e) s) es
some_found scope_of [] s = refl
some_found scope_of (e ∷ es) s = some_if (is_scope (scope_of e) s) e (by_scope scope_of es s) ∙ ap (λ b. is_scope (scope_of e) s || b) (some_found scope_of es s)

-- where a place is told exactly of a scope that has one, it is told exactly where something is found
pub place_found : {E : Type 0} (scope_of : E → ScopeId) (es : List E) (s : ScopeId) (o : Option ℕ) → AllPairs (AreOfTwoScopes scope_of) es → IfSome o (StandsAt scope_of es s) → (o ≡ None → by_scope scope_of es s ≡ None) → is_some o ≡ is_some (by_scope scope_of es s)
place_found scope_of es s None apart there none = sym (ap is_some (none refl))
place_found scope_of [] s (Some i) apart there none = let inside = there.inside in absurd (omega arith)
place_found scope_of (e ∷ es) s (Some i) apart there none = sym (ap is_some (found_at scope_of (e ∷ es) s i e apart there.inside (there.is e)))
