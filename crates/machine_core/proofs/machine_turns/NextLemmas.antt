-- The ready scopes are looked at in turn.
use Rattle.std.proofs.Common.{◌≡◌, refl, ◌⊎◌, ℕ, zero, suc, ◌+◌, ◌<◌, ◌≤◌, Bool, true, false, true≢false, if◌then◌else◌, Option, Some, None, List, [], ◌∷◌, length, get_or, sym, ap, ◌∙◌, subst, arith, inl, inr}
use Rattle.std.specs.Prelude.{is_some}
use Rattle.std.proofs.lemmas.List.{get_or_default}
use Rattle.gl_base.specs.declared.scopes.ScopeId.{ScopeId}
use Rattle.gl_base.specs.scope_lists.Found.{by_scope}
use Rattle.gl_base.specs.scope_lists.Scopes.{is_scope}
use Rattle.gl_base.proofs.scope_lists.FoundLemmas.{found_place}
use Rattle.gl_base.proofs.scope_lists.SameScope.{same_scope}
use Rattle.scope_locks.specs.declared.scope_pipe.flights.Flight.{Flight}
use Rattle.scope_locks.specs.scope_pipe.Pipes.{flight_scope}
use Rattle.machine_core.specs.declared.machine_parts.cores.Core.{Core}
use Rattle.machine_core.specs.machine_turns.Turns.{MayUpdate, part_of}

pub is_found : (es : List Flight) (i : ℕ) (d : Flight) → i < length es → is_some (by_scope flight_scope es (get_or es i d).scope) ≡ true
is_found [] i d inside = absurd (omega arith)
is_found (x ∷ es) zero d inside = ap (λ (b : Bool). is_some (if b then Some x else by_scope flight_scope es x.scope)) (same_scope x.scope)
is_found (x ∷ es) (suc i) d inside = by (is_scope x.scope (get_or es i d).scope) (is_found es i d (omega arith))
  where
    by : (b : Bool) → is_some (by_scope flight_scope es (get_or es i d).scope) ≡ true → is_some (if b then Some x else by_scope flight_scope es (get_or es i d).scope) ≡ true
    by true later = refl
    by false later = later

-- none of the first so many may make its update
abbrev pub NoneUpTo : Core → List Flight → ℕ → Type 0
NoneUpTo m ready place = (k : ℕ) (d : Flight) → k < place → k < length ready → MayUpdate (get_or ready k d).scope (part_of m) 1 → ⊥

earlier : (k i : ℕ) → k < i + 1 → (k < i) ⊎ (k ≡ i)
earlier k i low = grind arith

pub none_yet : (m : Core) (ready : List Flight) → NoneUpTo m ready 0
none_yet m ready k d before low may = absurd (omega arith)

pub none_more : (m : Core) (ready : List Flight) (i : ℕ) (e : Flight) → i < length ready → NoneUpTo m ready i → (MayUpdate (get_or ready i e).scope (part_of m) 1 → ⊥) → NoneUpTo m ready (i + 1)
none_more m ready i e inside none not k d before low may = elim (earlier k i before) [
  | inl first ↦ none k d first low may
  | inr last ↦
      let here : get_or ready k d ≡ get_or ready i e = ap (λ (j : ℕ). get_or ready j d) last ∙ get_or_default ready i d e inside in
      not (subst (λ (f : Flight). MayUpdate f.scope (part_of m) 1) here may)
]

some_of : {X : Type 0} (o : Option X) → is_some o ≡ true → (x : X) × (o ≡ Some x)
some_of None is = absurd (true≢false (sym is))
some_of (Some x) is = (x, refl)

pub none_at_all : (m : Core) (ready : List Flight) (n : ℕ) → ready ≡ m.pipe.ready → length ready ≤ n → NoneUpTo m ready n → (s : ScopeId) → MayUpdate s (part_of m) 1 → ⊥
none_at_all m ready n is whole none s may =
    let one = some_of (by_scope flight_scope ready s) (ap (λ (fs : List Flight). is_some (by_scope flight_scope fs s)) is ∙ may.ready) in
    let place = found_place flight_scope ready s one.0 one.1 in
    let here : (get_or ready place.0 one.0).scope ≡ s = ap flight_scope place.2 ∙ place.3 in
    let k = place.0 in
    let low : k < length ready = place.1 in
    none k one.0 (omega arith) low (subst (λ (t : ScopeId). MayUpdate t (part_of m) 1) (sym here) may)
