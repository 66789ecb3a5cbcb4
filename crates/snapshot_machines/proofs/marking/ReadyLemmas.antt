-- The ready scopes are looked at in turn.
use Rattle.std.proofs.Common.{◌≡◌, refl, ◌⊎◌, ℕ, ◌+◌, ◌<◌, ◌≤◌, true, false, true≢false, Option, Some, None, List, length, get_or, sym, ap, ◌∙◌, subst, arith, inl, inr}
use Rattle.std.specs.Prelude.{is_some, IfSome}
use Rattle.std.proofs.lemmas.List.{get_or_default}
use Rattle.gl_base.specs.declared.numbers.Vertex.{Vertex}
use Rattle.gl_base.specs.declared.scopes.ScopeId.{ScopeId}
use Rattle.gl_base.specs.scope_lists.Found.{by_scope}
use Rattle.gl_base.proofs.scope_lists.FoundLemmas.{found_place}
use Rattle.scope_locks.specs.declared.scope_pipe.flights.Flight.{Flight}
use Rattle.scope_locks.specs.scope_pipe.Pipes.{flight_scope}
use Rattle.machine_core.specs.declared.machine_parts.cores.Core.{Core}
use Rattle.machine_core.specs.machine_parts.Order.{IsOrderly}
use Rattle.snapshot_machines.specs.marking.Inner.Marks.{CanBeMarked}
use Rattle.snapshot_machines.specs.marking.Keeping.{part_of}
use Rattle.snapshot_machines.specs.marking.Marking.{MayMark}
use Rattle.snapshot_machines.proofs.marking.EndLemmas.{may_mark}

-- a centre tells that the scope may, and no centre that it may not
pub some_may : (m : Core) (s : ScopeId) (o : Option Vertex) → IsOrderly m → IfSome o (λ v. CanBeMarked m s v) → is_some o ≡ true → MayMark s (part_of m) × (s.home ≡ m.numbers.local.me)
some_may m s None order can is = absurd (true≢false (sym is))
some_may m s (Some v) order can is = (may_mark m s v can, (order.flights.given s v can.flight).0 ∙ order.flights.home)

pub none_may : (m : Core) (s : ScopeId) (o : Option Vertex) → (o ≡ None → MayMark s (part_of m) → ⊥) → is_some o ≡ false → MayMark s (part_of m) → ⊥
none_may m s None not is = not refl
none_may m s (Some v) not is = absurd (true≢false is)

-- none of the first so many may make its snapshot update
abbrev pub NoneUpTo : Core → List Flight → ℕ → Type 0
NoneUpTo m ready place = (k : ℕ) (d : Flight) → k < place → k < length ready → MayMark (get_or ready k d).scope (part_of m) → ⊥

earlier : (k i : ℕ) → k < i + 1 → (k < i) ⊎ (k ≡ i)
earlier k i low = grind arith

pub none_yet : (m : Core) (ready : List Flight) → NoneUpTo m ready 0
none_yet m ready k d before low may = absurd (omega arith)

pub none_more : (m : Core) (ready : List Flight) (i : ℕ) (e : Flight) → i < length ready → NoneUpTo m ready i → (MayMark (get_or ready i e).scope (part_of m) → ⊥) → NoneUpTo m ready (i + 1)
none_more m ready i e inside none not k d before low may = elim (earlier k i before) [
  | inl first ↦ none k d first low may
  | inr last ↦
      let here : get_or ready k d ≡ get_or ready i e = ap (λ (j : ℕ). get_or ready j d) last ∙ get_or_default ready i d e inside in
      not (subst (λ (f : Flight). MayMark f.scope (part_of m)) here may)
]

some_of : {X : Type 0} (o : Option X) → is_some o ≡ true → (x : X) × (o ≡ Some x)
some_of None is = absurd (true≢false (sym is))
some_of (Some x) is = (x, refl)

pub none_at_all : (m : Core) (ready : List Flight) (n : ℕ) → ready ≡ m.pipe.ready → length ready ≤ n → NoneUpTo m ready n → (s : ScopeId) → MayMark s (part_of m) → ⊥
none_at_all m ready n is whole none s may =
    let one = some_of (by_scope flight_scope ready s) (ap (λ (fs : List Flight). is_some (by_scope flight_scope fs s)) is ∙ may.ready) in
    let place = found_place flight_scope ready s one.0 one.1 in
    let here : (get_or ready place.0 one.0).scope ≡ s = ap flight_scope place.2 ∙ place.3 in
    let k = place.0 in
    let low : k < length ready = place.1 in
    none k one.0 (omega arith) low (subst (λ (t : ScopeId). MayMark t (part_of m)) (sym here) may)
