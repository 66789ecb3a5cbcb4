-- What becomes of the scopes that have come.
use Rattle.std.proofs.Common.{◌≡◌, ℕ, ◌<◌, ◌≤◌, Some, None, List, [], ◌∷◌, ◌++◌, length, slice_index_or, slice_set, sym, ◌∙◌, ap, subst, ⊎_elim, arith}
use Rattle.std.specs.List.{All, AllPairs, swap_remove}
use Rattle.std.proofs.lemmas.Bool.{cases_lt, lt-ltb, le-ltb}
use Rattle.std.proofs.lemmas.Option.{same_Some}
use Rattle.std.proofs.lemmas.List.{get_or_default}
use Rattle.std.proofs.lemmas.List.Elements.{All-push, All-set}
use Rattle.gl_base.specs.declared.numbers.MachineNo.{MachineNo}
use Rattle.gl_base.specs.declared.numbers.Vertex.{Vertex}
use Rattle.gl_base.specs.declared.scopes.ScopeId.{ScopeId}
use Rattle.gl_base.specs.scope_lists.Scopes.{set_for}
use Rattle.gl_base.specs.scope_lists.Found.{by_scope, AreOfTwoScopes, StandsAt}
use Rattle.gl_base.proofs.scope_lists.SameScope.{scopes_same}
use Rattle.gl_base.proofs.scope_lists.FoundLemmas.{found_at, found_set, apart_pushed}
use Rattle.gl_base.proofs.scope_lists.Edited.{apart_set, apart_swapped, all_swapped}
use Rattle.scope_locks.specs.scope_pipe.Inner.Kept.{IsInPart, IsPipe}
use Rattle.scope_locks.specs.declared.scope_pipe.flights.Flight.{Flight}
use Rattle.scope_locks.specs.scope_pipe.Entered.{EnteredView, entered_scope, moved_on, comes}

abbrev pub AreKept : List EnteredView → Type 0
AreKept es = AllPairs (AreOfTwoScopes entered_scope) es × All IsInPart es

-- the scope that is found is the one at its place
pub is_the_one : (es : List EnteredView) (s : ScopeId) (i : ℕ) (one e : EnteredView) → AllPairs (AreOfTwoScopes entered_scope) es → StandsAt entered_scope es s i → one ≡ slice_index_or es i one → by_scope entered_scope es s ≡ Some e → one ≡ e
is_the_one es s i one e apart at read is = read ∙ same_Some (slice_index_or es i one) e (sym (found_at entered_scope es s i one apart at.inside (at.is one)) ∙ is)

pub moved_in_part : (e : EnteredView) → IsInPart e → IsInPart (moved_on e)
moved_in_part e within = ⊎_elim
    (λ (less : e.place < length e.part). rw (lt-ltb e.place (length e.part) less) (omega arith))
    (λ (done : length e.part ≤ e.place). rw (le-ltb e.place (length e.part) done) within)
    (cases_lt e.place (length e.part))

-- the pipe is kept where the scopes that have come are
pub entered_kept : (serial width : ℕ) (waiting ready : List Flight) (old new : List EnteredView) (waiting_cap ready_cap entered_cap : ℕ) → IsPipe serial width waiting ready old waiting_cap ready_cap entered_cap → AreKept new → IsPipe serial width waiting ready new waiting_cap ready_cap entered_cap
entered_kept serial width waiting ready old new waiting_cap ready_cap entered_cap is kept = record {
  waiting_apart = is.waiting_apart;
  ready_apart = is.ready_apart;
  across = is.across;
  waiting_given = is.waiting_given;
  ready_given = is.ready_given;
  few = is.few;
  waiting_room = is.waiting_room;
  ready_room = is.ready_room;
  entered_apart = kept.0;
  in_part = kept.1;
  entered_room = is.entered_room;
}

-- one more comes
pub comes_keeps : (es : List EnteredView) (scope : ScopeId) (centre : Vertex) (part : List Vertex) (rest : List MachineNo) → by_scope entered_scope es scope ≡ None → AreKept es → AreKept (es ++ comes scope centre part rest ∷ [])
comes_keeps es scope centre part rest none is =
    (apart_pushed entered_scope es (comes scope centre part rest) is.0 none, All-push IsInPart es (comes scope centre part rest) is.1 (omega arith))

-- one leaves
pub leaves_keeps : (es : List EnteredView) (i : ℕ) (one : EnteredView) → i < length es → AreKept es → AreKept (swap_remove es i one)
leaves_keeps es i one within is = (apart_swapped entered_scope es i one is.0 within, all_swapped IsInPart es i one within is.1)

-- one goes on
pub moved_at : (es : List EnteredView) (s : ScopeId) (i : ℕ) (one e : EnteredView) → AllPairs (AreOfTwoScopes entered_scope) es → StandsAt entered_scope es s i → one ≡ slice_index_or es i one → by_scope entered_scope es s ≡ Some e
    → (t : ScopeId) → by_scope entered_scope (slice_set es i (moved_on one)) t ≡ set_for (by_scope entered_scope es) s (Some (moved_on e)) t
moved_at es s i one e apart at read is t =
    let named : one.scope ≡ s = ap entered_scope read ∙ scopes_same (entered_scope (slice_index_or es i one)) s (at.is one) in
    found_set entered_scope es s i one (moved_on one) apart at.inside (at.is one) named t
    ∙ ap (λ (x : EnteredView). set_for (by_scope entered_scope es) s (Some (moved_on x)) t) (is_the_one es s i one e apart at read is)

pub moved_keeps : (es : List EnteredView) (i : ℕ) (one : EnteredView) → i < length es → one ≡ slice_index_or es i one → AreKept es → AreKept (slice_set es i (moved_on one))
moved_keeps es i one within read is = (
  apart_set entered_scope es i (moved_on one) within (λ d. ap entered_scope (read ∙ get_or_default es i one d within)) is.0,
  All-set IsInPart es i (moved_on one) (moved_in_part one (subst IsInPart (sym read) (is.1 i one within))) is.1,
)
