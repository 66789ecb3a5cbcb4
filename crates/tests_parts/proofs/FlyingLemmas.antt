-- The scopes that stay in flight when one has finished.
use Rattle.std.proofs.Common.{◌≡◌, true, false, Bool, is_some, List, [], ◌∷◌, if◌then◌else◌, ◌∙◌, ap, ⊎_elim}
use Rattle.std.specs.List.{filter}
use Rattle.std.proofs.lemmas.Bool.{cases_Bool}
use Rattle.std.proofs.lemmas.List.Elements.{All-nil, All-cons, All-head, All-tail}
use Rattle.gl_base.specs.declared.scopes.ScopeId.{ScopeId}
use Rattle.gl_base.specs.scope_lists.Scopes.{is_scope}
use Rattle.gl_base.proofs.scope_lists.SameScope.{set_for-there}
use Rattle.scope_locks.specs.declared.scope_pipe.flights.Flight.{Flight}
use Rattle.scope_locks.specs.scope_pipe.Pipes.{PipeView, flight_at, HasFinished}
use Rattle.tests_parts.specs.Flying.{AllFly}

abbrev pub is_other : ScopeId → Flight → Bool
is_other s f = if is_scope f.scope s then false else true

abbrev flies : PipeView → Flight → Type 0
flies p f = is_some (flight_at p f.scope) ≡ true

pub fly_on : (old new : PipeView) (s : ScopeId) (fs : List Flight) → HasFinished old new s → AllFly old fs → AllFly new (filter (is_other s) fs)
fly_on old new s [] finished all = All-nil (flies new)
fly_on old new s (f ∷ fs) finished all =
    let rest = fly_on old new s fs finished (All-tail (flies old) f fs all) in
    ⊎_elim
    (λ (is : is_scope f.scope s ≡ true). rw is rest)
    (λ (other : is_scope f.scope s ≡ false).
    let stays : flies new f = ap is_some (finished.flight f.scope ∙ set_for-there (flight_at old) s f.scope _ other) ∙ All-head (flies old) f fs all in
    rw other (All-cons (flies new) f (filter (is_other s) fs) stays rest))
    (cases_Bool (is_scope f.scope s))
