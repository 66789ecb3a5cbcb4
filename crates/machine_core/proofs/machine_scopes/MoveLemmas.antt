-- A scope that moves on: it asks for its next lock, or it leaves.
use Rattle.std.proofs.Common.{◌≡◌, ℕ, pred, ◌<◌, ◌≤◌, ◌++◌, Bool, false, if◌then◌else◌, Option, None, Some, is_some, List, [], ◌∷◌, length, get_or, slice_get, nat_lt, refl, sym, ap, ◌∙◌, subst, All, arith, inl, inr, true≢false}
use Rattle.std.proofs.lemmas.Bool.{cases_eq, eq-eqb, ne_eqb, le-ltb}
use Rattle.std.proofs.lemmas.List.Elements.{All-push}
use Rattle.std.proofs.lemmas.Option.{slice_get_within, same_Some}
use Rattle.gl_base.specs.declared.numbers.MachineNo.{MachineNo}
use Rattle.gl_base.specs.declared.numbers.Vertex.{Vertex}
use Rattle.gl_base.specs.declared.scopes.Claim.{Claim}
use Rattle.gl_base.specs.declared.scopes.Mode.{Mode}
use Rattle.gl_base.specs.declared.scopes.ScopeId.{ScopeId}
use Rattle.gl_base.specs.scope_lists.Scopes.{is_scope}
use Rattle.gl_base.proofs.scope_lists.FoundLemmas.{none_found}
use Rattle.gl_base.proofs.scope_lists.SameScope.{same_scope, one_or_two, set_for-here, set_for-there}
use Rattle.scope_locks.specs.scope_pipe.Entered.{EnteredView, moved_on}
use Rattle.scope_locks.specs.scope_pipe.Pipes.{PipeView, HasCome, entered_at, flight_at, is_ready}
use Rattle.scope_locks.specs.vertex_locks.Locks.{LockView, claimant, has}
use Rattle.scope_locks.specs.vertex_locks.Tables.{HasAsked, is_owned, holder_at, queue_at}
use Rattle.machine_core.specs.declared.machine_parts.cores.Core.{Core}
use Rattle.machine_core.specs.machine_parts.Parts.{LocalView, lock_asked}
use Rattle.machine_core.specs.machine_parts.Order.{HasComeRight, StandsAtLock, IsOrderly, IsOrderlyBut, got, nobody}
use Rattle.machine_core.proofs.machine_scopes.EffectLemmas.{moved_asked, moved_place}
use Rattle.machine_core.proofs.machine_scopes.KeepLemmas.{HaveSameFlights, come_keeps, flights_keep}

-- ---- where one scope has come to stand elsewhere

module _ (old new : PipeView) (s : ScopeId) (o : Option EnteredView) (come : HasCome old new s o) where
  pub entered_here : entered_at new s ≡ o
  entered_here = come.entered s ∙ set_for-here (entered_at old) s o

  pub entered_there : (t : ScopeId) → is_scope t s ≡ false → entered_at new t ≡ entered_at old t
  entered_there t other = come.entered t ∙ set_for-there (entered_at old) s t o other

  -- it is that one, or another one that stands where it did
  pub entered_is : (t : ScopeId) (f : EnteredView) → t ≡ s → entered_at new t ≡ Some f → o ≡ Some f
  entered_is t f same at = sym entered_here ∙ ap (entered_at new) (sym same) ∙ at

module _ (old new : PipeView) (rest : new ≡ record old { entered = new.entered }) where
  pub home_same : new.home ≡ old.home
  home_same = ap (λ (p : PipeView). p.home) rest

  pub flight_same : (t : ScopeId) → flight_at new t ≡ flight_at old t
  flight_same t = ap (λ (p : PipeView). flight_at p t) rest

  pub ready_same : (t : ScopeId) → is_ready new t ≡ is_ready old t
  ready_same t = ap (λ (p : PipeView). is_ready p t) rest

  pub flights_same : HaveSameFlights old new
  flights_same = record {
    home = home_same;
    serial = ap (λ (p : PipeView). p.serial) rest;
    flight = flight_same;
    ready = λ t was. ready_same t ∙ was;
  }

-- a claim of another scope stands where it stood
pub stands_keep : (old new : PipeView) (before after : ScopeId → Bool) (x : ℕ) (c : Claim) → entered_at new c.scope ≡ entered_at old c.scope → after c.scope ≡ false → StandsAtLock old before x c → StandsAtLock new after x c
stands_keep old new before after x c same still stands = record {
  come = ap is_some same ∙ stands.come;
  still = still;
  asked = λ f at. stands.asked f (sym same ∙ at);
}

abbrev pub is_this : ScopeId → ScopeId → Bool
is_this s t = is_scope t s

-- ---- a scope that was moving on stands still, or is gone

-- what holds of it where it is still there
pub record IsStillRight (local : LocalView) (locks : List (Option LockView)) (pipe : PipeView) (machines : ℕ) (s : ScopeId) (f : EnteredView) : Type 0 where
  pub come : HasComeRight local pipe machines false s f
  pub holds : (j : ℕ) (z : Vertex) → slice_get f.part j ≡ Some z → is_some (holder_at locks z.0 s) ≡ nat_lt j (got false f.place)

pub orderly_moved : (m : Core) (pipe : PipeView) (locks : List (Option LockView)) (s : ScopeId) (o : Option EnteredView) → IsOrderlyBut (is_this s) m → HasCome m.pipe pipe s o → pipe ≡ record m.pipe { entered = pipe.entered }
    → ((x : ℕ) → is_owned locks x ≡ is_owned m.locks x) → ((x : ℕ) (t : ScopeId) → holder_at locks x t ≡ holder_at m.locks x t) → ((x : ℕ) → All (StandsAtLock pipe nobody x) (queue_at locks x))
    → ((f : EnteredView) → o ≡ Some f → IsStillRight m.numbers.local m.locks pipe (length m.out.machines) s f) → IsOrderly (record m { pipe = pipe; locks = locks })
orderly_moved m pipe locks s o is come rest owned holder queues still =
    let home = home_same m.pipe pipe rest in
    let flight = flight_same m.pipe pipe rest in
    let ready = ready_same m.pipe pipe rest in
    let there = entered_there m.pipe pipe s o come in
    record {
      graph = is.graph;
      numbers = is.numbers;
      entered = λ t f at. elim (one_or_two t s) [
        | inl same ↦
            subst (λ (u : ScopeId). HasComeRight m.numbers.local pipe (length m.out.machines) false u f) (sym same)
            (still f (entered_is m.pipe pipe s o come t f same at)).come
        | inr other ↦
            come_keeps m.numbers.local m.pipe pipe (length m.out.machines) (is_this s t) false t f home (flight t) (ready t) (λ waits. other) (is.entered t f (sym (there t other) ∙ at))
      ];
      locks = record {
        owned = λ x. owned x ∙ is.locks.owned x;
        queues = queues;
        holds = λ t f j z at part. elim (one_or_two t s) [
          | inl same ↦
              ap is_some (holder z.0 t) ∙ ap (λ (u : ScopeId). is_some (holder_at m.locks z.0 u)) same ∙ (still f (entered_is m.pipe pipe s o come t f same at)).holds j z part
          | inr other ↦
              ap is_some (holder z.0 t) ∙ is.locks.holds t f j z (sym (there t other) ∙ at) part ∙ ap (λ (b : Bool). nat_lt j (got b f.place)) other
        ];
        only = λ t c x flies holds. is.locks.only t c x (sym (flight t) ∙ flies) (sym (ap is_some (holder x t)) ∙ holds);
        ready = λ takes t c x flies readied one. ap is_some (holder x t) ∙ is.locks.ready takes t c x (sym (flight t) ∙ flies) (sym (ready t) ∙ readied) one;
        admitted = λ t x at holds. subst (λ (k : ℕ). t.serial < k) (sym (ap (λ (p : PipeView). p.serial) rest))
            (is.locks.admitted t x (at ∙ ap (λ (a : MachineNo). a.0) home) (sym (ap is_some (holder x t)) ∙ holds));
      };
      flights = flights_keep m.numbers m.pipe pipe (flights_same m.pipe pipe rest) is.flights;
      width = ap (λ (p : PipeView). p.width) rest ∙ is.width;
    }

-- ---- it asks for its next lock

module _ (m : Core) (s : ScopeId) (e : EnteredView) (y : Vertex) (is : IsOrderlyBut (is_this s) m) (at : entered_at m.pipe s ≡ Some e) (next : slice_get e.part e.place ≡ Some y) where
  none_if : (o : Option Mode) → is_some o ≡ false → o ≡ None
  none_if None is_none = refl
  none_if (Some mode) is_none = absurd (true≢false is_none)

  -- it doesn't hold that lock, and doesn't wait for it
  pub wanted_free : holder_at m.locks y.0 s ≡ None
  wanted_free =
      none_if (holder_at m.locks y.0 s)
      (is.locks.holds s e e.place y at next ∙ ap (λ (b : Bool). nat_lt e.place (got b e.place)) (same_scope s) ∙ le-ltb e.place e.place (omega arith))

  pub wanted_not_waited : has s (queue_at m.locks y.0) ≡ false
  wanted_not_waited = ap is_some (none_found claimant (queue_at m.locks y.0) s (λ k d low. (is.locks.queues y.0 k d low).still))

  pub orderly_asked : (pipe : PipeView) (locks : List (Option LockView)) (mode : Mode) → HasCome m.pipe pipe s (Some (moved_on e)) → pipe ≡ record m.pipe { entered = pipe.entered }
      → HasAsked m.locks locks y.0 (record { scope = s; mode = mode }) → IsOrderly (record m { pipe = pipe; locks = locks })
  orderly_asked pipe locks mode come rest asked =
      let claim : Claim = record { scope = s; mode = mode } in
      let was = is.entered s e at in
      let home = home_same m.pipe pipe rest in
      let inside = slice_get_within e.part e.place y next in
      let old : (x k : ℕ) (d : Claim) → k < length (queue_at m.locks x) → StandsAtLock pipe nobody x (get_or (queue_at m.locks x) k d) = λ x k d low.
      let stood = is.locks.queues x k d low in
      stands_keep m.pipe pipe (is_this s) nobody x (get_or (queue_at m.locks x) k d) (entered_there m.pipe pipe s (Some (moved_on e)) come (get_or (queue_at m.locks x) k d).scope stood.still) refl stood in
      let new : StandsAtLock pipe nobody y.0 claim = record {
        come = ap is_some (entered_here m.pipe pipe s (Some (moved_on e)) come);
        still = refl;
        asked = λ f there. ap lock_asked (sym (same_Some (moved_on e) f (entered_is m.pipe pipe s (Some (moved_on e)) come s f refl there))) ∙ moved_asked e y next;
      } in
      let more = queue_at m.locks y.0 ++ claim ∷ [] in
      orderly_moved m pipe locks s (Some (moved_on e)) is come rest asked.owned asked.holder
      (λ x. elim (cases_eq x y.0) [
        | inl same ↦
            subst (λ (z : ℕ). All (StandsAtLock pipe nobody z) (queue_at locks z)) (sym same)
            (subst (All (StandsAtLock pipe nobody y.0)) (sym (asked.queue y.0 ∙ ap (λ (b : Bool). if b then more else queue_at m.locks y.0) (eq-eqb y.0 y.0 refl)))
            (All-push (StandsAtLock pipe nobody y.0) (queue_at m.locks y.0) claim (old y.0) new))
        | inr other ↦
            subst (All (StandsAtLock pipe nobody x)) (sym (asked.queue x ∙ ap (λ (b : Bool). if b then more else queue_at m.locks x) (ne_eqb x y.0 other))) (old x)
      ])
      (λ f same. subst (IsStillRight m.numbers.local m.locks pipe (length m.out.machines) s) (same_Some (moved_on e) f same)
      (record {
        come = record {
          part = was.part;
          place = subst (λ (k : ℕ). k ≤ length e.part) (sym (moved_place e y next)) (omega arith);
          rest = was.rest;
          home = was.home;
          stands = λ waits. ap is_some (moved_asked e y next);
          flight = λ here. flight_same m.pipe pipe rest s ∙ was.flight (here ∙ ap (λ (a : MachineNo). a.0) home);
          waits = λ here. ready_same m.pipe pipe rest s ∙ was.waits (here ∙ ap (λ (a : MachineNo). a.0) home);
        };
        holds = λ j z part.
            is.locks.holds s e j z at part ∙ ap (λ (b : Bool). nat_lt j (got b e.place)) (same_scope s)
            ∙ sym (ap (λ (k : ℕ). nat_lt j (pred k)) (moved_place e y next));
      }))

-- ---- it leaves

pub orderly_left : (m : Core) (s : ScopeId) (pipe : PipeView) → IsOrderlyBut (is_this s) m → HasCome m.pipe pipe s None → pipe ≡ record m.pipe { entered = pipe.entered } → IsOrderly (record m { pipe = pipe })
orderly_left m s pipe is come rest =
    orderly_moved m pipe m.locks s None is come rest (λ x. refl) (λ x t. refl)
    (λ x k d low.
    let stood = is.locks.queues x k d low in
    stands_keep m.pipe pipe (is_this s) nobody x (get_or (queue_at m.locks x) k d) (entered_there m.pipe pipe s None come (get_or (queue_at m.locks x) k d).scope stood.still) refl stood)
    (λ f is_some. absurd (none_is f is_some))
  where
    none_is : (f : EnteredView) → None ≡ Some f → ⊥
    none_is f is = cc
