-- A scope that is over: what else is in order stays so.
use Rattle.std.proofs.Common.{◌≡◌, ℕ, zero, suc, ◌<◌, ◌==◌, Bool, true, false, true≢false, if◌then◌else◌, Option, Some, None, List, [], ◌∷◌, get_or, set, refl, sym, ap, ◌∙◌, subst, inl, inr, All, get_or-set_other}
use Rattle.std.specs.Prelude.{is_some, slice_get}
use Rattle.std.proofs.lemmas.Option.{slice_get-get_or}
use Rattle.std.proofs.lemmas.Bool.{eq-eqb, ne_eqb}
use Rattle.gl_base.specs.declared.numbers.MachineNo.{MachineNo}
use Rattle.gl_base.specs.declared.numbers.Vertex.{Vertex}
use Rattle.gl_base.specs.declared.scopes.Claim.{Claim}
use Rattle.gl_base.specs.declared.scopes.ScopeId.{ScopeId}
use Rattle.gl_base.specs.scope_lists.Scopes.{is_scope, set_for}
use Rattle.gl_base.specs.scope_lists.Found.{by_scope}
use Rattle.gl_base.proofs.scope_lists.SameScope.{same_scope, one_or_two, set_for-here, set_for-there}
use Rattle.scope_locks.specs.scope_pipe.Entered.{entered_scope}
use Rattle.scope_locks.specs.vertex_locks.Locks.{LockView}
use Rattle.update_api.specs.declared.links.Link.{Link}
use Rattle.partition.specs.declared.machine_numbers.keeping.Numbers.{Numbers}
use Rattle.partition.specs.machine_numbers.Views.{AreTasksOf}
use Rattle.machine_core.specs.declared.machine_parts.cores.Core.{Core}
use Rattle.machine_core.specs.machine_parts.Parts.{LocalView, PipeView, EnteredView, place_at, is_own, links_at, part_at, flag_there, admitted_here, flight_at, is_ready, entered_at, is_owned, holder_at, queue_at}
use Rattle.machine_core.specs.machine_parts.Order.{StandsAtLock, HasComeRight, AreLocksInOrder, AreFlightsInOrder, IsOrderly, nobody, is_one_of}
use Rattle.machine_core.proofs.machine_updates.GraphLemmas.{SameGraph, place_kept, part_kept, me_kept}

pub some_none : {X : Type 0} (x : X) → Some x ≡ None → ⊥
some_none x e = true≢false (ap is_some e)

pub none_or : {X : Type 0} (o : Option X) → ((x : X) → o ≡ Some x → ⊥) → o ≡ None
none_or None never = refl
none_or (Some x) never = absurd (never x refl)

-- the own vertices of a scope have locks here
pub part_owned : (m : Core) (v : ℕ) (part : List Vertex) → IsOrderly m → part ≡ part_at m.numbers.local v → All (λ x. is_owned m.locks x.0 ≡ true) part
part_owned m v part is listed = λ k d low.
    let x = get_or part k d in
    is.locks.owned x.0 ∙ is.graph.own v k x (ap (λ (p : List Vertex). slice_get p k) (sym listed) ∙ slice_get-get_or part k d low)

-- the pipe without the scope
pub record IsWithout (old new : PipeView) (s : ScopeId) : Type 0 where
  pub home : new.home ≡ old.home
  pub serial : new.serial ≡ old.serial
  pub entered : new.entered ≡ old.entered
  pub flight : (t : ScopeId) → flight_at new t ≡ set_for (flight_at old) s None t
  pub ready : (t : ScopeId) → is_ready new t ≡ set_for (is_ready old) s false t

module _ (old new : PipeView) (s : ScopeId) (w : IsWithout old new s) where
  pub kept_flight : (t : ScopeId) → is_scope t s ≡ false → flight_at new t ≡ flight_at old t
  kept_flight t other = w.flight t ∙ set_for-there (flight_at old) s t None other

  pub kept_ready : (t : ScopeId) → is_scope t s ≡ false → is_ready new t ≡ is_ready old t
  kept_ready t other = w.ready t ∙ set_for-there (is_ready old) s t false other

  -- who is in flight now is another one, and was before
  pub other_flight : (t : ScopeId) (c : Vertex) → flight_at new t ≡ Some c → is_scope t s ≡ false
  other_flight t c flies = elim (one_or_two t s) [
    | inl same ↦
        let none : flight_at new t ≡ None = w.flight t ∙ ap (set_for (flight_at old) s None) same ∙ set_for-here (flight_at old) s None in
        absurd (some_none c (sym flies ∙ none))
    | inr other ↦ other
  ]

  pub was_flight : (t : ScopeId) (c : Vertex) → flight_at new t ≡ Some c → flight_at old t ≡ Some c
  was_flight t c flies = sym (kept_flight t (other_flight t c flies)) ∙ flies

  pub was_entered : (t : ScopeId) (e : EnteredView) → entered_at new t ≡ Some e → entered_at old t ≡ Some e
  was_entered t e come = ap (λ (es : List EnteredView). by_scope entered_scope es t) (sym w.entered) ∙ come

  pub other_entered : (t : ScopeId) (e : EnteredView) → entered_at old s ≡ None → entered_at old t ≡ Some e → is_scope t s ≡ false
  other_entered t e gone come = elim (one_or_two t s) [
    | inl same ↦ absurd (some_none e (sym come ∙ ap (entered_at old) same ∙ gone))
    | inr other ↦ other
  ]

  stands_kept : (x : ℕ) (c : Claim) → StandsAtLock old nobody x c → StandsAtLock new nobody x c
  stands_kept x c stands =
      record {
        come = ap (λ (es : List EnteredView). is_some (by_scope entered_scope es c.scope)) w.entered ∙ stands.come;
        still = stands.still;
        asked = λ e is. stands.asked e (was_entered c.scope e is);
      }

  -- another scope that has come
  pub come_kept : (local local_now : LocalView) (machines : ℕ) (t : ScopeId) (e : EnteredView) → SameGraph local local_now → is_scope t s ≡ false → HasComeRight local old machines false t e → HasComeRight local_now new machines false t e
  come_kept local local_now machines t e graph other come =
      let home : (a : ℕ) → a ≡ new.home.0 → a ≡ old.home.0 = λ a is. is ∙ ap (λ (b : MachineNo). b.0) w.home in
      record {
        part = come.part ∙ sym (part_kept local local_now graph e.centre.0);
        place = come.place;
        rest = come.rest;
        home = come.home;
        stands = come.stands;
        flight = λ here. kept_flight t other ∙ come.flight (home t.home.0 here);
        waits = λ here. kept_ready t other ∙ come.waits (home t.home.0 here);
      }

  -- the locks, where those of the scope are released
  pub locks_left : (locking : Bool) (local local_now : LocalView) (locks locks_now : List (Option LockView)) → SameGraph local local_now → entered_at old s ≡ None → ((x : ℕ) → is_owned locks_now x ≡ is_owned locks x)
      → ((x : ℕ) (t : ScopeId) → holder_at locks_now x t ≡ set_for (holder_at locks x) s None t) → ((x : ℕ) → queue_at locks_now x ≡ queue_at locks x) → AreLocksInOrder locking local locks old nobody → AreLocksInOrder locking local_now locks_now new nobody
  locks_left locking local local_now locks locks_now graph gone owned holder queue are =
      let kept : (x : ℕ) (t : ScopeId) → is_scope t s ≡ false → is_some (holder_at locks_now x t) ≡ is_some (holder_at locks x t) = λ x t other. ap is_some (holder x t ∙ set_for-there (holder_at locks x) s t None other) in
      let part : (v x : ℕ) → is_one_of (part_at local_now v) x ≡ is_one_of (part_at local v) x = λ v x. ap (λ (p : List Vertex). is_one_of p x) (part_kept local local_now graph v) in
      record {
        owned = λ x. owned x ∙ are.owned x ∙ sym (graph.own x);
        queues = λ x. subst (All (StandsAtLock new nobody x)) (sym (queue x)) (λ k d low. stands_kept x (get_or (queue_at locks x) k d) (are.queues x k d low));
        holds = λ t e j y come gets.
            let was = was_entered t e come in
            kept y.0 t (other_entered t e gone was) ∙ are.holds t e j y was gets;
        only = λ t c x flies holds. part c.0 x ∙ are.only t c x (was_flight t c flies) (sym (kept x t (other_flight t c flies)) ∙ holds);
        ready = λ takes t c x flies ready mine.
            let other = other_flight t c flies in
            kept x t other ∙ are.ready takes t c x (was_flight t c flies) (sym (kept_ready t other) ∙ ready) (sym (part c.0 x) ∙ mine);
        admitted = λ t x here holds.
            let other : is_scope t s ≡ false = elim (one_or_two t s) [
              | inl same ↦
                  let none : is_some (holder_at locks_now x t) ≡ false = ap is_some (holder x t ∙ ap (set_for (holder_at locks x) s None) same ∙ set_for-here (holder_at locks x) s None) in
                  absurd (true≢false (sym holds ∙ none))
              | inr other ↦ other
            ] in
            subst (λ (n : ℕ). t.serial < n) (sym w.serial) (are.admitted t x (here ∙ ap (λ (b : MachineNo). b.0) w.home) (sym (kept x t other) ∙ holds));
      }

-- ---- flags of tasks

pub flag_other : (flags : List Bool) (o : Option ℕ) (k : ℕ) → (o ≡ Some k → ⊥) → flag_there (set flags k false) o ≡ flag_there flags o
flag_other flags None k other = refl
flag_other flags (Some j) k other = get_or-set_other flags k j false false (λ same. other (ap Some same))

pub flag_here : (flags : List Bool) (k : ℕ) → get_or (set flags k false) k false ≡ false
flag_here [] k = refl
flag_here (b ∷ flags) zero = refl
flag_here (b ∷ flags) (suc k) = flag_here flags k

-- ---- flights

vertex_same : (u v : Vertex) → u.0 ≡ v.0 → u ≡ v
vertex_same u v same = λ i. record { 0 = same i }

pub flights_left : (old new : Numbers) (pipe pipe_now : PipeView) (s : ScopeId) (v : Vertex) (k : ℕ) (links : List Link) → SameGraph old.local new.local → IsWithout pipe pipe_now s → flight_at pipe s ≡ Some v → AreTasksOf old.local old.tasks
    → place_at old.local v.0 ≡ Some k → new.tasks.admitted ≡ set old.tasks.admitted k false → ((x : ℕ) → links_at new.local x ≡ (if x == v.0 then Some links else links_at old.local x)) → AreFlightsInOrder old pipe → AreFlightsInOrder new pipe_now
flights_left old new pipe pipe_now s v k links graph w flies_s tasks at flags back are =
    let other = other_flight pipe pipe_now s w in
    let was = was_flight pipe pipe_now s w in
    let place = place_kept old.local new.local graph in
    let own : (x : ℕ) → is_own new.local x ≡ true → is_own old.local x ≡ true = λ x is. sym (graph.own x) ∙ is in
    let away : (u : Vertex) (t : ScopeId) → flight_at pipe t ≡ Some u → (u.0 ≡ v.0 → ⊥) → is_scope t s ≡ false = λ u t flies off.
    elim (one_or_two t s) [
      | inl same ↦ absurd (off (ap number_or (sym flies ∙ ap (flight_at pipe) same ∙ flies_s)))
      | inr apart ↦ apart
    ] in
    let flag : (u : ℕ) → (u ≡ v.0 → ⊥) → admitted_here new u ≡ admitted_here old u = λ u off.
    ap (λ (o : Option ℕ). flag_there new.tasks.admitted o) (place u) ∙ ap (λ (fs : List Bool). flag_there fs (place_at old.local u)) flags
    ∙ flag_other old.tasks.admitted (place_at old.local u) k (λ same. off (tasks.apart u v.0 k same at)) in
    let flag_gone : (u : ℕ) → u ≡ v.0 → admitted_here new u ≡ false = λ u same.
    ap (λ (o : Option ℕ). flag_there new.tasks.admitted o) (place u ∙ ap (place_at old.local) same ∙ at) ∙ ap (λ (fs : List Bool). get_or fs k false) flags ∙ flag_here old.tasks.admitted k in
    record {
      home = w.home ∙ are.home ∙ sym (me_kept old.local new.local graph);
      given = λ t c flies.
          let given = are.given t c (was t c flies) in (given.0 ∙ sym w.home, subst (λ (n : ℕ). t.serial < n) (sym w.serial) given.1);
      own = λ t c flies. graph.own c.0 ∙ are.own t c (was t c flies);
      single = λ t u c flies also. are.single t u c (was t c flies) (was u c also);
      admitted = λ t c flies.
          let off : c.0 ≡ v.0 → ⊥ = λ same.
          let one : t ≡ s = are.single t s c (was t c flies) (flies_s ∙ ap Some (sym (vertex_same c v same))) in
          true≢false (sym (ap (λ (r : ScopeId). is_scope r s) one ∙ same_scope s) ∙ other t c flies) in
          flag c.0 off ∙ are.admitted t c (was t c flies);
      flies = λ u mine admitted.
          let off : u.0 ≡ v.0 → ⊥ = λ same. true≢false (sym admitted ∙ flag_gone u.0 same) in
          let there = are.flies u (own u.0 mine) (sym (flag u.0 off) ∙ admitted) in
          record { scope = there.scope; centre = kept_flight pipe pipe_now s w there.scope (away u there.scope there.centre off) ∙ there.centre };
      rows = λ u mine out.
          let off : u.0 ≡ v.0 → ⊥ = λ same.
          true≢false (sym (ap is_some (back u.0 ∙ ap (λ (b : Bool). if b then Some links else links_at old.local u.0) (eq-eqb u.0 v.0 same))) ∙ out) in
          let row : links_at new.local u.0 ≡ links_at old.local u.0 = back u.0 ∙ ap (λ (b : Bool). if b then Some links else links_at old.local u.0) (ne_eqb u.0 v.0 off) in
          let there = are.rows u (own u.0 mine) (sym (ap is_some row) ∙ out) in
          let apart = away u there.scope there.centre off in
          record {
            scope = there.scope;
            centre = kept_flight pipe pipe_now s w there.scope apart ∙ there.centre;
            ready = kept_ready pipe pipe_now s w there.scope apart ∙ there.ready;
          };
    }
  where
    number_or : Option Vertex → ℕ
    number_or None = 0
    number_or (Some u) = u.0
