-- What a call changes of a machine, and what stays.
use Rattle.std.proofs.Common.{◌≡◌, ◌⊎◌, ℕ, ◌<◌, ◌==◌, Bool, true, false, if◌then◌else◌, Option, None, Some, List, [], ◌∷◌, ◌++◌, eq-eqb, is_err, length, map, refl, Result, Ok, Err, OnOk, slice_get, slice_index_or, subst, sym, ◌∙◌, ap, ⊎_elim}
use Rattle.std.specs.Option.{option_map}
use Rattle.std.proofs.lemmas.Bool.{cases_Bool, true≢false}
use Rattle.gl_base.specs.declared.numbers.MachineNo.{MachineNo}
use Rattle.gl_base.specs.declared.numbers.Vertex.{Vertex}
use Rattle.gl_base.specs.declared.scopes.ScopeId.{ScopeId}
use Rattle.gl_base.specs.scope_lists.Scopes.{is_scope, set_at, set_for}
use Rattle.gl_base.proofs.scope_lists.SameScope.{one_or_two, scopes_same}
use Rattle.graph_core.specs.DataGraph.{size}
use Rattle.cluster_laws.specs.cluster_core.Settings.{Setting}
use Rattle.full_laws.specs.FullEffects.{posts_full, released_full}
use Rattle.full_laws.specs.FullMessages as model
use Rattle.full_laws.specs.FullParts.{FullPart, FullStand}
use Rattle.full_cluster.specs.declared.machines.FullMachine.{FullMachine}
use Rattle.full_cluster.specs.declared.machines.ScopeStand.{ScopeStand}
use Rattle.full_cluster.specs.declared.queues.FullQueues.{FullQueues}
use Rattle.full_cluster.specs.FullMachines.{AsksNextFrom, IsMachineOf, IsStandOf, StandsAs, stood_up}
use Rattle.full_cluster.specs.FullQueues.{AreQueuesOf}
use Rattle.full_cluster.specs.Given.{HasLists}
use Rattle.full_cluster.specs.Orders.{IsLockOrder}
use Rattle.full_cluster.specs.ScopeMaps.{value_of}
use Rattle.full_cluster.specs.WholeLocks.{has_vertex, released_of}

-- the numbers and tasks are those of another part with the same ones
pub lists_again : (st : Setting) (a : ℕ) (numbers edges : List ℕ) (tasks : List Bool) (part also : FullPart) → part.number ≡ also.number → part.task ≡ also.task → HasLists st a numbers edges tasks part → HasLists st a numbers edges tasks also
lists_again st a numbers edges tasks part also same again has =
    record {
      count = has.count;
      edge_count = has.edge_count;
      task_count = has.task_count;
      numbers_are = λ i inside keep. has.numbers_are i inside keep ∙ (λ k. same k i);
      tasks_are = λ u inside. has.tasks_are u inside ∙ (λ k. again k u);
    }

-- one value in place of what there was
pub put_over : {A B : Type 0} (f : A → B) (ready : ScopeId → Option B) (old mid new : ScopeId → Option A) (s : ScopeId) (x : A) → ((t : ScopeId) → ready t ≡ option_map f (old t)) → ((t : ScopeId) → mid t ≡ set_for old s None t) → ((t : ScopeId) → new t ≡ set_for mid s (Some x) t) →
    (t : ScopeId) → set_for ready s (Some (f x)) t ≡ option_map f (new t)
put_over f ready old mid new s x is out put t = ⊎_elim
    (λ (yes : is_scope t s ≡ true).
    let there : new t ≡ Some x = put t ∙ ap (λ (b : Bool). if b then Some x else mid t) yes in
    ap (λ (b : Bool). if b then Some (f x) else ready t) yes ∙ sym (ap (option_map f) there))
    (λ (no : is_scope t s ≡ false).
    let there : new t ≡ old t = put t ∙ ap (λ (b : Bool). if b then Some x else mid t) no ∙ out t ∙ ap (λ (b : Bool). if b then None else old t) no in
    ap (λ (b : Bool). if b then Some (f x) else ready t) no ∙ is t ∙ sym (ap (option_map f) there))
    (cases_Bool (is_scope t s))

-- the locks of these vertices are all that the scope holds here
pub all_released : (st : Setting) (s : ScopeId) (holds : ℕ → ScopeId → Bool) (pairs : List (Vertex × ℕ)) → ((x : ℕ) → x < size st.graph → holds x s ≡ true → has_vertex pairs x ≡ true) →
    (y : ℕ) → y < size st.graph → (t : ScopeId) → released_full s holds y t ≡ released_of pairs s holds y t
all_released st s holds pairs along y low t = ⊎_elim
    (λ (yes : has_vertex pairs y ≡ true). sym (ap (λ (b : Bool). (if b then set_for (holds y) s false else holds y) t) yes))
    (λ (no : has_vertex pairs y ≡ false).
    not_held no (cases_Bool (holds y s)) ∙ sym (ap (λ (b : Bool). (if b then set_for (holds y) s false else holds y) t) no))
    (cases_Bool (has_vertex pairs y))
  where
    same_there : t ≡ s → holds y s ≡ false → set_for (holds y) s false t ≡ holds y t
    same_there is free = ⊎_elim
        (λ (yes : is_scope t s ≡ true). ap (λ (b : Bool). if b then false else holds y t) yes ∙ sym free ∙ ap (holds y) (sym is))
        (λ (no : is_scope t s ≡ false). ap (λ (b : Bool). if b then false else holds y t) no)
        (cases_Bool (is_scope t s))

    not_held : has_vertex pairs y ≡ false → (holds y s ≡ true) ⊎ (holds y s ≡ false) → set_for (holds y) s false t ≡ holds y t
    not_held away held = ⊎_elim
        (λ (yes : holds y s ≡ true). absurd (true≢false (sym (along y low yes) ∙ away)))
        (λ (free : holds y s ≡ false). ⊎_elim
        (λ (is : t ≡ s). same_there is free)
        (λ (other : is_scope t s ≡ false). ap (λ (b : Bool). if b then false else holds y t) other)
        (one_or_two t s))
        held

-- ---- one part of a machine is another one

pub posted : (st : Setting) (m : FullMachine) (part : FullPart) (out : FullQueues) (q : ℕ) (message : model.FullMessage) → IsMachineOf st m part → AreQueuesOf st out.queues.items (set_at part.out q (part.out q ++ message ∷ [])) →
    IsMachineOf st (record m { out = out }) (posts_full q message part)
posted st m part out q message is are =
    record {
      numbers = lists_again st m.me.0 m.kept.numbers.items m.kept.edges.items m.kept.tasks.items part (posts_full q message part) refl refl is.numbers;
      locks = is.locks;
      lock_count = is.lock_count;
      log = is.log;
      serial = is.serial;
      flying = is.flying;
      flights = is.flights;
      flights_once = is.flights_once;
      stands = is.stands;
      stands_once = is.stands_once;
      ready = is.ready;
      ready_once = is.ready_once;
      out = are;
    }

-- ---- where a scope goes

pub first_there : (rest : List MachineNo) (many : ℕ) (b : MachineNo) → many ≡ length rest → (many == 0) ≡ false → b ≡ slice_index_or rest 0 b → slice_get rest 0 ≡ Some b
first_there [] many b is some at = absurd (true≢false (sym (eq-eqb many 0 is) ∙ some))
first_there (x ∷ rest) many b is some at = ap Some (sym at)

-- one stand in place of none
pub stand_put : (st : Setting) (a : ℕ) (old new : ScopeId → Option ScopeStand) (standing : ScopeId → Option FullStand) (s : ScopeId) (stand : ScopeStand) (there : FullStand) → ((t : ScopeId) → StandsAs st a (old t) (set_for standing s None t)) → ((t : ScopeId) → new t ≡ set_for old s (Some stand) t) →
    IsStandOf st a stand there → (t : ScopeId) → StandsAs st a (new t) (set_for standing s (Some there) t)
stand_put st a old new standing s stand there are put is t = ⊎_elim
    (λ (yes : is_scope t s ≡ true).
    let one : new t ≡ Some stand = put t ∙ ap (λ (b : Bool). if b then Some stand else old t) yes in
    let other : set_for standing s (Some there) t ≡ Some there = ap (λ (b : Bool). if b then Some there else standing t) yes in
    subst (λ (o : Option ScopeStand). StandsAs st a o (set_for standing s (Some there) t)) (sym one) (subst (λ (o : Option FullStand). StandsAs st a (Some stand) o) (sym other) is))
    (λ (off : is_scope t s ≡ false).
    let one : new t ≡ old t = put t ∙ ap (λ (b : Bool). if b then Some stand else old t) off in
    let other : set_for standing s (Some there) t ≡ set_for standing s None t = ap (λ (b : Bool). if b then Some there else standing t) off ∙ sym (ap (λ (b : Bool). if b then None else standing t) off) in
    subst (λ (o : Option ScopeStand). StandsAs st a o (set_for standing s (Some there) t)) (sym one) (subst (λ (o : Option FullStand). StandsAs st a (old t) o) (sym other) (are t)))
    (cases_Bool (is_scope t s))

-- a scope that stands nowhere stands nowhere
pub already_up : (st : Setting) (m : FullMachine) (part : FullPart) (s : ScopeId) → IsMachineOf st m part → value_of m.stands.entries.items s ≡ None → IsMachineOf st m (stood_up s part)
already_up st m part s is none =
    record {
      numbers = lists_again st m.me.0 m.kept.numbers.items m.kept.edges.items m.kept.tasks.items part (stood_up s part) refl refl is.numbers;
      locks = is.locks;
      lock_count = is.lock_count;
      log = is.log;
      serial = is.serial;
      flying = is.flying;
      flights = is.flights;
      flights_once = is.flights_once;
      stands = λ t. ⊎_elim
          (λ (yes : is_scope t s ≡ true).
          let there : value_of m.stands.entries.items t ≡ None = ap (value_of m.stands.entries.items) (scopes_same t s yes) ∙ none in
          let up : set_for part.stand s None t ≡ None = ap (λ (b : Bool). if b then None else part.stand t) yes in
          subst (λ (o : Option ScopeStand). StandsAs st m.me.0 o (set_for part.stand s None t)) (sym there) (subst (λ (o : Option FullStand). StandsAs st m.me.0 None o) (sym up) tt))
          (λ (off : is_scope t s ≡ false).
          subst (λ (o : Option FullStand). StandsAs st m.me.0 (value_of m.stands.entries.items t) o) (sym (ap (λ (b : Bool). if b then None else part.stand t) off)) (is.stands t))
          (cases_Bool (is_scope t s));
      stands_once = is.stands_once;
      ready = is.ready;
      ready_once = is.ready_once;
      out = is.out;
    }

-- the scope asks for its first lock here
pub first_asked : (st : Setting) (a : ℕ) (stand : ScopeStand) → IsLockOrder st stand.centre.0 a (map (λ x. x.0) stand.part.items) → stand.place ≡ 0 → AsksNextFrom st a stand 0
first_asked st a stand order place = record { order = order; next = order.first ∙ ap (slice_get (map (λ (x : Vertex). x.0) stand.part.items)) (sym place) }

pub not_err : {T E P : Type 0} (r : Result T E) → is_err r ≡ false → OnOk r P → P
not_err (Ok x) fine p = p
not_err (Err e) fine p = absurd (true≢false fine)

-- the machine with another outbox
pub out_changed : (st : Setting) (m : FullMachine) (out : FullQueues) (part : FullPart) (waits : ℕ → List model.FullMessage) → IsMachineOf st m part → AreQueuesOf st out.queues.items waits → IsMachineOf st (record m { out = out }) (record part { out = waits })
out_changed st m out part waits is are =
    record {
      numbers = lists_again st m.me.0 m.kept.numbers.items m.kept.edges.items m.kept.tasks.items part (record part { out = waits }) refl refl is.numbers;
      locks = is.locks;
      lock_count = is.lock_count;
      log = is.log;
      serial = is.serial;
      flying = is.flying;
      flights = is.flights;
      flights_once = is.flights_once;
      stands = is.stands;
      stands_once = is.stands_once;
      ready = is.ready;
      ready_once = is.ready_once;
      out = are;
    }
