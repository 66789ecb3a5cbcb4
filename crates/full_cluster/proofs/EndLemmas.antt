-- A scope ends at its home.
use Rattle.std.proofs.Common.{◌≡◌, ℕ, suc, zero, pred, ◌-◌, ◌<◌, ◌==◌, Bool, true, false, if◌then◌else◌, Option, None, Some, unwrap_or, List, [], ◌∷◌, length, refl, sym, ◌∙◌, ap, subst, ⊎_elim, arith}
use Rattle.std.specs.Global.{Vec}
use Rattle.std.specs.Option.{option_map}
use Rattle.std.proofs.lemmas.Bool.{cases_Bool}
use Rattle.gl_base.specs.declared.numbers.Vertex.{Vertex}
use Rattle.gl_base.specs.declared.scopes.ScopeId.{ScopeId}
use Rattle.gl_base.specs.scope_lists.Scopes.{is_scope, set_for}
use Rattle.graph_core.specs.DataGraph.{size}
use Rattle.cluster_laws.specs.cluster_core.Settings.{Setting}
use Rattle.full_laws.specs.FullActions.{MayUpdateFull}
use Rattle.full_laws.specs.FullParts.{FullPart}
use Rattle.gl_base.specs.declared.entries.Entry.{Entry}
use Rattle.full_cluster.specs.declared.kept.KeptNumbers.{KeptNumbers}
use Rattle.full_cluster.specs.declared.queues.FullQueues.{FullQueues}
use Rattle.full_cluster.specs.declared.lock_rows.WholeLocks.{WholeLocks}
use Rattle.full_cluster.specs.declared.machines.FullMachine.{FullMachine}
use Rattle.full_cluster.specs.declared.scope_maps.ScopeMap.{ScopeMap}
use Rattle.full_cluster.specs.FullMachines.{IsMachineOf}
use Rattle.full_cluster.specs.FullQueues.{AreQueuesOf, seen_after, seen_in}
use Rattle.full_cluster.specs.Given.{HasNumbers, IsSeenList, vertex_after}
use Rattle.full_cluster.specs.ScopeMaps.{AreOnce, value_of}
use Rattle.full_cluster.specs.Updating.{let_go_full}
use Rattle.full_cluster.specs.WholeLocks.{AreLocksOf, has_vertex, released_of}
use Rattle.full_cluster.proofs.MachineLemmas.{all_released, lists_again}

-- a value is taken out
pub taken_out : {A B : Type 0} (f : A → B) (there : ScopeId → Option B) (old new : ScopeId → Option A) (s : ScopeId) → ((t : ScopeId) → there t ≡ option_map f (old t)) → ((t : ScopeId) → new t ≡ set_for old s None t) →
    (t : ScopeId) → set_for there s None t ≡ option_map f (new t)
taken_out f there old new s is out t = ⊎_elim
    (λ (yes : is_scope t s ≡ true). ap (λ (b : Bool). if b then None else there t) yes ∙ sym (ap (option_map f) (out t ∙ ap (λ (b : Bool). if b then None else old t) yes)))
    (λ (no : is_scope t s ≡ false). ap (λ (b : Bool). if b then None else there t) no ∙ is t ∙ sym (ap (option_map f) (out t ∙ ap (λ (b : Bool). if b then None else old t) no)))
    (cases_Bool (is_scope t s))

pub pred_is : (n : ℕ) → pred n ≡ n - 1
pred_is zero = refl
pred_is (suc n) = omega arith

-- what has a number was listed
seen_listed : (pairs : List (Vertex × ℕ)) (x n : ℕ) (here : Option ℕ) → here ≡ None → seen_after pairs x here ≡ Some n → has_vertex pairs x ≡ true
seen_listed [] x n here none is = cc
seen_listed (pair ∷ pairs) x n here none is = ⊎_elim
    (λ (yes : (pair.0.0 == x) ≡ true). rw yes refl)
    (λ (off : (pair.0.0 == x) ≡ false).
    rw off (seen_listed pairs x n here none (sym (ap (λ (b : Bool). seen_after pairs x (if b then Some pair.1 else here)) off) ∙ is)))
    (cases_Bool (pair.0.0 == x))

some_same : {A : Type 0} (x y : A) → Some x ≡ Some y → x ≡ y
some_same x y is = cc

pub gone_is : (st : Setting) (m : FullMachine) (part : FullPart) (s : ScopeId) (f : ℕ → Option ℕ) (seen : Vec (Vertex × ℕ)) (ready : ScopeMap (Vec (Vertex × ℕ))) (locks : WholeLocks) (pairs : List (Vertex × ℕ)) →
    IsMachineOf st m part → part.ready s ≡ Some f → ((x : ℕ) → part.holds x s ≡ true → (n : ℕ) × (f x ≡ Some n)) → value_of m.ready.entries.items s ≡ Some seen → pairs ≡ seen.items →
    ((t : ScopeId) → value_of ready.entries.items t ≡ set_for (value_of m.ready.entries.items) s None t) → AreOnce ready.entries.items →
    length locks.locks.items ≡ length m.locks.locks.items → ((holds : ℕ → ScopeId → Bool) (queue : ℕ → List ScopeId) → AreLocksOf m.locks.locks.items holds queue → AreLocksOf locks.locks.items (released_of pairs s holds) queue) →
    IsMachineOf st (record m { ready = ready; locks = locks }) (let_go_full s part)
gone_is st m part s f seen ready locks pairs is at held there items out once long released =
    let same : f ≡ seen_in seen.items = some_same f (seen_in seen.items) (sym at ∙ is.ready s ∙ ap (option_map (λ (x : Vec (Vertex × ℕ)). seen_in x.items)) there) in
    let all : (x : ℕ) → x < size st.graph → part.holds x s ≡ true → has_vertex pairs x ≡ true = λ x low holds.
    let number = held x holds in
    ap (λ (ps : List (Vertex × ℕ)). has_vertex ps x) items ∙ seen_listed seen.items x number.0 None refl ((λ k. sym same k x) ∙ number.1) in
    let count = long ∙ is.lock_count in
    record {
      numbers = lists_again st m.me.0 m.kept.numbers.items m.kept.edges.items m.kept.tasks.items part (let_go_full s part) refl refl is.numbers;
      locks = record {
        each = λ x d inside.
            let held_now = (released part.holds part.queue is.locks).each x d inside in
            record { holders = λ t. all_released st s part.holds pairs all x (omega (arith, inside, count)) t ∙ held_now.holders t; waiting = held_now.waiting };
      };
      lock_count = count;
      log = is.log;
      serial = is.serial;
      flying = is.flying;
      flights = is.flights;
      flights_once = is.flights_once;
      stands = is.stands;
      stands_once = is.stands_once;
      ready = taken_out (λ (x : Vec (Vertex × ℕ)). seen_in x.items) part.ready (value_of m.ready.entries.items) (value_of ready.entries.items) s is.ready out;
      ready_once = once;
      out = is.out;
    }

-- the list says what it says was gathered
pub seen_is_list : (pairs : List (Vertex × ℕ)) → IsSeenList pairs (seen_in pairs)
seen_is_list pairs x here = after pairs None
  where
    one : (b : Bool) (n : ℕ) (o : Option ℕ) → (if b then n else unwrap_or o here) ≡ unwrap_or (if b then Some n else o) here
    one true n o = refl
    one false n o = refl

    after : (ps : List (Vertex × ℕ)) (o : Option ℕ) → vertex_after ps x (unwrap_or o here) ≡ unwrap_or (seen_after ps x o) here
    after [] o = refl
    after (pair ∷ ps) o = ap (vertex_after ps x) (one (pair.0.0 == x) pair.1 o) ∙ after ps (if pair.0.0 == x then Some pair.1 else o)

-- a machine whose numbers, log and outbox say the same
pub again : (st : Setting) (m : FullMachine) (part : FullPart) (kept : KeptNumbers) (log : Vec Entry) (out : FullQueues) → IsMachineOf st m part → HasNumbers st m.me.0 kept part → log.items ≡ m.log.items → AreQueuesOf st out.queues.items part.out →
    IsMachineOf st (record m { kept = kept; log = log; out = out }) part
again st m part kept log out is numbers same queues =
    record {
      numbers = numbers;
      locks = is.locks;
      lock_count = is.lock_count;
      log = is.log ∙ sym same;
      serial = is.serial;
      flying = is.flying;
      flights = is.flights;
      flights_once = is.flights_once;
      stands = is.stands;
      stands_once = is.stands_once;
      ready = is.ready;
      ready_once = is.ready_once;
      out = queues;
    }

-- the others are told what they are given
pub told_of : (st : Setting) (m : FullMachine) (before after : FullPart) (out : FullQueues) → IsMachineOf st m before → after ≡ record before { out = after.out } → AreQueuesOf st out.queues.items after.out → IsMachineOf st (record m { out = out }) after
told_of st m before after out is same queues =
    subst (IsMachineOf st (record m { out = out })) (sym same)
    (record {
      numbers = lists_again st m.me.0 m.kept.numbers.items m.kept.edges.items m.kept.tasks.items before (record before { out = after.out }) refl refl is.numbers;
      locks = is.locks;
      lock_count = is.lock_count;
      log = is.log;
      serial = is.serial;
      flying = is.flying;
      flights = is.flights;
      flights_once = is.flights_once;
      stands = is.stands;
      stands_once = is.stands_once;
      ready = is.ready;
      ready_once = is.ready_once;
      out = queues;
    })

pub may_be : (st : Setting) (m : FullMachine) (part : FullPart) (s : ScopeId) (v : Vertex) (seen : Vec (Vertex × ℕ)) (left : ℕ) → IsMachineOf st m part → value_of m.flights.entries.items s ≡ Some v → value_of m.ready.entries.items s ≡ Some seen → 0 < left → MayUpdateFull s part left
may_be st m part s v seen left is flies at some =
    record {
      vertex = v.0;
      seen = seen_in seen.items;
      flight = is.flights s ∙ ap (option_map (λ (x : Vertex). x.0)) flies;
      ready = is.ready s ∙ ap (option_map (λ (x : Vec (Vertex × ℕ)). seen_in x.items)) at;
      ticket = some;
    }
