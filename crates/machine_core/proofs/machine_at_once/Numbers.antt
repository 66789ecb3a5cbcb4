-- An update that is made on a machine's own numbers, from the start to its log.
use Rattle.std.proofs.Common.{◌≡◌, ℕ, zero, suc, ◌+◌, ◌<◌, ◌≤◌, ◌==◌, ◌++◌, Bool, true, false, true≢false, if◌then◌else◌, Option, None, Some, is_some, List, [], ◌∷◌, length, slice_set, vec_len, vec_capacity, refl, sym, ap, ◌∙◌, subst, arith, inl, inr}
use Rattle.std.specs.Prelude.{Result, Ok, Err, OnErr}
use Rattle.std.proofs.lemmas.Bool.{cases_eq, eq-eqb, ne_eqb}
use Rattle.std.proofs.lemmas.List.{length-map, get_or-set_other, get_or-set_same}
use Rattle.gl_base.specs.declared.entries.Entry.{Entry}
use Rattle.gl_base.specs.declared.numbers.Vertex.{Vertex}
use Rattle.gl_base.specs.declared.scopes.ScopeId.{ScopeId}
use Rattle.local_graph.specs.Works.{IsRow}
use Rattle.local_graph.specs.declared.sides.Side.{Side}
use Rattle.local_graph.specs.declared.works.Outcome.{Outcome}
use Rattle.local_graph.specs.declared.works.Work.{Work}
use Rattle.update_api.specs.Updates.{Update}
use Rattle.update_api.specs.declared.links.Link.{Link}
use Rattle.task_sets.specs.task_sched.Tasks.{TasksView, is_flagged}
use Rattle.partition.specs.declared.machine_numbers.keeping.Numbers.{Numbers}
use Rattle.partition.specs.machine_numbers.Steps.{CanFinish, HasRun, HasTakenOut, HasUpdated, made_of}
use Rattle.partition.specs.machine_numbers.Settings.{IsMadeOfWork, IsOutcomeOf, IsLocalOf, Setting}
use Rattle.partition.specs.machine_numbers.Views.{AreTasksOf, LocalView, datum_here, edge_here, flag_there, value_here, is_own, links_at, place_at, row_at, sides_at}
use Rattle.partition.proofs.machine_numbers.WorkLemmas.{outcome_is}
use Rattle.machine_core.proofs.machine_scopes.PickLemmas.{free_parts}
use Rattle.machine_core.specs.machine_at_once.Picks.{HasRunAtOnce, IsRowIn}
use Rattle.machine_core.specs.machine_at_once.Inner.Finding.{WaitsAt}
use Rattle.machine_core.specs.machine_at_once.Inner.Making.{CanBeKept, CanBeMade, HasMadeHere, HasRunOne, HasSameNumbers, KeepsGraph}

-- ---- flags that are set and cleared again

pub set_back : (flags : List Bool) (k : ℕ) → is_flagged flags k ≡ false → slice_set (slice_set flags k true) k false ≡ flags
set_back [] k clear = refl
set_back (b ∷ flags) zero clear = ap (λ (c : Bool). c ∷ flags) (sym clear)
set_back (b ∷ flags) (suc k) clear = ap (λ (fs : List Bool). b ∷ fs) (set_back flags k clear)

pub run_one : (old between new : TasksView) (k : ℕ) → is_flagged old.admitted k ≡ false
    → between ≡ record old { admitted = slice_set old.admitted k true; planned = slice_set old.planned k true; plans = old.plans + 1 }
    → HasRun between new k → HasRunAtOnce old new
run_one old between new k clear admitted run =
    let with : TasksView → TasksView = λ t. record new { admitted = slice_set t.admitted k false; pending = t.pending; asked = t.asked; window = t.window; outside = t.outside + 1 } in
    let before : between.plans ≡ old.plans + 1 = ap (λ (t : TasksView). t.plans) admitted in
    let behind = run.plans in
    let plans : new.plans ≡ old.plans = omega arith in
    let flags : new.planned ≡ slice_set (slice_set old.planned k true) k false = ap (λ (t : TasksView). t.planned) run.rest ∙ ap (λ (t : TasksView). slice_set t.planned k false) admitted in
    let same : new ≡ with between = λ i. record new {
      admitted = ap (λ (t : TasksView). t.admitted) run.rest i;
      pending = ap (λ (t : TasksView). t.pending) run.rest i;
      asked = ap (λ (t : TasksView). t.asked) run.rest i;
      window = ap (λ (t : TasksView). t.window) run.rest i;
      outside = ap (λ (t : TasksView). t.outside) run.rest i;
    } in
    let all : new ≡ record new { admitted = old.admitted; pending = old.pending; asked = old.asked; window = old.window; outside = old.outside + 1 } =
    same ∙ ap with admitted
    ∙ ap (λ (left : List Bool). record new { admitted = left; pending = old.pending; asked = old.asked; window = old.window; outside = old.outside + 1 }) (set_back old.admitted k clear) in
    record {
      plans = plans;
      planned = λ j set.
          let other : j ≡ k → ⊥ = λ same_place. true≢false (sym set ∙ ap (is_flagged old.admitted) same_place ∙ clear) in
          ap (λ (left : List Bool). is_flagged left j) flags
          ∙ get_or-set_other (slice_set old.planned k true) k j false false other
          ∙ get_or-set_other old.planned k j true false other;
      rest = all ∙ ap (λ (many : ℕ). record old { task = new.task; planned = new.planned; plans = many; outside = old.outside + 1 }) plans;
    }

-- ---- rows

is_there : (o : Option (List Link)) (many : ℕ) → IsRowIn o many → is_some o ≡ true
is_there None many row = absurd row
is_there (Some links) many row = refl

pub row_there : (l : LocalView) (v : ℕ) → IsRowIn (links_at l v) (length (sides_at l v)) → is_some (links_at l v) ≡ true
row_there l v row = is_there (links_at l v) (length (sides_at l v)) row

pub row_of : (l : LocalView) (v many : ℕ) (links : List Link) → IsRowIn (links_at l v) many → links_at l v ≡ Some links → IsRow links many
row_of l v many links row at = subst (λ (o : Option (List Link)). IsRowIn o many) at row

-- ---- a task that is admitted, and run at once

abbrev pub admitted_at : TasksView → ℕ → TasksView
admitted_at t k = record t { admitted = slice_set t.admitted k true; planned = slice_set t.planned k true; plans = t.plans + 1 }

module _ (n : Numbers) (t : TasksView) (o : Outcome) (place : Vertex) (can : CanBeKept n o place) (is : t ≡ admitted_at n.tasks place.0) where
  flags : (is_flagged n.tasks.task place.0 ≡ true) × (is_flagged n.tasks.admitted place.0 ≡ false)
  flags = free_parts n.tasks.task n.tasks.admitted place.0 can.waits.free

  pub can_finish : CanFinish (record n { tasks = t }) o
  can_finish = subst (λ (k : TasksView). CanFinish (record n { tasks = k }) o) (sym is)
      (record {
        own = can.waits.own;
        row = can.row;
        links = can.links;
        edges = can.edges;
        sides = can.can.sides;
        admitted = ap (flag_there (slice_set n.tasks.admitted place.0 true)) can.waits.at ∙ get_or-set_same n.tasks.admitted place.0 true false can.waits.among;
        task = ap (flag_there n.tasks.task) can.waits.at ∙ flags.0;
        not_pending = ap (flag_there n.tasks.pending) can.waits.at ∙ can.waits.quiet;
        outside = let most = can.can.outside in let few = can.few in omega arith;
        version = can.version;
        room = can.room;
      })

  pub tasks_of : AreTasksOf n.local t
  tasks_of = subst (λ (k : TasksView). AreTasksOf n.local k) (sym is) (record { apart = can.can.tasks.apart; own = can.can.tasks.own })

  pub updated_kept : (new : Numbers) (entry : Entry) → HasUpdated (record n { tasks = t }) new (made_of o) entry → HasUpdated n new (made_of o) entry
  updated_kept new entry has =
      let now = subst (λ (k : TasksView). HasUpdated (record n { tasks = k }) new (made_of o) entry) is has in
      record { datum = now.datum; edge = now.edge; task = now.task; log = now.log }

  pub run_kept : (new : Numbers) → AreTasksOf new.local new.tasks → length new.tasks.task ≡ length t.task
      → ((k : ℕ) → place_at n.local o.work.vertex.0 ≡ Some k → HasRun t new.tasks k) → HasRunOne n new
  run_kept new tasks many run =
      record {
        tasks = tasks;
        many = many ∙ ap (λ (k : TasksView). length k.task) is;
        once = run_one n.tasks t new.tasks place.0 flags.1 is (run place.0 can.waits.at);
      }

-- ---- from the start to the end

module _ (n roomy out new : Numbers) (scope : ScopeId) (v : Vertex) (work : Work) (roomy_is : roomy ≡ record n { log = roomy.log }) (items : roomy.log.items ≡ n.log.items) (taken : HasTakenOut roomy out scope v work) where
  -- the numbers while the work is out
  pub out_is : out ≡ record n { local = record n.local { rows = out.local.rows }; log = roomy.log }
  out_is = taken.rest ∙ ap (λ (k : Numbers). record k { local = record k.local { rows = out.local.rows } }) roomy_is

  links_before : links_at n.local v.0 ≡ Some work.row.links.items
  links_before = sym (ap (λ (k : Numbers). links_at k.local v.0) roomy_is) ∙ taken.links

  pub graph_kept : (own : (x : ℕ) → is_own new.local x ≡ is_own out.local x)
      → ((x : ℕ) → links_at new.local x ≡ (if x == work.vertex.0 then Some work.row.links.items else links_at out.local x))
      → length new.local.numbers ≡ length out.local.numbers
      → new.local ≡ record out.local { kept = new.local.kept; rows = new.local.rows; numbers = new.local.numbers }
      → KeepsGraph n.local new.local
  graph_kept own back many rest =
      let local : out.local ≡ record n.local { rows = out.local.rows } = ap (λ (k : Numbers). k.local) out_is in
      let vertex : work.vertex.0 ≡ v.0 = ap (λ (u : Vertex). u.0) taken.vertex in
      record {
        own = λ x. own x ∙ ap (λ (l : LocalView). is_own l x) local;
        links = λ x. elim (cases_eq x work.vertex.0) [
          | inl here ↦
              back x ∙ ap (λ (b : Bool). if b then Some work.row.links.items else links_at out.local x) (eq-eqb x work.vertex.0 here)
              ∙ sym links_before ∙ ap (links_at n.local) (sym (here ∙ vertex))
          | inr off ↦
              back x ∙ ap (λ (b : Bool). if b then Some work.row.links.items else links_at out.local x) (ne_eqb x work.vertex.0 off)
              ∙ taken.out x ∙ ap (λ (b : Bool). if b then None else links_at roomy.local x) (ne_eqb x v.0 (λ (same : x ≡ v.0). off (same ∙ sym vertex)))
              ∙ ap (λ (k : Numbers). links_at k.local x) roomy_is
        ];
        many = many ∙ ap (λ (l : LocalView). length l.numbers) local;
        rest = rest ∙ ap (λ (l : LocalView). record l { kept = new.local.kept; rows = new.local.rows; numbers = new.local.numbers }) local;
      }

  module _ (p : Update) (o : Outcome) (entry : Entry) (same : o.work ≡ work) (made : IsMadeOfWork p o) (own_v : is_own n.local v.0 ≡ true) where
    pub is_outcome : (st : Setting) → IsLocalOf st n.local → st.program ≡ p → IsOutcomeOf st n (made_of o)
    is_outcome st local program =
        let there : IsLocalOf st roomy.local = subst (λ (k : Numbers). IsLocalOf st k.local) (sym roomy_is) local in
        let own : is_own roomy.local v.0 ≡ true = ap (λ (k : Numbers). is_own k.local v.0) roomy_is ∙ own_v in
        let is : IsOutcomeOf st roomy (made_of o) = outcome_is st roomy out scope v o there own (subst (λ (w : Work). HasTakenOut roomy out scope v w) (sym same) taken) (subst (λ (q : Update). IsMadeOfWork q o) (sym program) made) in
        let now : IsOutcomeOf st (record n { log = roomy.log }) (made_of o) = subst (λ (k : Numbers). IsOutcomeOf st k (made_of o)) roomy_is is in
        record { row = now.row; owners = now.owners; numbers = now.numbers; value = now.value; marks = now.marks; woken = now.woken }

    pub updated_from : HasUpdated out new (made_of o) entry → HasUpdated n new (made_of o) entry
    updated_from has =
        let now = subst (λ (k : Numbers). HasUpdated k new (made_of o) entry) out_is has in
        record { datum = now.datum; edge = now.edge; task = now.task; log = now.log ∙ ap (λ (es : List Entry). es ++ entry ∷ []) items }

    run_from : HasRunOne out new → HasRunOne n new
    run_from has =
        let now = subst (λ (k : Numbers). HasRunOne k new) out_is has in
        record { tasks = now.tasks; many = now.many; once = record { plans = now.once.plans; planned = now.once.planned; rest = now.once.rest } }

    pub made_here : HasUpdated out new (made_of o) entry
        → ((x : ℕ) → is_own new.local x ≡ is_own out.local x)
        → ((x : ℕ) → links_at new.local x ≡ (if x == o.work.vertex.0 then Some o.work.row.links.items else links_at out.local x))
        → length new.local.numbers ≡ length out.local.numbers
        → new.local ≡ record out.local { kept = new.local.kept; rows = new.local.rows; numbers = new.local.numbers }
        → new.ghosts ≡ out.ghosts → HasRunOne out new → HasMadeHere p n new v entry
    made_here updated own back many rest ghosts run =
        record {
          made = made_of o;
          vertex = ap (λ (w : Work). w.vertex) same ∙ taken.vertex;
          updated = updated_from updated;
          is = is_outcome;
          graph = graph_kept own (subst (λ (w : Work). (x : ℕ) → links_at new.local x ≡ (if x == w.vertex.0 then Some w.row.links.items else links_at out.local x)) same back) many rest;
          ghosts = ghosts ∙ ap (λ (k : Numbers). k.ghosts) out_is;
          run = run_from run;
        }

-- ---- what the calls on the way ask

pub at_err : {T E : Type 0} {A : Type 0} (r : Result T E) → A → OnErr r A
at_err (Ok x) a = tt
at_err (Err e) a = a

pub room_alone : (n roomy : Numbers) → roomy ≡ record n { log = roomy.log } → roomy.log.items ≡ n.log.items → HasSameNumbers n roomy
room_alone n roomy is items =
    record {
      edge = λ e. ap (λ (k : Numbers). edge_here k e) is;
      graph = record {
        own = λ x. ap (λ (k : Numbers). is_own k.local x) is;
        links = λ x. ap (λ (k : Numbers). links_at k.local x) is;
        many = ap (λ (k : Numbers). length k.local.numbers) is;
        rest = ap (λ (k : Numbers). k.local) is ∙ (λ i. record n.local { kept = (sym is i).local.kept; rows = (sym is i).local.rows; numbers = (sym is i).local.numbers });
      };
      log = items;
      rest = is ∙ (λ i. record n { local = record n.local { rows = (sym is i).local.rows; numbers = (sym is i).local.numbers }; log = roomy.log });
    }

module _ (roomy out : Numbers) (scope : ScopeId) (v : Vertex) (work : Work) (taken : HasTakenOut roomy out scope v work) (row : IsRowIn (links_at roomy.local v.0) (length (sides_at roomy.local v.0))) (o : Outcome) (same : o.work ≡ work) where
  many_near : length work.near.items ≡ length (sides_at roomy.local v.0)
  many_near = ap length taken.near ∙ length-map (sides_at roomy.local v.0) (λ (s : Side). value_here roomy s.other.0)

  many_numbers : length work.row.numbers.items ≡ length (sides_at roomy.local v.0)
  many_numbers = ap length taken.numbers ∙ length-map (sides_at roomy.local v.0) (λ (s : Side). edge_here roomy s.edge.0)

  pub row_lent : IsRow o.work.row.links.items (length o.work.near.items)
  row_lent = subst (λ (w : Work). IsRow w.row.links.items (length w.near.items)) (sym same)
      (subst (IsRow work.row.links.items) (sym many_near) (row_of roomy.local v.0 (length (sides_at roomy.local v.0)) work.row.links.items row taken.links))

  pub edges_lent : o.edges.items ≡ work.row.numbers.items → length o.edges.items ≡ length o.work.near.items
  edges_lent edges = ap length edges ∙ many_numbers ∙ sym many_near ∙ ap (λ (w : Work). length w.near.items) (sym same)

  -- the outcome can be kept
  pub can_keep : (place : Vertex) → WaitsAt roomy place v → CanBeMade roomy v → length o.edges.items ≡ length work.row.numbers.items → vec_len roomy.log < vec_capacity roomy.log → length roomy.log.items < 4294967295 → (datum_here roomy v.0).version < 4294967295 → CanBeKept out o place
  can_keep place waits can edges room few version =
      let vertex : o.work.vertex ≡ v = ap (λ (w : Work). w.vertex) same ∙ taken.vertex in
      let mid : Numbers = record roomy { local = record roomy.local { rows = out.local.rows } } in
      let kept : CanBeKept mid o place =
      record {
        waits = subst (λ (u : Vertex). WaitsAt mid place u) (sym vertex)
            (record { at = waits.at; own = waits.own; within = waits.within; among = waits.among; free = waits.free; quiet = waits.quiet; opened = waits.opened });
        can = subst (λ (u : Vertex). CanBeMade mid u) (sym vertex)
            (record {
              sides = λ k d low. let here = can.sides k d low in record { place = here.place; own = here.own };
              tasks = record { apart = can.tasks.apart; own = can.tasks.own };
              outside = can.outside;
            });
        row = ap (λ (w : Work). w.row.links.items) same ∙ taken.row ∙ ap (λ (u : Vertex). row_at roomy.local u.0) (sym vertex);
        links = ap (λ (w : Work). length w.row.links.items) same ∙ taken.many ∙ ap (λ (u : Vertex). length (sides_at roomy.local u.0)) (sym vertex);
        edges = edges ∙ many_numbers ∙ ap (λ (u : Vertex). length (sides_at roomy.local u.0)) (sym vertex);
        room = room;
        few = few;
        version = subst (λ (u : Vertex). (datum_here mid u.0).version < 4294967295) (sym vertex) version;
      } in
      subst (λ (k : Numbers). CanBeKept k o place) (sym taken.rest) kept

-- with room in the log
pub waits_room : (n roomy : Numbers) (place v : Vertex) → roomy ≡ record n { log = roomy.log } → WaitsAt n place v → WaitsAt roomy place v
waits_room n roomy place v is w = subst (λ (k : Numbers). WaitsAt k place v) (sym is)
    (record { at = w.at; own = w.own; within = w.within; among = w.among; free = w.free; quiet = w.quiet; opened = w.opened })

pub can_room : (n roomy : Numbers) (v : Vertex) → roomy ≡ record n { log = roomy.log } → roomy.log.items ≡ n.log.items → CanBeMade n v → CanBeMade roomy v
can_room n roomy v is items can = subst (λ (k : Numbers). CanBeMade k v) (sym is)
    (record {
      sides = can.sides;
      tasks = can.tasks;
      outside = subst (λ (es : List Entry). n.tasks.outside ≤ length es) (sym items) can.outside;
    })
