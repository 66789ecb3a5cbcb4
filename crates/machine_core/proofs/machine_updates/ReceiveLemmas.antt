-- What word of an update elsewhere leaves is what the cluster's effect makes of the machine's part.
use Rattle.std.proofs.Common.{◌≡◌, ℕ, ◌≤◌, ◌==◌, ◌||◌, Bool, true, false, true≢false, if◌then◌else◌, Option, None, List, length, max, refl, sym, ap, ◌∙◌, subst, arith, inl, inr}
use Rattle.std.specs.Prelude.{is_some, nat_lt}
use Rattle.std.specs.List.{list_any}
use Rattle.std.proofs.Math.Nat.{max-zero}
use Rattle.std.proofs.lemmas.Bool.{ne_eqb, or_parts}
use Rattle.gl_base.specs.declared.atoms.GhostLine.{GhostLine}
use Rattle.gl_base.specs.declared.numbers.MachineNo.{MachineNo}
use Rattle.gl_base.specs.declared.numbers.Vertex.{Vertex}
use Rattle.gl_base.specs.declared.scopes.Datum.{Datum}
use Rattle.gl_base.specs.declared.scopes.ScopeId.{ScopeId}
use Rattle.gl_base.specs.scope_lists.Scopes.{set_for}
use Rattle.gl_base.specs.scope_lists.Found.{by_scope}
use Rattle.gl_base.proofs.scope_lists.SameScope.{one_or_two, set_for-here, set_for-there}
use Rattle.scope_locks.specs.scope_pipe.Pipes.{flight_scope}
use Rattle.scope_locks.proofs.scope_pipe.FlightLemmas.{in_flight_where}
use Rattle.wire.specs.declared.wire_msgs.messages.Done.{Done}
use Rattle.cluster_laws.specs.cluster_core.Effects.{applied, nothing_saved, first_unmarked, first_pending, seed_if, is_at, knows, newer_datum}
use Rattle.partition.specs.declared.machine_numbers.keeping.Numbers.{Numbers}
use Rattle.partition.specs.machine_numbers.Views.{TasksView, AreTasksOf, ghost_datum, news_of, is_in_update}
use Rattle.partition.specs.machine_numbers.Steps.{HasLearned}
use Rattle.partition.specs.machine_numbers.Settings.{with_numbers, IsRowOf}
use Rattle.local_graph.specs.declared.sides.Side.{Side}
use Rattle.machine_core.specs.declared.machine_parts.cores.Core.{Core}
use Rattle.machine_core.specs.machine_parts.Parts.{LocalView, PipeView, place_at, is_own, links_at, datum_here, flag_there, pending_here, admitted_here, flight_at, is_ready, is_owned, holder_at, queue_at, part_of}
use Rattle.machine_core.specs.machine_parts.Order.{IsOrderly, AreNumbersInOrder, AreFlightsInOrder, IsReadyAt, KnowsPlaces}
use Rattle.machine_core.specs.machine_parts.Settings.{Setting, IsPartOf, SameSettings}
use Rattle.machine_core.specs.machine_updates.Learning.{CanLearn, HasReceivedDone}
use Rattle.machine_core.proofs.machine_updates.GraphLemmas.{HasSameEdges, SameGraph, place_kept, me_kept, sides_kept, ghosts_kept, graph_kept, sides_here}
use Rattle.machine_core.proofs.machine_updates.LeaveLemmas.{IsWithout, none_or, come_kept, other_entered, locks_left}
use Rattle.machine_core.proofs.machine_updates.OrderLemmas.{local_kept}
use Rattle.machine_core.proofs.machine_updates.SeedLemmas.{no_seed, not_below, seed_none}

-- ---- the graph here, where numbers of edges alone have changed

pub numbers_written : (old new : LocalView) → new ≡ record old { numbers = new.numbers } → SameGraph old new
numbers_written old new is =
    let kept : old.kept ≡ new.kept = sym (ap (λ (l : LocalView). l.kept) is) in
    let rows : old.rows ≡ new.rows = sym (ap (λ (l : LocalView). l.rows) is) in
    record { own = λ x. ap (λ (l : LocalView). is_own l x) is; rest = is ∙ (λ i. record old { kept = kept i; rows = rows i; numbers = new.numbers }) }

-- ---- a scope that isn't in flight

-- the pipe is without it
pub is_without : (p : PipeView) (s : ScopeId) → flight_at p s ≡ None → IsWithout p p s
is_without p s none =
    let not_ready : is_ready p s ≡ false = (or_parts (is_some (by_scope flight_scope p.waiting s)) (is_ready p s) (sym (in_flight_where p s) ∙ ap is_some none)).1 in
    record {
      home = refl;
      serial = refl;
      entered = refl;
      flight = λ t. elim (one_or_two t s) [
        | inl same ↦ ap (flight_at p) same ∙ none ∙ sym (ap (set_for (flight_at p) s None) same ∙ set_for-here (flight_at p) s None)
        | inr other ↦ sym (set_for-there (flight_at p) s t None other)
      ];
      ready = λ t. elim (one_or_two t s) [
        | inl same ↦ ap (is_ready p) same ∙ not_ready ∙ sym (ap (set_for (is_ready p) s false) same ∙ set_for-here (is_ready p) s false)
        | inr other ↦ sym (set_for-there (is_ready p) s t false other)
      ];
    }

-- ---- flights stay

pub flights_stay : (old new : Numbers) (pipe : PipeView) → SameGraph old.local new.local → new.tasks.admitted ≡ old.tasks.admitted → ((v : Vertex) → is_own new.local v.0 ≡ true → is_some (links_at new.local v.0) ≡ false → IsReadyAt pipe v)
    → AreFlightsInOrder old pipe → AreFlightsInOrder new pipe
flights_stay old new pipe graph flags rows are =
    let flag : (u : ℕ) → admitted_here new u ≡ admitted_here old u = λ u.
    ap (λ (o : Option ℕ). flag_there new.tasks.admitted o) (place_kept old.local new.local graph u) ∙ ap (λ (fs : List Bool). flag_there fs (place_at old.local u)) flags in
    record {
      home = are.home ∙ sym (me_kept old.local new.local graph);
      given = are.given;
      own = λ t c flies. graph.own c.0 ∙ are.own t c flies;
      single = are.single;
      admitted = λ t c flies. flag c.0 ∙ are.admitted t c flies;
      flies = λ u mine admitted. are.flies u (sym (graph.own u.0) ∙ mine) (sym (flag u.0) ∙ admitted);
      rows = rows;
    }

-- ---- what became of the parts of a machine

pub record HasHeard (old new : Core) (done : Done) : Type 0 where
  pub learned : HasLearned old.numbers new.numbers (news_of done)
  pub local : new.numbers.local ≡ record old.numbers.local { numbers = new.numbers.local.numbers }
  pub ghosts : (x : ℕ) → is_some (ghost_datum new.numbers.ghosts x) ≡ is_some (ghost_datum old.numbers.ghosts x)
  pub tasks : new.numbers.tasks ≡ record old.numbers.tasks { task = new.numbers.tasks.task }
  pub tasks_kept : AreTasksOf new.numbers.local new.numbers.tasks
  pub owned : (x : ℕ) → is_owned new.locks x ≡ is_owned old.locks x
  pub holder : (x : ℕ) (t : ScopeId) → holder_at new.locks x t ≡ set_for (holder_at old.locks x) done.scope None t
  pub queue : (x : ℕ) → queue_at new.locks x ≡ queue_at old.locks x
  pub rest : new ≡ record old { numbers = new.numbers; locks = new.locks }

module _ (old new : Core) (done : Done) (order : IsOrderly old) (can : CanLearn old done) (heard : HasHeard old new done) where
  graph : SameGraph old.numbers.local new.numbers.local
  graph = numbers_written old.numbers.local new.numbers.local heard.local

  not_flying : flight_at old.pipe done.scope ≡ None
  not_flying = none_or (flight_at old.pipe done.scope) (λ c flies. can.away (ap (λ (a : MachineNo). a.0) (order.flights.given done.scope c flies).0))

  without : IsWithout old.pipe old.pipe done.scope
  without = is_without old.pipe done.scope not_flying

  pipe_is : new.pipe ≡ old.pipe
  pipe_is = ap (λ (m : Core). m.pipe) heard.rest

  pending_is : (st : Setting) → IsPartOf st old → (u : ℕ) → pending_here new.numbers u ≡ (applied st old.numbers.local.me.0 done.scope (news_of done) (part_of old)).pending u
  pending_is st part u =
      let a = old.numbers.local.me.0 in
      let known : max old.terms.base done.number ≡ old.terms.base = ap (max old.terms.base) can.number ∙ max-zero old.terms.base in
      let before = knows done.number (part_of old) in
      let none : first_unmarked st a before ≡ None = no_seed st old.numbers old.terms.base before part.local order.numbers refl known in
      let unseeded : is_at (seed_if (first_pending st before) (first_unmarked st a before)) u ≡ false =
      ap (λ (o : Option ℕ). is_at (seed_if (first_pending st before) o) u) none ∙ ap (λ (o : Option ℕ). is_at o u) (seed_none (first_pending st before)) in
      ap (λ (o : Option ℕ). flag_there new.numbers.tasks.pending o) (place_kept old.numbers.local new.numbers.local graph u)
      ∙ ap (λ (t : TasksView). flag_there t.pending (place_at old.numbers.local u)) heard.tasks
      ∙ sym (ap (λ (ws : List Vertex). is_in_update ws u || (is_at (seed_if (first_pending st before) (first_unmarked st a before)) u || pending_here old.numbers u)) can.pends
      ∙ ap (λ (b : Bool). b || pending_here old.numbers u) unseeded)

  pub received_is : HasReceivedDone old new done
  received_is st part =
      let a = old.numbers.local.me.0 in
      let after = applied st a done.scope (news_of done) (part_of old) in
      let has = heard.learned in
      let known : old.terms.base ≡ max old.terms.base done.number = sym (ap (max old.terms.base) can.number ∙ max-zero old.terms.base) in
      let kept : nat_lt old.terms.base done.number ≡ false = ap (nat_lt old.terms.base) can.number ∙ not_below old.terms.base 0 (omega arith) in
      let saved : nothing_saved ≡ (if nat_lt old.terms.base done.number then nothing_saved else nothing_saved) = sym (ap (λ (b : Bool). if b then nothing_saved else nothing_saved) kept) in
      let same : part_of new ≡ part_of (record old { numbers = new.numbers; locks = new.locks }) = ap part_of heard.rest in
      let rest : part_of (record old { numbers = new.numbers; locks = new.locks }) ≡ with_numbers new.numbers after = λ i.
      record (part_of (record old { numbers = new.numbers; locks = new.locks })) {
        holder = λ x t. heard.holder x t i;
        queue = λ x. heard.queue x i;
        pending = λ u. pending_is st part u i;
        known = known i;
        saved = saved i;
      } in
      let numbers : with_numbers new.numbers after ≡ after = λ i.
      record after {
        datum = λ v. has.datum v i;
        edge = λ e. has.edge e i;
        task = λ u. has.task u i;
        log = has.log i;
      } in
      same ∙ rest ∙ numbers

  numbers_kept : AreNumbersInOrder new.numbers old.terms.base
  numbers_kept =
      let n = order.numbers in
      let was : (u : ℕ) → is_own new.numbers.local u ≡ true → is_own old.numbers.local u ≡ true = λ u is. sym (graph.own u) ∙ is in
      let datum : (u : ℕ) → is_own old.numbers.local u ≡ true → datum_here new.numbers u ≡ datum_here old.numbers u = λ u own.
      let off : u ≡ done.centre.0 → ⊥ = λ same. true≢false (sym own ∙ ap (is_own old.numbers.local) same ∙ can.not_own) in
      heard.learned.datum u ∙ ap (λ (b : Bool). if b then newer_datum (datum_here old.numbers u) done.datum else datum_here old.numbers u) (ne_eqb u done.centre.0 off) in
      let long : length old.numbers.log.items ≡ length new.numbers.log.items = sym (ap length heard.learned.log) in
      record {
        tasks = heard.tasks_kept;
        sides = λ u is. sides_here old.numbers.local new.numbers.local graph u (n.sides u (was u is));
        ghosts = λ x. heard.ghosts x ∙ n.ghosts x ∙ ap (λ (gs : List GhostLine). list_any (λ g. g.vertex.0 == x) gs) (sym (ghosts_kept old.numbers.local new.numbers.local graph));
        marks = λ u is.
            let own = was u is in subst (λ (d : Datum). old.terms.base ≤ d.mark) (sym (datum u own)) (n.marks u own);
        outside = subst (λ (k : ℕ). new.numbers.tasks.outside ≤ k) long (subst (λ (t : TasksView). t.outside ≤ length old.numbers.log.items) (sym heard.tasks) n.outside);
      }

  row_same : (v : ℕ) → links_at new.numbers.local v ≡ links_at old.numbers.local v
  row_same v = ap (λ (l : LocalView). links_at l v) heard.local

  order_of : IsOrderly (record old { numbers = new.numbers; locks = new.locks })
  order_of =
      let o = old.numbers.local in
      let l = new.numbers.local in
      record {
        graph = graph_kept o l graph (length old.out.machines) order.graph;
        numbers = numbers_kept;
        entered = λ t e come. come_kept old.pipe old.pipe done.scope without o l (length old.out.machines) t e graph (other_entered old.pipe old.pipe done.scope without t e can.gone come) (order.entered t e come);
        locks = locks_left old.pipe old.pipe done.scope without old.terms.locks o l old.locks new.locks graph can.gone heard.owned heard.holder heard.queue order.locks;
        flights = flights_stay old.numbers new.numbers old.pipe graph (ap (λ (t : TasksView). t.admitted) heard.tasks)
            (λ v mine out. order.flights.rows v (sym (graph.own v.0) ∙ mine) (sym (ap is_some (row_same v.0)) ∙ out)) order.flights;
        width = order.width;
      }

  pub order_heard : IsOrderly new
  order_heard = subst IsOrderly (sym heard.rest) order_of

  pub settings_heard : HasSameEdges old new → SameSettings old new
  settings_heard edges = λ st part. subst (IsPartOf st) (sym heard.rest)
      (record {
        local = local_kept st old.numbers.local new.numbers.local graph edges
            (λ v links own at.
            subst (λ (ss : List Side). IsRowOf st v ss links) (sym (sides_kept old.numbers.local new.numbers.local graph v)) (part.local.rows v links (sym (graph.own v) ∙ own) (sym (row_same v) ∙ at))) part.local;
        machines = part.machines;
        engine = part.engine;
        pipeline = part.pipeline;
        base = part.base;
        window = ap (λ (t : TasksView). t.window) heard.tasks ∙ part.window;
      })

  pub places_heard : length new.numbers.tasks.task ≡ length old.numbers.tasks.task → KnowsPlaces old → KnowsPlaces new
  places_heard many knows =
      subst KnowsPlaces (sym heard.rest)
      (record {
        vertices =
            record {
              many = knows.vertices.many ∙ sym many;
              place = λ k u stands. place_kept old.numbers.local new.numbers.local graph u.0 ∙ knows.vertices.place k u stands;
            };
        flags = ap (λ (t : TasksView). length t.admitted) heard.tasks ∙ knows.flags ∙ sym many;
      })
