-- A machine whose scope has made its snapshot update: its order, its settings and its part.
use Rattle.std.proofs.Common.{◌≡◌, ℕ, ◌+◌, ◌≤◌, ◌==◌, ◌&&◌, ◌||◌, ◌++◌, Bool, true, false, true≢false, not, pred, if◌then◌else◌, Option, Some, None, List, [], ◌∷◌, length, refl, sym, ap, ◌∙◌, subst, arith, inl, inr, add-one, length-set}
use Rattle.std.specs.Prelude.{is_some, slice_get}
use Rattle.std.specs.List.{list_any}
use Rattle.std.proofs.lemmas.Bool.{cases_eq, eq-eqb, ne_eqb}
use Rattle.gl_base.specs.declared.atoms.GhostLine.{GhostLine}
use Rattle.gl_base.specs.declared.numbers.MachineNo.{MachineNo}
use Rattle.gl_base.specs.declared.numbers.Vertex.{Vertex}
use Rattle.gl_base.specs.declared.scopes.Datum.{Datum}
use Rattle.gl_base.specs.declared.scopes.ScopeId.{ScopeId}
use Rattle.scope_locks.specs.ghost_cache.Caches.{CacheView}
use Rattle.gl_base.specs.scope_lists.Scopes.{is_scope, set_for}
use Rattle.scope_locks.specs.scope_pipe.Pipes.{HasFinished, flight_count}
use Rattle.update_api.specs.declared.links.Link.{Link}
use Rattle.local_graph.specs.declared.sides.Side.{Side}
use Rattle.cluster_laws.specs.cluster_core.Effects.{mark_news, tell}
use Rattle.cluster_laws.specs.cluster_core.Messages.{Message}
use Rattle.cluster_laws.specs.cluster_core.Messages as law
use Rattle.cluster_laws.specs.cluster_core.Scopes.{takes_part}
use Rattle.cluster_laws.specs.cluster_core.Settings.{IsSetting}
use Rattle.cluster_laws.proofs.cluster_core.Basics.{set_at-cases}
use Rattle.wire.specs.wire_msgs.Views as told
use Rattle.wire.specs.outboxes.Outboxes.{OutboxesView}
use Rattle.partition.specs.declared.machine_numbers.keeping.Numbers.{Numbers}
use Rattle.partition.specs.machine_numbers.Views.{TasksView, flag_there, ghost_datum, edge_number_at}
use Rattle.partition.specs.machine_numbers.Settings.{IsRowOf}
use Rattle.machine_core.specs.declared.machine_parts.cores.Core.{Core}
use Rattle.machine_core.specs.declared.machine_parts.cores.Terms.{Terms}
use Rattle.machine_core.specs.machine_parts.Parts.{LocalView, PipeView, flight_at, place_at, is_owned, holder_at, queue_at, links_at, entered_at, task_here, messages_for, message_of, number_of as number_in, stand_at}
use Rattle.machine_core.specs.machine_parts.Order.{AreLocksInOrder, AreNumbersInOrder, HasComeRight, IsGraphInOrder, IsOrderly, KnowsPlaces, StandByPlace, nobody}
use Rattle.machine_core.specs.machine_parts.Settings.{IsPartOf, SameSettings, Setting}
use Rattle.machine_core.specs.declared.machine_updates.reserving.Prepared.{Prepared}
use Rattle.machine_core.specs.machine_updates.Reserving.{is_to_be_told}
use Rattle.machine_core.proofs.machine_updates.CommitLemmas.{placed}
use Rattle.machine_core.proofs.machine_updates.GraphLemmas.{SameGraph, place_kept, sides_kept, ghosts_kept, graph_kept, sides_here}
use Rattle.machine_core.proofs.machine_updates.LeaveLemmas.{IsWithout, none_or, come_kept, other_entered, was_entered, locks_left, flights_left}
use Rattle.machine_core.proofs.machine_updates.OrderLemmas.{local_kept}
use Rattle.machine_core.proofs.machine_updates.ToldLemmas.{parts_are, told_at, told_many}
use Rattle.coordinator.specs.snap_update.Holding.{IsSnapPartOf, Machine, makes_mark}
use Rattle.coordinator.proofs.snap_update.Saving.{marks_follow}
use Rattle.snapshot_machines.specs.marking.Keeping.{Part, SnapView, part_of, with_snaps}
use Rattle.snapshot_machines.specs.marking.Seeding.{AreMarkedBelow}
use Rattle.snapshot_machines.specs.marking.Sending.{AreMarksUpTo}
use Rattle.snapshot_machines.specs.marking.Inner.Marks.{CanBeMarked, HasMarkedNumber, IsReserved, after_told, datum_here, edges_left, is_own, mark_told, marked_alone, pending_here, sides_at, with_edges, with_mark, with_vertex}
use Rattle.snapshot_machines.proofs.marking.MarkLemmas.{edges_to_save, news_is, pends_are}

-- what became of the parts of a machine
pub record HasDoneMark (old new : Core) (s : ScopeId) (v : Vertex) (ps : List Prepared) (k : ℕ) : Type 0 where
  pub terms : new.terms ≡ old.terms
  pub by_place : new.by_place ≡ old.by_place
  pub numbers : HasMarkedNumber old.numbers new.numbers v k
  pub owned : (x : ℕ) → is_owned new.locks x ≡ is_owned old.locks x
  pub holder : (x : ℕ) (t : ScopeId) → holder_at new.locks x t ≡ set_for (holder_at old.locks x) s None t
  pub queue : (x : ℕ) → queue_at new.locks x ≡ queue_at old.locks x
  pub finished : HasFinished old.pipe new.pipe s
  pub pipe : new.pipe ≡ record old.pipe { waiting = new.pipe.waiting; ready = new.pipe.ready }
  pub out : new.out ≡ after_told (mark_told old.numbers k s v) ps old.out

-- ---- what is saved

-- a machine of the cluster that keeps this
abbrev machine_with : SnapView → Part → Machine
machine_with w part =
    record {
      part = with_snaps w part;
      sent = 0;
      received = 0;
      held = None;
      planned = λ s. false;
      plans = 0;
      before = w.before;
      behind = w.behind;
      unsure = w.unsure;
      acknowledged = w.acknowledged;
      wanted = w.wanted;
      done = 0;
      failed = false;
      out = [];
    }

keeps_it : (w : SnapView) (part : Part) → IsSnapPartOf w (machine_with w part)
keeps_it w part =
    record {
      known = refl;
      sent = refl;
      acknowledged = refl;
      wanted = refl;
      saved = record { vertices = λ v. refl; edges = λ e. refl };
      before = refl;
      behind = refl;
      unsure = refl;
    }

-- ---- small things

pred_is : (a b : ℕ) → a + 1 ≡ b → a ≡ pred b
pred_is a b is = ap pred (sym (add-one a) ∙ is)

set_number : (f : ScopeId → Option Vertex) (s t : ScopeId) → number_in (set_for f s None t) ≡ set_for (λ r. number_in (f r)) s None t
set_number f s t = by (is_scope t s)
  where
    by : (b : Bool) → number_in (if b then None else f t) ≡ (if b then None else number_in (f t))
    by true = refl
    by false = refl

-- ---- the machine

module _ (old new : Core) (s : ScopeId) (v : Vertex) (ps : List Prepared) (k : ℕ) (links : List Link) (order : IsOrderly old) (can : CanBeMarked old s v) (row : links_at old.numbers.local v.0 ≡ Some links) (reserved : IsReserved old s v ps)
    (done : HasDoneMark old new s v ps k) where
  own : is_own old.numbers.local v.0 ≡ true
  own = order.flights.own s v can.flight

  local : new.numbers.local ≡ record old.numbers.local { kept = new.numbers.local.kept }
  local = done.numbers.local

  graph : SameGraph old.numbers.local new.numbers.local
  graph =
      record {
        own = done.numbers.own;
        rest = local ∙ (λ i. record old.numbers.local { kept = new.numbers.local.kept; rows = sym (ap (λ (l : LocalView). l.rows) local) i; numbers = sym (ap (λ (l : LocalView). l.numbers) local) i });
      }

  pub links_same : (x : ℕ) → links_at new.numbers.local x ≡ links_at old.numbers.local x
  links_same x = ap (λ (l : LocalView). links_at l x) local

  back : (x : ℕ) → links_at new.numbers.local x ≡ (if x == v.0 then Some links else links_at old.numbers.local x)
  back x = elim (cases_eq x v.0) [
    | inl here ↦
        links_same x ∙ ap (links_at old.numbers.local) here ∙ row
        ∙ sym (ap (λ (b : Bool). if b then Some links else links_at old.numbers.local x) (eq-eqb x v.0 here))
    | inr off ↦ links_same x ∙ sym (ap (λ (b : Bool). if b then Some links else links_at old.numbers.local x) (ne_eqb x v.0 off))
  ]

  without : IsWithout old.pipe new.pipe s
  without =
      record {
        home = ap (λ (p : PipeView). p.home) done.pipe;
        serial = done.finished.serial;
        entered = ap (λ (p : PipeView). p.entered) done.pipe;
        flight = done.finished.flight;
        ready = done.finished.ready;
      }

  gone : entered_at old.pipe s ≡ None
  gone =
      let home : s.home.0 ≡ old.pipe.home.0 = ap (λ (a : MachineNo). a.0) (order.flights.given s v can.flight).0 in
      none_or (entered_at old.pipe s) (λ e come. true≢false (sym can.ready ∙ (order.entered s e come).waits home))

  boxes : length new.out.machines ≡ length old.out.machines
  boxes = ap (λ (b : OutboxesView). length b.machines) done.out ∙ told_many (mark_told old.numbers k s v) ps old.out

  log : new.numbers.log.items ≡ old.numbers.log.items
  log = ap (λ (n : Numbers). n.log.items) done.numbers.rest

  pub outside_same : new.numbers.tasks.outside ≡ old.numbers.tasks.outside
  outside_same = ap (λ (t : TasksView). t.outside) done.numbers.flags

  pub below_same : (place : ℕ) → AreMarkedBelow old.numbers k place → AreMarkedBelow new.numbers k place
  below_same place below i u low at is_here =
      let before = below i u low (ap (λ (l : LocalView). slice_get l.owned i) (sym local) ∙ at) (sym (done.numbers.own u.0) ∙ is_here) in
      let marked : Datum → Type 0 = λ d. k ≤ d.mark in
      subst marked (sym (done.numbers.datum u.0)) (set_at-cases marked (datum_here old.numbers) v.0 (with_mark k (datum_here old.numbers v.0)) u.0 (λ same. omega arith) (λ off. before))

  pub most_same : AreMarksUpTo old.numbers k → AreMarksUpTo new.numbers k
  most_same most u is_here =
      let marked : Datum → Type 0 = λ d. d.mark ≤ k in
      subst marked (sym (done.numbers.datum u)) (set_at-cases marked (datum_here old.numbers) v.0 (with_mark k (datum_here old.numbers v.0)) u (λ same. omega arith) (λ off. most u (sym (done.numbers.own u) ∙ is_here)))

  module _ (known : old.terms.base ≤ k) where
    numbers_now : AreNumbersInOrder new.numbers old.terms.base
    numbers_now =
        let n = order.numbers in
        let was : (u : ℕ) → is_own new.numbers.local u ≡ true → is_own old.numbers.local u ≡ true = λ u is. sym (done.numbers.own u) ∙ is in
        let marked : Datum → Type 0 = λ d. old.terms.base ≤ d.mark in
        let ghosts : new.numbers.ghosts ≡ old.numbers.ghosts = ap (λ (m : Numbers). m.ghosts) done.numbers.rest in
        record {
          tasks = done.numbers.tasks;
          sides = λ u is. sides_here old.numbers.local new.numbers.local graph u (n.sides u (was u is));
          ghosts = λ x.
              ap (λ (g : CacheView). is_some (ghost_datum g x)) ghosts ∙ n.ghosts x
              ∙ ap (λ (gs : List GhostLine). list_any (λ g. g.vertex.0 == x) gs) (sym (ghosts_kept old.numbers.local new.numbers.local graph));
          marks = λ u is.
              subst marked (sym (done.numbers.datum u))
              (set_at-cases marked (datum_here old.numbers) v.0 (with_mark k (datum_here old.numbers v.0)) u (λ same. known) (λ off. n.marks u (was u is)));
          outside =
              let before = n.outside in
              let same = outside_same in
              let long = ap length log in
              omega arith;
        }

    pub marked_orderly : IsOrderly new
    marked_orderly =
        let at = placed old.numbers.local v.0 own in
        record {
          graph = graph_kept old.numbers.local new.numbers.local graph (length new.out.machines) (subst (IsGraphInOrder old.numbers.local) (sym boxes) order.graph);
          numbers = subst (λ (t : Terms). AreNumbersInOrder new.numbers t.base) (sym done.terms) numbers_now;
          entered = λ t e come.
              let was = was_entered old.pipe new.pipe s without t e come in
              let other = other_entered old.pipe new.pipe s without t e gone was in
              come_kept old.pipe new.pipe s without old.numbers.local new.numbers.local (length new.out.machines) t e graph other
              (subst (λ (n : ℕ). HasComeRight old.numbers.local old.pipe n false t e) (sym boxes) (order.entered t e was));
          locks = subst (λ (t : Terms). AreLocksInOrder t.locks new.numbers.local new.locks new.pipe nobody) (sym done.terms)
              (locks_left old.pipe new.pipe s without old.terms.locks old.numbers.local new.numbers.local old.locks new.locks graph gone done.owned done.holder done.queue order.locks);
          flights = flights_left old.numbers new.numbers old.pipe new.pipe s v at.0 links graph without can.flight order.numbers.tasks at.1 (done.numbers.admitted at.0 at.1) back order.flights;
          width = ap (λ (p : PipeView). p.width) done.pipe ∙ order.width ∙ ap (λ (t : Terms). t.pipeline) (sym done.terms);
        }

  pub marked_settings : SameSettings old new
  marked_settings st is =
      record {
        local = local_kept st old.numbers.local new.numbers.local graph (ap (λ (l : LocalView). length l.numbers) local)
            (λ u row_links is_here at.
            subst (λ (ss : List Side). IsRowOf st u ss row_links) (sym (sides_kept old.numbers.local new.numbers.local graph u))
            (is.local.rows u row_links (sym (done.numbers.own u) ∙ is_here) (sym (links_same u) ∙ at)))
            is.local;
        machines = boxes ∙ is.machines;
        engine = is.engine;
        pipeline = ap (λ (t : Terms). t.pipeline) done.terms ∙ is.pipeline;
        base = ap (λ (t : Terms). t.base) done.terms ∙ is.base;
        window = ap (λ (t : TasksView). t.window) done.numbers.flags ∙ is.window;
      }

  pub marked_places : KnowsPlaces old → KnowsPlaces new
  marked_places knows =
      let at = placed old.numbers.local v.0 own in
      let many : length new.numbers.tasks.task ≡ length old.numbers.tasks.task = ap (λ (t : TasksView). length t.task) done.numbers.flags in
      let flags : length new.numbers.tasks.admitted ≡ length old.numbers.tasks.admitted = ap length (done.numbers.admitted at.0 at.1) ∙ length-set old.numbers.tasks.admitted at.0 false in
      record {
        vertices = subst (λ (vs : List Vertex). StandByPlace new.numbers.local (length new.numbers.tasks.task) vs) (sym (ap (λ xs. xs.items) done.by_place))
            (record {
              many = knows.vertices.many ∙ sym many;
              place = λ j u stands. place_kept old.numbers.local new.numbers.local graph u.0 ∙ knows.vertices.place j u stands;
            });
        flags = flags ∙ knows.flags ∙ sym many;
      }

-- ---- the part

module _ (old new : Core) (w now : SnapView) (s : ScopeId) (v : Vertex) (ps : List Prepared) (links : List Link) (order : IsOrderly old) (can : CanBeMarked old s v) (row : links_at old.numbers.local v.0 ≡ Some links) (reserved : IsReserved old s v ps)
    (done : HasDoneMark old new s v ps w.known) (saved : now ≡ with_edges (edges_left old.numbers w.known (sides_at old.numbers.local v.0)) (with_vertex v (datum_here old.numbers v.0).value w)) where
  abbrev part : Part
  part = with_snaps w (part_of old)

  mine : is_own old.numbers.local v.0 ≡ true
  mine = order.flights.own s v can.flight

  out_is : (st : Setting) (q : ℕ) → IsSetting st → IsPartOf st old → messages_for new.out q ≡ tell st old.numbers.local.me.0 v.0 s (mark_news st part v.0) (messages_for old.out) q
  out_is st q setting is =
      let me = old.numbers.local.me.0 in
      let waited = messages_for old.out q in
      let word = law.Done s (mark_news st part v.0 q) in
      let said = message_of (told.Done (mark_told old.numbers w.known s v (record { 0 = q }))) in
      let same : said ≡ word = ap (law.Done s) (news_is st old w v links setting is mine row s q) in
      let who : is_to_be_told ps q ≡ (takes_part st v.0 q && not (q == me)) = reserved.told q ∙ ap (λ (b : Bool). b && not (q == me)) (parts_are st old.numbers.local v.0 q setting is.local mine) in
      ap (λ (box : OutboxesView). messages_for box q) done.out
      ∙ told_at (mark_told old.numbers w.known s v) ps old.out q reserved.can.machines reserved.can.apart
      ∙ ap (λ (m : Message). if is_to_be_told ps q then waited ++ m ∷ [] else waited) same
      ∙ ap (λ (b : Bool). if b then waited ++ word ∷ [] else waited) who

  keeps : (st : Setting) → IsSetting st → IsPartOf st old → IsSnapPartOf now (makes_mark st old.numbers.local.me.0 s v.0 (machine_with w (part_of old)))
  keeps st setting is =
      subst (λ (x : SnapView). IsSnapPartOf x (makes_mark st old.numbers.local.me.0 s v.0 (machine_with w (part_of old)))) (sym saved)
      (marks_follow st old.numbers.local.me.0 s v (edges_left old.numbers w.known (sides_at old.numbers.local v.0)) w (machine_with w (part_of old)) (keeps_it w (part_of old))
      (edges_to_save st old w v links setting is mine row))

  place_same : (u : ℕ) → place_at new.numbers.local u ≡ place_at old.numbers.local u
  place_same u = ap (λ (l : LocalView). place_at l u) done.numbers.local

  task_same : (u : ℕ) → task_here new.numbers u ≡ task_here old.numbers u
  task_same u = ap (flag_there new.numbers.tasks.task) (place_same u) ∙ ap (λ (t : TasksView). flag_there t.task (place_at old.numbers.local u)) done.numbers.flags

  pub marked_part : (st : Setting) → IsSetting st → IsPartOf st old → with_snaps now (part_of new) ≡ marked_alone st old.numbers.local.me.0 s v.0 part
  marked_part st setting is =
      let kept = keeps st setting is in
      λ i.
      record (with_snaps now (part_of new)) {
        datum = λ u. done.numbers.datum u i;
        edge = λ e. ap (λ (l : LocalView). edge_number_at l e) done.numbers.local i;
        task = λ u. task_same u i;
        log = ap (λ (n : Numbers). n.log.items) done.numbers.rest i;
        serial = done.finished.serial i;
        flying = pred_is (flight_count new.pipe) (flight_count old.pipe) done.finished.count i;
        flight = λ t. (ap number_in (done.finished.flight t) ∙ set_number (flight_at old.pipe) s t) i;
        stand = λ t. ap (λ (p : PipeView). stand_at (entered_at p t)) done.pipe i;
        ready = λ t. done.finished.ready t i;
        holder = λ x t. done.holder x t i;
        queue = λ x. done.queue x i;
        pending = λ u.
            (done.numbers.pending u ∙ ap (λ (b : Bool). b || (pending_here old.numbers u && not (u == v.0))) (pends_are st old w v links setting is mine row old.numbers.local.me.0 u)) i;
        known = sym kept.known i;
        saved = record { vertices = λ u. sym (kept.saved.vertices u) i; edges = λ e. sym (kept.saved.edges e) i };
        sent = sym kept.sent i;
        out = λ q. out_is st q setting is i;
      }
