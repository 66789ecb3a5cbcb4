-- A machine stays in order as it commits, and a part of the same settings.
use Rattle.std.proofs.Common.{◌≡◌, ℕ, suc, ◌+◌, ◌≤◌, ◌==◌, Bool, true, false, true≢false, if◌then◌else◌, Option, Some, None, List, [], ◌∷◌, length, refl, sym, ap, ◌∙◌, subst, arith, inl, inr, Vec, Global, length-append, length-set}
use Rattle.std.specs.Prelude.{is_some, slice_get}
use Rattle.std.specs.List.{list_any}
use Rattle.std.proofs.lemmas.Bool.{cases_eq, eq-eqb, ne_eqb}
use Rattle.gl_base.specs.declared.atoms.GhostLine.{GhostLine}
use Rattle.gl_base.specs.declared.numbers.MachineNo.{MachineNo}
use Rattle.gl_base.specs.declared.numbers.Vertex.{Vertex}
use Rattle.gl_base.specs.declared.scopes.Datum.{Datum}
use Rattle.update_api.specs.declared.links.Link.{Link}
use Rattle.local_graph.specs.declared.sides.Side.{Side}
use Rattle.local_graph.specs.declared.works.Outcome.{Outcome}
use Rattle.cluster_laws.proofs.cluster_core.Basics.{set_at-cases}
use Rattle.scope_locks.specs.ghost_cache.Caches.{CacheView}
use Rattle.partition.specs.machine_numbers.Views.{TasksView, ghost_datum}
use Rattle.partition.specs.machine_numbers.Steps.{renewed}
use Rattle.partition.specs.machine_numbers.Settings.{IsRowOf}
use Rattle.wire.specs.outboxes.Outboxes.{OutboxesView}
use Rattle.machine_core.specs.declared.machine_parts.cores.Core.{Core}
use Rattle.machine_core.specs.declared.machine_parts.cores.Terms.{Terms}
use Rattle.machine_core.specs.machine_parts.Parts.{LocalView, PipeView, is_own, links_at, sides_at, datum_here, entered_at}
use Rattle.machine_core.specs.machine_parts.Order.{IsOrderly, AreLocksInOrder, AreNumbersInOrder, HasComeRight, IsGraphInOrder, KnowsPlaces, nobody}
use Rattle.machine_core.specs.machine_parts.Settings.{Setting, IsPartOf, IsLocalOf}
use Rattle.machine_core.specs.declared.machine_updates.reserving.Prepared.{Prepared}
use Rattle.machine_core.specs.machine_updates.Works.{IsOut, HasItsRow}
use Rattle.machine_core.specs.machine_updates.Reserving.{IsReserved}
use Rattle.machine_core.specs.machine_updates.Committing.{done_told, entry_logged}
use Rattle.machine_core.proofs.machine_updates.ToldLemmas.{told_many}
use Rattle.machine_core.proofs.machine_updates.GraphLemmas.{HasSameEdges, SameGraph, place_kept, sides_kept, ghosts_kept, graph_kept, sides_here}
use Rattle.machine_core.proofs.machine_updates.LeaveLemmas.{IsWithout, none_or, come_kept, other_entered, was_entered, locks_left, flights_left}
use Rattle.machine_core.proofs.machine_updates.CommitLemmas.{HasDone, placed}

-- ---- data

renewed_mark : (d : Datum) (x : ℕ) → (renewed d x).mark ≡ d.mark
renewed_mark d x = by (x == d.value)
  where
    by : (b : Bool) → (if b then d else record { value = x; version = suc d.version; mark = d.mark }).mark ≡ d.mark
    by true = refl
    by false = refl

-- ---- the part of the graph

-- each row that is in is that of its vertex
abbrev pub HaveTheirRows : Setting → LocalView → Type 0
HaveTheirRows st l = (v : ℕ) (links : List Link) → is_own l v ≡ true → links_at l v ≡ Some links → IsRowOf st v (sides_at l v) links

local_with : (st : Setting) (l : LocalView) (kept : List Datum) (rows : List (Option (List Link))) (numbers : List ℕ) → ((x : ℕ) → is_own (record l { kept = kept; rows = rows; numbers = numbers }) x ≡ is_own l x)
    → length numbers ≡ length l.numbers → HaveTheirRows st (record l { kept = kept; rows = rows; numbers = numbers }) → IsLocalOf st l → IsLocalOf st (record l { kept = kept; rows = rows; numbers = numbers })
local_with st l kept rows numbers own many rows_are local =
    let new : LocalView = record l { kept = kept; rows = rows; numbers = numbers } in
    let was : (x : ℕ) → is_own new x ≡ true → is_own l x ≡ true = λ x is. sym (own x) ∙ is in
    record {
      machine = local.machine;
      owned = local.owned;
      own = λ x. own x ∙ local.own x;
      ghosts = local.ghosts;
      known = local.known;
      ids = λ x is. local.ids x (was x is);
      edges = many ∙ local.edges;
      rows = rows_are;
      sides = λ v is. local.sides v (was v is);
      owners = λ v is. local.owners v (was v is);
      places = λ v is. local.places v (was v is);
      parts = λ v is. local.parts v (was v is);
      part = local.part;
    }

pub local_kept : (st : Setting) (old new : LocalView) → SameGraph old new → length new.numbers ≡ length old.numbers → HaveTheirRows st new → IsLocalOf st old → IsLocalOf st new
local_kept st old new same many rows local =
    let own : (x : ℕ) → is_own (record old { kept = new.kept; rows = new.rows; numbers = new.numbers }) x ≡ is_own old x = λ x. sym (ap (λ (l : LocalView). is_own l x) same.rest) ∙ same.own x in
    subst (IsLocalOf st) (sym same.rest) (local_with st old new.kept new.rows new.numbers own many (subst (HaveTheirRows st) same.rest rows) local)

some_same : {X : Type 0} (x y : X) → Some x ≡ Some y → x ≡ y
some_same x y is = cc

-- where one row is put back that is its vertex's
pub rows_back : (st : Setting) (old new : LocalView) (v : ℕ) (row : List Link) → SameGraph old new → ((x : ℕ) → links_at new x ≡ (if x == v then Some row else links_at old x)) → IsRowOf st v (sides_at old v) row → IsLocalOf st old
    → HaveTheirRows st new
rows_back st old new v row same back is local =
    let sides = sides_kept old new same in
    λ u links own at.
    elim (cases_eq u v) [
      | inl here ↦
          let links_are : row ≡ links = some_same row links (sym (back u ∙ ap (λ (b : Bool). if b then Some row else links_at old u) (eq-eqb u v here)) ∙ at) in
          subst (λ (ls : List Link). IsRowOf st u (sides_at new u) ls) links_are
          (subst (λ (ss : List Side). IsRowOf st u ss row) (sym (sides u)) (subst (λ (x : ℕ). IsRowOf st x (sides_at old x) row) (sym here) is))
      | inr off ↦
          subst (λ (ss : List Side). IsRowOf st u ss links) (sym (sides u))
          (local.rows u links (sym (same.own u) ∙ own) (sym (back u ∙ ap (λ (b : Bool). if b then Some row else links_at old u) (ne_eqb u v off)) ∙ at))
    ]

-- ---- the machine

module _ (old new : Core) (o : Outcome) (ps : List Prepared) (ticket : ℕ) (order : IsOrderly old) (out : IsOut old o.work) (reserved : IsReserved old o.work.scope o.work.vertex ps) (done : HasDone old new o ps ticket) where
  own : is_own old.numbers.local o.work.vertex.0 ≡ true
  own = order.flights.own o.work.scope o.work.vertex out.flight

  without : IsWithout old.pipe new.pipe o.work.scope
  without =
      record {
        home = ap (λ (p : PipeView). p.home) done.pipe;
        serial = done.finished.serial;
        entered = ap (λ (p : PipeView). p.entered) done.pipe;
        flight = done.finished.flight;
        ready = done.finished.ready;
      }

  gone : entered_at old.pipe o.work.scope ≡ None
  gone =
      let home : o.work.scope.home.0 ≡ old.pipe.home.0 = ap (λ (a : MachineNo). a.0) (order.flights.given o.work.scope o.work.vertex out.flight).0 in
      none_or (entered_at old.pipe o.work.scope) (λ e come. true≢false (sym out.ready ∙ (order.entered o.work.scope e come).waits home))

  boxes : length new.out.machines ≡ length old.out.machines
  boxes = ap (λ (b : OutboxesView). length b.machines) done.out ∙ told_many (done_told old.numbers o) ps old.out

  long : length new.numbers.log.items ≡ length old.numbers.log.items + 1
  long = ap length done.updated.log ∙ length-append old.numbers.log.items (entry_logged o ticket ∷ [])

  numbers_kept : AreNumbersInOrder new.numbers old.terms.base
  numbers_kept =
      let n = order.numbers in
      let v = o.work.vertex.0 in
      let was : (u : ℕ) → is_own new.numbers.local u ≡ true → is_own old.numbers.local u ≡ true = λ u is. sym (done.graph.own u) ∙ is in
      let next = renewed (datum_here old.numbers v) o.value in
      let marked : Datum → Type 0 = λ d. old.terms.base ≤ d.mark in
      let at = placed old.numbers.local v own in
      let run = done.run at.0 at.1 in
      record {
        tasks = done.tasks;
        sides = λ u is. sides_here old.numbers.local new.numbers.local done.graph u (n.sides u (was u is));
        ghosts = λ x.
            ap (λ (g : CacheView). is_some (ghost_datum g x)) done.ghosts ∙ n.ghosts x
            ∙ ap (λ (gs : List GhostLine). list_any (λ g. g.vertex.0 == x) gs) (sym (ghosts_kept old.numbers.local new.numbers.local done.graph));
        marks = λ u is.
            subst marked (sym (done.updated.datum u))
            (set_at-cases marked (datum_here old.numbers) v next u (λ same. subst (λ (m : ℕ). old.terms.base ≤ m) (sym (renewed_mark (datum_here old.numbers v) o.value)) (n.marks v own)) (λ off. n.marks u (was u is)));
        outside =
            let before = n.outside in
            let more : new.numbers.tasks.outside ≡ old.numbers.tasks.outside + 1 = ap (λ (t : TasksView). t.outside) run.rest in
            let longer = long in
            omega arith;
      }

  pub ordered : IsOrderly new
  ordered =
      let s = o.work.scope in
      let v = o.work.vertex in
      let graph = done.graph in
      let at = placed old.numbers.local v.0 own in
      let run = done.run at.0 at.1 in
      record {
        graph = graph_kept old.numbers.local new.numbers.local graph (length new.out.machines) (subst (IsGraphInOrder old.numbers.local) (sym boxes) order.graph);
        numbers = subst (λ (t : Terms). AreNumbersInOrder new.numbers t.base) (sym done.terms) numbers_kept;
        entered = λ t e come.
            let was = was_entered old.pipe new.pipe s without t e come in
            let other = other_entered old.pipe new.pipe s without t e gone was in
            come_kept old.pipe new.pipe s without old.numbers.local new.numbers.local (length new.out.machines) t e graph other
            (subst (λ (n : ℕ). HasComeRight old.numbers.local old.pipe n false t e) (sym boxes) (order.entered t e was));
        locks = subst (λ (t : Terms). AreLocksInOrder t.locks new.numbers.local new.locks new.pipe nobody) (sym done.terms)
            (locks_left old.pipe new.pipe s without old.terms.locks old.numbers.local new.numbers.local old.locks new.locks graph gone done.owned done.holder done.queue order.locks);
        flights = flights_left old.numbers new.numbers old.pipe new.pipe s v at.0 o.work.row.links.items graph without out.flight order.numbers.tasks at.1 (ap (λ (t : TasksView). t.admitted) run.rest) done.back order.flights;
        width = ap (λ (p : PipeView). p.width) done.pipe ∙ order.width ∙ ap (λ (t : Terms). t.pipeline) (sym done.terms);
      }

  pub settled : HasSameEdges old new → (st : Setting) → IsPartOf st old → HasItsRow st old o.work → IsPartOf st new
  settled edges st part row =
      let at = placed old.numbers.local o.work.vertex.0 own in
      let run = done.run at.0 at.1 in
      record {
        local = local_kept st old.numbers.local new.numbers.local done.graph edges
            (rows_back st old.numbers.local new.numbers.local o.work.vertex.0 o.work.row.links.items done.graph done.back row part.local) part.local;
        machines = boxes ∙ part.machines;
        engine = part.engine;
        pipeline = ap (λ (t : Terms). t.pipeline) done.terms ∙ part.pipeline;
        base = ap (λ (t : Terms). t.base) done.terms ∙ part.base;
        window = ap (λ (t : TasksView). t.window) run.rest ∙ part.window;
      }

  pub places_known : length new.numbers.tasks.task ≡ length old.numbers.tasks.task → KnowsPlaces old → KnowsPlaces new
  places_known many knows =
      let graph = done.graph in
      let at = placed old.numbers.local o.work.vertex.0 own in
      let run = done.run at.0 at.1 in
      let flags : length new.numbers.tasks.admitted ≡ length old.numbers.tasks.admitted = ap (λ (t : TasksView). length t.admitted) run.rest ∙ length-set old.numbers.tasks.admitted at.0 false in
      record {
        vertices =
            record {
              many = ap (λ (vs : Vec Vertex Global). length vs.items) done.by_place ∙ knows.vertices.many ∙ sym many;
              place = λ k u stands.
                  place_kept old.numbers.local new.numbers.local graph u.0 ∙ knows.vertices.place k u (ap (λ (vs : Vec Vertex Global). slice_get vs.items k) (sym done.by_place) ∙ stands);
            };
        flags = flags ∙ knows.flags ∙ sym many;
      }
