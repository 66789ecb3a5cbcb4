-- A machine whose vertex was updated at once: its part, its order, and its settings.
use Rattle.std.proofs.Common.{◌≡◌, ℕ, suc, ◌+◌, ◌≤◌, ◌==◌, nat_lt, Bool, true, false, if◌then◌else◌, Option, List, [], ◌∷◌, length, refl, sym, ap, ◌∙◌, subst, arith, add-one, length-append}
use Rattle.std.specs.Prelude.{is_some}
use Rattle.std.specs.List.{list_any}
use Rattle.gl_base.specs.declared.atoms.GhostLine.{GhostLine}
use Rattle.gl_base.specs.declared.entries.Entry.{Entry}
use Rattle.gl_base.specs.declared.entries.Entry.TheVariants.{Go}
use Rattle.gl_base.specs.declared.numbers.Vertex.{Vertex}
use Rattle.gl_base.specs.declared.scopes.Datum.{Datum}
use Rattle.scope_locks.specs.ghost_cache.Caches.{CacheView}
use Rattle.update_api.specs.Updates.{Update}
use Rattle.update_api.specs.declared.links.Link.{Link}
use Rattle.local_graph.specs.declared.sides.Side.{Side}
use Rattle.cluster_laws.specs.cluster_core.Effects.{next_scope, updated}
use Rattle.cluster_laws.proofs.cluster_core.Basics.{set_at-cases}
use Rattle.partition.specs.declared.machine_numbers.keeping.Numbers.{Numbers}
use Rattle.partition.specs.machine_numbers.Steps.{renewed}
use Rattle.partition.specs.machine_numbers.Settings.{IsRowOf, with_numbers}
use Rattle.partition.specs.machine_numbers.Views.{TasksView, flag_there, ghost_datum}
use Rattle.partition.proofs.machine_numbers.JoinLemmas.{updated_is}
use Rattle.machine_core.specs.declared.machine_parts.cores.Core.{Core}
use Rattle.machine_core.specs.machine_parts.Parts.{LocalView, PipeView, place_at, is_own, links_at, sides_at, part_at, datum_here, pending_here, admitted_here, part_of}
use Rattle.machine_core.specs.machine_parts.Order.{IsOrderly, AreNumbersInOrder, AreFlightsInOrder, AreLocksInOrder, KnowsPlaces, nobody, is_one_of}
use Rattle.machine_core.specs.machine_parts.Settings.{Setting, IsPartOf, SameSettings}
use Rattle.machine_core.proofs.machine_updates.GraphLemmas.{SameGraph, place_kept, sides_kept, part_kept, me_kept, ghosts_kept, graph_kept, sides_here}
use Rattle.machine_core.proofs.machine_updates.OrderLemmas.{local_kept}
use Rattle.machine_core.specs.declared.machine_at_once.finding.Found.{Found}
use Rattle.machine_core.specs.machine_at_once.Picks.{HasEachRow, HasUpdatedPick, IsRowIn, at_once, entry_at_once}
use Rattle.machine_core.specs.machine_at_once.Inner.Finding.{IsFoundPick}
use Rattle.machine_core.proofs.machine_at_once.Scopes.{may_here}
use Rattle.machine_core.specs.machine_at_once.Inner.Making.{CanBeMade, HasMadeHere, HasSameNumbers, KeepsGraph}

pub same_graph : (old new : LocalView) → KeepsGraph old new → SameGraph old new
same_graph old new keeps = record { own = keeps.own; rest = keeps.rest }

-- ---- rows

pub rows_kept : (old new : LocalView) → KeepsGraph old new → HasEachRow old → HasEachRow new
rows_kept old new keeps rows v own =
    let sides = sides_kept old new (same_graph old new keeps) v in
    subst (λ (ss : List Side). IsRowIn (links_at new v) (length ss)) (sym sides)
    (subst (λ (o : Option (List Link)). IsRowIn o (length (sides_at old v))) (sym (keeps.links v)) (rows v (sym (keeps.own v) ∙ own)))

-- ---- data

renewed_mark : (d : Datum) (x : ℕ) → (renewed d x).mark ≡ d.mark
renewed_mark d x = by (x == d.value)
  where
    by : (b : Bool) → (if b then d else record { value = x; version = suc d.version; mark = d.mark }).mark ≡ d.mark
    by true = refl
    by false = refl

-- its mark stays
pub made_marks : (p : Update) (old new : Numbers) (v : Vertex) (entry : Entry) → HasMadeHere p old new v entry → (u : ℕ) → (datum_here new u).mark ≡ (datum_here old u).mark
made_marks p old new v entry made u =
    let c = made.made.vertex.0 in
    let d = datum_here old c in
    ap (λ (x : Datum). x.mark) (made.updated.datum u)
    ∙ set_at-cases (λ (x : Datum). x.mark ≡ (datum_here old u).mark) (datum_here old) c (renewed d made.made.value) u
    (λ same. renewed_mark d made.made.value ∙ ap (λ (j : ℕ). (datum_here old j).mark) (sym same)) (λ off. refl)

pub back_marks : (old new : Numbers) → HasSameNumbers old new → (u : ℕ) → (datum_here new u).mark ≡ (datum_here old u).mark
back_marks old new same u = ap (λ (k : Numbers). (datum_here k u).mark) same.rest

-- what a machine in order says of a vertex of its own
pub can_be_made : (m : Core) (v : Vertex) → IsOrderly m → is_own m.numbers.local v.0 ≡ true → CanBeMade m.numbers v
can_be_made m v is own = record { sides = is.numbers.sides v.0 own; tasks = is.numbers.tasks; outside = is.numbers.outside }

-- ---- numbers in order

made_numbers : (p : Update) (old new : Numbers) (v : Vertex) (entry : Entry) (base : ℕ) → is_own old.local v.0 ≡ true → HasMadeHere p old new v entry → AreNumbersInOrder old base → AreNumbersInOrder new base
made_numbers p old new v entry base own_v made n =
    let o = made.made in
    let c = o.vertex.0 in
    let graph = same_graph old.local new.local made.graph in
    let mine : is_own old.local c ≡ true = ap (λ (u : Vertex). is_own old.local u.0) made.vertex ∙ own_v in
    let was : (u : ℕ) → is_own new.local u ≡ true → is_own old.local u ≡ true = λ u is. sym (made.graph.own u) ∙ is in
    let next = renewed (datum_here old c) o.value in
    let long : length new.log.items ≡ length old.log.items + 1 = ap length made.updated.log ∙ length-append old.log.items (entry ∷ []) in
    let marked : Datum → Type 0 = λ d. base ≤ d.mark in
    record {
      tasks = made.run.tasks;
      sides = λ u is. sides_here old.local new.local graph u (n.sides u (was u is));
      ghosts = λ x.
          ap (λ (g : CacheView). is_some (ghost_datum g x)) made.ghosts ∙ n.ghosts x
          ∙ ap (λ (gs : List GhostLine). list_any (λ g. g.vertex.0 == x) gs) (sym (ghosts_kept old.local new.local graph));
      marks = λ u is.
          subst marked (sym (made.updated.datum u))
          (set_at-cases marked (datum_here old) c next u (λ same. subst (λ (k : ℕ). base ≤ k) (sym (renewed_mark (datum_here old c) o.value)) (n.marks c mine)) (λ off. n.marks u (was u is)));
      outside =
          let before = n.outside in
          let more : new.tasks.outside ≡ old.tasks.outside + 1 = ap (λ (t : TasksView). t.outside) made.run.once.rest in
          let longer = long in
          omega arith;
    }

back_numbers : (old new : Numbers) (base : ℕ) → HasSameNumbers old new → AreNumbersInOrder old base → AreNumbersInOrder new base
back_numbers old new base same n =
    let graph = same_graph old.local new.local same.graph in
    let was : (u : ℕ) → is_own new.local u ≡ true → is_own old.local u ≡ true = λ u is. sym (same.graph.own u) ∙ is in
    let datum : (u : ℕ) → datum_here new u ≡ datum_here old u = λ u. ap (λ (k : Numbers). datum_here k u) same.rest in
    let tasks : new.tasks ≡ old.tasks = ap (λ (k : Numbers). k.tasks) same.rest in
    record {
      tasks = record {
        apart = λ x y k at there. n.tasks.apart x y k (sym (place_kept old.local new.local graph x) ∙ at) (sym (place_kept old.local new.local graph y) ∙ there);
        own = λ x k at. same.graph.own x ∙ n.tasks.own x k (sym (place_kept old.local new.local graph x) ∙ at) ∙ ap (λ (t : TasksView). nat_lt k (length t.task)) (sym tasks);
      };
      sides = λ u is. sides_here old.local new.local graph u (n.sides u (was u is));
      ghosts = λ x. ap (λ (k : Numbers). is_some (ghost_datum k.ghosts x)) same.rest ∙ n.ghosts x ∙ ap (λ (gs : List GhostLine). list_any (λ g. g.vertex.0 == x) gs) (sym (ghosts_kept old.local new.local graph));
      marks = λ u is. subst (λ (d : Datum). base ≤ d.mark) (sym (datum u)) (n.marks u (was u is));
      outside = let before = n.outside in let kept = ap (λ (t : TasksView). t.outside) tasks in let long = ap length same.log in omega arith;
    }

-- ---- the machine, where its numbers and its serial alone have changed

module _ (m : Core) (new : Numbers) (k : ℕ) (later : m.pipe.serial ≤ k) (keeps : KeepsGraph m.numbers.local new.local) (flags : new.tasks.admitted ≡ m.numbers.tasks.admitted) (numbers : AreNumbersInOrder new m.terms.base) where
  abbrev now : Core
  now = record m { numbers = new; pipe = record m.pipe { serial = k } }

  graph : SameGraph m.numbers.local new.local
  graph = same_graph m.numbers.local new.local keeps

  part : (v x : ℕ) → is_one_of (part_at new.local v) x ≡ is_one_of (part_at m.numbers.local v) x
  part v x = ap (λ (p : List Vertex). is_one_of p x) (part_kept m.numbers.local new.local graph v)

  flag : (u : ℕ) → admitted_here new u ≡ admitted_here m.numbers u
  flag u = ap (λ (o : Option ℕ). flag_there new.tasks.admitted o) (place_kept m.numbers.local new.local graph u) ∙ ap (λ (fs : List Bool). flag_there fs (place_at m.numbers.local u)) flags

  locks : AreLocksInOrder m.terms.locks m.numbers.local m.locks m.pipe nobody → AreLocksInOrder m.terms.locks new.local m.locks now.pipe nobody
  locks are =
      record {
        owned = λ x. are.owned x ∙ sym (keeps.own x);
        queues = λ x j d low. let c = are.queues x j d low in record { come = c.come; still = c.still; asked = c.asked };
        holds = are.holds;
        only = λ s c x flies holds. part c.0 x ∙ are.only s c x flies holds;
        ready = λ takes s c x flies is_ready mine. are.ready takes s c x flies is_ready (sym (part c.0 x) ∙ mine);
        admitted = λ s x home holds. let low = are.admitted s x home holds in omega (arith, later);
      }

  flights : AreFlightsInOrder m.numbers m.pipe → AreFlightsInOrder new now.pipe
  flights are =
      record {
        home = are.home ∙ sym (me_kept m.numbers.local new.local graph);
        given = λ s c flies. let given = are.given s c flies in let low = given.1 in (given.0, omega (arith, later));
        own = λ s c flies. keeps.own c.0 ∙ are.own s c flies;
        single = are.single;
        admitted = λ s c flies. flag c.0 ∙ are.admitted s c flies;
        flies = λ u mine admitted. let there = are.flies u (sym (keeps.own u.0) ∙ mine) (sym (flag u.0) ∙ admitted) in record { scope = there.scope; centre = there.centre };
        rows = λ u mine is_out. let there = are.rows u (sym (keeps.own u.0) ∙ mine) (sym (ap is_some (keeps.links u.0)) ∙ is_out) in record { scope = there.scope; centre = there.centre; ready = there.ready };
      }

  ordered : IsOrderly m → IsOrderly now
  ordered is =
      record {
        graph = graph_kept m.numbers.local new.local graph (length m.out.machines) is.graph;
        numbers = numbers;
        entered = λ s e comes.
            let come = is.entered s e comes in
            record {
              part = come.part ∙ sym (part_kept m.numbers.local new.local graph e.centre.0);
              place = come.place;
              rest = come.rest;
              home = come.home;
              stands = come.stands;
              flight = come.flight;
              waits = come.waits;
            };
        locks = locks is.locks;
        flights = flights is.flights;
        width = is.width;
      }

  settled : new.tasks.window ≡ m.numbers.tasks.window → SameSettings m now
  settled window st is =
      record {
        local = local_kept st m.numbers.local new.local graph keeps.many
            (λ v links own at.
            subst (λ (ss : List Side). IsRowOf st v ss links) (sym (sides_kept m.numbers.local new.local graph v))
            (is.local.rows v links (sym (keeps.own v) ∙ own) (sym (keeps.links v) ∙ at)))
            is.local;
        machines = is.machines;
        engine = is.engine;
        pipeline = is.pipeline;
        base = is.base;
        window = window ∙ is.window;
      }

  places : length new.tasks.task ≡ length m.numbers.tasks.task → KnowsPlaces m → KnowsPlaces now
  places many knows =
      record {
        vertices = record {
          many = knows.vertices.many ∙ sym many;
          place = λ j u stands. place_kept m.numbers.local new.local graph u.0 ∙ knows.vertices.place j u stands;
        };
        flags = ap length flags ∙ knows.flags ∙ sym many;
      }

-- ---- the update is made

module _ (p : Update) (m : Core) (new : Numbers) (v : Vertex) (ticket : ℕ) (own : is_own m.numbers.local v.0 ≡ true) (made : HasMadeHere p m.numbers new v (Go m.numbers.local.me v ticket)) where
  abbrev entry : Entry
  entry = Go m.numbers.local.me v ticket

  abbrev after : Core
  after = record m { numbers = new; pipe = record m.pipe { serial = m.pipe.serial + 1 } }

  admitted : new.tasks.admitted ≡ m.numbers.tasks.admitted
  admitted = ap (λ (t : TasksView). t.admitted) made.run.once.rest

  later : m.pipe.serial ≤ m.pipe.serial + 1
  later = omega arith

  pub made_orderly : IsOrderly m → IsOrderly after
  made_orderly is = ordered m new (m.pipe.serial + 1) later made.graph admitted (made_numbers p m.numbers new v entry m.terms.base own made is.numbers) is

  pub made_settled : IsOrderly m → SameSettings m after
  made_settled is = settled m new (m.pipe.serial + 1) later made.graph admitted (made_numbers p m.numbers new v entry m.terms.base own made is.numbers) (ap (λ (t : TasksView). t.window) made.run.once.rest)

  pub made_places : IsOrderly m → KnowsPlaces m → KnowsPlaces after
  made_places is = places m new (m.pipe.serial + 1) later made.graph admitted (made_numbers p m.numbers new v entry m.terms.base own made is.numbers) made.run.many

  pending : (u : ℕ) → pending_here new u ≡ pending_here m.numbers u
  pending u =
      ap (λ (o : Option ℕ). flag_there new.tasks.pending o) (place_kept m.numbers.local new.local (same_graph m.numbers.local new.local made.graph) u)
      ∙ ap (λ (t : TasksView). flag_there t.pending (place_at m.numbers.local u)) made.run.once.rest

  pub made_part : (st : Setting) → IsPartOf st m → st.program ≡ p → part_of after ≡ at_once st m.numbers.local.me.0 v.0 (entry_at_once m.numbers.local.me.0 v.0 ticket) (part_of m)
  made_part st is program =
      let a = m.numbers.local.me.0 in
      let o = made.made in
      let s = next_scope a (part_of m) in
      let law : with_numbers new (updated st a s o.vertex.0 entry (part_of m)) ≡ updated st a s o.vertex.0 entry (part_of m) =
      updated_is st s o entry m.numbers new (part_of m) (made.is st is.local program) made.updated in
      let here : part_of after ≡ at_once st a o.vertex.0 entry (part_of m) = λ i.
      record (part_of m) {
        datum = (law i).datum;
        edge = (law i).edge;
        task = (law i).task;
        log = (law i).log;
        serial = add-one m.pipe.serial i;
        pending = λ u. pending u i;
      } in
      here ∙ ap (λ (u : Vertex). at_once st a u.0 entry (part_of m)) made.vertex

-- the same with the pipe as it is told
module _ (p : Update) (m : Core) (new : Numbers) (f : Found) (ticket : ℕ) (is : IsOrderly m) (found : IsFoundPick m f) (made : HasMadeHere p m.numbers new f.vertex (Go m.numbers.local.me f.vertex ticket))
    (pipe : PipeView) (passed : pipe ≡ record m.pipe { serial = m.pipe.serial + 1 }) where
  abbrev gone : Core
  gone = record m { numbers = new; pipe = pipe }

  pub gone_orderly : IsOrderly gone
  gone_orderly = subst (λ (q : PipeView). IsOrderly (record m { numbers = new; pipe = q })) (sym passed) (made_orderly p m new f.vertex ticket found.waits.own made is)

  pub gone_settled : SameSettings m gone
  gone_settled = subst (λ (q : PipeView). SameSettings m (record m { numbers = new; pipe = q })) (sym passed) (made_settled p m new f.vertex ticket found.waits.own made is)

  pub gone_places : KnowsPlaces m → KnowsPlaces gone
  gone_places knows = subst (λ (q : PipeView). KnowsPlaces (record m { numbers = new; pipe = q })) (sym passed) (made_places p m new f.vertex ticket found.waits.own made is knows)

  pub gone_updated : HasUpdatedPick p m gone f.vertex ticket
  gone_updated = record {
    picked = found.picked;
    opened = found.waits.opened;
    may = may_here m f is found;
    after = λ st setting part program.
        subst (λ (q : PipeView). part_of (record m { numbers = new; pipe = q }) ≡ at_once st m.numbers.local.me.0 f.vertex.0 (entry_at_once m.numbers.local.me.0 f.vertex.0 ticket) (part_of m)) (sym passed)
        (made_part p m new f.vertex ticket found.waits.own made st part program);
  }

  pub gone_rows : HasEachRow m.numbers.local → HasEachRow new.local
  gone_rows rows = rows_kept m.numbers.local new.local made.graph rows

  pub gone_pipe : pipe ≡ record m.pipe { serial = pipe.serial }
  gone_pipe = passed ∙ ap (λ (k : ℕ). record m.pipe { serial = k }) (sym (ap (λ (q : PipeView). q.serial) passed))

-- ---- or it is not

module _ (m : Core) (new : Numbers) (same : HasSameNumbers m.numbers new) where
  abbrev back : Core
  back = record m { numbers = new }

  kept : new.tasks ≡ m.numbers.tasks
  kept = ap (λ (n : Numbers). n.tasks) same.rest

  still : new.tasks.admitted ≡ m.numbers.tasks.admitted
  still = ap (λ (t : TasksView). t.admitted) kept

  none_later : m.pipe.serial ≤ m.pipe.serial
  none_later = omega arith

  pub back_orderly : IsOrderly m → IsOrderly back
  back_orderly is = ordered m new m.pipe.serial none_later same.graph still (back_numbers m.numbers new m.terms.base same is.numbers) is

  pub back_settled : IsOrderly m → SameSettings m back
  back_settled is = settled m new m.pipe.serial none_later same.graph still (back_numbers m.numbers new m.terms.base same is.numbers) (ap (λ (t : TasksView). t.window) kept)

  pub back_places : IsOrderly m → KnowsPlaces m → KnowsPlaces back
  back_places is = places m new m.pipe.serial none_later same.graph still (back_numbers m.numbers new m.terms.base same is.numbers) (ap (λ (t : TasksView). length t.task) kept)

  pub back_part : part_of back ≡ part_of m
  back_part = λ i.
      record (part_of m) {
        datum = λ u. datum_here (same.rest i) u;
        edge = λ e. same.edge e i;
        task = λ u. flag_there (kept i).task (place_kept m.numbers.local new.local (same_graph m.numbers.local new.local same.graph) u i);
        log = same.log i;
        pending = λ u. flag_there (kept i).pending (place_kept m.numbers.local new.local (same_graph m.numbers.local new.local same.graph) u i);
      }
