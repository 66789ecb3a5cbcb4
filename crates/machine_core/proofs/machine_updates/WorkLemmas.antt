-- Works that are taken out and put back: a machine with other rows.
use Rattle.std.proofs.Common.{◌≡◌, ◌≢◌, ℕ, ◌==◌, Bool, true, false, true≢false, if◌then◌else◌, Option, Some, None, List, length, refl, sym, ap, ◌∙◌, subst, inl, inr}
use Rattle.std.specs.Prelude.{is_some}
use Rattle.std.proofs.lemmas.Bool.{cases_eq, eq-eqb, ne_eqb}
use Rattle.gl_base.specs.declared.numbers.Vertex.{Vertex}
use Rattle.gl_base.specs.declared.scopes.ScopeId.{ScopeId}
use Rattle.update_api.specs.declared.links.Link.{Link}
use Rattle.local_graph.specs.declared.works.Work.{Work}
use Rattle.partition.specs.machine_numbers.Views.{numbers_along, near_along, value_here}
use Rattle.partition.specs.machine_numbers.Steps.{HasTakenOut}
use Rattle.partition.specs.machine_numbers.Settings.{IsRowOf}
use Rattle.machine_core.specs.declared.machine_parts.cores.Core.{Core}
use Rattle.machine_core.specs.machine_parts.Parts.{is_own, links_at, row_at, sides_at, edge_here, task_here, pending_here, flight_at, is_ready, part_of}
use Rattle.machine_core.specs.machine_parts.Order.{IsOrderly, IsReadyAt, KnowsPlaces}
use Rattle.machine_core.specs.machine_parts.Settings.{Setting, IsPartOf, SameSettings}
use Rattle.machine_core.specs.machine_updates.Works.{IsOut, CanBeTaken, HasItsRow}
use Rattle.machine_core.proofs.machine_updates.GraphLemmas.{SameGraph}
use Rattle.machine_core.proofs.machine_updates.LeaveLemmas.{some_none}
use Rattle.machine_core.proofs.machine_updates.ReceiveLemmas.{flights_stay}
use Rattle.machine_core.proofs.machine_updates.OrderLemmas.{local_kept, rows_back, HaveTheirRows}

-- the machine with these rows and numbers of edges
abbrev pub with_rows : Core → List (Option (List Link)) → List ℕ → Core
with_rows m rows numbers = record m { numbers = record m.numbers { local = record m.numbers.local { rows = rows; numbers = numbers } } }

pub graph_with : (m : Core) (rows : List (Option (List Link))) (numbers : List ℕ) → SameGraph m.numbers.local (with_rows m rows numbers).numbers.local
graph_with m rows numbers = record { own = λ x. refl; rest = refl }

-- it is in order where each row that is out is of a ready scope
pub order_with : (m : Core) (rows : List (Option (List Link))) (numbers : List ℕ) → ((v : Vertex) → is_own m.numbers.local v.0 ≡ true → is_some (links_at (with_rows m rows numbers).numbers.local v.0) ≡ false → IsReadyAt m.pipe v)
    → IsOrderly m → IsOrderly (with_rows m rows numbers)
order_with m rows numbers ready order =
    record {
      graph =
          record {
            me = order.graph.me;
            own = order.graph.own;
            ascend = order.graph.ascend;
            self = order.graph.self;
            some = order.graph.some;
            within = order.graph.within;
            apart = order.graph.apart;
          };
      numbers =
          record {
            tasks = record { apart = order.numbers.tasks.apart; own = order.numbers.tasks.own };
            sides = λ v own k d low.
                let side = order.numbers.sides v own k d low in record { place = side.place; own = side.own };
            ghosts = order.numbers.ghosts;
            marks = order.numbers.marks;
            outside = order.numbers.outside;
          };
      entered = λ s e come.
          let is = order.entered s e come in
          record {
            part = is.part;
            place = is.place;
            rest = is.rest;
            home = is.home;
            stands = is.stands;
            flight = is.flight;
            waits = is.waits;
          };
      locks =
          record {
            owned = order.locks.owned;
            queues = order.locks.queues;
            holds = order.locks.holds;
            only = order.locks.only;
            ready = order.locks.ready;
            admitted = order.locks.admitted;
          };
      flights = flights_stay m.numbers (with_rows m rows numbers).numbers m.pipe (graph_with m rows numbers) refl ready order.flights;
      width = order.width;
    }

pub places_with : (m : Core) (rows : List (Option (List Link))) (numbers : List ℕ) → KnowsPlaces m → KnowsPlaces (with_rows m rows numbers)
places_with m rows numbers knows = record { vertices = record { many = knows.vertices.many; place = knows.vertices.place }; flags = knows.flags }

pub settings_with : (st : Setting) (m : Core) (rows : List (Option (List Link))) (numbers : List ℕ) → length numbers ≡ length m.numbers.local.numbers → HaveTheirRows st (with_rows m rows numbers).numbers.local → IsPartOf st m
    → IsPartOf st (with_rows m rows numbers)
settings_with st m rows numbers many rows_are part =
    record {
      local = local_kept st m.numbers.local (with_rows m rows numbers).numbers.local (graph_with m rows numbers) many rows_are part.local;
      machines = part.machines;
      engine = part.engine;
      pipeline = part.pipeline;
      base = part.base;
      window = part.window;
    }

pub part_with : (m : Core) (rows : List (Option (List Link))) (numbers : List ℕ) → ((e : ℕ) → edge_here (with_rows m rows numbers).numbers e ≡ edge_here m.numbers e) → part_of (with_rows m rows numbers) ≡ part_of m
part_with m rows numbers edge = λ i. record (part_of m) { edge = λ e. edge e i }

-- another work that is out stays so
pub out_with : (m : Core) (rows : List (Option (List Link))) (numbers : List ℕ) (w : Work) → ((e : ℕ) → edge_here (with_rows m rows numbers).numbers e ≡ edge_here m.numbers e)
    → links_at (with_rows m rows numbers).numbers.local w.vertex.0 ≡ None → IsOut m w → IsOut (with_rows m rows numbers) w
out_with m rows numbers w edge row out =
    record {
      flight = out.flight;
      ready = out.ready;
      task = out.task;
      not_pending = out.not_pending;
      out = row;
      row = out.row;
      links = out.links;
      value = out.value;
      numbers = out.numbers ∙ (λ i. numbers_along (λ e. sym (edge e) i) (sides_at m.numbers.local w.vertex.0));
      near = out.near;
    }

-- ---- a work that is taken

module _ (old : Core) (rows : List (Option (List Link))) (s : ScopeId) (v : Vertex) (w : Work) (order : IsOrderly old) (can : CanBeTaken old s v) (taken : HasTakenOut old.numbers (with_rows old rows old.numbers.local.numbers).numbers s v w) where
  pub taken_ready : (u : Vertex) → is_own old.numbers.local u.0 ≡ true → is_some (links_at (with_rows old rows old.numbers.local.numbers).numbers.local u.0) ≡ false → IsReadyAt old.pipe u
  taken_ready u own out = elim (cases_eq u.0 v.0) [
    | inl here ↦ record { scope = s; centre = can.flight ∙ ap Some (λ i. record { 0 = sym here i }); ready = can.ready }
    | inr off ↦ order.flights.rows u own (sym (ap is_some (taken.out u.0 ∙ ap (λ (b : Bool). if b then None else links_at old.numbers.local u.0) (ne_eqb u.0 v.0 off))) ∙ out)
  ]

  pub taken_out : IsOut (with_rows old rows old.numbers.local.numbers) w
  taken_out =
      let e : v.0 ≡ w.vertex.0 = ap (λ (u : Vertex). u.0) (sym taken.vertex) in
      let local = old.numbers.local in
      record {
        flight = ap (flight_at old.pipe) taken.scope_is ∙ can.flight ∙ ap Some (sym taken.vertex);
        ready = ap (is_ready old.pipe) taken.scope_is ∙ can.ready;
        task = subst (λ (x : ℕ). task_here old.numbers x ≡ true) e can.task;
        not_pending = subst (λ (x : ℕ). pending_here old.numbers x ≡ false) e can.not_pending;
        out = taken.out w.vertex.0 ∙ ap (λ (b : Bool). if b then None else links_at local w.vertex.0) (eq-eqb w.vertex.0 v.0 (sym e));
        row = taken.row ∙ ap (λ (x : ℕ). row_at local x) e;
        links = taken.many ∙ ap (λ (x : ℕ). length (sides_at local x)) e;
        value = taken.value ∙ ap (value_here old.numbers) e;
        numbers = taken.numbers ∙ ap (λ (x : ℕ). numbers_along (edge_here old.numbers) (sides_at local x)) e;
        near = taken.near ∙ ap (λ (x : ℕ). near_along (value_here old.numbers) (sides_at local x)) e;
      }

  pub taken_row : (st : Setting) → IsPartOf st old → HasItsRow st (with_rows old rows old.numbers.local.numbers) w
  taken_row st part =
      let own = order.flights.own s v can.flight in
      subst (λ (u : Vertex). IsRowOf st u.0 (sides_at old.numbers.local u.0) w.row.links.items) (sym taken.vertex) (part.local.rows v.0 w.row.links.items own taken.links)

  pub taken_others : (other : Work) → IsOut old other → IsOut (with_rows old rows old.numbers.local.numbers) other
  taken_others other out =
      let local = old.numbers.local in
      let row : links_at (with_rows old rows local.numbers).numbers.local other.vertex.0 ≡ None = elim (cases_eq other.vertex.0 v.0) [
        | inl here ↦ taken.out other.vertex.0 ∙ ap (λ (b : Bool). if b then None else links_at local other.vertex.0) (eq-eqb other.vertex.0 v.0 here)
        | inr off ↦ taken.out other.vertex.0 ∙ ap (λ (b : Bool). if b then None else links_at local other.vertex.0) (ne_eqb other.vertex.0 v.0 off) ∙ out.out
      ] in
      out_with old rows local.numbers other (λ e. refl) row out

  pub taken_settings : SameSettings old (with_rows old rows old.numbers.local.numbers)
  taken_settings = λ st part. settings_with st old rows old.numbers.local.numbers refl (still st part) part
    where
      still : (st : Setting) → IsPartOf st old → HaveTheirRows st (with_rows old rows old.numbers.local.numbers).numbers.local
      still st part u links own at = elim (cases_eq u v.0) [
        | inl here ↦ absurd (some_none links (sym at ∙ taken.out u ∙ ap (λ (b : Bool). if b then None else links_at old.numbers.local u) (eq-eqb u v.0 here)))
        | inr off ↦ part.local.rows u links own (sym (taken.out u ∙ ap (λ (b : Bool). if b then None else links_at old.numbers.local u) (ne_eqb u v.0 off)) ∙ at)
      ]

-- ---- a work that is put back

module _ (old : Core) (rows : List (Option (List Link))) (numbers : List ℕ) (v : ℕ) (row : List Link) (back : (x : ℕ) → links_at (with_rows old rows numbers).numbers.local x ≡ (if x == v then Some row else links_at old.numbers.local x)) where
  elsewhere : (x : ℕ) → (x ≡ v → ⊥) → links_at (with_rows old rows numbers).numbers.local x ≡ links_at old.numbers.local x
  elsewhere x off = back x ∙ ap (λ (b : Bool). if b then Some row else links_at old.numbers.local x) (ne_eqb x v off)

  pub put_ready : IsOrderly old → (u : Vertex) → is_own old.numbers.local u.0 ≡ true → is_some (links_at (with_rows old rows numbers).numbers.local u.0) ≡ false → IsReadyAt old.pipe u
  put_ready order u own out = elim (cases_eq u.0 v) [
    | inl here ↦ absurd (true≢false (sym (ap is_some (back u.0 ∙ ap (λ (b : Bool). if b then Some row else links_at old.numbers.local u.0) (eq-eqb u.0 v here))) ∙ out))
    | inr off ↦ order.flights.rows u own (sym (ap is_some (elsewhere u.0 off)) ∙ out)
  ]

  pub put_others : ((e : ℕ) → edge_here (with_rows old rows numbers).numbers e ≡ edge_here old.numbers e) → (w : Work) → IsOut old w → w.vertex.0 ≢ v → IsOut (with_rows old rows numbers) w
  put_others edge w out off = out_with old rows numbers w edge (elsewhere w.vertex.0 off ∙ out.out) out

  pub put_settings : length numbers ≡ length old.numbers.local.numbers → (st : Setting) → IsPartOf st old → IsRowOf st v (sides_at old.numbers.local v) row → IsPartOf st (with_rows old rows numbers)
  put_settings many st part is = settings_with st old rows numbers many (rows_back st old.numbers.local (with_rows old rows numbers).numbers.local v row (graph_with old rows numbers) back is part.local) part
