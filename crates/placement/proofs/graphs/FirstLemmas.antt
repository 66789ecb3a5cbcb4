-- The numbers with which a machine begins are those with which the run begins.
use Rattle.std.proofs.Common.{◌≡◌, ◌<◌, ℕ, ◌∙◌, ◌==◌, ◌&&◌, nat_lt, Bool, true, false, Option, Some, None, is_some, List, [], length, All, ap, ap₂, sym, subst, refl, inl, inr}
use Rattle.std.specs.Prelude.{slice_get, slice_index}
use Rattle.std.specs.List.{list_any}
use Rattle.std.proofs.lemmas.Bool.{cases_Bool, cases_lt, lt-ltb, le-ltb}
use Rattle.std.proofs.lemmas.Option.{slice_get-get_or, slice_get_past}
use Rattle.gl_base.specs.declared.atoms.GhostLine.{GhostLine}
use Rattle.gl_base.specs.declared.numbers.Vertex.{Vertex}
use Rattle.gl_base.specs.declared.scopes.Datum.{Datum}
use Rattle.gl_base.specs.declared.snapshots.Base.{Base}
use Rattle.graph_core.specs.DataGraph.{DataGraph, size}
use Rattle.cluster_laws.specs.cluster_core.Scopes.{takes_part}
use Rattle.local_graph.specs.Inner.Kept.{IsWellKept}
use Rattle.local_graph.specs.Locals.{got_at, links_at, place_at}
use Rattle.local_graph.specs.Played.{no_datum}
use Rattle.partition.specs.machine_numbers.Views.{flag_there, own_or_ghost}
use Rattle.partition.specs.declared.machine_numbers.keeping.Numbers.{Numbers}
use Rattle.placement.specs.graphs.Placed.{IsLocalOf, IsUnsetPart, LocalView, Setting, edge_number_at, is_own, own_datum}
use Rattle.seq_run.specs.States.{GraphState}
use Rattle.update_api.specs.Updates.{Update}
use Rattle.placement.specs.graphs.Beginnings.{AreFirstNumbers, BeginsWith, IsBaseFor, IsFirstBase, IsReadyPart, start_state, datum_here, first_datum, ghost_datum, is_flagged}
use Rattle.placement.proofs.graphs.BeginLemmas.{ghost_at, ghost_listed, none_there, own_at, part_is_ghost, with_data}

some_there : {X : Type 0} (xs : List X) (k : ℕ) (d : X) → is_some (slice_get xs k) ≡ nat_lt k (length xs)
some_there xs k d = elim (cases_lt k (length xs)) [
  | inl low ↦ ap is_some (slice_get-get_or xs k d low) ∙ sym (lt-ltb k (length xs) low)
  | inr past ↦ ap is_some (slice_get_past xs k past) ∙ sym (le-ltb k (length xs) past)
]

-- What the machine has after its data and the numbers of edges were set.
pub record AreSet (l : LocalView) (values edges : List ℕ) (mark : ℕ) (n : Numbers) : Type 0 where
  pub rest : n.local ≡ record l { kept = n.local.kept; numbers = n.local.numbers }
  pub many_edges : length n.local.numbers ≡ length l.numbers
  pub edges_set : (e : ℕ) → e < length edges → edge_number_at n.local e ≡ slice_index edges e
  pub own : (x : ℕ) → is_own n.local x ≡ is_own l x
  pub own_set : All (λ (v : Vertex). own_datum n.local v.0 ≡ Some (first_datum values mark v.0)) l.owned
  pub copies : (x : ℕ) → is_some (ghost_datum n.ghosts x) ≡ list_any (λ (g : GhostLine). g.vertex.0 == x) l.ghosts
  pub ghosts_set : All (λ (g : GhostLine). ghost_datum n.ghosts g.vertex.0 ≡ Some (first_datum values mark g.vertex.0)) l.ghosts
  pub many : length n.tasks.task ≡ length l.owned
  pub tasks : (u : ℕ) → is_flagged n.tasks.task u ≡ nat_lt u (length l.owned)
  pub log : n.log.items ≡ []

module _ (st : Setting) (l : LocalView) (part : IsUnsetPart st l.me.0 l) (values edges : List ℕ) (mark : ℕ) (n : Numbers) (set : AreSet l values edges mark n) where
  place_is : (x : ℕ) → place_at n.local x ≡ place_at l x
  place_is x = ap (λ (m : LocalView). place_at m x) set.rest

  own_there : (x k : ℕ) → place_at l x ≡ Some k → is_own l x ≡ nat_lt k (length l.owned)
  own_there x k at = ap (λ (o : Option ℕ). is_some (got_at l.kept o)) at ∙ some_there l.kept k no_datum ∙ ap (nat_lt k) part.places

  pub part_ready : IsWellKept l → IsReadyPart st l.me.0 n
  part_ready well =
      record {
        machine = ap (λ (m : LocalView). m.me.0) set.rest;
        local =
            subst (IsLocalOf st) (sym set.rest)
            (with_data st l part.local n.local.kept n.local.numbers (λ x. sym (ap (λ (m : LocalView). is_own m x) set.rest) ∙ set.own x) set.many_edges);
        rows = λ v own. ap (λ (m : LocalView). is_some (links_at m v)) set.rest ∙ part.rows v (sym (set.own v) ∙ own);
        tasks_of =
            record {
              apart = λ x y k at_x at_y. well.apart x y k (sym (place_is x) ∙ at_x) (sym (place_is y) ∙ at_y);
              own = λ x k at. set.own x ∙ own_there x k (sym (place_is x) ∙ at) ∙ ap (nat_lt k) (sym set.many);
            };
        many = set.many ∙ ap length (sym (ap (λ (m : LocalView). m.owned) set.rest));
        copies = λ x. set.copies x ∙ ghost_listed st l part.local x;
      }

  task_there : (o : Option ℕ) → flag_there n.tasks.task o ≡ is_some (got_at l.kept o)
  task_there None = refl
  task_there (Some k) = set.tasks k ∙ ap (nat_lt k) (sym part.places) ∙ sym (some_there l.kept k no_datum)

  datum_is : (v : ℕ) → v < size st.graph → takes_part st v l.me.0 ≡ true → datum_here n v ≡ first_datum values mark v
  datum_is v low takes =
      elim (cases_Bool (st.owner v == l.me.0)) [
        | inl mine ↦
            ap (λ (o : Option Datum). own_or_ghost o (ghost_datum n.ghosts v))
            (own_at st l part.local (λ x. own_datum n.local x ≡ Some (first_datum values mark x)) v low mine set.own_set)
        | inr off ↦
            let ghost = part_is_ghost st v l.me.0 takes off in
            let not_own : is_own n.local v ≡ false =
            set.own v ∙ part.local.own v ∙ ap₂ (λ (a b : Bool). a && b) (lt-ltb v (size st.graph) low) off in
            ap₂ (λ (o g : Option Datum). own_or_ghost o g) (none_there (own_datum n.local v) not_own)
            (ghost_at st l part.local (λ x. ghost_datum n.ghosts x ≡ Some (first_datum values mark x)) v low ghost set.ghosts_set)
      ]

  pub numbers_first : (base : Base) → BeginsWith st base → values ≡ base.values.items → edges ≡ base.edges.items → mark ≡ base.number → AreFirstNumbers st l.me.0 n
  numbers_first base begins are_values are_edges is_mark =
      record {
        vertices = λ v low takes.
            datum_is v low takes
            ∙ ap₂ (λ (x k : ℕ). record { value = x; version = 0; mark = k })
            (ap (λ (xs : List ℕ). slice_index xs v) are_values ∙ begins.vertices.each v low) (is_mark ∙ sym begins.number);
        edges = λ e low.
            set.edges_set e (subst (λ (m : ℕ). e < m) (sym (ap length are_edges ∙ begins.edges.count)) low)
            ∙ ap (λ (xs : List ℕ). slice_index xs e) are_edges ∙ begins.edges.each e low;
        tasks = λ u. ap (flag_there n.tasks.task) (place_is u) ∙ task_there (place_at l u) ∙ part.local.own u;
        log = set.log;
      }

-- the first base is one for the graph, and a run of the setting that starts as the program does begins with it
pub for_graph : (g : DataGraph) (program : Update) (base : Base) → IsFirstBase g program base → IsBaseFor g base
for_graph g program base first = record { vertices = first.vertices.count; edges = first.edges.count }

pub begins_first : (g : DataGraph) (program : Update) (base : Base) → IsFirstBase g program base → (st : Setting) → st.graph ≡ g → st.start ≡ start_state g program → st.base ≡ 0 → BeginsWith st base
begins_first g program base first st graph starts none =
    record {
      vertices =
          record {
            count = first.vertices.count ∙ sym (ap size graph);
            each = λ k low. first.vertices.each k (subst (λ (h : DataGraph). k < size h) graph low) ∙ ap (λ (s : GraphState). s.vertex k) (sym starts);
          };
      edges =
          record {
            count = first.edges.count ∙ sym (ap (λ (h : DataGraph). length h.edges) graph);
            each = λ k low. first.edges.each k (subst (λ (h : DataGraph). k < length h.edges) graph low) ∙ ap (λ (s : GraphState). s.edge k) (sym starts);
          };
      number = none ∙ sym first.number;
    }
