use Rattle.std.proofs.Common.{◌≡◌, ◌<◌, ◌==◌, ℕ, ◌∙◌, List, length, get_or, sym, subst, ap, refl, All, Some, true, is_some, nat_lt, arith}
use Rattle.std.specs.List.{list_any}
use Rattle.gl_base.specs.declared.atoms.GhostLine.{GhostLine}
use Rattle.gl_base.specs.declared.numbers.Vertex.{Vertex}
use Rattle.gl_base.specs.declared.scopes.Datum.{Datum}
use Rattle.graph_core.specs.DataGraph.{size}
use Rattle.local_graph.specs.Inner.Kept.{IsWellKept}
use Rattle.partition.specs.declared.machine_numbers.keeping.Numbers.{Numbers}
use Rattle.placement.specs.graphs.Placed.{LocalView, own_datum}
use Rattle.placement.specs.graphs.Beginnings.{first_datum, ghost_datum}
use Rattle.placement.proofs.graphs.BeginLemmas.{ghosts_few, ghosts_known, ghosts_low, owned_few, owned_low, owned_own}
use Rattle.placement.proofs.graphs.FirstLemmas.{AreSet, numbers_first, part_ready}
use Rattle.placement.proofs.graphs.beginning.first_numbers.Goals as goal

pub overflow_cast-values : goal.overflow_cast-values
overflow_cast-values c =
    let many : length c.deref-values.result.now ≡ size c.requires.st.graph = ap length c.deref-values.ensures.value ∙ c.requires.numbers.vertices in
    omega (arith, many, c.requires.graph.few)

pub new-requires-clause-few : goal.new-requires-clause-few
new-requires-clause-few c =
    let few = ghosts_few c.requires.st c.args.local c.requires.part.local in
    let many : length c.deref-values.result.now ≡ size c.requires.st.graph = ap length c.deref-values.ensures.value ∙ c.requires.numbers.vertices in
    omega (arith, few, ap length c.ghosts.ensures, many)

pub new-requires-clause-below : goal.new-requires-clause-below
new-requires-clause-below c =
    let many : length c.deref-values.result.now ≡ size c.requires.st.graph = ap length c.deref-values.ensures.value ∙ c.requires.numbers.vertices in
    subst (λ (gs : List GhostLine). All (λ (g : GhostLine). g.vertex.0 < length c.deref-values.result.now) gs) (sym c.ghosts.ensures)
    (subst (λ (n : ℕ). All (λ (g : GhostLine). g.vertex.0 < n) c.args.local.ghosts) (sym many) (ghosts_low c.requires.st c.args.local c.requires.part.local))

pub overflow_cast-owned : goal.overflow_cast-owned
overflow_cast-owned c =
    let few = owned_few c.requires.st c.args.local c.requires.part.local in
    omega (arith, few, ap length c.owned.ensures, c.requires.graph.few)

pub set_own-requires-clause-own : goal.set_own-requires-clause-own
set_own-requires-clause-own c = owned_own c.requires.st c.args.local c.requires.part.local

pub set_own-requires-clause-below : goal.set_own-requires-clause-below
set_own-requires-clause-below c =
    let many : length c.deref-values.result.now ≡ size c.requires.st.graph = ap length c.deref-values.ensures.value ∙ c.requires.numbers.vertices in
    subst (λ (n : ℕ). All (λ (v : Vertex). v.0 < n) c.args.local.owned) (sym many) (owned_low c.requires.st c.args.local c.requires.part.local)

pub set_edges-requires-clause-each : goal.set_edges-requires-clause-each
set_edges-requires-clause-each c =
    ap length c.deref-edges.ensures.value ∙ c.requires.numbers.edges ∙ sym c.requires.part.local.edges ∙ sym (ap (λ (m : LocalView). length m.numbers) c.set_own.ensures.rest)

pub set_edges-requires-clause-few : goal.set_edges-requires-clause-few
set_edges-requires-clause-few c =
    let many : length c.deref-edges.result.now ≡ length c.requires.st.graph.edges = ap length c.deref-edges.ensures.value ∙ c.requires.numbers.edges in
    omega (arith, many, c.requires.graph.few_edges)

pub set_ghosts-requires-clause-known : goal.set_ghosts-requires-clause-known
set_ghosts-requires-clause-known c =
    let same = c.ghosts-3.ensures ∙ ap (λ (m : LocalView). m.ghosts) c.set_edges.ensures.rest ∙ ap (λ (m : LocalView). m.ghosts) c.set_own.ensures.rest in
    let known : All (λ (g : GhostLine). is_some (ghost_datum c.in_ok-ghosts.ghosts g.vertex.0) ≡ true) c.args.local.ghosts = λ k d low.
    c.in_ok-ghosts.ensures _ ∙ ap (list_any _) c.ghosts.ensures ∙ ghosts_known c.requires.st c.args.local c.requires.part.local k d low in
    subst (All (λ (g : GhostLine). is_some (ghost_datum c.in_ok-ghosts.ghosts g.vertex.0) ≡ true)) (sym same) known

pub set_ghosts-requires-clause-below : goal.set_ghosts-requires-clause-below
set_ghosts-requires-clause-below c =
    let same = c.ghosts-3.ensures ∙ ap (λ (m : LocalView). m.ghosts) c.set_edges.ensures.rest ∙ ap (λ (m : LocalView). m.ghosts) c.set_own.ensures.rest in
    let many : length c.deref-values.result.now ≡ size c.requires.st.graph = ap length c.deref-values.ensures.value ∙ c.requires.numbers.vertices in
    subst (λ (gs : List GhostLine). All (λ (g : GhostLine). g.vertex.0 < length c.deref-values.result.now) gs) (sym same)
    (subst (λ (n : ℕ). All (λ (g : GhostLine). g.vertex.0 < n) c.args.local.ghosts) (sym many) (ghosts_low c.requires.st c.args.local c.requires.part.local))

pub returns : goal.returns
returns c =
    let n : Numbers = record { local = c.set_edges.new.local; ghosts = c.set_ghosts.new.cache; tasks = c.in_ok-tasks.tasks; log = c.new-3.result } in
    let values = c.deref-values.result.now in
    let edges = c.deref-edges.result.now in
    let mark = c.args.base.now.number in
    let own = c.set_own.new.local in
    let same = c.ghosts-3.ensures ∙ ap (λ (m : LocalView). m.ghosts) c.set_edges.ensures.rest ∙ ap (λ (m : LocalView). m.ghosts) c.set_own.ensures.rest in
    let own_same : (x : ℕ) → own_datum c.set_edges.new.local x ≡ own_datum own x = λ x. ap (λ (m : LocalView). own_datum m x) c.set_edges.ensures.rest in
    let set : AreSet c.args.local values edges mark n =
    record {
      rest =
          c.set_edges.ensures.rest
          ∙ ap (λ (m : LocalView). record m { numbers = c.set_edges.new.local.numbers }) c.set_own.ensures.rest
          ∙ ap (λ (kept : List Datum). record c.args.local { kept = kept; numbers = c.set_edges.new.local.numbers }) (sym (ap (λ (m : LocalView). m.kept) c.set_edges.ensures.rest));
      many_edges = c.set_edges.ensures.many ∙ ap (λ (m : LocalView). length m.numbers) c.set_own.ensures.rest;
      edges_set = c.set_edges.ensures.set;
      own = λ x. ap is_some (own_same x) ∙ c.set_own.ensures.own x;
      own_set = λ k d low. own_same (get_or c.args.local.owned k d).0 ∙ c.set_own.ensures.set k d low;
      copies = λ x. c.set_ghosts.ensures.known x ∙ c.in_ok-ghosts.ensures x ∙ ap (list_any (λ (g : GhostLine). g.vertex.0 == x)) c.ghosts.ensures;
      ghosts_set = subst (All (λ (g : GhostLine). ghost_datum c.set_ghosts.new.cache g.vertex.0 ≡ Some (first_datum values mark g.vertex.0))) same c.set_ghosts.ensures.set;
      many = c.in_ok-tasks.ensures.count ∙ ap length c.owned.ensures;
      tasks = λ u. c.in_ok-tasks.ensures.tasks u ∙ ap (λ (vs : List Vertex). nat_lt u (length vs)) c.owned.ensures;
      log = c.new-3.ensures.items;
    } in
    record {
      numbers = λ st part begins. numbers_first st c.args.local part values edges mark n set c.args.base.now begins c.deref-values.ensures.value c.deref-edges.ensures.value refl;
      part = λ st part. part_ready st c.args.local part values edges mark n set (subst IsWellKept c.local.view_is c.local.invariant);
      tasks =
          record {
            pending = λ u. (c.in_ok-tasks.ensures.none u).0;
            admitted = λ u. (c.in_ok-tasks.ensures.none u).1;
            planned = λ u. (c.in_ok-tasks.ensures.none u).2;
            asked = c.in_ok-tasks.ensures.asked;
            plans = c.in_ok-tasks.ensures.counts.0;
            outside = c.in_ok-tasks.ensures.counts.1;
            bound = c.in_ok-tasks.ensures.counts.2;
            flags = c.in_ok-tasks.ensures.admissions ∙ sym c.in_ok-tasks.ensures.count;
          };
    }
