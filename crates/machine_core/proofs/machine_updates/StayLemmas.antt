-- A work that is out stays so as another update is committed that is apart from it.
use Rattle.std.proofs.Common.{◌≡◌, ◌≢◌, ℕ, ◌==◌, ◌&&◌, ◌||◌, Bool, false, not, if◌then◌else◌, Option, Some, None, List, [], ◌∷◌, length, get_or, refl, sym, ap, ◌∙◌, inl, inr, All}
use Rattle.std.proofs.Math.Bool.{or-true}
use Rattle.std.proofs.lemmas.Bool.{ne_eqb}
use Rattle.std.proofs.lemmas.List.Elements.{All-head, All-tail}
use Rattle.gl_base.specs.declared.numbers.Vertex.{Vertex}
use Rattle.gl_base.specs.declared.scopes.Datum.{Datum}
use Rattle.gl_base.specs.scope_lists.Scopes.{is_scope}
use Rattle.gl_base.proofs.scope_lists.SameScope.{one_or_two, set_for-there}
use Rattle.local_graph.specs.declared.sides.Side.{Side}
use Rattle.local_graph.specs.declared.works.Outcome.{Outcome}
use Rattle.local_graph.specs.declared.works.Work.{Work}
use Rattle.partition.specs.machine_numbers.Views.{numbers_along, near_along, value_here, written}
use Rattle.partition.specs.machine_numbers.Steps.{renewed, wakes_of}
use Rattle.machine_core.specs.declared.machine_parts.cores.Core.{Core}
use Rattle.machine_core.specs.machine_parts.Parts.{links_at, sides_at, datum_here, edge_here, flight_at, is_ready}
use Rattle.machine_core.specs.machine_parts.Order.{IsOrderly}
use Rattle.machine_core.specs.declared.machine_updates.reserving.Prepared.{Prepared}
use Rattle.machine_core.specs.machine_updates.Works.{IsOut, IsApartFrom}
use Rattle.machine_core.specs.machine_updates.Reserving.{IsReserved}
use Rattle.machine_core.proofs.machine_updates.GraphLemmas.{row_kept, sides_kept}
use Rattle.machine_core.proofs.machine_updates.CommitLemmas.{HasDone, pending_kept}

numbers_same : (f g : ℕ → ℕ) (sides : List Side) → All (λ (s : Side). f s.edge.0 ≡ g s.edge.0) sides → numbers_along f sides ≡ numbers_along g sides
numbers_same f g [] same = refl
numbers_same f g (s ∷ sides) same =
    let P : Side → Type 0 = λ t. f t.edge.0 ≡ g t.edge.0 in
    ap (λ (n : ℕ). n ∷ numbers_along f sides) (All-head P s sides same) ∙ ap (λ (ns : List ℕ). g s.edge.0 ∷ ns) (numbers_same f g sides (All-tail P s sides same))

near_same : (f g : ℕ → ℕ) (sides : List Side) → All (λ (s : Side). f s.other.0 ≡ g s.other.0) sides → near_along f sides ≡ near_along g sides
near_same f g [] same = refl
near_same f g (s ∷ sides) same =
    let P : Side → Type 0 = λ t. f t.other.0 ≡ g t.other.0 in
    ap (λ (n : ℕ). n ∷ near_along f sides) (All-head P s sides same) ∙ ap (λ (ns : List ℕ). g s.other.0 ∷ ns) (near_same f g sides (All-tail P s sides same))

not_written : (sides : List Side) (xs : List ℕ) (old : ℕ → ℕ) (e : ℕ) → All (λ (t : Side). e ≢ t.edge.0) sides → written sides xs old e ≡ old e
not_written [] xs old e off = refl
not_written (t ∷ sides) [] old e off = refl
not_written (t ∷ sides) (x ∷ xs) old e off =
    let P : Side → Type 0 = λ u. e ≢ u.edge.0 in
    ap (λ (b : Bool). if b then x else written sides xs old e) (ne_eqb e t.edge.0 (All-head P t sides off)) ∙ not_written sides xs old e (All-tail P t sides off)

module _ (old new : Core) (o : Outcome) (ps : List Prepared) (ticket : ℕ) (order : IsOrderly old) (out : IsOut old o.work) (reserved : IsReserved old o.work.scope o.work.vertex ps) (done : HasDone old new o ps ticket) where
  value_kept : (u : ℕ) → u ≢ o.work.vertex.0 → value_here new.numbers u ≡ value_here old.numbers u
  value_kept u off =
      let v = o.work.vertex.0 in
      ap (λ (d : Datum). d.value) (done.updated.datum u ∙ ap (λ (b : Bool). if b then renewed (datum_here old.numbers v) o.value else datum_here old.numbers u) (ne_eqb u v off))

  pub stays_out : (w : Work) → IsOut old w → IsApartFrom old o.work.vertex.0 w → IsOut new w
  stays_out w is apart =
      let s = o.work.scope in
      let v = o.work.vertex.0 in
      let u = w.vertex.0 in
      let l = old.numbers.local in
      let sides = sides_at l u in
      let sides_are : sides_at new.numbers.local u ≡ sides = sides_kept l new.numbers.local done.graph u in
      let woken = wakes_of l.me.0 o.woken (sides_at l v) o.work.row.links.items u in
      let other : is_scope w.scope s ≡ false = elim (one_or_two w.scope s) [
        | inl same ↦ absurd (apart.other (ap number_or (sym is.flight ∙ ap (flight_at old.pipe) same ∙ out.flight)))
        | inr off ↦ off
      ] in
      record {
        flight = done.finished.flight w.scope ∙ set_for-there (flight_at old.pipe) s w.scope None other ∙ is.flight;
        ready = done.finished.ready w.scope ∙ set_for-there (is_ready old.pipe) s w.scope false other ∙ is.ready;
        task =
            done.updated.task u ∙ ap (λ (b : Bool). woken || (b && not (u == v))) is.task ∙ ap (λ (b : Bool). woken || not b) (ne_eqb u v apart.other) ∙ or-true woken;
        not_pending = pending_kept old new o ps ticket order out reserved done u ∙ is.not_pending;
        out = done.back u ∙ ap (λ (b : Bool). if b then Some o.work.row.links.items else links_at l u) (ne_eqb u v apart.other) ∙ is.out;
        row = is.row ∙ sym (row_kept l new.numbers.local done.graph u);
        links = is.links ∙ sym (ap length sides_are);
        value = is.value ∙ sym (value_kept u apart.other);
        numbers =
            is.numbers
            ∙ numbers_same (edge_here old.numbers) (edge_here new.numbers) sides
            (λ k d low.
            let e = (get_or sides k d).edge.0 in
            sym (done.updated.edge e ∙ not_written (sides_at l v) o.edges.items (edge_here old.numbers) e (apart.edges k d low)))
            ∙ sym (ap (numbers_along (edge_here new.numbers)) sides_are);
        near =
            is.near
            ∙ near_same (value_here old.numbers) (value_here new.numbers) sides (λ k d low. sym (value_kept (get_or sides k d).other.0 (apart.near k d low)))
            ∙ sym (ap (near_along (value_here new.numbers)) sides_are);
      }
    where
      number_or : Option Vertex → ℕ
      number_or None = 0
      number_or (Some x) = x.0
