-- An update that was made of a work is one of the numbers that the work holds.
use Rattle.std.proofs.Common.{◌≡◌, ℕ, suc, ◌==◌, Bool, true, false, if◌then◌else◌, List, [], ◌∷◌, ◌++◌, refl, sym, ap, ◌∙◌, subst}
use Rattle.gl_base.specs.declared.entries.Entry.{Entry}
use Rattle.gl_base.specs.declared.scopes.Datum.{Datum}
use Rattle.cluster_laws.proofs.cluster_core.Basics.{set_at-cases}
use Rattle.local_graph.specs.declared.works.Outcome.{Outcome}
use Rattle.local_graph.specs.declared.works.Work.{Work}
use Rattle.partition.specs.declared.machine_numbers.keeping.Numbers.{Numbers}
use Rattle.partition.specs.machine_numbers.Settings.{IsMadeOfWork}
use Rattle.partition.specs.machine_numbers.Steps.{HasUpdated, made_of, renewed}
use Rattle.partition.specs.machine_numbers.Views.{datum_here}
use Rattle.update_api.specs.Links.{nears_at}
use Rattle.update_api.specs.Marks.{AreMarked}
use Rattle.update_api.specs.Updates.{Update}

-- `first` is the outcome before the update, and `made` the one behind it
module _ (p : Update) (w : Work) (first made : Outcome) (work : first.work ≡ w) (value : first.value ≡ w.value) (edges : first.edges.items ≡ w.row.numbers.items) (same : made.work ≡ first.work) where
  own : first.value ≡ made.work.value
  own = value ∙ ap (λ (x : Work). x.value) (sym (same ∙ work))

  numbers : first.edges.items ≡ made.work.row.numbers.items
  numbers = edges ∙ ap (λ (x : Work). x.row.numbers.items) (sym (same ∙ work))

  pub made_of_work : made.value ≡ p.number first.value (nears_at (first.work.near.items ++ first.value ∷ []) first.edges.items first.work.row.links.items)
      → AreMarked (p.mark made.value) (first.work.near.items ++ first.value ∷ []) first.edges.items first.work.row.links.items made.edges.items
      → made.woken ≡ p.woken first.value made.value → IsMadeOfWork p made
  made_of_work number marks woken =
      record {
        value = number ∙ (λ i. p.number (own i) (nears_at ((sym same i).near.items ++ own i ∷ []) (numbers i) (sym same i).row.links.items));
        marks =
            subst (λ (x : Work). AreMarked (p.mark made.value) (x.near.items ++ made.work.value ∷ []) made.work.row.numbers.items x.row.links.items made.edges.items) (sym same)
            (subst (λ (k : ℕ). AreMarked (p.mark made.value) (first.work.near.items ++ k ∷ []) made.work.row.numbers.items first.work.row.links.items made.edges.items) own
            (subst (λ (l : List ℕ). AreMarked (p.mark made.value) (first.work.near.items ++ first.value ∷ []) l first.work.row.links.items made.edges.items) numbers marks));
        woken = woken ∙ ap (λ (k : ℕ). p.woken k made.value) own;
      }

-- ---- marks

renewed_mark : (d : Datum) (x : ℕ) → (renewed d x).mark ≡ d.mark
renewed_mark d x = by (x == d.value)
  where
    by : (b : Bool) → (if b then d else record { value = x; version = suc d.version; mark = d.mark }).mark ≡ d.mark
    by true = refl
    by false = refl

-- an update leaves each mark as it is
pub marks_kept : (old new : Numbers) (o : Outcome) (entry : Entry) → HasUpdated old new (made_of o) entry → (x : ℕ) → (datum_here new x).mark ≡ (datum_here old x).mark
marks_kept old new o entry has x =
    let v = o.work.vertex.0 in
    let is : Datum → Type 0 = λ d. d.mark ≡ (datum_here old x).mark in
    subst is (sym (has.datum x))
    (set_at-cases is (datum_here old) v (renewed (datum_here old v) o.value) x
    (λ same. renewed_mark (datum_here old v) o.value ∙ ap (λ u. (datum_here old u).mark) (sym same)) (λ off. refl))
