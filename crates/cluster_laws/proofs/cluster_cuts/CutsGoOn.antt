-- Action after action, the order and the cut go on.
use Rattle.std.proofs.Common.{◌≡◌, ℕ, suc, ◌+◌, ◌<◌, ◌≤◌, ◌⊎◌, List, [], ◌∷◌, ◌++◌, length, sym, refl, ap, ◌∙◌, subst, ⊎_elim, append_assoc, append-nil, le_trans, le_of_eq, le_refl, lt_of_lt_of_le, le_of_lt, lt-suc_self, le_antisymm, arith, length-append}
use Rattle.std.proofs.lemmas.Bool.{cases_lt}
use Rattle.gl_base.specs.declared.entries.Entry.{Entry}
use Rattle.gl_base.specs.declared.entries.Entry.TheVariants.{Go, Restart}
use Rattle.graph_core.specs.DataGraph.{size}
use Rattle.graph_core.proofs.HalvesLaws.{each-append}
use Rattle.cluster_laws.specs.cluster_core.Actions.{Action, after}
use Rattle.cluster_laws.specs.cluster_core.Cuts.{cut_of, updates_at, Begins}
use Rattle.cluster_laws.specs.cluster_core.Effects.{begins}
use Rattle.cluster_laws.specs.cluster_core.Marks.{mark_of}
use Rattle.cluster_laws.specs.cluster_core.Runs.{IsApartRun}
use Rattle.cluster_laws.specs.cluster_core.Settings.{Setting, IsSetting}
use Rattle.cluster_laws.specs.cluster_core.Snapshots.{IsConsistent}
use Rattle.cluster_laws.specs.cluster_core.Worlds.{World}
use Rattle.cluster_laws.proofs.cluster_core.Basics.{set_at-cases}
use Rattle.cluster_laws.specs.cluster_cuts.Goings.{AreUpdatesFrom, IsByOwner, IsOfVertexBelow, StaysSo, UpdatesOne, BeginsOne, IsOneStep, GoesOn}
use Rattle.cluster_laws.proofs.cluster_cuts.CutLists.{cuts_nest}
use Rattle.cluster_laws.proofs.cluster_cuts.CutsKept.{one_step}

pred_none : (n : ℕ) → n ≡ n + 0
pred_none n = omega arith

module _ (st : Setting) (is : IsSetting st) (w : World) (kept : IsConsistent st w) (new : World) where
  stays_goes : (next : IsConsistent st new) → StaysSo st w kept new next → GoesOn st w kept new
  stays_goes next stays =
      record {
        next = next;
        rest = [];
        order = stays.order ∙ sym (append-nil kept.order);
        begun = le_of_eq (sym stays.begun);
        rises = λ v within begun. le_of_eq (ap (λ (f : ℕ → ℕ). f v) (sym stays.count));
        tickets = tt;
        drawn = stays.drawn ∙ pred_none w.next;
        owners = tt;
        vertices = tt;
      }

  updates_goes : (next : IsConsistent st new) → UpdatesOne st w kept new next → GoesOn st w kept new
  updates_goes next one =
      record {
        next = next;
        rest = Go one.machine (record { 0 = one.vertex }) w.next ∷ [];
        order = one.order;
        begun = le_of_eq (sym one.begun);
        rises = λ v within begun. ⊎_elim
            (λ (less : mark_of st w one.vertex < w.begun).
            let more = (one.inside begun less).0 in
            subst (λ (f : ℕ → ℕ). kept.count v ≤ f v) (sym more)
            (set_at-cases (λ n. kept.count v ≤ n) kept.count one.vertex (suc (kept.count one.vertex)) v
            (λ same. subst (λ x. kept.count x ≤ suc (kept.count one.vertex)) (sym same) (le_of_lt (lt-suc_self (kept.count one.vertex))))
            (λ other. le_refl (kept.count v))))
            (λ (high : w.begun ≤ mark_of st w one.vertex).
            let low : mark_of st w one.vertex ≤ w.begun = le_trans (kept.marks.marks one.vertex one.within).1 (kept.marks.known (st.owner one.vertex) (is.owner one.vertex one.within)).1 in
            le_of_eq (ap (λ (f : ℕ → ℕ). f v) (sym (one.outside begun (le_antisymm low high)).0)))
            (cases_lt (mark_of st w one.vertex) w.begun);
        tickets = (refl, tt);
        drawn = one.drawn ∙ (omega arith);
        owners = (sym one.owned, tt);
        vertices = (one.within, tt);
      }

  begins_goes : (next : IsConsistent st new) → BeginsOne st w kept new next → GoesOn st w kept new
  begins_goes next begins =
      record {
        next = next;
        rest = [];
        order = begins.order ∙ sym (append-nil kept.order);
        begun = subst (λ n. w.begun ≤ n) (sym begins.begun) (le_of_lt (lt-suc_self w.begun));
        rises = λ v within begun. subst (λ n. kept.count v ≤ n) (sym (begins.count v)) ((kept.cut begun).few v within);
        tickets = tt;
        drawn = begins.drawn ∙ pred_none w.next;
        owners = tt;
        vertices = tt;
      }

  pub step_goes : IsOneStep st w kept new → GoesOn st w kept new
  step_goes step = ⊎_elim
      (λ (stays : StaysSo st w kept new step.next). stays_goes step.next stays)
      (λ (other : UpdatesOne st w kept new step.next ⊎ BeginsOne st w kept new step.next). ⊎_elim
      (λ (one : UpdatesOne st w kept new step.next). updates_goes step.next one)
      (λ (begins : BeginsOne st w kept new step.next). begins_goes step.next begins)
      other)
      step.how

pub updates_from-append : (next : ℕ) (one more : List Entry) → AreUpdatesFrom next one → AreUpdatesFrom (next + length one) more → AreUpdatesFrom next (one ++ more)
updates_from-append next [] more first rest = subst (λ n. AreUpdatesFrom n more) (sym (pred_none next)) rest
updates_from-append next (Restart ticket ∷ one) more first rest = absurd first
updates_from-append next (Go machine vertex ticket ∷ one) more first rest =
    let next_is : next + suc (length one) ≡ suc next + length one = omega arith in
    (first.0, updates_from-append (suc next) one more first.1 (subst (λ n. AreUpdatesFrom n more) next_is rest))

pub goes_not : (st : Setting) (w : World) (kept : IsConsistent st w) → GoesOn st w kept w
goes_not st w kept =
    record {
      next = kept;
      rest = [];
      order = sym (append-nil kept.order);
      begun = le_refl w.begun;
      rises = λ v within begun. le_refl (kept.count v);
      tickets = tt;
      drawn = pred_none w.next;
      owners = tt;
      vertices = tt;
    }

pub sum_of : (a b c x y : ℕ) → b ≡ a + x → c ≡ b + y → c ≡ a + (x + y)
sum_of a b c x y one other = omega arith

abbrev pub goes_then : (st : Setting) (a b c : World) (kept : IsConsistent st a) (one : GoesOn st a kept b) → GoesOn st b one.next c → GoesOn st a kept c
goes_then st a b c kept one other =
    record {
      next = other.next;
      rest = one.rest ++ other.rest;
      order = other.order ∙ ap (λ es. es ++ other.rest) one.order ∙ append_assoc kept.order one.rest other.rest;
      begun = le_trans one.begun other.begun;
      rises = λ v within begun. le_trans (one.rises v within begun) (other.rises v within (lt_of_lt_of_le begun one.begun));
      tickets = updates_from-append a.next one.rest other.rest one.tickets (subst (λ n. AreUpdatesFrom n other.rest) one.drawn other.tickets);
      drawn = sum_of a.next b.next c.next (length one.rest) (length other.rest) one.drawn other.drawn ∙ ap (λ n. a.next + n) (sym (length-append one.rest other.rest));
      owners = each-append (IsByOwner st.owner) one.rest other.rest one.owners other.owners;
      vertices = each-append (IsOfVertexBelow (size st.graph)) one.rest other.rest one.vertices other.vertices;
    }

pub run_goes : (st : Setting) → IsSetting st → (actions : List Action) (old new : World) (kept : IsConsistent st old) → IsApartRun st old actions new → GoesOn st old kept new
run_goes st is [] old new kept run = subst (GoesOn st old kept) (sym run) (goes_not st old kept)
run_goes st is (action ∷ actions) old new kept run =
    let mid : World = after st old action in
    let one = step_goes st is old kept mid (one_step st is old kept run.0 action run.1) in
    goes_then st old mid new kept one (run_goes st is actions mid new one.next run.2)

-- a later cut begins, at each vertex, with the updates of an earlier one
pub cuts_grow : (st : Setting) (old new : World) (kept : IsConsistent st old) (gone : GoesOn st old kept new) → st.base < old.begun → (v : ℕ) → v < size st.graph →
    Begins (updates_at v (cut_of kept.count kept.order)) (updates_at v (cut_of gone.next.count gone.next.order))
cuts_grow st old new kept gone begun v within =
    subst (λ es. Begins (updates_at v (cut_of kept.count kept.order)) (updates_at v (cut_of gone.next.count es))) (sym gone.order)
    (cuts_nest kept.order gone.rest kept.count gone.next.count v ((kept.cut begun).few v within) (gone.rises v within begun))
