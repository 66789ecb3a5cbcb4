-- The record of the sections that have come is that of the snapshot under way.
use Rattle.std.proofs.Common.{◌≡◌, ℕ, suc, zero, ◌<◌, ◌≤◌, ◌++◌, true, Option, None, Some, List, length, refl, sym, ap, arith, subst, ◌∙◌}
use Rattle.std.specs.Prelude.{is_some, slice_index_or}
use Rattle.std.specs.List.Sorted.{IsPermutation}
use Rattle.gl_base.specs.declared.entries.Entry.{Entry}
use Rattle.gl_base.specs.declared.snapshots.Record.{Record}
use Rattle.gl_base.specs.declared.snapshots.SavedPart.{SavedPart}
use Rattle.cluster_laws.specs.cluster_core.Settings.{Setting}
use Rattle.cluster_laws.specs.cluster_model.Events as law
use Rattle.cluster_laws.specs.cluster_model.Leading.{Come, Coordinator, come_or}
use Rattle.coordinator.specs.coord_core.Calls.{IsRecordFor, IsSavedPart, snapshot_come}
use Rattle.coordinator.specs.coord_core.Coordinators.{IsComeOf, IsSavingOf}
use Rattle.coordinator.specs.coord_core.Inner.Kept.{IsSavingKept}
use Rattle.coordinator.specs.coord_core.Records.{IsPartOfRecord, IsRecordOf, entries_upto}
use Rattle.coordinator.specs.coord_core.Saving.{IsApartWhereCome, IsRecordDue, SavingView, SectionView, come_at}
use Rattle.coordinator.proofs.coord_core.SavedLemmas.{rising, same_edges, same_vertices}
use Rattle.coordinator.proofs.coord_core.SavingLemmas.{entries_same}

saved_part : (told : Option SectionView) (come : Option Come) (part : SavedPart) → IsComeOf told come → is_some told ≡ true → IsApartWhereCome told → IsPartOfRecord told part →
    IsSavedPart (come_or come).section part
saved_part None come part of is apart has = absurd (cc)
saved_part (Some section) None part of is apart has = absurd of
saved_part (Some section) (Some come) part of is apart has =
    record {
      saved = record {
        vertices = λ v. of.saved.vertices v ∙ same_vertices section.vertices part.vertices.items v has.vertices apart.vertices;
        edges = λ e. of.saved.edges e ∙ same_edges section.edges part.edges.items e has.edges apart.edges;
      };
      by_vertex = rising (λ pair. pair.0.0) section.vertices part.vertices.items has.vertices apart.vertices has.by_vertex;
      by_edge = rising (λ pair. pair.0.0) section.edges part.edges.items has.edges apart.edges has.by_edge;
    }

lower : (a n : ℕ) → suc a ≤ n → a ≤ n
lower a n low = omega arith

le_all : (n : ℕ) → n ≤ n
le_all n = omega arith

module _ (st : Setting) (s : SavingView) (c : Coordinator) (of : IsSavingOf st s c) where
  upto_same : (n : ℕ) → n ≤ st.machines → law.entries_below n (snapshot_come c) ≡ entries_upto n s.come
  upto_same zero low = refl
  upto_same (suc a) low = λ i. upto_same a (lower a st.machines low) i ++ entries_same (come_at s.come a) (c.come a) (of.come a low) i

  pub record_for : (made : Record) → IsSavingKept s → IsRecordDue s → IsRecordOf s made → IsRecordFor st (snapshot_come c) made
  record_for made kept due has =
      let all : law.entries_below st.machines (snapshot_come c) ≡ entries_upto (length s.come) s.come =
      upto_same st.machines (le_all st.machines) ∙ ap (λ (n : ℕ). entries_upto n s.come) (sym of.machines)
      in
      record {
        number = has.number ∙ sym of.begun;
        machines = has.parts.0 ∙ of.machines;
        parts = λ a d low.
            let inside : a < length s.come = subst (λ (n : ℕ). a < n) (sym of.machines) low in
            saved_part (come_at s.come a) (c.come a) (slice_index_or made.sections.items a d) (of.come a low) (due.sections a inside) (kept.apart a) (has.parts.1 a d inside);
        entries = subst (λ (entries : List Entry). IsPermutation entries made.entries.items) (sym all) has.entries;
        by_ticket = has.by_ticket;
      }
