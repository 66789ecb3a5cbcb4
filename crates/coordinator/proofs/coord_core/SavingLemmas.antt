-- What the coordinator knows of snapshots, as the law's coordinator has it.
use Rattle.std.proofs.Common.{◌≡◌, ℕ, suc, zero, ◌+◌, ◌*◌, ◌<◌, ◌≤◌, ◌==◌, ◌||◌, ◌++◌, Bool, true, inl, inr, Option, None, Some, List, [], ◌∷◌, length, replicate, refl, sym, ap, arith, add-one, subst, ◌∙◌, get_or-set_same, get_or-set_other}
use Rattle.std.specs.Prelude.{◌↔◌, is_some, slice_set, sum_by}
use Rattle.std.proofs.lemmas.Bool.{cases_Bool, cases_eq}
use Rattle.std.proofs.lemmas.List.{get_or-replicate, length-replicate, length-set}
use Rattle.std.proofs.lemmas.List.Sums.{sum_by-append}
use Rattle.cluster_laws.proofs.cluster_core.Basics.{set_at-other, set_at-same}
use Rattle.cluster_laws.specs.cluster_core.Ranges.{set_at}
use Rattle.cluster_laws.specs.cluster_core.Settings.{Setting}
use Rattle.cluster_laws.specs.cluster_model.Leading.{Come, Coordinator, HasSeenTheEnd, HasStoreRoom, RecordIsDue, Snapshot, SnapshotIsDue, acknowledges, begins_snapshot, come_or, entries_held, entries_in, first_coordinator, record_length, updates_told}
use Rattle.graph_core.specs.DataGraph.{size}
use Rattle.cluster_laws.specs.cluster_model.Totals.{total, total_from}
use Rattle.coordinator.specs.coord_core.Calls.{HasShownIt}
use Rattle.coordinator.specs.coord_core.Coordinators.{Counting, CoordinatorView, IsComeAs, IsComeOf, IsCoordinatorOf, IsSavingOf}
use Rattle.coordinator.specs.coord_core.Inner.Kept.{IsSavingKept}
use Rattle.coordinator.specs.coord_core.Inner.Seen.{HasShownTheEnd, WantsSnapshot}
use Rattle.coordinator.specs.coord_core.Saving.{HasRoomForRecord, IsRecordDue, IsSnapshotDue, SavingView, SectionView, StoreView, come_at, entries_come, entries_told, saved_length, saved_before, with_acknowledged, saving_begun, saving_section, with_want}

-- ---- sections

come_some : (told : Option SectionView) (come : Option Come) → IsComeOf told come → is_some told ≡ true → (x : Come) × (come ≡ Some x)
come_some None come of is = absurd (cc)
come_some (Some section) None of is = absurd of
come_some (Some section) (Some x) of is = (x, refl)

told_some : (told : Option SectionView) (come : Option Come) (x : Come) → IsComeOf told come → come ≡ Some x → is_some told ≡ true
told_some None come x of is = absurd (let e : None ≡ Some x = sym of ∙ is in cc)
told_some (Some section) come x of is = refl

pub entries_same : (told : Option SectionView) (come : Option Come) → IsComeOf told come → (come_or come).entries ≡ entries_told told
entries_same None come of = ap (λ (o : Option Come). (come_or o).entries) of
entries_same (Some section) None of = absurd of
entries_same (Some section) (Some come) of = of.entries

low_start : (k many : ℕ) → k < k + suc many
low_start k many = omega arith

low_next : (k a : ℕ) → suc k ≤ a → k ≤ a
low_next k a low = omega arith

high_next : (k many a : ℕ) → a < suc k + many → a < k + suc many
high_next k many a high = omega arith

le_self : (k : ℕ) → k ≤ k
le_self k = omega arith

pub total_alike : (k many : ℕ) (f g : ℕ → ℕ) → ((a : ℕ) → k ≤ a → a < k + many → f a ≡ g a) → total_from k many f ≡ total_from k many g
unfolding total_from
total_alike k zero f g same = refl
total_alike k (suc many) f g same =
    λ i. same k (le_self k) (low_start k many) i + total_alike (suc k) many f g (λ a low high. same a (low_next k a low) (high_next k many a high)) i

joined : (x y z k many : ℕ) (f : ℕ → ℕ) → x ≡ f k → y ≡ z + f (suc k + many) → x + y ≡ (f k + z) + f (k + suc many)
joined x y z k many f one rest = let at : f (suc k + many) ≡ f (k + suc many) = ap f (omega arith) in omega arith

pub total_last : (k many : ℕ) (f : ℕ → ℕ) → total_from k (suc many) f ≡ total_from k many f + f (k + many)
unfolding total_from
total_last k zero f = let at : f (k + 0) ≡ f k = ap f (omega arith) in omega arith
total_last k (suc many) f = joined (f k) (total_from (suc k) (suc many) f) (total_from (suc k) many f) k many f refl (total_last (suc k) many f)

from_zero : (a n : ℕ) → a < 0 + n → a < n
from_zero a n low = omega arith

module _ (st : Setting) (s : SavingView) (c : Coordinator) (of : IsSavingOf st s c) where
  pub totals : total st.machines (λ a. length (come_or (c.come a)).entries) ≡ entries_come (length s.come) s.come
  totals =
      total_alike 0 st.machines (λ a. length (come_or (c.come a)).entries) (λ a. length (entries_told (come_at s.come a)))
      (λ a low high. ap length (entries_same (come_at s.come a) (c.come a) (of.come a (from_zero a st.machines high))))
      ∙ ap (λ (n : ℕ). entries_come n s.come) (sym of.machines)

  pub sizes : record_length st (λ a. come_or (c.come a)) ≡ saved_length s
  sizes = λ i. 8 + 16 * totals i + 8 * sym of.machines i + 12 * of.vertices i + 12 * of.edges i + 9

  pub law_due : IsRecordDue s → RecordIsDue st c
  law_due due = record {
    under = subst (λ (n : ℕ). n < c.begun) (sym of.acknowledged) (subst (λ (n : ℕ). s.acknowledged < n) (sym of.begun) due.under);
    sections = λ a low.
        let inside : a < length s.come = subst (λ (n : ℕ). a < n) (sym of.machines) low in
        come_some (come_at s.come a) (c.come a) (of.come a low) (due.sections a inside);
  }

  pub own_due : s.stored ≡ true → RecordIsDue st c → IsRecordDue s
  own_due stored due = record {
    stored = stored;
    under = subst (λ (n : ℕ). n < s.begun) of.acknowledged (subst (λ (n : ℕ). c.acknowledged < n) of.begun due.under);
    sections = λ a inside.
        let low : a < st.machines = subst (λ (n : ℕ). a < n) of.machines inside in
        let has = due.sections a low in
        told_some (come_at s.come a) (c.come a) has.0 (of.come a low) has.1;
  }

  pub law_room : HasRoomForRecord s → HasStoreRoom st c
  law_room room = record {
    few = subst (λ (n : ℕ). n < 4096) (sym of.acknowledged) room.few;
    short = subst (λ (n : ℕ). n ≤ 1073741824) (λ i. sym of.store_end i + sym sizes i) room.short;
  }

  pub own_room : HasStoreRoom st c → HasRoomForRecord s
  own_room room = record {
    few = subst (λ (n : ℕ). n < 4096) of.acknowledged room.few;
    short = subst (λ (n : ℕ). n ≤ 1073741824) (λ i. of.store_end i + sizes i) room.short;
  }

  -- ---- what changes it

  pub begun_of : IsSavingOf st (saving_begun s) (begins_snapshot c)
  begun_of = record {
    vertices = of.vertices;
    edges = of.edges;
    begun = ap suc of.begun ∙ sym (add-one s.begun);
    acknowledged = of.acknowledged;
    machines = of.machines;
    come = of.come;
    wanted = of.wanted;
    entries = of.entries;
    first = of.first;
    store_end = of.store_end;
  }

  last_sum : (snapshot : Snapshot) → sum_by (entries_held st) (snapshot ∷ []) ≡ entries_held st snapshot
  last_sum snapshot = omega arith

  none_last : {X : Type 0} (xs : List X) (x : X) → xs ++ x ∷ [] ≡ [] → ⊥
  none_last [] x is = cc
  none_last (y ∷ xs) x is = cc

  pub acknowledged_of : IsSavingOf st (with_acknowledged s) (acknowledges st c)
  acknowledged_of =
      let snapshot : Snapshot = record { number = c.begun; sections = λ a. come_or (c.come a) } in
      record {
        vertices = of.vertices;
        edges = of.edges;
        begun = of.begun;
        acknowledged = of.begun;
        machines = length-replicate (length s.come) None ∙ of.machines;
        come = λ a low.
            let inside : a < length s.come = subst (λ (n : ℕ). a < n) (sym of.machines) low in
            let none : come_at (replicate (length s.come) None) a ≡ None = get_or-replicate (length s.come) a None None inside in
            subst (λ (told : Option SectionView). IsComeOf told None) (sym none) refl;
        wanted = refl;
        entries =
            sum_by-append (entries_held st) c.snapshots (snapshot ∷ []) ∙ ap (λ (n : ℕ). entries_in st c + n) (last_sum snapshot)
            ∙ (λ i. of.entries i + totals i);
        first = (λ is. absurd (none_last c.snapshots snapshot is), λ is. absurd (cc));
        store_end = λ i. of.store_end i + sizes i;
      }

  pub section_of : (a : ℕ) (section : SectionView) (come : Come) → a < st.machines → IsComeAs section come →
      IsSavingOf st (saving_section a section s) (record c { come = set_at c.come a (Some come) })
  section_of a section come low is = record {
    vertices = of.vertices;
    edges = of.edges;
    begun = of.begun;
    acknowledged = of.acknowledged;
    machines = length-set s.come a (Some section) ∙ of.machines;
    come = λ b low_b. elim (cases_eq b a) [
      | inl same ↦
          let inside : a < length s.come = subst (λ (n : ℕ). a < n) (sym of.machines) low in
          subst (λ (k : ℕ). IsComeOf (come_at (slice_set s.come a (Some section)) k) (set_at c.come a (Some come) k)) (sym same)
          (subst (λ (told : Option SectionView). IsComeOf told (set_at c.come a (Some come) a)) (sym (get_or-set_same s.come a (Some section) None inside))
          (subst (IsComeOf (Some section)) (sym (set_at-same c.come a (Some come))) is))
      | inr other ↦
          subst (λ (told : Option SectionView). IsComeOf told (set_at c.come a (Some come) b)) (sym (get_or-set_other s.come a b (Some section) None other))
          (subst (IsComeOf (come_at s.come b)) (sym (set_at-other c.come a (Some come) b other)) (of.come b low_b))
    ];
    wanted = of.wanted;
    entries = of.entries;
    first = of.first;
    store_end = of.store_end;
  }

  pub want_of : (k : ℕ) → IsSavingOf st (with_want k s) (record c { wanted = c.wanted || k == c.acknowledged })
  want_of k = record {
    vertices = of.vertices;
    edges = of.edges;
    begun = of.begun;
    acknowledged = of.acknowledged;
    machines = of.machines;
    come = of.come;
    wanted = λ i. of.wanted i || k == of.acknowledged i;
    entries = of.entries;
    first = of.first;
    store_end = of.store_end;
  }

-- only other things change
pub saving_stays : (st : Setting) (s : SavingView) (old new : Coordinator) → new.begun ≡ old.begun → new.acknowledged ≡ old.acknowledged → new.come ≡ old.come →
    new.wanted ≡ old.wanted → new.snapshots ≡ old.snapshots → new.store_end ≡ old.store_end → IsSavingOf st s old → IsSavingOf st s new
saving_stays st s old new begun acknowledged come wanted snapshots store_end of = record {
  vertices = of.vertices;
  edges = of.edges;
  begun = begun ∙ of.begun;
  acknowledged = acknowledged ∙ of.acknowledged;
  machines = of.machines;
  come = λ a low. subst (λ (f : ℕ → Option Come). IsComeOf (come_at s.come a) (f a)) (sym come) (of.come a low);
  wanted = wanted ∙ of.wanted;
  entries = ap (sum_by (entries_held st)) snapshots ∙ of.entries;
  first = (λ is. of.first.0 (sym snapshots ∙ is), λ is. snapshots ∙ of.first.1 is);
  store_end = store_end ∙ of.store_end;
}

-- ---- at first

pub first_saving : (st : Setting) (machines : ℕ) (store : StoreView) → st.machines ≡ machines → size st.graph ≡ store.vertices → length st.graph.edges ≡ store.edges →
    IsSavingOf st (saved_before machines store) (first_coordinator st store.newest store.store_end)
first_saving st machines store same vertices edges = record {
  vertices = vertices;
  edges = edges;
  begun = refl;
  acknowledged = refl;
  machines = length-replicate machines None ∙ sym same;
  come = λ a low.
      let inside : a < machines = subst (λ (n : ℕ). a < n) same low in
      subst (λ (told : Option SectionView). IsComeOf told None) (sym (get_or-replicate machines a None None inside)) refl;
  wanted = refl;
  entries = refl;
  first = (λ is. refl, λ is. refl);
  store_end = refl;
}

-- ---- what is due

seen : (x y : Counting) → x ≡ y → HasShownTheEnd x → HasShownTheEnd y
seen x y same has = subst HasShownTheEnd same has

-- what the coordinator has seen of the end, it has seen in the law
pub end_seen : (view : CoordinatorView) → HasShownTheEnd view.counting → HasShownIt view
end_seen view shown st c of =
    let has : HasShownTheEnd c.rounds.counting = seen view.counting c.rounds.counting (sym of.counting) shown in
    record { whole = has.whole; shown = has.shown }

module _ (view : CoordinatorView) (kept : IsSavingKept view.saving) (st : Setting) (c : Coordinator) (of : IsCoordinatorOf st view c) where
  is_stored : view.saving.stored ≡ true → IsSavingOf st view.saving c
  is_stored stored = of.saving (of.stored ∙ stored)

  not_same : (x y : ℕ) → x < y → x ≡ y → ⊥
  not_same x y less same = omega arith

  pub record_due : IsRecordDue view.saving → RecordIsDue st c
  record_due due = law_due st view.saving c (is_stored due.stored) due

  pub own_record_due : RecordIsDue st c → IsRecordDue view.saving
  own_record_due due = elim (cases_Bool view.saving.stored) [
    | inl stored ↦ own_due st view.saving c (is_stored stored) stored due
    | inr plain ↦ absurd (not_same c.acknowledged c.begun due.under (of.none (of.stored ∙ plain)))
  ]

  pub stored_where_due : IsRecordDue view.saving → st.stored ≡ true
  stored_where_due due = of.stored ∙ due.stored

  pub may_record : IsRecordDue view.saving → HasRoomForRecord view.saving → HasStoreRoom st c
  may_record due room = law_room st view.saving c (of.saving (stored_where_due due)) room

  pub own_may_record : RecordIsDue st c → HasStoreRoom st c → HasRoomForRecord view.saving
  own_may_record due room = own_room st view.saving c (of.saving (stored_where_due (own_record_due due))) room

  pub settled : view.saving.acknowledged ≡ view.saving.begun → c.acknowledged ≡ c.begun
  settled is = elim (cases_Bool view.saving.stored) [
    | inl stored ↦ (is_stored stored).acknowledged ∙ is ∙ sym (is_stored stored).begun
    | inr plain ↦ of.none (of.stored ∙ plain)
  ]

  pub own_settled : c.acknowledged ≡ c.begun → view.saving.acknowledged ≡ view.saving.begun
  own_settled is = elim (cases_Bool view.saving.stored) [
    | inl stored ↦ sym (is_stored stored).acknowledged ∙ is ∙ (is_stored stored).begun
    | inr plain ↦ kept.plain plain
  ]

  pub law_seen : HasShownTheEnd view.counting → HasSeenTheEnd c
  law_seen shown = end_seen view shown st c of

  pub own_seen : HasSeenTheEnd c → HasShownTheEnd view.counting
  own_seen has = seen c.rounds.counting view.counting of.counting (record { whole = has.whole; shown = has.shown })

  told_updates : sum_by updates_told c.rounds.counting.waves.wave ≡ sum_by updates_told view.counting.waves.wave
  told_updates = ap (λ (counting : Counting). sum_by updates_told counting.waves.wave) of.counting

  pub snapshot_due : WantsSnapshot view → SnapshotIsDue st c
  snapshot_due wants =
      let stored : st.stored ≡ true = of.stored ∙ wants.stored in
      let saving : IsSavingOf st view.saving c = of.saving stored in
      record {
        stored = stored;
        none = settled wants.none;
        wanted = elim wants.wanted [
          | inl wanted ↦ inl (saving.wanted ∙ wanted)
          | inr quiet ↦ inr (
            law_seen quiet.0,
            elim quiet.1 [
              | inl lacks ↦ inl (λ holds. lacks (sym told_updates ∙ holds ∙ saving.entries))
              | inr first ↦ inr (saving.first.1 first)
            ],
          )
        ];
      }

  pub own_snapshot_due : SnapshotIsDue st c → WantsSnapshot view
  own_snapshot_due due =
      let saving : IsSavingOf st view.saving c = of.saving due.stored in
      record {
        stored = sym of.stored ∙ due.stored;
        none = own_settled due.none;
        wanted = elim due.wanted [
          | inl wanted ↦ inl (sym saving.wanted ∙ wanted)
          | inr quiet ↦ inr (
            own_seen quiet.0,
            elim quiet.1 [
              | inl lacks ↦ inl (λ holds. lacks (told_updates ∙ holds ∙ sym saving.entries))
              | inr first ↦ inr (saving.first.0 first)
            ],
          )
        ];
      }

-- what is due by itself, and what it wants
pub wanted_where_due : (view : CoordinatorView) (quiet : Bool) → (quiet ≡ true) ↔ HasShownTheEnd view.counting →
    IsSnapshotDue view.saving quiet (sum_by updates_told view.counting.waves.wave) ↔ WantsSnapshot view
wanted_where_due view quiet shown = (
  (λ due. record {
    stored = due.stored;
    none = due.none;
    wanted = elim due.wanted [
      | inl wanted ↦ inl wanted
      | inr quiet_now ↦ inr (shown.0 quiet_now.0, quiet_now.1)
    ];
  }),
  (λ wants. record {
    stored = wants.stored;
    none = wants.none;
    wanted = elim wants.wanted [
      | inl wanted ↦ inl wanted
      | inr quiet_now ↦ inr (shown.1 quiet_now.0, quiet_now.1)
    ];
  }),
)
