-- What always holds of what the coordinator knows of snapshots stays so.
use Rattle.std.proofs.Common.{◌≡◌, ℕ, ◌+◌, ◌*◌, ◌^◌, ◌<◌, ◌≤◌, Bool, true, false, true≢false, inl, inr, Option, None, Some, List, length, replicate, refl, sym, ap, arith, subst, ◌∙◌, get_or-set_same, get_or-set_other}
use Rattle.std.specs.Prelude.{IsTrue, not, slice_set, ◌↔◌}
use Rattle.std.proofs.lemmas.Bool.{cases_Bool, cases_eq, cases_lt}
use Rattle.std.proofs.lemmas.List.{get_or-replicate, get_or_past, length-replicate, length-set}
use Rattle.cluster_laws.specs.cluster_model.Totals.{total_from}
use Rattle.coordinator.specs.coord_core.Inner.Kept.{IsSavingKept}
use Rattle.coordinator.specs.coord_core.Saving.{HasRoomForRecord, IsApart, IsApartWhereCome, IsRecordDue, SavingView, SectionView, StoreView, come_at, entries_come, saving_nothing, saved_length, saved_before, with_acknowledged, saving_begun, saving_section, with_want}

abbrev none_of : ℕ → List (Option SectionView)
none_of n = replicate n None

none_come : (n a : ℕ) → come_at (none_of n) a ≡ None
none_come n a = elim (cases_lt a n) [
  | inl inside ↦ get_or-replicate n a None None inside
  | inr outside ↦ get_or_past (none_of n) a None (subst (λ (k : ℕ). k ≤ a) (sym (length-replicate n None)) outside)
]

none_apart : (n a : ℕ) → IsApartWhereCome (come_at (none_of n) a)
none_apart n a = subst IsApartWhereCome (sym (none_come n a)) tt

many_none : (n : ℕ) → length (none_of n) ≡ n
many_none n = length-replicate n None

pub none_kept : (machines : ℕ) → machines < 65536 → IsSavingKept (saving_nothing machines)
none_kept machines few = record {
  near = omega arith;
  few = omega arith;
  plain = λ _. refl;
  fits = omega arith;
  short = omega arith;
  machines = subst (λ (n : ℕ). n < 65536) (sym (many_none machines)) few;
  lone = λ _. refl;
  first = λ _. refl;
  apart = none_apart machines;
}

pub first_kept : (machines : ℕ) (store : StoreView) → machines < 65536 → store.newest + 1 < 2 ^ 32 → store.store_end < 2 ^ 32 → IsSavingKept (saved_before machines store)
first_kept machines store few newest short = record {
  near = omega arith;
  few = newest;
  plain = λ _. refl;
  fits = omega arith;
  short = short;
  machines = subst (λ (n : ℕ). n < 65536) (sym (many_none machines)) few;
  lone = λ _. refl;
  first = λ _. refl;
  apart = none_apart machines;
}

pub begun_kept : (s : SavingView) → IsSavingKept s → s.stored ≡ true → s.acknowledged ≡ s.begun → IsSavingKept (saving_begun s)
begun_kept s kept stored none = record {
  near = omega arith;
  few = kept.few;
  plain = λ plain. absurd (let both : false ≡ true = sym plain ∙ stored in cc);
  fits = kept.fits;
  short = kept.short;
  machines = kept.machines;
  lone = kept.lone;
  first = kept.first;
  apart = kept.apart;
}

pub section_kept : (s : SavingView) (a : ℕ) (section : SectionView) → IsSavingKept s → a < length s.come → IsApart section → IsSavingKept (saving_section a section s)
section_kept s a section kept inside apart =
    let many : length (slice_set s.come a (Some section)) ≡ length s.come = length-set s.come a (Some section) in
    record {
      near = kept.near;
      few = kept.few;
      plain = kept.plain;
      fits = kept.fits;
      short = kept.short;
      machines = subst (λ (n : ℕ). n < 65536) (sym many) kept.machines;
      lone = λ none. kept.lone (sym many ∙ none);
      first = kept.first;
      apart = λ b. elim (cases_eq b a) [
        | inl same ↦
            subst (λ (k : ℕ). IsApartWhereCome (come_at (slice_set s.come a (Some section)) k)) (sym same)
            (subst IsApartWhereCome (sym (get_or-set_same s.come a (Some section) None inside)) apart)
        | inr other ↦ subst IsApartWhereCome (sym (get_or-set_other s.come a b (Some section) None other)) (kept.apart b)
      ];
    }

pub want_kept : (s : SavingView) (k : ℕ) → IsSavingKept s → IsSavingKept (with_want k s)
want_kept s k kept = record {
  near = kept.near;
  few = kept.few;
  plain = kept.plain;
  fits = kept.fits;
  short = kept.short;
  machines = kept.machines;
  lone = kept.lone;
  first = kept.first;
  apart = kept.apart;
}

none_entries : (come : List (Option SectionView)) → length come ≡ 0 → entries_come (length come) come ≡ 0
unfolding total_from
none_entries come none = ap (λ (n : ℕ). entries_come n come) none

pub acknowledged_kept : (s : SavingView) → IsSavingKept s → IsRecordDue s → HasRoomForRecord s → IsSavingKept (with_acknowledged s)
acknowledged_kept s kept due room =
    let many : length (none_of (length s.come)) ≡ length s.come = many_none (length s.come) in
    let within : s.store_end + saved_length s ≤ 1073741824 = room.short in
    let fits : 16 * s.entries ≤ s.store_end = kept.fits in
    record {
      near = omega arith;
      few = let near = kept.near in let few = room.few in omega arith;
      plain = λ _. refl;
      fits = omega arith;
      short = omega arith;
      machines = subst (λ (n : ℕ). n < 65536) (sym many) kept.machines;
      lone = λ none.
          let had : s.entries ≡ 0 = kept.lone (sym many ∙ none) in
          let more : entries_come (length s.come) s.come ≡ 0 = none_entries s.come (sym many ∙ none) in
          omega arith;
      first = λ none. absurd (cc);
      apart = none_apart (length s.come);
    }

-- ---- where one is under way

not_so : (r : Bool) → r ≡ true → IsTrue (not r) → ⊥
not_so true is off = true≢false (sym off)
not_so false is off = true≢false (sym is)

pub taken_where_under : (s : SavingView) → IsSavingKept s → (settled : Bool) → ((settled ≡ true) ↔ (s.acknowledged ≡ s.begun)) → IsTrue (not settled) → s.stored ≡ true
taken_where_under s kept settled is under = elim (cases_Bool s.stored) [
  | inl stored ↦ stored
  | inr plain ↦ absurd (not_so settled (is.1 (kept.plain plain)) under)
]
