-- Where the waves have shown the end, the coordinator knows whether its snapshots have all updates.
use Rattle.std.proofs.Common.{◌≡◌, ℕ, ◌+◌, ◌<◌, ◌≤◌, Option, None, Some, List, length, sum_by, slice_index_or, IsPermutation, refl, sym, ◌∙◌, ap, subst, arith}
use Rattle.std.specs.List.{AllByRecursion}
use Rattle.std.proofs.lemmas.List.{length-map}
use Rattle.std.proofs.lemmas.List.Elements.{All-get_or}
use Rattle.std.proofs.lemmas.List.Sorted.{length_permutation}
use Rattle.gl_base.specs.declared.entries.Entry.{Entry}
use Rattle.gl_base.specs.declared.scopes.Counted.{Counted}
use Rattle.cluster_laws.specs.cluster_core.Replays.{entries_of}
use Rattle.cluster_laws.specs.cluster_core.Settings.{IsSetting, Setting}
use Rattle.whole_laws.specs.cluster_ending.Watched.{IsWatched, Watch}
use Rattle.whole_laws.proofs.cluster_ending.Finding as finding
use Rattle.cluster_laws.specs.cluster_model.Clusters.{Cluster}
use Rattle.cluster_laws.specs.cluster_model.Events.{entries_in_all}
use Rattle.cluster_laws.specs.cluster_model.Leading.{HasSeenTheEnd, HoldsAll, entries_in, updates_told}
use Rattle.cluster_laws.specs.cluster_model.Totals.{total}
use Rattle.cluster_laws.specs.cluster_model.TwoWaves.{IsIdleAnswer}
use Rattle.whole_laws.specs.cluster_whole.Logged.{Logged, all_entries, entries_to}
use Rattle.whole_laws.specs.cluster_whole.Whole.{IsWhole}
use Rattle.whole_laws.proofs.cluster_whole.Flows.{total_from-same}
use Rattle.whole_laws.specs.cluster_records.Recorded.{IsAccounted}
use Rattle.whole_laws.proofs.cluster_records.Filtering.{all_up_to}
use Rattle.whole_laws.proofs.cluster_records.Fronts.{all_held, all_long, logs_long}
use Rattle.whole_laws.proofs.cluster_records.Gathering.{all_gathered}
use Rattle.whole_laws.proofs.cluster_records.Recording.{all_new}

some_told : (o : Option Counted) → IsIdleAnswer o → (x : Counted) × (o ≡ Some x)
some_told None idle = absurd idle
some_told (Some x) idle = (x, refl)

in_range : (a n : ℕ) → a < 0 + n → a < n
in_range a n low = omega arith

module _ (st : Setting) (is : IsSetting st) (c : Cluster) (whole : IsWhole st c) (logged : List Logged) (account : IsAccounted st c whole logged) where
  abbrev held : List Entry
  held = entries_to c.coordinator.acknowledged logged

  logs_many : total st.machines (λ a. length (c.machine a).part.log) ≡ length logged
  logs_many = (λ i. total st.machines (λ a. length ((whole.consistent.replay.logs a ∙ ap (entries_of a) account.order.order) i))) ∙ logs_long st is logged account.since

  held_many : length held ≡ entries_in st c.coordinator
  held_many =
      let all : List Entry = entries_in_all st c.coordinator.snapshots in
      let gathered : IsPermutation all held =
      all_gathered st is logged account.since c.coordinator.acknowledged c.coordinator.snapshots account.records.numbered (all_new st logged c.coordinator.snapshots account.records.good) in
      length_permutation all held gathered ∙ all_long st c.coordinator.snapshots

  module _ (watch : Watch) (was : IsWatched st c watch) (end : HasSeenTheEnd c.coordinator) where
    abbrev wave : List (Option Counted)
    wave = c.coordinator.rounds.counting.waves.wave

    -- what machines told is what they have made
    pub told_many : sum_by updates_told wave ≡ length logged
    told_many =
        finding.summed st c watch was end updates_told wave was.many
        ∙ total_from-same 0 st.machines (λ a. length (c.machine a).part.log) (λ a. updates_told (slice_index_or wave a None))
        (λ a from to.
        let low : a < st.machines = in_range a st.machines to in
        let some = some_told (slice_index_or wave a None) (All-get_or IsIdleAnswer wave a None (subst (λ (n : ℕ). a < n) (sym was.many) low) end.shown.idle) in
        ap updates_told some.1 ∙ sym (finding.updates_told st c watch was end a some.0 low some.1))
        ∙ logs_many

    -- where the snapshots have all, they have as many
    pub holds_if : held ≡ all_entries logged → HoldsAll st c.coordinator
    holds_if full = told_many ∙ sym (sym held_many ∙ ap (λ (es : List Entry). length es) full ∙ length-map logged (λ (l : Logged). l.entry))

    -- so where each update is of an acknowledged snapshot
    pub holds_all : AllByRecursion (λ l. l.number ≤ c.coordinator.acknowledged) logged → HoldsAll st c.coordinator
    holds_all all = holds_if (all_up_to c.coordinator.acknowledged logged all)

    -- and where they have as many, they have all
    pub holds_only : HoldsAll st c.coordinator → held ≡ all_entries logged
    holds_only full = all_held c.coordinator.acknowledged logged (held_many ∙ sym full ∙ told_many)
