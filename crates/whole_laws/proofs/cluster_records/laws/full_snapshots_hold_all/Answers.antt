-- As many as there are, are all.
use Rattle.std.proofs.Common.{◌≡◌, ◌∙◌, sym, ap, subst, length, List, IsPermutation}
use Rattle.std.proofs.lemmas.List.Sorted.{length_permutation}
use Rattle.gl_base.specs.declared.entries.Entry.{Entry}
use Rattle.cluster_laws.specs.cluster_core.Replays.{entries_of}
use Rattle.cluster_laws.specs.cluster_model.Events.{entries_in_all}
use Rattle.cluster_laws.specs.cluster_model.Totals.{total}
use Rattle.whole_laws.specs.cluster_whole.Logged.{entries_to}
use Rattle.whole_laws.proofs.cluster_records.Fronts.{all_held, all_long, logs_long}
use Rattle.whole_laws.proofs.cluster_records.Gathering.{all_gathered}
use Rattle.whole_laws.proofs.cluster_records.Recording.{all_new}
use Rattle.whole_laws.proofs.cluster_records.laws.full_snapshots_hold_all.Goals as goal

pub returns : goal.returns
returns c = λ st cluster whole logged is account full.
    let all : List Entry = entries_in_all st cluster.coordinator.snapshots in
    let held : List Entry = entries_to cluster.coordinator.acknowledged logged in
    let gathered : IsPermutation all held = all_gathered st is logged account.since cluster.coordinator.acknowledged cluster.coordinator.snapshots account.records.numbered (all_new st logged cluster.coordinator.snapshots account.records.good) in
    let logs : total st.machines (λ a. length (cluster.machine a).part.log) ≡ length logged =
    (λ i. total st.machines (λ a. length ((whole.consistent.replay.logs a ∙ ap (entries_of a) account.order.order) i))) ∙ logs_long st is logged account.since in
    let many : length held ≡ length logged = length_permutation all held gathered ∙ all_long st cluster.coordinator.snapshots ∙ full ∙ logs in
    let same : held ≡ whole.consistent.order = all_held cluster.coordinator.acknowledged logged many ∙ sym account.order.order in
    (same, subst (IsPermutation all) same gathered)
