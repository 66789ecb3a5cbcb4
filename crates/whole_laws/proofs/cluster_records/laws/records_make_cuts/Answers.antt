-- Snapshot by snapshot.
use Rattle.std.proofs.Common.{sym, subst, lt_of_le_of_lt, List, IsPermutation}
use Rattle.gl_base.specs.declared.entries.Entry.{Entry}
use Rattle.cluster_laws.specs.cluster_model.Events.{entries_in_all}
use Rattle.cluster_laws.specs.cluster_model.Leading.{acknowledges}
use Rattle.whole_laws.proofs.cluster_records.Fronts.{later_begins}
use Rattle.whole_laws.proofs.cluster_records.Gathering.{all_gathered}
use Rattle.whole_laws.proofs.cluster_records.Recording.{all_new, due_good, next_number, one_recorded}
use Rattle.whole_laws.proofs.cluster_records.laws.records_make_cuts.Goals as goal

pub returns-clause-updates : goal.returns-clause-updates
returns-clause-updates c = λ st cluster whole logged is account.
    all_gathered st is logged account.since cluster.coordinator.acknowledged cluster.coordinator.snapshots account.records.numbered
    (all_new st logged cluster.coordinator.snapshots account.records.good)

pub returns-clause-record : goal.returns-clause-record
returns-clause-record c = λ st cluster whole logged is account due.
    let longer = acknowledges st cluster.coordinator in
    let records = one_recorded st is cluster whole logged account.records account.order account.sections due in (
      next_number st is cluster whole due,
      due_good st is cluster whole logged account.records account.order account.sections due,
      subst (λ (es : List Entry). IsPermutation (entries_in_all st longer.snapshots) es)
          (sym (account.order.cut (lt_of_le_of_lt whole.consistent.marks.base due.under)))
          (all_gathered st is logged account.since longer.acknowledged longer.snapshots records.numbered (all_new st logged longer.snapshots records.good)),
    )

pub returns-clause-begins : goal.returns-clause-begins
returns-clause-begins c = λ st cluster whole logged one other v account good better low. later_begins v one.number other.number logged low (good.first v) (better.first v)
