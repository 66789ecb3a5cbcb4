-- What waits is counted with what has left.
use Rattle.std.proofs.Common.{refl, suc, ◌+◌}
use Rattle.cluster_laws.specs.cluster_model.Totals.{total}
use Rattle.snapshot_machines.specs.wave_counts.Counts.{gained, hands}
use Rattle.snapshot_machines.proofs.wave_counts.CountLemmas.{counts_put_out, counts_received, counts_sent, nothing_counted, total_from-nothing}
use Rattle.snapshot_machines.proofs.wave_counts.laws.counts_follow_events.Goals as goal

pub returns-clause-put_out : goal.returns-clause-put_out
returns-clause-put_out c = λ st w m part is longer. counts_put_out st w m (record m { part = part; sent = m.sent + gained st m.part part }) is longer refl refl refl

pub returns-clause-sent : goal.returns-clause-sent
returns-clause-sent c = λ st w m q message behind is low first. counts_sent st w m (hands q behind m) is q message behind low first refl refl refl refl

pub returns-clause-received : goal.returns-clause-received
returns-clause-received c = λ st w m is. counts_received st w m (record m { received = suc m.received }) is refl refl refl refl

pub returns-clause-begun : goal.returns-clause-begun
returns-clause-begun c = λ st numbers base a m. record { sent = λ fits. nothing_counted (total st.machines (λ q. 0)) (total_from-nothing 0 st.machines (λ q. 0) (λ q. refl)); received = λ fits. refl; held = refl }
