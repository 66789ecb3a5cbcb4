-- The numbers and tasks are those of the order.
use Rattle.whole_laws.proofs.cluster_whole.laws.whole_clusters_are_serial.Goals as goal

pub returns-clause-order : goal.returns-clause-order
returns-clause-order c = λ st cluster whole. let replay = whole.consistent.replay in (whole.consistent.order, replay.valid, replay.logs, replay.numbers, replay.tasks)

pub returns-clause-windows : goal.returns-clause-windows
returns-clause-windows c = λ st cluster a whole stored. (whole.within a).window stored
