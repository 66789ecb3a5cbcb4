-- Each action, computed.
use Rattle.cluster_laws.proofs.cluster_places.WorkedLocks.{setting, start, second_may, fourth_may, labels_then, held_then, not_now, at_last_may, labels_at_last}
use Rattle.cluster_laws.proofs.cluster_places.examples.locks_wait_for_news.Goals as goal

pub returns-clause-setting : goal.returns-clause-setting
returns-clause-setting c = setting

pub returns-clause-start : goal.returns-clause-start
returns-clause-start c = start

pub returns-clause-second_may : goal.returns-clause-second_may
returns-clause-second_may c = second_may

pub returns-clause-fourth_may : goal.returns-clause-fourth_may
returns-clause-fourth_may c = fourth_may

pub returns-clause-labels_then : goal.returns-clause-labels_then
returns-clause-labels_then c = labels_then

pub returns-clause-held_then : goal.returns-clause-held_then
returns-clause-held_then c = held_then

pub returns-clause-not_now : goal.returns-clause-not_now
returns-clause-not_now c = not_now

pub returns-clause-at_last_may : goal.returns-clause-at_last_may
returns-clause-at_last_may c = at_last_may

pub returns-clause-labels_at_last : goal.returns-clause-labels_at_last
returns-clause-labels_at_last c = labels_at_last
