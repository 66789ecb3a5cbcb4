-- Each action, computed.
use Rattle.cluster_laws.proofs.cluster_cuts.WorkedCut.{setting, starts, middle_may, mark_may, ready_may, last_may, first_may, sections_may, none_marked, first_update, pending_then, known_then, not_now, second_update, record_may, the_cut, shown, cut_held}
use Rattle.cluster_laws.proofs.cluster_cuts.examples.a_snapshot_of_the_first_update.Goals as goal

pub returns-clause-setting : goal.returns-clause-setting
returns-clause-setting c = setting

pub returns-clause-start : goal.returns-clause-start
returns-clause-start c = starts

pub returns-clause-unmarked : goal.returns-clause-unmarked
returns-clause-unmarked c = none_marked

pub returns-clause-first_update : goal.returns-clause-first_update
returns-clause-first_update c = first_update

pub returns-clause-pending : goal.returns-clause-pending
returns-clause-pending c = pending_then

pub returns-clause-known : goal.returns-clause-known
returns-clause-known c = known_then

pub returns-clause-not_now : goal.returns-clause-not_now
returns-clause-not_now c = not_now

pub returns-clause-second_update : goal.returns-clause-second_update
returns-clause-second_update c = second_update

pub returns-clause-record_may : goal.returns-clause-record_may
returns-clause-record_may c = record_may

pub returns-clause-cut : goal.returns-clause-cut
returns-clause-cut c = the_cut

pub returns-clause-numbers : goal.returns-clause-numbers
returns-clause-numbers c = shown

pub returns-clause-held : goal.returns-clause-held
returns-clause-held c = cut_held

pub returns-clause-middle_may : goal.returns-clause-middle_may
returns-clause-middle_may c = middle_may

pub returns-clause-mark_may : goal.returns-clause-mark_may
returns-clause-mark_may c = mark_may

pub returns-clause-ready_may : goal.returns-clause-ready_may
returns-clause-ready_may c = ready_may

pub returns-clause-last_may : goal.returns-clause-last_may
returns-clause-last_may c = last_may

pub returns-clause-first_may : goal.returns-clause-first_may
returns-clause-first_may c = first_may

pub returns-clause-sections_may : goal.returns-clause-sections_may
returns-clause-sections_may c = sections_may
