use Rattle.cluster_laws.proofs.known_parts.GuardLemmas.{admit_may, alike_turned, grant_may, mark_may, send_may, update_may}
use Rattle.cluster_laws.proofs.known_parts.laws.guards_look_alike.Goals as goal

pub returns-clause-admit : goal.returns-clause-admit
returns-clause-admit t st a v one other alike may = admit_may st a one other alike v may

pub returns-clause-grant : goal.returns-clause-grant
returns-clause-grant t st a x one other alike may = grant_may st a one other alike x may

pub returns-clause-update : goal.returns-clause-update
returns-clause-update t st a left s one other alike may = update_may st a one other alike s left may

pub returns-clause-mark : goal.returns-clause-mark
returns-clause-mark t st a s one other alike may = mark_may st a one other alike s may

pub returns-clause-send : goal.returns-clause-send
returns-clause-send t st a one other is alike may = send_may st a one other alike is may

pub returns-clause-turned : goal.returns-clause-turned
returns-clause-turned t = alike_turned
