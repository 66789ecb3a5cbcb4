-- Each event, computed.
use Rattle.whole_laws.proofs.cluster_ending.WorkedWaves.{lone_begun, lone_end, lone_may, lone_setting}
use Rattle.whole_laws.proofs.cluster_ending.examples.a_run_to_its_end.Goals as goal

pub returns-clause-setting : goal.returns-clause-setting
returns-clause-setting c = (lone_setting, tt)

pub returns-clause-trace : goal.returns-clause-trace
returns-clause-trace c = lone_may

pub returns-clause-end : goal.returns-clause-end
returns-clause-end c = lone_end

pub returns-clause-none_begun : goal.returns-clause-none_begun
returns-clause-none_begun c = lone_begun
