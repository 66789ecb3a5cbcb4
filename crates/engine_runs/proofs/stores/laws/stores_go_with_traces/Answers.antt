-- Event by event.
use Rattle.recovery.proofs.records.Going.{grows_up, opens_up}
use Rattle.engine_runs.proofs.stores.Keeping.{grows, opens, passes, returns}
use Rattle.engine_runs.proofs.stores.laws.stores_go_with_traces.Goals as goal

pub returns-clause-opens : goal.returns-clause-opens
returns-clause-opens g c = λ v header start st o begun good. opens g.M.SavingMachine.represents opens_up v header start st o begun good

pub returns-clause-passes : goal.returns-clause-passes
returns-clause-passes g c = λ old new header start bodies lost st o at goes before. passes g.M.SavingMachine.represents old new header start bodies lost st o at goes before

pub returns-clause-grows : goal.returns-clause-grows
returns-clause-grows g c = λ old new header start bodies lost made st o failures_are happens before kept behind small fits machines.
    grows g.M.SavingMachine.represents old new failures_are header start bodies lost st o made happens before kept behind (λ st failures kept resumed base first events cluster header start bodies made trace kept_is keeps due is small fits machines. grows_up st failures kept resumed base first events cluster trace header start bodies kept_is keeps due made is small fits machines) small fits machines

pub returns-clause-returns : goal.returns-clause-returns
returns-clause-returns g c = λ old new header start bodies lost gone machines engine store st o base failures_are gone_back before goes takes.
    returns g.M.SavingMachine.represents old new failures_are header start bodies lost st o gone machines engine store base gone_back before goes takes
