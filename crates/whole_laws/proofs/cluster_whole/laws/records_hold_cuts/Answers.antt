-- A record that is due may be made of the core.
use Rattle.std.proofs.Common.{lt_of_le_of_lt}
use Rattle.cluster_laws.proofs.cluster_cuts.CutsKept.{recorded, recorded_cut}
use Rattle.whole_laws.specs.cluster_whole.Views.{world_of}
use Rattle.whole_laws.proofs.cluster_whole.Wholeness.{may_record}
use Rattle.whole_laws.proofs.cluster_whole.laws.records_hold_cuts.Goals as goal

pub returns-clause-held : goal.returns-clause-held
returns-clause-held c = λ st cluster whole is due. recorded st is (world_of cluster) whole.consistent (may_record st cluster due)

pub returns-clause-valid : goal.returns-clause-valid
returns-clause-valid c = λ st cluster whole is due. (recorded_cut st is (world_of cluster) whole.consistent (may_record st cluster due)).valid

pub returns-clause-updates : goal.returns-clause-updates
returns-clause-updates c = λ st cluster whole logged due was. was.cut (lt_of_le_of_lt whole.consistent.marks.base due.under)
