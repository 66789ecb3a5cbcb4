-- All go back to the start.
use Rattle.std.proofs.Common.{◌≡◌, ◌++◌, List, [], inl, refl}
use Rattle.engine_runs.proofs.rollback.Attempts.{base_so}
use Rattle.engine_runs.specs.rollback.Returning.{Header, IsBaseBehind}
use Rattle.gl_base.specs.declared.entries.Entry.{Entry}
use Rattle.gl_base.specs.declared.snapshots.Base.{Base}
use Rattle.graph_core.specs.DataGraph.{DataGraph}
use Rattle.recovery.proofs.Goodness.{base_good, none_good}
use Rattle.recovery.specs.GoodStores.{IsGoodBase}
use Rattle.recovery.specs.Orders.{Shared}
use Rattle.recovery.specs.Recovered.{IsHeaderOf, IsRecovered, IsStartBase}
use Rattle.update_api.specs.Updates.{Update}

-- the start, with these entries as its order
pub start_behind : (header : Header) (shared : Shared) (g : DataGraph) (program : Update) (missing : List Entry) (read base : Base) → IsStartBase g program read → shared.graph ≡ g → shared.program ≡ program → IsHeaderOf g header →
    base.number ≡ read.number → base.order.items ≡ read.order.items ++ missing → base.values.items ≡ read.values.items → base.edges.items ≡ read.edges.items → IsBaseBehind shared header [] missing base
start_behind header shared g program missing read base start graph_is program_is of number order values edges =
    let recovered : IsRecovered g program header [] read = inl (refl, start) in
    let good : IsGoodBase shared read = base_good shared g program header [] read graph_is program_is of (none_good shared header) recovered in
    base_so shared g program header [] missing read base recovered good number order values edges
