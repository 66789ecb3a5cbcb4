-- The vertex of a work is an own one, and its row is out.
use Rattle.std.proofs.Common.{true≢false, sym, ap, ◌∙◌}
use Rattle.std.specs.Prelude.{is_some}
use Rattle.machine_core.proofs.machine_turns.laws.no_work_is_out_while_rows_are_in.Goals as goal

pub returns : goal.returns
returns c m w order are out = true≢false (sym (are w.vertex.0 (order.flights.own w.scope w.vertex out.flight)) ∙ ap is_some out.out)
