use Rattle.std.proofs.Common.{◌≡◌, ◌≤◌, ◌^◌}
use Rattle.std.specs.Prelude.{IsTrue}
use Rattle.engine_runs.specs.Calls.{CanCallGoOn, IsSameCall, KeepsCall}
use Rattle.engine_runs.proofs.steps.play_to_end.Given as goal

abbrev pub invariant-loop : goal.invariant-loop
invariant-loop g l =
    record {
      can : CanCallGoOn l.graph l.call l.journal;
      keeps : IsTrue g.D.Disk.observable → KeepsCall g.P.Program.meaning g.D.Disk.past l.graph (g.P.Program.meaning l.program) l.fn.call l.fn.journal l.call l.journal;
      call : IsSameCall l.fn.call l.call;
      short : l.fn.journal.length ≤ 2 ^ 30 → l.journal.length ≤ 2 ^ 30;
      header : l.journal.header ≡ l.fn.journal.header;
      same : g.D.Disk.same l.fn.journal.disk l.journal.disk;
      later : g.D.Disk.faults l.fn.journal.disk ≤ g.D.Disk.faults l.journal.disk;
    }
