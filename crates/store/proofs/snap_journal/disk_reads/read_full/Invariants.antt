use Rattle.std.proofs.Common.{◌≡◌, ◌-◌, ◌≤◌, length}
use Rattle.std.specs.Prelude.{IsTrue}
use Rattle.store.proofs.snap_journal.GateLemmas.{FilledSoFar}
use Rattle.store.proofs.snap_journal.disk_reads.read_full.Given as goal

abbrev pub invariant-pieces : goal.invariant-pieces
invariant-pieces g l =
    record {
      inside : l.done ≤ length l.buf;
      bytes : IsTrue g.D.Disk.observable → FilledSoFar (g.D.Disk.past l.initial.disk).now.seen l.at l.buf l.done;
      past : IsTrue g.D.Disk.observable → g.D.Disk.past l.disk ≡ g.D.Disk.past l.initial.disk;
      same : g.D.Disk.same l.initial.disk l.disk;
      later : g.D.Disk.faults l.initial.disk ≤ g.D.Disk.faults l.disk;
    }

abbrev pub decreases-pieces : goal.decreases-pieces
decreases-pieces g l = length l.buf - l.done
