use Rattle.std.proofs.Common.{◌≡◌, ◌-◌, ◌+◌, ◌<◌, ◌≤◌, length}
use Rattle.std.specs.Prelude.{IsTrue}
use Rattle.store.specs.store_format.Bodies.{HasSections}
use Rattle.store.proofs.snap_journal.SurveyLemmas.{ReadSoFar}
use Rattle.store.proofs.snap_journal.opening.survey.Given as goal

abbrev pub invariant-records : goal.invariant-records
invariant-records g l =
    record {
      read : IsTrue g.D.Disk.observable → ReadSoFar l.header (g.D.Disk.past l.fn.disk).now.seen l.count l.gate l.keep l.entries.items l.body.items;
      form : 0 < l.count → HasSections l.header l.body.items;
      len : IsTrue g.D.Disk.observable → l.len ≡ length (g.D.Disk.past l.fn.disk).now.seen;
      past : IsTrue g.D.Disk.observable → g.D.Disk.past l.disk ≡ g.D.Disk.past l.fn.disk;
      same : g.D.Disk.same l.fn.disk l.disk;
      later : g.D.Disk.faults l.fn.disk ≤ g.D.Disk.faults l.disk;
      numbers : l.count < 4294967295;
      inside : IsTrue g.D.Disk.observable → l.gate ≤ l.len;
    }

abbrev pub decreases-records : goal.decreases-records
decreases-records g l = l.len + 1 - l.gate
