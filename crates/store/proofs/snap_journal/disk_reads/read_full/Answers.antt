use Rattle.std.proofs.Common.{◌+◌, ◌-◌, length, ap, ◌∙◌, subst, arith}
use Rattle.gl_outside.specs.Disk.{DiskPast, ReadsSome}
use Rattle.store.proofs.snap_journal.GateLemmas.{filled_more, put_long}
use Rattle.store.proofs.snap_journal.disk_reads.read_full.Goals as goal

pub pieces-preserved : goal.pieces-preserved
pieces-preserved g c =
    let so_far = c.pieces.invariant in
    let done = c.pieces.done in
    let buf = c.pieces.buf in
    let part = c.read_at.new.buf in
    let bound = c.in_ok-count.ensures.bound in
    let old = so_far.inside in
    let long = put_long done (length buf - done) buf part old in
    record {
      inside = omega (arith, long, bound);
      bytes = λ told.
          let read = c.in_ok-count.ensures.bytes told in
          let same = ap (λ (p : DiskPast). p.now.seen) (so_far.past told) in
          let here : ReadsSome (g.D.Disk.past c.args.disk.now).now.seen (c.args.at + done) part c.in_ok-count.count = subst (λ (l : _). ReadsSome l (c.args.at + done) part c.in_ok-count.count) same read in
          filled_more (g.D.Disk.past c.args.disk.now).now.seen c.args.at buf part done (length buf - done) c.in_ok-count.count (so_far.bytes told) old bound here.bytes here.inside;
      past = λ told. c.in_ok-count.ensures.past told ∙ so_far.past told;
      same = g.met.D.Disk.same_trans _ _ _ so_far.same c.in_ok-count.ensures.same;
      later = omega (arith, so_far.later, c.in_ok-count.ensures.counts.later);
    }
