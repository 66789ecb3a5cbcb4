use Rattle.std.proofs.Common.{◌+◌, ◌<◌, ◌^◌, inl, inr, length, refl, arith}
use Rattle.std.proofs.lemmas.Result.{err_from_is_err_and}
use Rattle.gl_outside.proofs.Disks.{started}
use Rattle.store.specs.snap_journal.Inner.Settled.{body_between}
use Rattle.store.proofs.snap_journal.AppendLemmas.{setup, write_failed, written, synced, sync_failed, gate_failed, gate_written, open_failed, added, rose_after, not_well, settled_leaves}
use Rattle.store.proofs.snap_journal.journal.Journal.put.Goals as goal

pub returns-in_err-write_at-clause-any_moment : goal.returns-in_err-write_at-clause-any_moment
returns-in_err-write_at-clause-any_moment g c =
    let i = c.self.inside in
    let past = g.D.Disk.past in
    let piece = c.args.piece.now in
    let body = body_between piece in
    let follows = rw (← c.self.view_is) at c.requires.follows in
    let well = rw (← c.self.view_is) at c.requires.well in
    let fits : length piece < 2 ^ 64 = omega (arith, c.if-is_full.ensures.small refl) in
    rw (← c.self.view_is) (λ told.
    let is = setup i.header i.count i.gate (past i.disk) body piece (c.self.invariant.settled told well) follows refl fits in
    write_failed i.header i.count i.gate (past i.disk) body piece is (i.gate + 1) (past c.write_at.new.self) refl (c.in_err-write_at.ensures.past told))

pub returns-in_err-sync-clause-any_moment : goal.returns-in_err-sync-clause-any_moment
returns-in_err-sync-clause-any_moment g c =
    let i = c.self.inside in
    let past = g.D.Disk.past in
    let piece = c.args.piece.now in
    let body = body_between piece in
    let follows = rw (← c.self.view_is) at c.requires.follows in
    let well = rw (← c.self.view_is) at c.requires.well in
    let fits : length piece < 2 ^ 64 = omega (arith, c.if-is_full.ensures.small refl) in
    rw (← c.self.view_is) (λ told.
    let is = setup i.header i.count i.gate (past i.disk) body piece (c.self.invariant.settled told well) follows refl fits in
    let was_written = written i.header i.count i.gate (past i.disk) body piece is (i.gate + 1) (past c.write_at.new.self) refl (c.in_ok-write_at.ensures.past told) in
    sync_failed i.header i.count i.gate (past i.disk) body piece is (past c.write_at.new.self) (past c.sync.new.self) was_written (c.in_err-sync.ensures.past told))

pub returns-in_err-write_at-2-clause-any_moment : goal.returns-in_err-write_at-2-clause-any_moment
returns-in_err-write_at-2-clause-any_moment g c =
    let i = c.self.inside in
    let past = g.D.Disk.past in
    let piece = c.args.piece.now in
    let body = body_between piece in
    let follows = rw (← c.self.view_is) at c.requires.follows in
    let well = rw (← c.self.view_is) at c.requires.well in
    let fits : length piece < 2 ^ 64 = omega (arith, c.if-is_full.ensures.small refl) in
    rw (← c.self.view_is) (λ told.
    let is = setup i.header i.count i.gate (past i.disk) body piece (c.self.invariant.settled told well) follows refl fits in
    let was_written = written i.header i.count i.gate (past i.disk) body piece is (i.gate + 1) (past c.write_at.new.self) refl (c.in_ok-write_at.ensures.past told) in
    let was_synced = synced i.header i.count i.gate (past i.disk) body piece is (past c.write_at.new.self) (past c.sync.new.self) was_written (c.in_ok-sync.ensures.past told) in
    gate_failed i.header i.count i.gate (past i.disk) body piece is i.gate (past c.sync.new.self) (past c.write_at-2.new.self) refl was_synced (c.in_err-write_at-2.ensures.past told))

pub returns-in_err-sync-2-clause-any_moment : goal.returns-in_err-sync-2-clause-any_moment
returns-in_err-sync-2-clause-any_moment g c =
    let i = c.self.inside in
    let past = g.D.Disk.past in
    let piece = c.args.piece.now in
    let body = body_between piece in
    let follows = rw (← c.self.view_is) at c.requires.follows in
    let well = rw (← c.self.view_is) at c.requires.well in
    let fits : length piece < 2 ^ 64 = omega (arith, c.if-is_full.ensures.small refl) in
    rw (← c.self.view_is) (λ told.
    let is = setup i.header i.count i.gate (past i.disk) body piece (c.self.invariant.settled told well) follows refl fits in
    let was_written = written i.header i.count i.gate (past i.disk) body piece is (i.gate + 1) (past c.write_at.new.self) refl (c.in_ok-write_at.ensures.past told) in
    let was_synced = synced i.header i.count i.gate (past i.disk) body piece is (past c.write_at.new.self) (past c.sync.new.self) was_written (c.in_ok-sync.ensures.past told) in
    let was_opened = gate_written i.header i.count i.gate (past i.disk) body piece is i.gate (past c.sync.new.self) (past c.write_at-2.new.self) refl was_synced (c.in_ok-write_at-2.ensures.past told) in
    open_failed i.header i.count i.gate (past i.disk) body piece is (past c.write_at-2.new.self) (past c.sync-2.new.self) was_opened (c.in_err-sync-2.ensures.past told))

pub returns-clause-any_moment : goal.returns-clause-any_moment
returns-clause-any_moment g c =
    let i = c.self.inside in
    let past = g.D.Disk.past in
    let piece = c.args.piece.now in
    let body = body_between piece in
    let follows = rw (← c.self.view_is) at c.requires.follows in
    let well = rw (← c.self.view_is) at c.requires.well in
    let fits : length piece < 2 ^ 64 = omega (arith, c.if-is_full.ensures.small refl) in
    rw (← c.self.view_is) (λ told.
    let is = setup i.header i.count i.gate (past i.disk) body piece (c.self.invariant.settled told well) follows refl fits in
    let was_written = written i.header i.count i.gate (past i.disk) body piece is (i.gate + 1) (past c.write_at.new.self) refl (c.in_ok-write_at.ensures.past told) in
    let was_synced = synced i.header i.count i.gate (past i.disk) body piece is (past c.write_at.new.self) (past c.sync.new.self) was_written (c.in_ok-sync.ensures.past told) in
    let was_opened = gate_written i.header i.count i.gate (past i.disk) body piece is i.gate (past c.sync.new.self) (past c.write_at-2.new.self) refl was_synced (c.in_ok-write_at-2.ensures.past told) in
    let was_added = added i.header i.count i.gate (past i.disk) body piece is (past c.write_at-2.new.self) (past c.sync-2.new.self) was_opened (c.in_ok-sync-2.ensures.past told) in
    was_added.leaves)

pub returns-clause-acknowledged : goal.returns-clause-acknowledged
returns-clause-acknowledged g c =
    let i = c.self.inside in
    let past = g.D.Disk.past in
    let piece = c.args.piece.now in
    let body = body_between piece in
    let follows = rw (← c.self.view_is) at c.requires.follows in
    let well = rw (← c.self.view_is) at c.requires.well in
    let fits : length piece < 2 ^ 64 = omega (arith, c.if-is_full.ensures.small refl) in
    rw (← c.self.view_is) (λ told.
    let is = setup i.header i.count i.gate (past i.disk) body piece (c.self.invariant.settled told well) follows refl fits in
    let was_written = written i.header i.count i.gate (past i.disk) body piece is (i.gate + 1) (past c.write_at.new.self) refl (c.in_ok-write_at.ensures.past told) in
    let was_synced = synced i.header i.count i.gate (past i.disk) body piece is (past c.write_at.new.self) (past c.sync.new.self) was_written (c.in_ok-sync.ensures.past told) in
    let was_opened = gate_written i.header i.count i.gate (past i.disk) body piece is i.gate (past c.sync.new.self) (past c.write_at-2.new.self) refl was_synced (c.in_ok-write_at-2.ensures.past told) in
    let was_added = added i.header i.count i.gate (past i.disk) body piece is (past c.write_at-2.new.self) (past c.sync-2.new.self) was_opened (c.in_ok-sync-2.ensures.past told) in
    was_added.snapshots)

pub returns-clause-durable : goal.returns-clause-durable
returns-clause-durable g c =
    let i = c.self.inside in
    let past = g.D.Disk.past in
    let piece = c.args.piece.now in
    let body = body_between piece in
    let follows = rw (← c.self.view_is) at c.requires.follows in
    let well = rw (← c.self.view_is) at c.requires.well in
    let fits : length piece < 2 ^ 64 = omega (arith, c.if-is_full.ensures.small refl) in
    rw (← c.self.view_is) (λ told.
    let is = setup i.header i.count i.gate (past i.disk) body piece (c.self.invariant.settled told well) follows refl fits in
    let was_written = written i.header i.count i.gate (past i.disk) body piece is (i.gate + 1) (past c.write_at.new.self) refl (c.in_ok-write_at.ensures.past told) in
    let was_synced = synced i.header i.count i.gate (past i.disk) body piece is (past c.write_at.new.self) (past c.sync.new.self) was_written (c.in_ok-sync.ensures.past told) in
    let was_opened = gate_written i.header i.count i.gate (past i.disk) body piece is i.gate (past c.sync.new.self) (past c.write_at-2.new.self) refl was_synced (c.in_ok-write_at-2.ensures.past told) in
    let was_added = added i.header i.count i.gate (past i.disk) body piece is (past c.write_at-2.new.self) (past c.sync-2.new.self) was_opened (c.in_ok-sync-2.ensures.past told) in
    was_added.durable)

pub invariant_of-self-in_err-sync : goal.invariant_of-self-in_err-sync
invariant_of-self-in_err-sync g c =
    record { within = c.self.invariant.within; settled = λ told well. not_well well }

pub invariant_of-self-in_err-write_at-2 : goal.invariant_of-self-in_err-write_at-2
invariant_of-self-in_err-write_at-2 g c =
    record { within = c.self.invariant.within; settled = λ told well. not_well well }

pub invariant_of-self-in_err-sync-2 : goal.invariant_of-self-in_err-sync-2
invariant_of-self-in_err-sync-2 g c =
    record { within = c.self.invariant.within; settled = λ told well. not_well well }

pub invariant_of-self-2 : goal.invariant_of-self-2
invariant_of-self-2 g c =
    let i = c.self.inside in
    let past = g.D.Disk.past in
    let piece = c.args.piece.now in
    let body = body_between piece in
    let follows = rw (← c.self.view_is) at c.requires.follows in
    let well = rw (← c.self.view_is) at c.requires.well in
    let fits : length piece < 2 ^ 64 = omega (arith, c.if-is_full.ensures.small refl) in
    record {
      within = omega (arith, c.if-is_full.ensures.small refl);
      settled = λ told never.
          let is = setup i.header i.count i.gate (past i.disk) body piece (c.self.invariant.settled told well) follows refl fits in
          let was_written = written i.header i.count i.gate (past i.disk) body piece is (i.gate + 1) (past c.write_at.new.self) refl (c.in_ok-write_at.ensures.past told) in
          let was_synced = synced i.header i.count i.gate (past i.disk) body piece is (past c.write_at.new.self) (past c.sync.new.self) was_written (c.in_ok-sync.ensures.past told) in
          let was_opened = gate_written i.header i.count i.gate (past i.disk) body piece is i.gate (past c.sync.new.self) (past c.write_at-2.new.self) refl was_synced (c.in_ok-write_at-2.ensures.past told) in
          let was_added = added i.header i.count i.gate (past i.disk) body piece is (past c.write_at-2.new.self) (past c.sync-2.new.self) was_opened (c.in_ok-sync-2.ensures.past told) in
          was_added.settled;
    }

pub returns-then-is_full-clause-same : goal.returns-then-is_full-clause-same
returns-then-is_full-clause-same g c =
    g.met.D.Disk.same_refl _

pub returns-in_err-sync-clause-same : goal.returns-in_err-sync-clause-same
returns-in_err-sync-clause-same g c =
    rw (← c.self.view_is) (g.met.D.Disk.same_trans _ _ _ c.write_at.ensures.same c.sync.ensures.same)

pub returns-in_err-write_at-2-clause-same : goal.returns-in_err-write_at-2-clause-same
returns-in_err-write_at-2-clause-same g c =
    rw (← c.self.view_is) (g.met.D.Disk.same_trans _ _ _ (g.met.D.Disk.same_trans _ _ _ c.write_at.ensures.same c.sync.ensures.same) c.write_at-2.ensures.same)

pub returns-in_err-sync-2-clause-same : goal.returns-in_err-sync-2-clause-same
returns-in_err-sync-2-clause-same g c =
    rw (← c.self.view_is) (g.met.D.Disk.same_trans _ _ _ (g.met.D.Disk.same_trans _ _ _ (g.met.D.Disk.same_trans _ _ _ c.write_at.ensures.same c.sync.ensures.same) c.write_at-2.ensures.same) c.sync-2.ensures.same)

pub returns-clause-same : goal.returns-clause-same
returns-clause-same g c =
    rw (← c.self.view_is) (g.met.D.Disk.same_trans _ _ _ (g.met.D.Disk.same_trans _ _ _ (g.met.D.Disk.same_trans _ _ _ c.write_at.ensures.same c.sync.ensures.same) c.write_at-2.ensures.same) c.sync-2.ensures.same)

pub returns-in_err-write_at-2-clause-refused : goal.returns-in_err-write_at-2-clause-refused
returns-in_err-write_at-2-clause-refused g c =
    let exit = err_from_is_err_and c.from_residual-in_err-write_at-2.result c.from_residual-in_err-write_at-2.ensures.1 in
    rw (exit.1, exit.2, ← c.self.view_is)
    (rw (← c.self.view_is) at c.requires.well, refl, rose_after _ _ _ (omega (arith, c.write_at.ensures.counts.later, c.sync.ensures.counts.later)) c.in_err-write_at-2.ensures.counts.failed)

pub returns-in_err-sync-2-clause-refused : goal.returns-in_err-sync-2-clause-refused
returns-in_err-sync-2-clause-refused g c =
    let exit = err_from_is_err_and c.from_residual-in_err-sync-2.result c.from_residual-in_err-sync-2.ensures.1 in
    rw (exit.1, exit.2, ← c.self.view_is)
    (rw (← c.self.view_is) at c.requires.well, refl, rose_after _ _ _ (omega (arith, c.write_at.ensures.counts.later, c.sync.ensures.counts.later, c.write_at-2.ensures.counts.later)) c.in_err-sync-2.ensures.counts.failed)

pub returns-then-is_full-clause-any_moment : goal.returns-then-is_full-clause-any_moment
returns-then-is_full-clause-any_moment g c =
    rw (← c.self.view_is) (λ told.
    started (g.D.Disk.past c.self.inside.disk) _ (λ image left. inl (settled_leaves c.self.inside.header c.self.inside.count c.self.inside.gate (g.D.Disk.past c.self.inside.disk) (c.self.invariant.settled told (rw (← c.self.view_is) at c.requires.well)) image left)))

pub returns-clause-full : goal.returns-clause-full
returns-clause-full g c =
    rw (← c.self.view_is) (λ full.
    let count = c.if-is_full.ensures.room refl in
    let size = c.if-is_full.ensures.small refl in
    elim full [
      | inl many ↦ absurd (omega (arith, many, count))
      | inr long ↦ absurd (omega (arith, long, size))
    ])
