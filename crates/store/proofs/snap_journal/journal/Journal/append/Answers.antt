use Rattle.std.proofs.Common.{inl, ◌∙◌}
use Rattle.gl_outside.proofs.Disks.{started}
use Rattle.store.specs.store_format.Encoding.{body_bytes}
use Rattle.store.proofs.snap_journal.AppendLemmas.{settled_leaves, body_again, follows_on}
use Rattle.store.proofs.snap_journal.journal.Journal.append.Goals as goal

pub returns-in_err-piece-clause-any_moment : goal.returns-in_err-piece-clause-any_moment
returns-in_err-piece-clause-any_moment g c =
    let i = c.self.inside in
    rw (← c.self.view_is) (λ told well.
    started (g.D.Disk.past i.disk) _ (λ image left. inl (settled_leaves i.header i.count i.gate (g.D.Disk.past i.disk) (c.self.invariant.settled told well) image left)))

pub returns-clause-acknowledged : goal.returns-clause-acknowledged
returns-clause-acknowledged g c =
    let same = body_again _ (body_bytes c.args.next.now) (c.deref.ensures.value ∙ c.in_ok-piece.ensures) in
    rw same at c.put.ensures.acknowledged

pub returns-clause-durable : goal.returns-clause-durable
returns-clause-durable g c =
    let same = body_again _ (body_bytes c.args.next.now) (c.deref.ensures.value ∙ c.in_ok-piece.ensures) in
    rw same at c.put.ensures.durable

pub returns-clause-any_moment : goal.returns-clause-any_moment
returns-clause-any_moment g c = λ told well.
    let same = body_again _ (body_bytes c.args.next.now) (c.deref.ensures.value ∙ c.in_ok-piece.ensures) in
    (rw same at c.put.ensures.any_moment) told

pub put-requires-clause-follows : goal.put-requires-clause-follows
put-requires-clause-follows g c =
    follows_on c.args.self.now.header c.args.self.now.count _ (body_bytes c.args.next.now) (c.deref.ensures.value ∙ c.in_ok-piece.ensures) c.requires.form
