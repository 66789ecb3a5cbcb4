use Rattle.std.proofs.Common.{◌≡◌, [], ◌∷◌, ◌++◌, length, sym, ap, ◌∙◌, subst, arith}
use Rattle.gl_outside.specs.Disk.{DiskPast, after_sync}
use Rattle.store.specs.store_format.Headers.{store_header}
use Rattle.store.specs.store_format.Stores.{DecodesTo}
use Rattle.store.proofs.store_format.NewLemmas.{new_stands}
use Rattle.store.specs.snap_journal.Inner.Settled.{IsAtRest}
use Rattle.store.proofs.snap_journal.AppendLemmas.{rest_leaves, after_sync_rests, fresh_piece}
use Rattle.store.proofs.snap_journal.making.init.Goals as goal

pub returns-clause-images : goal.returns-clause-images
returns-clause-images g c = λ told image left.
    let past = g.D.Disk.past in
    let bytes = c.new_store.result in
    let mid = past c.write_at.new.self in
    let none : length (past c.len.new.self).now.seen ≡ 0 = omega (arith, c.in_ok-len.ensures.length told, ap (λ (p : DiskPast). length p.now.seen) (c.in_ok-len.ensures.past told)) in
    let seen : mid.now.seen ≡ bytes = ap (λ (p : DiskPast). p.now.seen) (c.in_ok-write_at.ensures.past told) ∙ fresh_piece (past c.len.new.self).now.seen bytes none in
    let rests : IsAtRest (after_sync mid.now) bytes = after_sync_rests mid.now bytes seen in
    let now : IsAtRest (past c.sync.new.self).now bytes = subst (λ (p : DiskPast). IsAtRest p.now bytes) (sym (c.in_ok-sync.ensures.past told)) rests in
    rest_leaves (past c.sync.new.self).now bytes image now left ∙ c.new_store.ensures.bytes

pub returns-clause-stands : goal.returns-clause-stands
returns-clause-stands g c = λ told image left.
    let is : image ≡ store_header c.args.header.now ++ 0 ∷ [] = returns-clause-images g c told image left in
    subst (DecodesTo c.args.header.now []) (sym is) (new_stands c.args.header.now c.requires c.new_store.ensures.fits)
