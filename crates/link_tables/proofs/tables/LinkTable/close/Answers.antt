use Rattle.std.proofs.Common.{◌≡◌, ℕ, ◌∙◌, ◌∷◌, ◌++◌, [], List, length, take, sym, refl, ap, subst, arith}
use mathlib.Core.Option.{some}
use lib.ListN.{get_elem?}
use Rattle.link_tables.specs.Seats.{word_at}
use Rattle.link_tables.specs.Rule.{Ended}
use Rattle.link_tables.proofs.Ending.{closes}
use Rattle.link_tables.proofs.Taking.{take_next, take_whole, emptied}
use Rattle.link_tables.proofs.tables.LinkTable.close.Goals as goal

pub loop-link-init : goal.loop-link-init
loop-link-init g c = let t = c.args.self in let closed = c.close_with-closed.ensures in record {
  items = t.empty_room.1;
  same = refl;
  long = closed.counts.1 ∙ t.sized.1;
  full = λ k low high. closed.values.1 k low (let a = closed.counts.1 in let b = t.sized.1 in omega arith);
  bare = λ k h. absurd (omega arith);
  count = t.empty_room.0;
  room = t.empty_room.2;
}

pub take-slot-requires : goal.take-slot-requires
take-slot-requires g c = let i = c.loop-link.invariant in ((let a = i.long in omega arith), i.full c.loop-link.link (omega arith) (omega arith))

pub loop-link-preserved : goal.loop-link-preserved
loop-link-preserved g c =
    let i = c.loop-link.invariant in
    let old = c.loop-link.closed.slots in
    let taken = c.take-slot.ensures in
    let counts = old.ok in
    let at : get_elem? c.close_with-closed.result.slots.items c.loop-link.link ≡ some c.take-slot.result = ap (λ (l : List g.row.Q.Denot). get_elem? l c.loop-link.link) (sym i.same) ∙ taken.value in
    let left = emptied old.filled c.take-slot.new.self.slots.filled c.loop-link.link c.args.self.many taken.others.1 (let a = i.long in let b = counts.1 in omega arith) i.full i.bare in
    let next = take_next c.close_with-closed.result.slots.items c.loop-link.link c.take-slot.result at in
    let joined : c.loop-link.links.items ++ c.into_inner.result ∷ [] ≡ take c.loop-link.link c.close_with-closed.result.slots.items ++ c.take-slot.result ∷ [] = λ t. i.items t ++ c.into_inner.ensures t ∷ [] in
    record {
      items = c.push_reserved.ensures.items ∙ (joined ∙ sym next);
      same = taken.others.0 ∙ i.same;
      long = taken.others.2 ∙ i.long;
      full = left.0;
      bare = left.1;
      count = (let a = i.count in omega arith);
      room = (let a = i.room in omega arith);
    }

pub free-requires : goal.free-requires
free-requires g c = let i = c.loop-link.invariant in let last = c.loop-link.auto.link-end in let done = c.loop-link-test.false in λ k h. i.bare k (let a = i.long in omega (arith, last, done))

pub returns : goal.returns
returns g c =
    let t = c.args.self in
    let k = t.table.shared.key in
    let me = c.args.place.seat.me.0 in
    let closed = c.close_with-closed.result in
    let slots = closed.slots.items in
    let i = c.loop-link.invariant in
    let counts = closed.slots.ok in
    let last = c.loop-link.auto.link-end in
    let done = c.loop-link-test.false in
    let are = i.items ∙ take_whole slots c.loop-link.link (let a = c.close_with-closed.ensures.counts.1 in let b = t.sized.1 in let d = counts.0 in omega (arith, last, done)) in
    let word = subst (λ (n : ℕ). get_elem? closed.words.items n ≡ some c.word-next.result) (c.word_place.ensures ∙ ap word_at (sym t.told.0)) c.word-next.ensures in
    let e = closes g.R.LinkRule.number_of g.R.LinkRule.empty (g.R.LinkRule.led k.about) k.many k.top (length (g.R.LinkRule.first k.about)) c.args.place.seat.id c.word-next.result me closed.words.items slots
    c.requires.all.0 c.requires.all.1 word c.close_with-closed.ensures.values.2 in
    record { ended = (e.0, e.1 ∙ t.told.1, subst (λ (l : List g.row.Q.Denot). Ended g.R.LinkRule.number_of (g.R.LinkRule.led k.about) me.parts l c.word-next.result e.0) (sym are) e.2); count = let a = i.count in let b = c.loop-link.links.ok.0 in omega (arith, last, done) }
