use Rattle.std.proofs.Common.{◌≡◌, ◌≢◌, ◌∙◌, ◌<◌, Option, length, length-set, slice_index_or, get_or-set_other, refl, sym, subst, arith}
use Rattle.std.proofs.lemmas.List.{get_or_default}
use Rattle.full_cluster.specs.declared.giving.FullGift.{FullGift}
use Rattle.full_cluster.specs.Updating.{HasGift, is_other}
use Rattle.full_cluster.proofs.GiftLemmas.{told_all, told_first}
use Rattle.full_cluster.proofs.gifts.send_gifts.Goals as goal

pub loop-q-init : goal.loop-q-init
loop-q-init c =
    let room = c.requires.room in
    record {
      long = refl;
      count = refl;
      rest = λ k d low. refl;
      room = λ k gift d low inside is. room k gift d inside is;
      told = λ st v a given waits are gifts. told_first st v a c.args.scope given waits c.args.out.now.queues.items are;
    }

pub send_gift-requires-clause-room : goal.send_gift-requires-clause-room
send_gift-requires-clause-room c = λ one is.
    let q = c.loop-q.q in
    let now = c.loop-q.gifts.items in
    let inv = c.loop-q.invariant in
    let inside = c.loop-q-test.true in
    let long = inv.long in
    let low : q < length now = omega (arith, inside, long, c.len-q-end.ensures, c.args.gifts.ok.0) in
    let d : Option FullGift = c.take-gift.result in
    let slot : slice_index_or c.args.gifts.items q d ≡ c.take-gift.result = sym (inv.rest q d (omega arith)) ∙ get_or_default now q d c.index_mut.result.now low ∙ sym c.index_mut.ensures.value ∙ sym c.take-gift.ensures.value in
    inv.room q one d (omega arith) (omega (arith, low, long)) (slot ∙ is)

pub loop-q-preserved : goal.loop-q-preserved
loop-q-preserved c =
    let q = c.loop-q.q in
    let now = c.loop-q.gifts.items in
    let inv = c.loop-q.invariant in
    let inside = c.loop-q-test.true in
    let long = inv.long in
    let low : q < length now = omega (arith, inside, long, c.len-q-end.ensures, c.args.gifts.ok.0) in
    let d : Option FullGift = c.take-gift.result in
    let slot : slice_index_or c.args.gifts.items q d ≡ c.take-gift.result = sym (inv.rest q d (omega arith)) ∙ get_or_default now q d c.index_mut.result.now low ∙ sym c.index_mut.ensures.value ∙ sym c.take-gift.ensures.value in
    record {
      long = length-set now q c.take-gift.new.self ∙ long;
      count = c.send_gift.ensures.count ∙ inv.count;
      rest = λ k e past.
          let off : k ≢ q = omega (arith, past) in
          get_or-set_other now q k c.take-gift.new.self e off ∙ inv.rest k e (omega (arith, past));
      room = λ k gift e past there is.
          let off : k ≢ q = omega (arith, past) in
          c.send_gift.ensures.kept k off (inv.room k gift e (omega (arith, past)) there is);
      told = λ st v a given waits are gifts.
          c.send_gift.ensures.told st v a given waits (inv.told st v a given waits are gifts)
          (subst (HasGift st (is_other st v a q) (given q)) slot (gifts q d (omega (arith, low, long))));
    }

pub returns-clause-sent : goal.returns-clause-sent
returns-clause-sent c = λ st v a given waits is many are gifts.
    let out = c.loop-q-test.false in
    told_all st v a c.args.scope given waits is c.loop-q.out.queues.items c.loop-q.q (omega (arith, out, many, c.len-q-end.ensures, c.args.gifts.ok.0)) (c.loop-q.invariant.told st v a given waits are gifts)
