use Rattle.std.proofs.Common.{Some, None, subst}
use Rattle.full_laws.specs.FullMessages.{Give}
use Rattle.full_cluster.specs.declared.giving.FullGift.{FullGift}
use Rattle.full_cluster.specs.Updating.{HasGift, is_other}
use Rattle.full_cluster.proofs.GiftLemmas.{gift_there, gift_told, no_gift_there, told_none, told_one}
use Rattle.full_cluster.proofs.gifts.send_gift.Goals as goal

pub returns-in-Some-clause-told : goal.returns-in-Some-clause-told
returns-in-Some-clause-told c = λ st v a given waits so_far has.
    let q = c.args.to.0 in
    let gift : FullGift = c.in-Some.gift in
    let there : HasGift st (is_other st v a q) (given q) (Some gift) = subst (HasGift st (is_other st v a q) (given q)) c.in-Some.is has in
    told_one st v a c.args.scope given waits c.args.out.now.queues.items c.put.new.self.queues.items q (gift_there st (is_other st v a q) (given q) gift there) so_far
    (c.put.ensures.put st so_far.now (Give c.args.scope (given q)) so_far.queues_are (gift_told st (is_other st v a q) c.args.scope (given q) gift there))

pub returns-in-None-clause-told : goal.returns-in-None-clause-told
returns-in-None-clause-told c = λ st v a given waits so_far has.
    let q = c.args.to.0 in
    let none : HasGift st (is_other st v a q) (given q) None = subst (HasGift st (is_other st v a q) (given q)) c.in-None.is has in
    told_none st v a c.args.scope given waits c.args.out.now.queues.items q (no_gift_there st (is_other st v a q) (given q) none) so_far
