use Rattle.std.proofs.Common.{◌≡◌, ℕ, ◌<◌, ◌≤◌, Option, Some, List, length, slice_index_or}
use Rattle.cluster_laws.specs.cluster_core.Settings.{Setting}
use Rattle.full_laws.specs.FullMessages.{FullMessage, Gift}
use Rattle.full_cluster.specs.declared.giving.FullGift.{FullGift}
use Rattle.full_cluster.specs.FullQueues.{AreQueuesOf, HasRoomFor}
use Rattle.full_cluster.specs.Inner.Gifts.{IsToldBelow}
use Rattle.full_cluster.specs.Updating.{AreGiftsTo}
use Rattle.full_cluster.proofs.gifts.send_gifts.Given as goal

abbrev pub invariant-loop-q : goal.invariant-loop-q
invariant-loop-q l =
    record {
      long : length l.gifts.items ≡ length l.initial.gifts.items;
      count : length l.out.queues.items ≡ length l.initial.out.queues.items;
      rest : (k : ℕ) (d : Option FullGift) → l.q ≤ k → slice_index_or l.gifts.items k d ≡ slice_index_or l.initial.gifts.items k d;
      room : (k : ℕ) (gift : FullGift) (d : Option FullGift) → l.q ≤ k → k < length l.initial.gifts.items → slice_index_or l.initial.gifts.items k d ≡ Some gift → HasRoomFor l.out.queues.items k;
      told : (st : Setting) (v a : ℕ) (given : ℕ → Gift) (waits : ℕ → List FullMessage) → AreQueuesOf st l.initial.out.queues.items waits → AreGiftsTo st v a given l.initial.gifts.items →
          IsToldBelow st v a l.scope given waits l.out.queues.items l.q;
    }
