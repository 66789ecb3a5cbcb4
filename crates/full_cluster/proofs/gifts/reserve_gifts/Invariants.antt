use Rattle.std.proofs.Common.{◌≡◌, ℕ, ◌<◌, Option, Some, List, length, slice_index_or}
use Rattle.cluster_laws.specs.cluster_core.Settings.{Setting}
use Rattle.full_laws.specs.FullMessages.{FullMessage}
use Rattle.full_cluster.specs.declared.giving.FullGift.{FullGift}
use Rattle.full_cluster.specs.FullQueues.{AreQueuesOf, HasRoomFor}
use Rattle.full_cluster.proofs.gifts.reserve_gifts.Given as goal

abbrev pub invariant-loop-q : goal.invariant-loop-q
invariant-loop-q l =
    record {
      count : length l.out.queues.items ≡ length l.initial.out.queues.items;
      room : (k : ℕ) (gift : FullGift) (d : Option FullGift) → k < l.q → slice_index_or l.gifts k d ≡ Some gift → HasRoomFor l.out.queues.items k;
      same : (st : Setting) (waits : ℕ → List FullMessage) → AreQueuesOf st l.initial.out.queues.items waits → AreQueuesOf st l.out.queues.items waits;
    }
