use Rattle.std.proofs.Common.{◌≡◌, ℕ, ◌<◌, ◌==◌, ◌&&◌, not, false, Option, length, slice_index_or}
use Rattle.graph_core.specs.Halves.{halves_of}
use Rattle.seq_run.specs.States.{GraphState, is_woken}
use Rattle.cluster_laws.specs.cluster_core.Settings.{Setting}
use Rattle.full_scope.specs.FullStates.{after_full, full_wakes}
use Rattle.full_scope.specs.FullUpdates.{FullUpdate}
use Rattle.full_laws.specs.FullEffects.{gift_for}
use Rattle.full_cluster.specs.declared.giving.FullGift.{FullGift}
use Rattle.full_cluster.specs.Given.{IsDividedAs}
use Rattle.full_cluster.specs.Updating.{HasGift}
use Rattle.full_cluster.specs.Inner.Making.{IsMade}
use Rattle.full_cluster.proofs.gifts.gifts_of.Given as goal

abbrev pub invariant-loop-q : goal.invariant-loop-q
invariant-loop-q l =
    record {
      count : length l.gifts.items ≡ l.q;
      given : (st : Setting) (p : FullUpdate) (lent : GraphState) → IsDividedAs st l.division → IsMade st.graph (after_full st.graph p lent l.v.0) l.v.0 l.made.centre l.made.row.items →
          ((u : ℕ) → full_wakes st.graph p lent l.v.0 u ≡ is_woken l.made.woken (halves_of st.graph l.v.0) u) →
          (k : ℕ) (d : Option FullGift) → k < l.q → HasGift st (slice_index_or l.marks.items k false && not (k == st.owner l.v.0)) (gift_for st p lent l.v.0 k) (slice_index_or l.gifts.items k d);
    }
