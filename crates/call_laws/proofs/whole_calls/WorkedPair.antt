-- The call that goes back is one, event by event.
use Rattle.std.proofs.Common.{◌≡◌, ◌≢◌, ℕ, zero, suc, ◌<◌, ◌≤◌, true, false, List, [], ◌∷◌, ◌++◌, length, inr, refl, subst, lit≤, arith}
use Rattle.std.proofs.lemmas.List.Sorted.{IsPermutation-refl}
use Rattle.gl_base.specs.declared.jobs.FailureAt.{FailureAt}
use Rattle.gl_base.specs.Lists.{Ascends}
use Rattle.gl_base.specs.declared.limits.TheConstants.{MAX_ID}
use Rattle.graph_core.specs.DataGraph.{DataEdge, IsDataGraph, IsEdge, size}
use Rattle.cluster_laws.specs.cluster_core.Ranges.{first_passing}
use Rattle.cluster_laws.specs.cluster_core.Settings.{IsSetting, Setting}
use Rattle.cluster_laws.specs.cluster_model.Clusters.{Cluster}
use Rattle.cluster_laws.specs.cluster_model.Events.{DeliverCall, Event, Fail, GoesBackTo, IsTrace, Recover, after_event, setting_after}
use Rattle.cluster_laws.specs.cluster_model.Machines.{completed}
use Rattle.cluster_laws.specs.cluster_model.Totals.{total_from}
use Rattle.cluster_laws.specs.cluster_places.Steps.{AreApart}
use Rattle.whole_laws.specs.cluster_records.LineOfFour.{after_events}
use Rattle.whole_laws.specs.cluster_records.LonePair.{lone_pair, pair_alone, pair_at_first, pair_base, pair_cluster, pair_entry, pair_saved, pair_saves, pair_updated, pair_updates}
use Rattle.whole_laws.proofs.cluster_records.PairSaved.{again_may, saves_may, updates_may}
use Rattle.whole_laws.specs.cluster_whole.Whole.{setting_behind}
use Rattle.std.proofs.lemmas.List.Elements.{All-from_recursion}
use Rattle.call_laws.specs.whole_calls.Following.{FollowJob, FollowsJob, has_reached}
use Rattle.call_laws.specs.whole_calls.Opened.{IsTraceOfCall, IsOpened}
use Rattle.call_laws.specs.whole_calls.PairAgain.{pair_again, pair_trace, pair_failed, pair_failures, pair_kept, pair_second, pair_twice}
use Rattle.call_laws.specs.whole_calls.Saved.{recorded_in}

-- ---- one list of events behind another

pub trace_append : (xs ys : List Event) (st : Setting) (a b c : Cluster) → IsTrace st a xs b → IsTrace (setting_behind st xs) b ys c → IsTrace st a (xs ++ ys) c
trace_append [] ys st a b c one other = subst (λ (x : Cluster). IsTrace st x ys c) one other
trace_append (x ∷ xs) ys st a b c one other = (one.0, trace_append xs ys (setting_after st x) (after_event st a x) b c one.1 other)

pub follow_append : (failures : List FailureAt) (xs ys : List Event) (st : Setting) (a : Cluster) → FollowJob st failures a xs → FollowJob (setting_behind st xs) failures (after_events st xs a) ys → FollowJob st failures a (xs ++ ys)
follow_append failures [] ys st a one other = other
follow_append failures (x ∷ xs) ys st a one other = (one.0, follow_append failures xs ys (setting_after st x) (after_event st a x) one.1 other)

-- ---- the graph

low : 0 < 1
low = omega arith

low_low : (n : ℕ) → 0 ≤ n
low_low n = omega arith

false_true : false ≡ true → ⊥
false_true is = cc

true_false : true ≡ false → ⊥
true_false is = cc

ascends : Ascends (1 ∷ 2 ∷ [])
ascends zero zero less within = absurd (not_less less)
  where
    not_less : 0 < 0 → ⊥
    not_less is = omega arith
ascends zero (suc zero) less within = omega arith
ascends zero (suc (suc j)) less within = absurd (too_high j within)
  where
    too_high : (j : ℕ) → suc (suc j) < 2 → ⊥
    too_high j is = omega arith
ascends (suc i) zero less within = absurd (not_less i less)
  where
    not_less : (i : ℕ) → suc i < 0 → ⊥
    not_less i is = omega arith
ascends (suc i) (suc zero) less within = absurd (not_less i less)
  where
    not_less : (i : ℕ) → suc i < 1 → ⊥
    not_less i is = omega arith
ascends (suc i) (suc (suc j)) less within = absurd (too_high j within)
  where
    too_high : (j : ℕ) → suc (suc j) < 2 → ⊥
    too_high j is = omega arith

graph_is : IsDataGraph lone_pair
graph_is =
    record {
      few = lit≤ tt;
      few_edges = lit≤ tt;
      ascending = ascends;
      ids = All-from_recursion (λ (id : ℕ). id ≤ MAX_ID) (1 ∷ 2 ∷ []) (lit≤ tt, (lit≤ tt, tt));
      edges = All-from_recursion (IsEdge (size lone_pair) false) [] tt;
      edges_ascending = λ i j d less within. absurd (none_within j within);
    }
  where
    none_within : (j : ℕ) → j < 0 → ⊥
    none_within j is = omega arith

setting_is : IsSetting pair_alone
setting_is = record { graph = graph_is; owner = λ v within. low }

abbrev one_colour : ℕ → ℕ
one_colour v = 1

coloured : AreApart pair_alone one_colour
coloured = All-from_recursion (λ (e : DataEdge). one_colour e.from ≢ one_colour e.to) [] tt

-- ---- the opening

opened : IsOpened pair_alone pair_failures [] false pair_base pair_cluster
opened =
    record {
      ordered = record { owned = (low, tt); counts = (one_two, tt); different = (tt, tt) };
      in_turn = record { valid = tt; high = 0; by_ticket = low_low 0; owners = tt };
      begins = inr (refl, refl);
      front = refl;
      numbers = record { vertices = λ v within. refl; edges = λ e within. refl };
      next = refl;
      done = λ a. refl;
    }
  where
    one_two : 1 ≤ 2
    one_two = omega arith

-- ---- the second update, the failure and the recovery

second_may : IsTrace pair_alone pair_saved pair_second pair_twice
unfolding first_passing total_from
second_may = (
  (refl, again_may),
  ((refl, (record { machine = low; runs = refl }, record { vertex = 1; flight = refl; ready = refl; not_pending = refl; task = refl; ticket = omega arith })), refl),
)

back_may : GoesBackTo pair_alone pair_failed pair_kept
unfolding first_passing total_from
back_may =
    record {
      failed = low;
      number = refl;
      numbers = refl;
      kept = pair_entry ∷ [];
      order = refl;
      same = IsPermutation-refl (pair_entry ∷ []);
      by_ticket = (low_low 0, one_two);
    }
  where
    one_two : 1 ≤ 2
    one_two = omega arith

last_may : IsTrace pair_alone pair_twice (Fail 0 ∷ Recover pair_kept ∷ []) pair_again
unfolding first_passing total_from
last_may = ((refl, record { machine = low; runs = refl }), ((refl, back_may), refl))

trace_is : IsTrace pair_alone pair_at_first pair_trace pair_again
trace_is =
    trace_append pair_updates (pair_saves ++ (pair_second ++ (Fail 0 ∷ Recover pair_kept ∷ []))) pair_alone pair_at_first pair_updated pair_again updates_may
    (trace_append pair_saves (pair_second ++ (Fail 0 ∷ Recover pair_kept ∷ [])) pair_alone pair_updated pair_saved pair_again saves_may
    (trace_append pair_second (Fail 0 ∷ Recover pair_kept ∷ []) pair_alone pair_saved pair_twice pair_again second_may last_may))

-- ---- it follows the job

updates_follow : FollowJob pair_alone pair_failures pair_at_first pair_updates
unfolding first_passing
updates_follow = (tt, (tt, (refl, (tt, (refl, tt)))))

saves_follow : FollowJob pair_alone pair_failures pair_updated pair_saves
unfolding first_passing total_from
saves_follow = (tt, (tt, (tt, (tt, (refl, (tt, (tt, (tt, (tt, (tt, (tt, (tt, (tt, (tt, (refl, tt)))))))))))))))

second_follows : FollowJob pair_alone pair_failures pair_saved pair_second
unfolding first_passing total_from
second_follows = (tt, (refl, tt))

one_alone : (P : ℕ → Type 0) → P 0 → (a : ℕ) → a < 1 → P a
one_alone P first zero within = first
one_alone P first (suc n) within = absurd (no_other n within)
  where
    no_other : (n : ℕ) → suc n < 1 → ⊥
    no_other n is = omega arith

last_follows : FollowJob pair_alone pair_failures pair_twice (Fail 0 ∷ Recover pair_kept ∷ [])
unfolding first_passing total_from
last_follows = (refl, (one_alone _ (λ reached. refl), tt))

pub is_trace : IsTraceOfCall pair_alone pair_failures [] false pair_base pair_cluster pair_trace pair_again
is_trace =
    record {
      is = setting_is;
      coloured = coloured;
      opened = opened;
      trace = trace_is;
      follows =
          follow_append pair_failures pair_updates (pair_saves ++ (pair_second ++ (Fail 0 ∷ Recover pair_kept ∷ []))) pair_alone pair_at_first updates_follow
          (follow_append pair_failures pair_saves (pair_second ++ (Fail 0 ∷ Recover pair_kept ∷ [])) pair_alone pair_updated saves_follow
          (follow_append pair_failures pair_second (Fail 0 ∷ Recover pair_kept ∷ []) pair_alone pair_saved second_follows last_follows));
    }

-- ---- what it leads to

pub recorded_once : length (recorded_in pair_alone pair_at_first pair_trace) ≡ 1
recorded_once = refl

pub reached_two : (has_reached pair_failures pair_twice 0 ≡ true) × (FollowsJob pair_alone pair_failures pair_twice (DeliverCall 0) → ⊥)
unfolding first_passing total_from
reached_two = (refl, λ follows. true_false follows)

pub failed_then : ((pair_failed.machine 0).failed ≡ true) × ((pair_again.machine 0).failed ≡ false)
unfolding first_passing total_from
failed_then = (refl, refl)

pub counts_then : (completed (pair_again.machine 0) ≡ 2) × (pair_again.next ≡ 2) × (pair_again.left ≡ 1)
unfolding first_passing total_from
counts_then = (refl, refl, refl)
