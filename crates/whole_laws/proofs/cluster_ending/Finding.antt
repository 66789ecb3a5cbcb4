-- What two waves that show the end leave.
use Rattle.std.proofs.Common.{◌≡◌, ◌⊎◌, ℕ, zero, suc, ◌+◌, ◌<◌, ◌≤◌, true, false, Option, None, Some, List, length, sum_by, slice_index_or, refl, sym, ◌∙◌, ap, subst, ⊎_elim, inl, inr, arith}
use Rattle.std.proofs.lemmas.Bool.{both_ways, false_from_ne_true}
use Rattle.std.proofs.lemmas.List.Elements.{All-get_or}
use Rattle.gl_base.specs.declared.scopes.Counted.{Counted}
use Rattle.cluster_laws.specs.cluster_core.Replays.{tasks_of}
use Rattle.cluster_laws.specs.cluster_core.Settings.{IsSetting, Setting}
use Rattle.cluster_laws.specs.cluster_core.Ways.{vertex_woken}
use Rattle.cluster_laws.specs.cluster_core.Worlds.{way}
use Rattle.cluster_laws.specs.cluster_model.Clusters.{Cluster}
use Rattle.cluster_laws.specs.cluster_model.Counting.{Counting}
use Rattle.cluster_laws.specs.cluster_model.Leading.{HasSeenTheEnd}
use Rattle.cluster_laws.specs.cluster_model.Machines.{count_of}
use Rattle.cluster_laws.specs.cluster_model.Totals.{total}
use Rattle.cluster_laws.specs.cluster_model.TwoWaves.{IsIdleAnswer, TwoWaves, received_of, sent_of, total_sent}
use Rattle.whole_laws.specs.cluster_whole.Steps.{Holds, IsCalled, Tells, Told, Turn, come_of, is_told}
use Rattle.whole_laws.specs.cluster_whole.Views.{world_of}
use Rattle.whole_laws.specs.cluster_whole.Whole.{IsWhole}
use Rattle.whole_laws.proofs.cluster_whole.Due.{sums_are}
use Rattle.whole_laws.proofs.cluster_whole.Flows.{nothing_under_way}
use Rattle.whole_laws.proofs.cluster_whole.Within.{is_free}
use Rattle.whole_laws.specs.cluster_ending.Ends.{HasEnded, HasFinishedOrder}
use Rattle.whole_laws.specs.cluster_ending.Watched.{HasAnswered, HasNoTaskLeft, HasSettled, IsDoneSince, IsIdleWave, IsNotAbove, IsWatched, SomeMoved, Watch, last_counts, shown_by, shown_in}
use Rattle.whole_laws.proofs.cluster_ending.Coming.{last_whole}
use Rattle.whole_laws.proofs.cluster_ending.Idle.{idle_flying, idle_pending, idle_queues, idle_tasks}
use Rattle.whole_laws.proofs.cluster_ending.Leaving.{none_woken}
use Rattle.whole_laws.proofs.cluster_ending.Sums.{total_from-less}

zero_low : (n : ℕ) → 0 ≤ n
zero_low n = omega arith

zero_more : (k : ℕ) → k ≡ 0 + k
zero_more k = omega arith

in_range : (a n : ℕ) → a < 0 + n → a < n
in_range a n low = omega arith

to_range : (a n : ℕ) → a < n → a < 0 + n
to_range a n low = omega arith

zero_or : (n : ℕ) → (n ≡ 0) ⊎ (0 < n)
zero_or zero = inl refl
zero_or (suc n) = inr (omega arith)

not_less : (a b s : ℕ) → a < b → a ≡ s → b ≡ s → ⊥
not_less a b s less one other = omega arith

between : (a b c : ℕ) → a ≤ b → b ≤ c → c ≡ a → c ≡ b
between a b c low high is = omega arith

some_same : (x y : Counted) → Some x ≡ Some y → x ≡ y
some_same x y is = cc

some_idle : (o : Option Counted) → IsIdleAnswer o → (x : Counted) × (o ≡ Some x)
some_idle None idle = absurd idle
some_idle (Some x) idle = (x, refl)

told_is : (turn : Turn) (now : Counted) → is_told turn ≡ true → come_of turn ≡ Some (shown_in turn now)
told_is IsCalled now told = absurd (both_ways false refl told)
told_is Holds now told = absurd (both_ways false refl told)
told_is (Tells counts) now told = absurd (both_ways false refl told)
told_is (Told counts) now told = refl

told_low : (st : Setting) (then now : ℕ) (c : Cluster) (a : ℕ) (turn : Turn) → is_told turn ≡ true → HasAnswered st then now turn (c.machine a) → IsNotAbove (shown_in turn (count_of st (c.machine a))) (count_of st (c.machine a))
told_low st then now c a IsCalled told was = absurd (both_ways false refl told)
told_low st then now c a Holds told was = absurd (both_ways false refl told)
told_low st then now c a (Tells counts) told was = absurd (both_ways false refl told)
told_low st then now c a (Told counts) told was = was.low

module _ (st : Setting) (c : Cluster) (watch : Watch) (was : IsWatched st c watch) (end : HasSeenTheEnd c.coordinator) where
  abbrev counting : Counting
  counting = c.coordinator.rounds.counting

  abbrev ws : TwoWaves
  ws = counting.waves

  pub last_is : last_counts counting ≡ ws.before
  last_is = last_whole counting end.whole

  some_put : (a : ℕ) → a < st.machines → 0 < counting.put_out
  some_put a low =
      ⊎_elim
      (λ (none : counting.put_out ≡ 0).
      absurd (subst IsIdleAnswer (was.first none a low).0 (All-get_or IsIdleAnswer ws.wave a None (subst (λ (n : ℕ). a < n) (sym was.many) low) end.shown.idle)))
      (λ (some : 0 < counting.put_out). some)
      (zero_or counting.put_out)

  -- what came in this wave is what each machine shows
  wave_slot : (a : ℕ) → a < st.machines → slice_index_or ws.wave a None ≡ Some (shown_by st c watch a)
  wave_slot a low = (was.machines a low).come end.whole (some_put a low) ∙ told_is (watch.turn a) (count_of st (c.machine a)) (was.told end.whole a low)

  later : (a : ℕ) → a < st.machines → (o : Option Counted) → slice_index_or ws.before a None ≡ o → (received_of o ≤ received_of (slice_index_or ws.wave a None)) × (sent_of o ≤ sent_of (slice_index_or ws.wave a None))
  later a low None is = (zero_low (received_of (slice_index_or ws.wave a None)), zero_low (sent_of (slice_index_or ws.wave a None)))
  later a low (Some counts) is =
      let low_is = (was.machines a low).later counts (ap (λ (xs : List (Option Counted)). slice_index_or xs a None) last_is ∙ is) in
      (subst (λ (o : Option Counted). counts.received ≤ received_of o) (sym (wave_slot a low)) low_is.received, subst (λ (o : Option Counted). counts.sent ≤ sent_of o) (sym (wave_slot a low)) low_is.sent)

  pub summed : (f : Option Counted → ℕ) (xs : List (Option Counted)) → length xs ≡ st.machines → sum_by f xs ≡ total st.machines (λ a. f (slice_index_or xs a None))
  summed f xs long =
      sums_are f xs 0 (λ a. f (slice_index_or xs a None)) (λ i low. ap (λ (a : ℕ). f (slice_index_or xs a None)) (zero_more i))
      ∙ ap (λ (n : ℕ). total n (λ a. f (slice_index_or xs a None))) long

  less_by : (f : Option Counted → ℕ) (a : ℕ) → a < st.machines → ((b : ℕ) → b < st.machines → f (slice_index_or ws.before b None) ≤ f (slice_index_or ws.wave b None)) →
      f (slice_index_or ws.before a None) < f (slice_index_or ws.wave a None) → sum_by f ws.before ≡ total_sent ws.before → sum_by f ws.wave ≡ total_sent ws.before → ⊥
  less_by f a low all less before wave =
      not_less (total st.machines (λ b. f (slice_index_or ws.before b None))) (total st.machines (λ b. f (slice_index_or ws.wave b None))) (total_sent ws.before)
      (total_from-less 0 st.machines (λ b. f (slice_index_or ws.before b None)) (λ b. f (slice_index_or ws.wave b None)) a (zero_low a) (to_range a st.machines low) (λ b from to. all b (in_range b st.machines to)) less)
      (sym (summed f ws.before was.many_before) ∙ before) (sym (summed f ws.wave was.many) ∙ wave)

  none_moved : SomeMoved st counting c watch → ⊥
  none_moved some =
      let a : ℕ = some.0 in
      let counts : Counted = some.1 in
      let low : a < st.machines = some.2 in
      let slot : slice_index_or ws.before a None ≡ Some counts = ap (λ (xs : List (Option Counted)). slice_index_or xs a None) (sym last_is) ∙ some.3 in
      ⊎_elim
      (λ (more : counts.received < (shown_by st c watch a).received).
      less_by received_of a low (λ b b_low. (later b b_low (slice_index_or ws.before b None) refl).0)
      (subst (λ (o : Option Counted). received_of o < received_of (slice_index_or ws.wave a None)) (sym slot) (subst (λ (o : Option Counted). counts.received < received_of o) (sym (wave_slot a low)) more))
      end.shown.received_before end.shown.received)
      (λ (more : counts.sent < (shown_by st c watch a).sent).
      less_by sent_of a low (λ b b_low. (later b b_low (slice_index_or ws.before b None) refl).1)
      (subst (λ (o : Option Counted). sent_of o < sent_of (slice_index_or ws.wave a None)) (sym slot) (subst (λ (o : Option Counted). counts.sent < sent_of o) (sym (wave_slot a low)) more))
      refl end.shown.sent)
      some.4

  was_idle : IsIdleWave (last_counts counting)
  was_idle = subst IsIdleWave (sym last_is) (record { idle = end.shown.idle_before; even = end.shown.received_before })

  pub done : IsDoneSince st c (last_counts counting)
  done = ⊎_elim (λ (is : IsDoneSince st c (last_counts counting)). is) (λ (some : SomeMoved st counting c watch). absurd (none_moved some)) (was.after_idle was_idle)

  pub no_task_left : HasNoTaskLeft st (world_of c)
  no_task_left = done.left

  -- each machine has made the updates that it told
  pub updates_told : (a : ℕ) (counts : Counted) → a < st.machines → slice_index_or ws.wave a None ≡ Some counts → length (c.machine a).part.log ≡ counts.updates
  updates_told a counts low come =
      let some = some_idle (slice_index_or ws.before a None) (All-get_or IsIdleAnswer ws.before a None (subst (λ (n : ℕ). a < n) (sym was.many_before) low) end.shown.idle_before) in
      let slot : slice_index_or (last_counts counting) a None ≡ Some some.0 = ap (λ (xs : List (Option Counted)). slice_index_or xs a None) last_is ∙ some.1 in
      let at = was.machines a low in
      between some.0.updates (shown_by st c watch a).updates (length (c.machine a).part.log) (at.later some.0 slot).updates
      (told_low st watch.begun_newest c.coordinator.begun c a (watch.turn a) (was.told end.whole a low) at.told).updates (done.updates a some.0 low slot)
      ∙ ap (λ (x : Counted). x.updates) (some_same (shown_by st c watch a) counts (sym (wave_slot a low) ∙ come))

  pub at_rest : watch.begun_before ≡ c.coordinator.begun → HasSettled st c
  at_rest at = ⊎_elim (λ (is : HasSettled st c). is) (λ (some : SomeMoved st counting c watch). absurd (none_moved some)) (was.at_rest at was_idle)

-- nothing is left of a cluster at rest
pub rest_ends : (st : Setting) (c : Cluster) → IsWhole st c → HasSettled st c → HasEnded st c
rest_ends st c whole rest =
    record {
      tasks = λ a v low within. idle_tasks st (c.machine a).part (rest.idle a low) v within;
      pending = λ a v low within. idle_pending st (c.machine a).part (rest.idle a low) v within;
      scopes = λ s low. is_free st s.home.0 (c.machine s.home.0) (whole.within s.home.0) (idle_flying st (c.machine s.home.0).part (rest.idle s.home.0 low)) s;
      queues = λ a x low within. idle_queues st (c.machine a).part (rest.idle a low) x within;
      ways = λ p q p_low q_low. nothing_under_way st (world_of c) rest.silent p q p_low q_low;
    }

-- the order is finished where no task is left
pub left_finished : (st : Setting) → IsSetting st → (c : Cluster) → IsWhole st c → HasNoTaskLeft st (world_of c) → HasFinishedOrder st c
left_finished st is c whole left =
    let kept = whole.consistent in
    let replay = kept.replay in
    record {
      order = kept.order;
      valid = replay.valid;
      logs = replay.logs;
      finished = λ u within. false_from_ne_true (tasks_of st kept.order u) (λ task.
          ⊎_elim
          (λ (own : (c.machine (st.owner u)).part.task u ≡ true). both_ways ((c.machine (st.owner u)).part.task u) (left.tasks (st.owner u) (is.owner u within) u within) own)
          (λ (woken : (p : ℕ) × (vertex_woken u (way (world_of c) p (st.owner u)) ≡ true)).
          both_ways (vertex_woken u (way (world_of c) woken.0 (st.owner u))) (none_woken st is (world_of c) kept.copies.told left woken.0 (st.owner u) u) woken.1)
          ((replay.tasks u within).0 task));
      numbers = replay.numbers;
    }
