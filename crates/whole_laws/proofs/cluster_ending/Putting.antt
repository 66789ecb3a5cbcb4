-- The coordinator puts a wave out or begins a snapshot, and what a recovery begins with.
use Rattle.std.proofs.Common.{◌≡◌, ◌⊎◌, ℕ, zero, suc, pred, ◌+◌, ◌<◌, ◌≤◌, true, false, is_some, Option, None, Some, List, [], ◌∷◌, ◌++◌, length, slice_index_or, refl, sym, ◌∙◌, ap, subst, ⊎_elim, inl, inr, le_refl, le_trans, append_assoc, append-nil, arith}
use Rattle.std.proofs.lemmas.Bool.{both_ways, cases_Bool, cases_lt}
use Rattle.std.proofs.lemmas.List.{get_or-replicate, length-replicate}
use Rattle.std.proofs.lemmas.List.Elements.{All-get_or}
use Rattle.std.proofs.lemmas.List.Folds.{list_all_at}
use Rattle.gl_base.specs.declared.scopes.Counted.{Counted}
use Rattle.cluster_laws.specs.cluster_core.Settings.{Setting}
use Rattle.cluster_laws.specs.cluster_core.Ways.{vertex_woken}
use Rattle.cluster_laws.specs.cluster_core.Worlds.{way}
use Rattle.cluster_laws.specs.cluster_model.Calls.{Begin, Call, Wave, begins_in}
use Rattle.cluster_laws.specs.cluster_model.Clusters.{BaseView, Cluster, call_way, with_coordinator}
use Rattle.cluster_laws.specs.cluster_model.Counting.{Counting, count_wave, first_counting}
use Rattle.cluster_laws.specs.cluster_model.Events.{recovers}
use Rattle.cluster_laws.specs.cluster_model.Leading.{begins_snapshot, puts_wave}
use Rattle.cluster_laws.specs.cluster_model.Machines.{Machine, count_of}
use Rattle.cluster_laws.specs.cluster_model.Totals.{total, total_from}
use Rattle.cluster_laws.specs.cluster_model.TwoWaves.{IsIdleAnswer, TwoWaves, all_answered, no_counts, no_waves, received_of, sent_of, total_received, total_sent, turned}
use Rattle.whole_laws.specs.cluster_whole.Steps.{Holds, IsCalled, Tells, Told, Turn, calls_of, come_of, held_of, is_told, reports_of, messages_between}
use Rattle.whole_laws.specs.cluster_whole.Views.{world_of}
use Rattle.whole_laws.proofs.cluster_whole.Due.{sums_are}
use Rattle.whole_laws.proofs.cluster_whole.Flows.{nothing_under_way, total_from-none}
use Rattle.whole_laws.proofs.cluster_whole.Pieces.{begins_pushed}
use Rattle.whole_laws.proofs.cluster_whole.Telling.{turned_part, turned_whole}
use Rattle.whole_laws.specs.cluster_ending.Watched.{AreWatched, HasAnswered, HasMoved, HasTold, HasSettled, IsDoneSince, IsIdleWave, IsNotAbove, IsTurnOf, SomeMoved, Watch, behind_wave, last_counts, told_behind, waves_in}
use Rattle.whole_laws.proofs.cluster_ending.Coming.{turned_before_long}
use Rattle.whole_laws.proofs.cluster_ending.Sums.{all_or_some}
use Rattle.whole_laws.proofs.cluster_ending.Turns.{watch_of}
use Rattle.whole_laws.proofs.cluster_ending.Words.{begins_behind, begins_came, wave_came, waves-append}

zero_or : (n : ℕ) → (n ≡ 0) ⊎ (0 < n)
zero_or zero = inl refl
zero_or (suc n) = inr (omega arith)

not_any : (a n : ℕ) → n ≡ 0 → a < n → ⊥
not_any a n none low = omega arith

none_put : (n : ℕ) → 0 < n → n ≡ 0 → ⊥
none_put n some none = omega arith

zero_less : (n : ℕ) → 0 < suc n
zero_less n = omega arith

suc_none : (n : ℕ) → suc n ≡ 0 → ⊥
suc_none n is = omega arith

same_or_less : (a b : ℕ) → a ≤ b → (b ≡ a) ⊎ (a < b)
same_or_less a b low = ⊎_elim (λ (less : a < b). inr less) (λ (high : b ≤ a). inl (omega arith)) (cases_lt a b)

zero_more : (k : ℕ) → 0 + k ≡ k
zero_more k = omega arith

in_range : (a n : ℕ) → a < 0 + n → a < n
in_range a n low = omega arith

to_range : (a n : ℕ) → a < n → a < 0 + n
to_range a n low = omega arith

zero_low : (n : ℕ) → 0 ≤ n
zero_low n = omega arith

none_and : (n : ℕ) → 0 + n ≤ n
none_and n = omega arith

none_flows : (sent received flow told_sent told_received : ℕ) → sent ≡ received + flow → told_sent ≡ sent → told_received ≡ received → told_received ≡ told_sent → flow ≡ 0
none_flows sent received flow told_sent told_received one two three four = omega arith

some_same : (x y : Counted) → Some x ≡ Some y → x ≡ y
some_same x y is = cc

none_some : (x : Counted) → None ≡ Some x → ⊥
none_some x is = cc

total_none : (f : ℕ → ℕ) → total_from 0 0 f ≡ 0
unfolding total_from
total_none f = refl

abbrev pub no_numbers : Counted
no_numbers = record { sent = 0; received = 0; updates = 0; idle = false }

-- what the machine told
answer_in : Turn → Counted
answer_in IsCalled = no_numbers
answer_in Holds = no_numbers
answer_in (Tells counts) = counts
answer_in (Told counts) = counts

is_answer : (turn : Turn) → is_told turn ≡ true → turn ≡ Told (answer_in turn)
unfolding answer_in
is_answer IsCalled told = absurd (both_ways false refl told)
is_answer Holds told = absurd (both_ways false refl told)
is_answer (Tells counts) told = absurd (both_ways false refl told)
is_answer (Told counts) told = refl

module _ (st : Setting) (begun : ℕ) (c : Cluster) (turn : ℕ → Turn) (before newest : ℕ) (was : AreWatched st c.coordinator.rounds.counting begun c (watch_of turn before newest)) where
  abbrev counting : Counting
  counting = c.coordinator.rounds.counting

  abbrev ws : TwoWaves
  ws = counting.waves

  module _ (whole : counting.waiting ≡ false) where
    abbrev asked : Cluster
    asked = with_coordinator c (puts_wave c.coordinator)

    abbrev next : Counting
    next = count_wave counting

    abbrev later : Watch
    later = watch_of (λ a. IsCalled) newest begun

    abbrev answer : ℕ → Counted
    answer a = answer_in (turn a)

    turn_is : (a : ℕ) → a < st.machines → turn a ≡ Told (answer a)
    turn_is a low = is_answer (turn a) (was.told whole a low)

    has_told : (a : ℕ) → a < st.machines → HasTold st newest begun (answer a) (c.machine a)
    has_told a low = subst (λ (t : Turn). HasAnswered st newest begun t (c.machine a)) (turn_is a low) (was.machines a low).told

    slot : (a : ℕ) → a < st.machines → 0 < counting.put_out → slice_index_or ws.wave a None ≡ Some (answer a)
    slot a low some = (was.machines a low).come whole some ∙ ap come_of (turn_is a low)

    -- the wave that is over was answered by all
    all_of : (a : ℕ) → a < st.machines → 0 < counting.put_out → all_answered ws.wave ≡ true
    all_of a low some =
        ⊎_elim
        (λ (all : all_answered ws.wave ≡ true). all)
        (λ (part : all_answered ws.wave ≡ false).
        absurd (none_some (answer a) (sym (ap (λ (x : TwoWaves). slice_index_or x.wave a None) (sym (turned_part ws part)) ∙ was.fresh whole a low) ∙ slot a low some)))
        (cases_Bool (all_answered ws.wave))

    last_is : (a : ℕ) → a < st.machines → 0 < counting.put_out → last_counts next ≡ ws.wave
    last_is a low some = ap (λ (x : TwoWaves). x.before) (turned_whole ws (all_of a low some))

    last_slot : (a : ℕ) → a < st.machines → 0 < counting.put_out → slice_index_or (last_counts next) a None ≡ Some (answer a)
    last_slot a low some = ap (λ (xs : List (Option Counted)). slice_index_or xs a None) (last_is a low some) ∙ slot a low some

    no_last : (a : ℕ) → a < st.machines → counting.put_out ≡ 0 → slice_index_or (last_counts next) a None ≡ None
    no_last a low none =
        let first = was.first none a low in
        let part : all_answered ws.wave ≡ false = list_all_at (λ (x : Option Counted). is_some x) ws.wave a None (subst (λ (n : ℕ). a < n) (sym was.many) low) (ap (λ (x : Option Counted). is_some x) first.0) in
        ap (λ (x : TwoWaves). slice_index_or x.before a None) (turned_part ws part) ∙ first.1

    long : length (last_counts next) ≡ st.machines
    long = turned_before_long ws st.machines was.many was.many_before

    later_low : (a : ℕ) → a < st.machines → (counts : Counted) → slice_index_or (last_counts next) a None ≡ Some counts → IsNotAbove counts (count_of st (c.machine a))
    later_low a low counts come =
        ⊎_elim
        (λ (none : counting.put_out ≡ 0). absurd (none_some counts (sym (no_last a low none) ∙ come)))
        (λ (some : 0 < counting.put_out). subst (λ (x : Counted). IsNotAbove x (count_of st (c.machine a))) (some_same (answer a) counts (sym (last_slot a low some) ∙ come)) (has_told a low).low)
        (zero_or counting.put_out)

    no_waves_on : (a : ℕ) → a < st.machines → waves_in (call_way c a) ≡ []
    no_waves_on a low = (was.machines a low).calls ∙ ap (calls_of (pred counting.put_out)) (turn_is a low)

    wave_at : (a : ℕ) → a < st.machines → IsTurnOf st next begun asked later a
    wave_at a low =
        let at = was.machines a low in
        let pushed : call_way asked a ≡ call_way c a ++ Wave counting.put_out ∷ [] = sym (append_assoc (c.calls a) (c.coordinator.out a) (Wave counting.put_out ∷ [])) in
        record {
          calls = ap waves_in pushed ∙ waves-append (call_way c a) (Wave counting.put_out ∷ []) ∙ ap (λ (cs : List Call). cs ++ Wave counting.put_out ∷ []) (no_waves_on a low);
          held = at.held ∙ ap (held_of (pred counting.put_out)) (turn_is a low);
          reports = at.reports ∙ ap (reports_of (pred counting.put_out)) (turn_is a low);
          missing = λ waiting. was.fresh whole a low;
          come = λ not_waiting. absurd (both_ways true not_waiting refl);
          later = later_low a low;
          told = tt;
          begins = subst (λ (ks : List ℕ). length ks + newest ≤ begun)
              (sym (begins_pushed (c.calls a) (c.coordinator.out a) (Wave counting.put_out) ∙ append-nil (begins_in (call_way c a))))
              (subst (λ (t : Turn). length (begins_in (told_behind t (call_way c a))) + newest ≤ begun) (turn_is a low) at.begins_newest);
          begins_newest = subst (λ (cs : List Call). length (begins_in cs) + begun ≤ begun) (sym (ap behind_wave pushed ∙ wave_came (call_way c a) counting.put_out (no_waves_on a low))) (none_and begun);
        }

    -- ---- where that wave was idle

    abbrev Same : ℕ → Type 0
    Same a = ((c.machine a).received ≡ (answer a).received) × ((c.machine a).sent ≡ (answer a).sent)

    abbrev Moved : ℕ → Type 0
    Moved a = HasMoved (answer a) (count_of st (c.machine a))

    same_or_moved : (a : ℕ) → a < st.machines → Same a ⊎ Moved a
    same_or_moved a low =
        let told = has_told a low in
        ⊎_elim
        (λ (received : (c.machine a).received ≡ (answer a).received). ⊎_elim
        (λ (sent : (c.machine a).sent ≡ (answer a).sent). inl (received, sent))
        (λ (less : (answer a).sent < (c.machine a).sent). inr (inr less))
        (same_or_less (answer a).sent (c.machine a).sent told.low.sent))
        (λ (less : (answer a).received < (c.machine a).received). inr (inl less))
        (same_or_less (answer a).received (c.machine a).received told.low.received)

    module _ (some : 0 < counting.put_out) (any : 0 < st.machines) (idle : IsIdleWave (last_counts next)) where
      idle_at : (a : ℕ) → a < st.machines → (answer a).idle ≡ true
      idle_at a low =
          subst IsIdleAnswer (last_slot a low some) (All-get_or IsIdleAnswer (last_counts next) a None (subst (λ (n : ℕ). a < n) (sym long) low) idle.idle)

      module _ (same : (a : ℕ) → a < st.machines → Same a) where
        at_low : (a : ℕ) → a < length ws.wave → a < st.machines
        at_low a low = subst (λ (n : ℕ). a < n) was.many low

        sent_is : total_sent ws.wave ≡ total st.machines (λ a. (c.machine a).sent)
        sent_is =
            sums_are sent_of ws.wave 0 (λ a. (c.machine a).sent) (λ i low. ap sent_of (slot i (at_low i low) some) ∙ sym (same i (at_low i low)).1 ∙ ap (λ (a : ℕ). (c.machine a).sent) (sym (zero_more i)))
            ∙ ap (λ (n : ℕ). total n (λ a. (c.machine a).sent)) was.many

        received_is : total_received ws.wave ≡ total st.machines (λ a. (c.machine a).received)
        received_is =
            sums_are received_of ws.wave 0 (λ a. (c.machine a).received) (λ i low. ap received_of (slot i (at_low i low) some) ∙ sym (same i (at_low i low)).0 ∙ ap (λ (a : ℕ). (c.machine a).received) (sym (zero_more i)))
            ∙ ap (λ (n : ℕ). total n (λ a. (c.machine a).received)) was.many

        silent : messages_between st (world_of c) ≡ 0
        silent =
            none_flows (total st.machines (λ a. (c.machine a).sent)) (total st.machines (λ a. (c.machine a).received)) (messages_between st (world_of c)) (total_sent ws.wave) (total_received ws.wave)
            was.balanced sent_is received_is (subst (λ (xs : List (Option Counted)). total_received xs ≡ total_sent xs) (last_is 0 any some) idle.even)

        done_since : IsDoneSince st asked (last_counts next)
        done_since =
            record {
              left = record {
                tasks = λ a low. ((has_told a low).untasked (idle_at a low) (same a low).0).0;
                wakes = λ p q u p_low q_low within. ap (vertex_woken u) (nothing_under_way st (world_of c) silent p q p_low q_low);
              };
              updates = λ a told low come. ((has_told a low).untasked (idle_at a low) (same a low).0).1 ∙ ap (λ (x : Counted). x.updates) (some_same (answer a) told (sym (last_slot a low some) ∙ come));
            }

        at_rest : newest ≡ begun → HasSettled st asked
        at_rest at =
            record { idle = λ a low. ap (λ (x : Counted). x.idle) ((has_told a low).resting at (idle_at a low) (same a low).0) ∙ idle_at a low; silent = silent }

      moved_on : (a : ℕ) × (a < 0 + st.machines) × Moved a → SomeMoved st next asked later
      moved_on found = let low = in_range found.0 st.machines found.1 in (found.0, answer found.0, low, last_slot found.0 low some, found.2)

      by_search : (X : Type 0) → (((a : ℕ) → a < st.machines → Same a) → X) → X ⊎ SomeMoved st next asked later
      by_search X make =
          ⊎_elim
          (λ (all : (a : ℕ) → 0 ≤ a → a < 0 + st.machines → Same a). inl (make (λ a low. all a (zero_low a) (to_range a st.machines low))))
          (λ (found : (a : ℕ) × (a < 0 + st.machines) × Moved a). inr (moved_on found))
          (all_or_some 0 st.machines Same Moved (λ a from to. same_or_moved a (in_range a st.machines to)))

    -- before the first wave no wave was idle, but where there is no machine
    by_cases : (X : Type 0) → (st.machines ≡ 0 → X) → (0 < st.machines → 0 < counting.put_out → IsIdleWave (last_counts next) → X) → IsIdleWave (last_counts next) → X
    by_cases X none_any make idle =
        ⊎_elim
        (λ (none : st.machines ≡ 0). none_any none)
        (λ (any : 0 < st.machines). ⊎_elim
        (λ (none : counting.put_out ≡ 0). absurd (subst IsIdleAnswer (no_last 0 any none) (All-get_or IsIdleAnswer (last_counts next) 0 None (subst (λ (n : ℕ). 0 < n) (sym long) any) idle.idle)))
        (λ (some : 0 < counting.put_out). make any some idle)
        (zero_or counting.put_out))
        (zero_or st.machines)

    no_machine_done : st.machines ≡ 0 → IsDoneSince st asked (last_counts next)
    no_machine_done none =
        record {
          left = record { tasks = λ a low. absurd (not_any a st.machines none low); wakes = λ p q u p_low. absurd (not_any p st.machines none p_low) };
          updates = λ a told low. absurd (not_any a st.machines none low);
        }

    no_machine_rests : st.machines ≡ 0 → HasSettled st asked
    no_machine_rests none =
        record {
          idle = λ a low. absurd (not_any a st.machines none low);
          silent = ap (λ (n : ℕ). total_from 0 n (λ p. total_from 0 st.machines (λ q. length (way (world_of c) p q)))) none ∙ total_none (λ p. total_from 0 st.machines (λ q. length (way (world_of c) p q)));
        }

    pub wave_put_watched : AreWatched st next begun asked later
    wave_put_watched =
        record {
          machines = wave_at;
          told = λ not_waiting. absurd (both_ways true not_waiting refl);
          fresh = λ not_waiting. absurd (both_ways true not_waiting refl);
          some = λ waiting. zero_less counting.put_out;
          first = λ none. absurd (suc_none counting.put_out none);
          many = was.many;
          many_before = was.many_before;
          numbers = (le_trans was.numbers.0 was.numbers.1, was.numbers.2, le_refl begun);
          balanced = was.balanced;
          after_idle = by_cases (IsDoneSince st asked (last_counts next) ⊎ SomeMoved st next asked later) (λ none. inl (no_machine_done none))
              (λ any some idle. by_search some any idle (IsDoneSince st asked (last_counts next)) (done_since some any idle));
          at_rest = λ at. by_cases (HasSettled st asked ⊎ SomeMoved st next asked later) (λ none. inl (no_machine_rests none))
              (λ any some idle. by_search some any idle (HasSettled st asked) (λ same. at_rest some any idle same at));
        }

  -- ---- a snapshot begins

  abbrev started : Cluster
  started = with_coordinator c (begins_snapshot c.coordinator)

  suc_above : (n m : ℕ) → n ≤ m → n ≡ suc m → ⊥
  suc_above n m low is = omega arith

  suc_later : (n m : ℕ) → n ≤ m → n ≤ suc m
  suc_later n m low = omega arith

  one_more : (new old then now : ℕ) → new ≤ suc old → old + then ≤ now → new + then ≤ suc now
  one_more new old then now longer low = omega arith

  one_longer : (new old then now : ℕ) → new ≡ suc old → old + then ≤ now → new + then ≤ suc now
  one_longer new old then now longer low = omega arith

  told_later : (t : Turn) (m : Machine) → HasAnswered st newest begun t m → HasAnswered st newest (suc begun) t m
  told_later IsCalled m told = tt
  told_later Holds m told = tt
  told_later (Tells counts) m told = record { low = told.low; untasked = told.untasked; resting = λ at. absurd (suc_above newest begun was.numbers.2 at) }
  told_later (Told counts) m told = record { low = told.low; untasked = told.untasked; resting = λ at. absurd (suc_above newest begun was.numbers.2 at) }

  begin_at : (a : ℕ) → a < st.machines → IsTurnOf st counting (suc begun) started (watch_of turn before newest) a
  begin_at a low =
      let at = was.machines a low in
      let call : Call = Begin (suc c.coordinator.begun) in
      let pushed : call_way started a ≡ call_way c a ++ call ∷ [] = sym (append_assoc (c.calls a) (c.coordinator.out a) (call ∷ [])) in
      record {
        calls = ap waves_in pushed ∙ waves-append (call_way c a) (call ∷ []) ∙ append-nil (waves_in (call_way c a)) ∙ at.calls;
        held = at.held;
        reports = at.reports;
        missing = at.missing;
        come = at.come;
        later = at.later;
        told = told_later (turn a) (c.machine a) at.told;
        begins = subst (λ (cs : List Call). length (begins_in cs) + before ≤ suc begun) (sym pushed)
            (one_longer (length (begins_in (call_way c a ++ call ∷ []))) (length (begins_in (call_way c a))) before begun (begins_came (call_way c a) (suc c.coordinator.begun)) at.begins);
        begins_newest = subst (λ (cs : List Call). length (begins_in (told_behind (turn a) cs)) + newest ≤ suc begun) (sym pushed)
            (one_more (length (begins_in (told_behind (turn a) (call_way c a ++ call ∷ [])))) (length (begins_in (told_behind (turn a) (call_way c a)))) newest begun
            (begins_behind (turn a) (call_way c a) (suc c.coordinator.begun)) at.begins_newest);
      }

  pub begin_watched : AreWatched st counting (suc begun) started (watch_of turn before newest)
  begin_watched =
      record {
        machines = begin_at;
        told = was.told;
        fresh = was.fresh;
        some = was.some;
        first = was.first;
        many = was.many;
        many_before = was.many_before;
        numbers = (was.numbers.0, was.numbers.1, suc_later newest begun was.numbers.2);
        balanced = was.balanced;
        after_idle = λ idle. ⊎_elim
            (λ (done : IsDoneSince st c (last_counts counting)). inl (record { left = record { tasks = done.left.tasks; wakes = done.left.wakes }; updates = done.updates }))
            (λ (some : SomeMoved st counting c (watch_of turn before newest)). inr some)
            (was.after_idle idle);
        at_rest = λ at. absurd (suc_above before begun (le_trans was.numbers.1 was.numbers.2) at);
      }

-- ---- a recovery

none_told : (st : Setting) (then now : ℕ) (m : Machine) → HasTold st then now no_numbers m
none_told st then now m =
    record {
      low = record { sent = zero_low m.sent; received = zero_low m.received; updates = zero_low (length m.part.log) };
      untasked = λ idle. absurd (both_ways false refl idle);
      resting = λ at idle. absurd (both_ways false refl idle);
    }

all_none : (x y z : ℕ) → x ≡ 0 → y ≡ 0 → z ≡ 0 → x ≡ y + z
all_none x y z one two three = omega arith

module _ (st later : Setting) (base : BaseView) (c : Cluster) (machines : later.machines ≡ st.machines) (number : later.base ≡ base.number) where
  abbrev counting_first : Counting
  counting_first = first_counting st.machines

  abbrev again : Cluster
  again = recovers st base c

  slot_first : (a : ℕ) → a < later.machines → slice_index_or (no_counts st.machines) a None ≡ None
  slot_first a low = get_or-replicate st.machines a None None (subst (λ (n : ℕ). a < n) machines low)

  turned_first : (a : ℕ) → a < later.machines → slice_index_or (turned (no_waves st.machines)).wave a None ≡ None
  turned_first a low =
      ⊎_elim
      (λ (all : all_answered (no_counts st.machines) ≡ true).
      ap (λ (x : TwoWaves). slice_index_or x.wave a None) (turned_whole (no_waves st.machines) all)
      ∙ get_or-replicate (length (no_counts st.machines)) a None None (subst (λ (n : ℕ). a < n) (machines ∙ sym (length-replicate st.machines None)) low))
      (λ (part : all_answered (no_counts st.machines) ≡ false). ap (λ (x : TwoWaves). slice_index_or x.wave a None) (turned_part (no_waves st.machines) part) ∙ slot_first a low)
      (cases_Bool (all_answered (no_counts st.machines)))

  quiet_first : messages_between later (world_of again) ≡ 0
  quiet_first = total_from-none 0 later.machines (λ p. total later.machines (λ q. 0)) (λ p. total_from-none 0 later.machines (λ q. 0) (λ q. refl))

  -- where that would be an idle wave there is no machine
  no_machine : IsIdleWave (no_counts st.machines) → later.machines ≡ 0
  no_machine idle =
      ⊎_elim
      (λ (none : later.machines ≡ 0). none)
      (λ (any : 0 < later.machines).
      absurd (subst IsIdleAnswer (slot_first 0 any) (All-get_or IsIdleAnswer (no_counts st.machines) 0 None (subst (λ (n : ℕ). 0 < n) (machines ∙ sym (length-replicate st.machines None)) any) idle.idle)))
      (zero_or later.machines)

  pub recovered_watched : AreWatched later counting_first base.number again (watch_of (λ a. Told no_numbers) base.number base.number)
  recovered_watched =
      record {
        machines = λ a low. record {
          calls = refl;
          held = refl;
          reports = refl;
          missing = λ waiting. absurd (both_ways false refl waiting);
          come = λ whole some. absurd (none_put 0 some refl);
          later = λ counts come. absurd (none_some counts (sym (slot_first a low) ∙ come));
          told = none_told later base.number base.number (again.machine a);
          begins = none_and base.number;
          begins_newest = none_and base.number;
        };
        told = λ whole a low. refl;
        fresh = λ whole a low. turned_first a low;
        some = λ waiting. absurd (both_ways false refl waiting);
        first = λ none a low. (slot_first a low, slot_first a low);
        many = length-replicate st.machines None ∙ sym machines;
        many_before = length-replicate st.machines None ∙ sym machines;
        numbers = (subst (λ (n : ℕ). n ≤ base.number) (sym number) (le_refl base.number), le_refl base.number, le_refl base.number);
        balanced = all_none (total later.machines (λ a. 0)) (total later.machines (λ a. 0)) (messages_between later (world_of again))
            (total_from-none 0 later.machines (λ a. 0) (λ a. refl)) (total_from-none 0 later.machines (λ a. 0) (λ a. refl)) quiet_first;
        after_idle = λ idle.
            let none = no_machine idle in
            inl (record {
              left = record { tasks = λ a low. absurd (not_any a later.machines none low); wakes = λ p q u p_low. absurd (not_any p later.machines none p_low) };
              updates = λ a told low. absurd (not_any a later.machines none low);
            });
        at_rest = λ at idle. inl (record { idle = λ a low. absurd (not_any a later.machines (no_machine idle) low); silent = quiet_first });
      }
