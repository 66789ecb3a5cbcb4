-- A machine does something, or what waves see stays as it was.
use Rattle.std.proofs.Common.{◌≡◌, ◌≢◌, ℕ, ◌+◌, ◌<◌, ◌≤◌, Bool, true, List, [], ◌∷◌, length, refl, sym, ◌∙◌, ap, subst, ⊎_elim, inl, inr, le_refl, le_trans, arith}
use Rattle.std.proofs.lemmas.Bool.{cases_eq}
use Rattle.gl_base.specs.declared.scopes.Counted.{Counted}
use Rattle.cluster_laws.specs.cluster_core.Settings.{Setting}
use Rattle.cluster_laws.specs.cluster_core.Ways.{vertex_woken}
use Rattle.cluster_laws.specs.cluster_core.Worlds.{way}
use Rattle.cluster_laws.specs.cluster_model.Calls.{Call, begins_in}
use Rattle.cluster_laws.specs.cluster_model.Clusters.{Cluster, call_way, report_way}
use Rattle.cluster_laws.specs.cluster_model.Counting.{Counting}
use Rattle.cluster_laws.specs.cluster_model.Machines.{Machine, count_of, is_idle}
use Rattle.cluster_laws.specs.cluster_model.Totals.{total}
use Rattle.whole_laws.specs.cluster_whole.Steps.{Holds, IsCalled, Tells, Told, Turn, counts_in, messages_between}
use Rattle.whole_laws.specs.cluster_whole.Views.{world_of}
use Rattle.whole_laws.proofs.cluster_whole.Flows.{below_all, same_flows, total_from-more}
use Rattle.whole_laws.specs.cluster_ending.Watched.{AreWatched, HasAnswered, HasMoved, HoldsNoTask, HasNoTaskLeft, HasTold, HasSettled, IsDoneSince, IsNotAbove, IsTurnOf, SomeMoved, Watch, last_counts, shown_by, shown_in, told_behind}
use Rattle.whole_laws.proofs.cluster_ending.Leaving.{StaysDone}
use Rattle.whole_laws.proofs.cluster_ending.Words.{IsLikeCalls, like_behind}

-- ---- numbers

zero_low : (n : ℕ) → 0 ≤ n
zero_low n = omega arith

pub low_again : (c : Counted) → IsNotAbove c c
low_again c = record { sent = le_refl c.sent; received = le_refl c.received; updates = le_refl c.updates }

pub low_then : (c d e : Counted) → IsNotAbove c d → IsNotAbove d e → IsNotAbove c e
low_then c d e one other = record { sent = le_trans one.sent other.sent; received = le_trans one.received other.received; updates = le_trans one.updates other.updates }

less_then : (a b c : ℕ) → a < b → b ≤ c → a < c
less_then a b c less low = omega arith

pub moved_on : (c d e : Counted) → HasMoved c d → IsNotAbove d e → HasMoved c e
moved_on c d e moved low =
    ⊎_elim
    (λ (more : c.received < d.received). inl (less_then c.received d.received e.received more low.received))
    (λ (more : c.sent < d.sent). inr (less_then c.sent d.sent e.sent more low.sent))
    moved

pub shown_low : (turn : Turn) (c d : Counted) → IsNotAbove c d → IsNotAbove (shown_in turn c) (shown_in turn d)
shown_low IsCalled c d low = low
shown_low Holds c d low = low
shown_low (Tells counts) c d low = low_again counts
shown_low (Told counts) c d low = low_again counts

got_none : (counts was now : ℕ) → counts ≤ was → was ≤ now → now ≡ counts → (was ≡ counts) × (now ≡ was)
got_none counts was now low high is = (omega arith, omega arith)

no_length : (ks : List ℕ) (then now : ℕ) → length ks + then ≤ now → then ≡ now → ks ≡ []
no_length [] then now low same = refl
no_length (k ∷ ks) then now low same = absurd (omega arith)

fewer : (new old then now : ℕ) → new ≤ old → old + then ≤ now → new + then ≤ now
fewer new old then now less low = omega arith

-- ---- one machine

-- What the waves see of a machine that does something, where these snapshots are on their way to it.
pub record IsSeen (st : Setting) (begins : List ℕ) (m new : Machine) : Type 0 where
  pub low : IsNotAbove (count_of st m) (count_of st new)
  pub free : new.received ≡ m.received → HoldsNoTask st m.part → HoldsNoTask st new.part × (length new.part.log ≡ length m.part.log)
  pub rests : begins ≡ [] → new.received ≡ m.received → is_idle st m.part ≡ true → count_of st new ≡ count_of st m

-- a machine that counts the same, and has the same tasks
pub seen_alike : (st : Setting) (begins : List ℕ) (m new : Machine) → count_of st new ≡ count_of st m → new.part.task ≡ m.part.task → IsSeen st begins m new
seen_alike st begins m new counts tasks =
    record {
      low = subst (IsNotAbove (count_of st m)) (sym counts) (low_again (count_of st m));
      free = λ got none. (λ v within. ap (λ (f : ℕ → Bool). f v) tasks ∙ none v within, ap (λ (c : Counted). c.updates) counts);
      rests = λ begins_none got idle. counts;
    }

told_seen : (st : Setting) (then now : ℕ) (begins : List ℕ) (counts : Counted) (m new : Machine) → (then ≡ now → begins ≡ []) → IsSeen st begins m new → HasTold st then now counts m → HasTold st then now counts new
told_seen st then now begins counts m new none seen told =
    record {
      low = low_then counts (count_of st m) (count_of st new) told.low seen.low;
      untasked = λ idle got.
          let same = got_none counts.received m.received new.received told.low.received seen.low.received got in
          let was = told.untasked idle same.0 in
          let free = seen.free same.1 was.0 in
          (free.0, free.1 ∙ was.1);
      resting = λ at idle got.
          let same = got_none counts.received m.received new.received told.low.received seen.low.received got in
          let was = told.resting at idle same.0 in
          seen.rests (none at) same.1 (ap (λ (c : Counted). c.idle) was ∙ idle) ∙ was;
    }

answered_seen : (st : Setting) (then now : ℕ) (turn : Turn) (calls : List Call) (m new : Machine) → length (begins_in (told_behind turn calls)) + then ≤ now → IsSeen st (begins_in calls) m new →
    HasAnswered st then now turn m → HasAnswered st then now turn new
answered_seen st then now IsCalled calls m new low seen told = tt
answered_seen st then now Holds calls m new low seen told = tt
answered_seen st then now (Tells counts) calls m new low seen told = told_seen st then now (begins_in calls) counts m new (no_length (begins_in calls) then now low) seen told
answered_seen st then now (Told counts) calls m new low seen told = told_seen st then now (begins_in calls) counts m new (no_length (begins_in calls) then now low) seen told

pub turn_seen : (st : Setting) (counting : Counting) (begun : ℕ) (c new : Cluster) (watch : Watch) (a : ℕ) → IsLikeCalls (call_way c a) (call_way new a) → counts_in (report_way new a) ≡ counts_in (report_way c a) →
    (new.machine a).held ≡ (c.machine a).held → IsSeen st (begins_in (call_way c a)) (c.machine a) (new.machine a) → IsTurnOf st counting begun c watch a → IsTurnOf st counting begun new watch a
turn_seen st counting begun c new watch a calls reports held seen was =
    record {
      calls = calls.waves ∙ was.calls;
      held = held ∙ was.held;
      reports = reports ∙ was.reports;
      missing = was.missing;
      come = was.come;
      later = λ counts come. low_then counts (shown_by st c watch a) (shown_by st new watch a) (was.later counts come) (shown_low (watch.turn a) (count_of st (c.machine a)) (count_of st (new.machine a)) seen.low);
      told = answered_seen st watch.begun_newest begun (watch.turn a) (call_way c a) (c.machine a) (new.machine a) was.begins_newest seen was.told;
      begins = fewer (length (begins_in (call_way new a))) (length (begins_in (call_way c a))) watch.begun_before begun calls.begins was.begins;
      begins_newest = fewer (length (begins_in (told_behind (watch.turn a) (call_way new a)))) (length (begins_in (told_behind (watch.turn a) (call_way c a)))) watch.begun_newest begun
          (like_behind (watch.turn a) (call_way c a) (call_way new a) calls) was.begins_newest;
    }

-- ---- the cluster

-- What waves keep where something happens: no wave and no counts come or go, and what is left of it is as follows.
pub record IsDeed (st : Setting) (c new : Cluster) : Type 0 where
  pub calls : (a : ℕ) → IsLikeCalls (call_way c a) (call_way new a)
  pub reports : (a : ℕ) → counts_in (report_way new a) ≡ counts_in (report_way c a)
  pub held : (a : ℕ) → (new.machine a).held ≡ (c.machine a).held
  pub seen : (a : ℕ) → a < st.machines → IsSeen st (begins_in (call_way c a)) (c.machine a) (new.machine a)
  pub balanced : total st.machines (λ a. (c.machine a).sent) ≡ total st.machines (λ a. (c.machine a).received) + messages_between st (world_of c) →
      total st.machines (λ a. (new.machine a).sent) ≡ total st.machines (λ a. (new.machine a).received) + messages_between st (world_of new)
  pub rests : ((a : ℕ) → a < st.machines → begins_in (call_way c a) ≡ []) → HasSettled st c → HasSettled st new
  pub done : HasNoTaskLeft st (world_of c) → StaysDone st (world_of c) (world_of new)

some_moved : (st : Setting) (counting : Counting) (c new : Cluster) (watch : Watch) → ((a : ℕ) → a < st.machines → IsNotAbove (count_of st (c.machine a)) (count_of st (new.machine a))) → SomeMoved st counting c watch → SomeMoved st counting new watch
some_moved st counting c new watch low some =
    let a : ℕ = some.0 in
    (a, some.1, some.2, some.3, moved_on some.1 (shown_by st c watch a) (shown_by st new watch a) some.4 (shown_low (watch.turn a) (count_of st (c.machine a)) (count_of st (new.machine a)) (low a some.2)))

pub deed_keeps : (st : Setting) (counting : Counting) (begun : ℕ) (c new : Cluster) (watch : Watch) → AreWatched st counting begun c watch → IsDeed st c new → AreWatched st counting begun new watch
deed_keeps st counting begun c new watch was deed =
    let low : (a : ℕ) → a < st.machines → IsNotAbove (count_of st (c.machine a)) (count_of st (new.machine a)) = λ a within. (deed.seen a within).low in
    record {
      machines = λ a within. turn_seen st counting begun c new watch a (deed.calls a) (deed.reports a) (deed.held a) (deed.seen a within) (was.machines a within);
      told = was.told;
      fresh = was.fresh;
      some = was.some;
      first = was.first;
      many = was.many;
      many_before = was.many_before;
      numbers = was.numbers;
      balanced = deed.balanced was.balanced;
      after_idle = λ idle. ⊎_elim
          (λ (done : IsDoneSince st c (last_counts counting)).
          let still = deed.done done.left in
          inl (record { left = still.left; updates = λ a told within come. still.logs a ∙ done.updates a told within come }))
          (λ (some : SomeMoved st counting c watch). inr (some_moved st counting c new watch low some))
          (was.after_idle idle);
      at_rest = λ at idle. ⊎_elim
          (λ (rest : HasSettled st c). inl (deed.rests (λ a within. no_length (begins_in (call_way c a)) watch.begun_before begun (was.machines a within).begins at) rest))
          (λ (some : SomeMoved st counting c watch). inr (some_moved st counting c new watch low some))
          (was.at_rest at idle);
    }

-- What the waves see of machines and links is as it was.
pub record IsAlike (st : Setting) (c new : Cluster) : Type 0 where
  pub counts : (a : ℕ) → count_of st (new.machine a) ≡ count_of st (c.machine a)
  pub tasks : (a : ℕ) → (new.machine a).part.task ≡ (c.machine a).part.task
  pub ways : (p q : ℕ) → way (world_of new) p q ≡ way (world_of c) p q

module _ (st : Setting) (c new : Cluster) (alike : IsAlike st c new) where
  alike_flows : messages_between st (world_of new) ≡ messages_between st (world_of c)
  alike_flows = same_flows st (world_of c) (world_of new) alike.ways

  pub alike_balanced : total st.machines (λ a. (c.machine a).sent) ≡ total st.machines (λ a. (c.machine a).received) + messages_between st (world_of c) →
      total st.machines (λ a. (new.machine a).sent) ≡ total st.machines (λ a. (new.machine a).received) + messages_between st (world_of new)
  alike_balanced was =
      (λ i. total st.machines (λ a. (alike.counts a i).sent)) ∙ was
      ∙ λ i. total st.machines (λ a. (sym (alike.counts a) i).received) + sym alike_flows i

  pub alike_rests : HasSettled st c → HasSettled st new
  alike_rests rest = record { idle = λ a low. ap (λ (x : Counted). x.idle) (alike.counts a) ∙ rest.idle a low; silent = alike_flows ∙ rest.silent }

  pub alike_done : HasNoTaskLeft st (world_of c) → StaysDone st (world_of c) (world_of new)
  alike_done left =
      record {
        left = record {
          tasks = λ a low u within. ap (λ (f : ℕ → Bool). f u) (alike.tasks a) ∙ left.tasks a low u within;
          wakes = λ p q u p_low q_low within. ap (vertex_woken u) (alike.ways p q) ∙ left.wakes p q u p_low q_low within;
        };
        logs = λ a. ap (λ (x : Counted). x.updates) (alike.counts a);
      }

  pub alike_deed : ((a : ℕ) → IsLikeCalls (call_way c a) (call_way new a)) → ((a : ℕ) → counts_in (report_way new a) ≡ counts_in (report_way c a)) → ((a : ℕ) → (new.machine a).held ≡ (c.machine a).held) → IsDeed st c new
  alike_deed calls reports held =
      record {
        calls = calls;
        reports = reports;
        held = held;
        seen = λ a low. seen_alike st (begins_in (call_way c a)) (c.machine a) (new.machine a) (alike.counts a) (alike.tasks a);
        balanced = alike_balanced;
        rests = λ none. alike_rests;
        done = alike_done;
      }

-- ---- one machine does something

both_more : (sent received flow now_sent now_received now_flow gain took : ℕ) → sent ≡ received + flow → now_sent ≡ sent + gain → now_received ≡ received + took → now_flow + took ≡ flow + gain → now_sent ≡ now_received + now_flow
both_more sent received flow now_sent now_received now_flow gain took is one two three = omega arith

none_took : (flow took : ℕ) → took ≤ flow → flow ≡ 0 → took ≡ 0
none_took flow took low none = omega arith

none_gained : (sent now gain : ℕ) → now ≡ sent + gain → now ≡ sent → gain ≡ 0
none_gained sent now gain is same = omega arith

none_flows : (flow now gain took : ℕ) → now + took ≡ flow + gain → flow ≡ 0 → gain ≡ 0 → took ≡ 0 → now ≡ 0
none_flows flow now gain took is one two three = omega arith

none_more : (was now took : ℕ) → now ≡ was + took → took ≡ 0 → now ≡ was
none_more was now took is none = omega arith

-- Machine a sends so many messages and receives so many.
pub record IsWorkAt (st : Setting) (c new : Cluster) (a gain took : ℕ) : Type 0 where
  pub others : (b : ℕ) → b ≢ a → new.machine b ≡ c.machine b
  pub seen : IsSeen st (begins_in (call_way c a)) (c.machine a) (new.machine a)
  pub sent : (new.machine a).sent ≡ (c.machine a).sent + gain
  pub received : (new.machine a).received ≡ (c.machine a).received + took
  pub flows : messages_between st (world_of new) + took ≡ messages_between st (world_of c) + gain
  pub was : took ≤ messages_between st (world_of c)

module _ (st : Setting) (c new : Cluster) (a gain took : ℕ) (low : a < st.machines) (work : IsWorkAt st c new a gain took) where
  work_seen : (b : ℕ) → b < st.machines → IsSeen st (begins_in (call_way c b)) (c.machine b) (new.machine b)
  work_seen b within =
      ⊎_elim
      (λ (at : b ≡ a). subst (λ (k : ℕ). IsSeen st (begins_in (call_way c k)) (c.machine k) (new.machine k)) (sym at) work.seen)
      (λ (off : b ≢ a). seen_alike st (begins_in (call_way c b)) (c.machine b) (new.machine b) (ap (count_of st) (work.others b off)) (ap (λ (m : Machine). m.part.task) (work.others b off)))
      (cases_eq b a)

  work_balanced : total st.machines (λ b. (c.machine b).sent) ≡ total st.machines (λ b. (c.machine b).received) + messages_between st (world_of c) →
      total st.machines (λ b. (new.machine b).sent) ≡ total st.machines (λ b. (new.machine b).received) + messages_between st (world_of new)
  work_balanced was =
      both_more (total st.machines (λ b. (c.machine b).sent)) (total st.machines (λ b. (c.machine b).received)) (messages_between st (world_of c))
      (total st.machines (λ b. (new.machine b).sent)) (total st.machines (λ b. (new.machine b).received)) (messages_between st (world_of new)) gain took was
      (total_from-more 0 st.machines (λ b. (c.machine b).sent) (λ b. (new.machine b).sent) a gain (zero_low a) (below_all a st.machines low) work.sent (λ b off. ap (λ (m : Machine). m.sent) (work.others b off)))
      (total_from-more 0 st.machines (λ b. (c.machine b).received) (λ b. (new.machine b).received) a took (zero_low a) (below_all a st.machines low) work.received (λ b off. ap (λ (m : Machine). m.received) (work.others b off)))
      work.flows

  work_rests : ((b : ℕ) → b < st.machines → begins_in (call_way c b) ≡ []) → HasSettled st c → HasSettled st new
  work_rests none rest =
      let nothing : took ≡ 0 = none_took (messages_between st (world_of c)) took work.was rest.silent in
      let same : count_of st (new.machine a) ≡ count_of st (c.machine a) = work.seen.rests (none a low) (none_more (c.machine a).received (new.machine a).received took work.received nothing) (rest.idle a low) in
      record {
        idle = λ b within. ⊎_elim
            (λ (at : b ≡ a). subst (λ (k : ℕ). (count_of st (new.machine k)).idle ≡ true) (sym at) (ap (λ (x : Counted). x.idle) same ∙ rest.idle a low))
            (λ (off : b ≢ a). ap (λ (m : Machine). (count_of st m).idle) (work.others b off) ∙ rest.idle b within)
            (cases_eq b a);
        silent = none_flows (messages_between st (world_of c)) (messages_between st (world_of new)) gain took work.flows rest.silent (none_gained (c.machine a).sent (new.machine a).sent gain work.sent (ap (λ (x : Counted). x.sent) same)) nothing;
      }

  pub work_deed : ((b : ℕ) → IsLikeCalls (call_way c b) (call_way new b)) → ((b : ℕ) → counts_in (report_way new b) ≡ counts_in (report_way c b)) → ((b : ℕ) → (new.machine b).held ≡ (c.machine b).held) →
      (HasNoTaskLeft st (world_of c) → StaysDone st (world_of c) (world_of new)) → IsDeed st c new
  work_deed calls reports held done = record { calls = calls; reports = reports; held = held; seen = work_seen; balanced = work_balanced; rests = work_rests; done = done }
