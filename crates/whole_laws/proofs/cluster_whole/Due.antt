-- Where the next step is due nothing is on the way between machines, and all are closed.
use Rattle.std.proofs.Common.{◌≡◌, ℕ, suc, ◌+◌, ◌<◌, ◌≤◌, true, false, Option, None, List, [], ◌∷◌, length, sum_by, slice_index_or, refl, sym, ◌∙◌, ap, subst, ⊎_elim, arith}
use Rattle.std.specs.List.{AllByRecursion}
use Rattle.std.proofs.lemmas.Bool.{cases_lt, both_ways}
use Rattle.std.proofs.lemmas.List.Sums.{sum_by-append}
use Rattle.gl_base.specs.declared.scopes.Counted.{Counted}
use Rattle.gl_base.specs.declared.scopes.ScopeId.{ScopeId}
use Rattle.cluster_laws.specs.cluster_core.Messages.{Ask, Done, Message, Ready}
use Rattle.cluster_laws.specs.cluster_core.Settings.{Setting}
use Rattle.cluster_laws.specs.cluster_core.Worlds.{way}
use Rattle.cluster_laws.specs.cluster_model.Clusters.{Cluster}
use Rattle.cluster_laws.specs.cluster_model.Machines.{Machine}
use Rattle.cluster_laws.specs.cluster_model.Rounds.{AreEven, Rounds, StepIsDue}
use Rattle.cluster_laws.specs.cluster_model.Totals.{total, total_from}
use Rattle.cluster_laws.specs.cluster_model.TwoWaves.{received_of, sent_of, total_received, total_sent}
use Rattle.whole_laws.specs.cluster_whole.Steps.{AreInTurn, ComesBetween, IsCalled, Holds, StaysShut, Tells, Told, Turn, come_of, has_come, is_told, messages_between}
use Rattle.whole_laws.specs.cluster_whole.Views.{world_of}
use Rattle.whole_laws.proofs.cluster_whole.Flows.{nothing_under_way, total_from-below}

one_sum : (x y z n : ℕ) → x ≡ 0 + y + z → y ≡ n → x ≡ n + z
one_sum x y z n is one = omega arith

shift : (k i : ℕ) → suc k + i ≡ k + suc i
shift k i = omega arith

plus_none : (k : ℕ) → k ≡ k + 0
plus_none k = omega arith

zero_more : (k : ℕ) → 0 + k ≡ k
zero_more k = omega arith

first_low : (n : ℕ) → 0 < suc n
first_low n = omega arith

next_low : (i n : ℕ) → i < n → suc i < suc n
next_low i n low = omega arith

-- what is counted over a list by place
pub sums_are : (f : Option Counted → ℕ) (ws : List (Option Counted)) (k : ℕ) (g : ℕ → ℕ) → ((i : ℕ) → i < length ws → f (slice_index_or ws i None) ≡ g (k + i)) → sum_by f ws ≡ total_from k (length ws) g
unfolding total_from
sums_are f [] k g is = refl
sums_are f (w ∷ ws) k g is =
    one_sum (sum_by f (w ∷ ws)) (f w) (sum_by f ws) (g k) (sum_by-append f (w ∷ []) ws) (is 0 (first_low (length ws)) ∙ ap g (sym (plus_none k)))
    ∙ ap (λ (n : ℕ). g k + n) (sums_are f ws (suc k) g (λ i low. is (suc i) (next_low i (length ws) low) ∙ ap g (sym (shift k i))))

nothing_more : (sent received told_sent told_received flow : ℕ) → sent ≡ received + flow → told_sent ≡ sent → told_received ≤ received → told_received ≡ told_sent → flow ≡ 0
nothing_more sent received told_sent told_received flow one two three four = omega arith

none_between : (st : Setting) (steps p q : ℕ) (ms : List Message) → AllByRecursion (ComesBetween st steps p q) ms → ((p < st.machines) × (q < st.machines) × (0 < steps) → ⊥) → ms ≡ []
none_between st steps p q [] all off = refl
none_between st steps p q (Ask s v rest ∷ ms) all off = absurd all.0
none_between st steps p q (Ready s ∷ ms) all off = absurd all.0
none_between st steps p q (Done s news ∷ ms) all off = absurd (off all.0.within)

since_some : (n : ℕ) → 2 ≤ n → 0 < n
since_some n low = omega arith

since_put : (n m : ℕ) → 2 ≤ n → n ≤ m → 0 < m
since_put n m low high = omega arith

not_low : (a n : ℕ) → n ≤ a → a < n → ⊥
not_low a n high low = omega arith

none_positive : (n : ℕ) → n ≡ 0 → 0 < n → ⊥
none_positive n is low = omega arith

pub told_come : (turn : Turn) → is_told turn ≡ true → has_come turn ≡ true
told_come IsCalled told = told
told_come Holds told = refl
told_come (Tells counts) told = refl
told_come (Told counts) told = refl

module _ (st : Setting) (colour : ℕ → ℕ) (c : Cluster) (t : AreInTurn st colour c.coordinator.rounds c) where
  abbrev rounds : Rounds
  rounds = c.coordinator.rounds

  -- what a machine told that has told its counts
  told_shut : (m : Machine) (turn : Turn) → is_told turn ≡ true → StaysShut m turn → (m.part.closed ≡ true) × (sent_of (come_of turn) ≡ m.sent) × (received_of (come_of turn) ≤ m.received)
  told_shut m IsCalled told shut = absurd (both_ways false refl told)
  told_shut m Holds told shut = absurd (both_ways false refl told)
  told_shut m (Tells counts) told shut = absurd (both_ways false refl told)
  told_shut m (Told counts) told shut = (shut.0, sym shut.1, shut.2)

  module _ (whole : rounds.counting.waiting ≡ false) (even : AreEven rounds) where
    shown : (a : ℕ) → a < st.machines → ((c.machine a).part.closed ≡ true) × (sent_of (come_of (t.turn a)) ≡ (c.machine a).sent) × (received_of (come_of (t.turn a)) ≤ (c.machine a).received)
    shown a low = told_shut (c.machine a) (t.turn a) (t.told whole a low) ((t.machines a low).shut (since_some rounds.since even.two))

    abbrev ws : List (Option Counted)
    ws = rounds.counting.waves.wave

    slot : (a : ℕ) → a < st.machines → slice_index_or ws a None ≡ come_of (t.turn a)
    slot a low = (t.machines a low).come whole (since_put rounds.since rounds.counting.put_out even.two t.since)

    at_low : (a : ℕ) → a < length ws → a < st.machines
    at_low a low = subst (λ (n : ℕ). a < n) t.many low

    sent_is : total_sent ws ≡ total st.machines (λ a. (c.machine a).sent)
    sent_is =
        sums_are sent_of ws 0 (λ a. (c.machine a).sent) (λ i low. ap sent_of (slot i (at_low i low)) ∙ (shown i (at_low i low)).1 ∙ ap (λ (a : ℕ). (c.machine a).sent) (sym (zero_more i)))
        ∙ ap (λ (n : ℕ). total n (λ a. (c.machine a).sent)) t.many

    received_low : total_received ws ≤ total st.machines (λ a. (c.machine a).received)
    received_low =
        subst (λ (n : ℕ). n ≤ total st.machines (λ a. (c.machine a).received))
        (sym (sums_are received_of ws 0 (λ a. received_of (come_of (t.turn a))) (λ i low. ap received_of (slot i (at_low i low)) ∙ ap (λ (a : ℕ). received_of (come_of (t.turn a))) (sym (zero_more i)))
        ∙ ap (λ (n : ℕ). total n (λ a. received_of (come_of (t.turn a)))) t.many))
        (total_from-below 0 st.machines (λ a. received_of (come_of (t.turn a))) (λ a. (c.machine a).received) (λ a from to. (shown a (subst (λ (n : ℕ). a < n) (zero_more st.machines) to)).2))

    none_flows : messages_between st (world_of c) ≡ 0
    none_flows =
        nothing_more (total st.machines (λ a. (c.machine a).sent)) (total st.machines (λ a. (c.machine a).received)) (total_sent ws) (total_received ws) (messages_between st (world_of c))
        t.balanced sent_is received_low (even.received ∙ sym even.sent)

    even_ways : (p q : ℕ) → way (world_of c) p q ≡ []
    even_ways p q =
        ⊎_elim
        (λ (p_low : p < st.machines). ⊎_elim
        (λ (q_low : q < st.machines). nothing_under_way st (world_of c) none_flows p q p_low q_low)
        (λ (q_high : st.machines ≤ q). none_between st rounds.steps p q (way (world_of c) p q) (t.between p q) (λ in_range. not_low q st.machines q_high in_range.1))
        (cases_lt q st.machines))
        (λ (p_high : st.machines ≤ p). none_between st rounds.steps p q (way (world_of c) p q) (t.between p q) (λ in_range. not_low p st.machines p_high in_range.0))
        (cases_lt p st.machines)

  module _ (due : StepIsDue st.engine rounds) where
    pub due_ways : (p q : ℕ) → way (world_of c) p q ≡ []
    due_ways p q =
        ⊎_elim
        (λ (none : rounds.steps ≡ 0). none_between st rounds.steps p q (way (world_of c) p q) (t.between p q) (λ in_range. none_positive rounds.steps none in_range.2))
        (λ (even : AreEven rounds). even_ways due.whole even p q)
        due.over

    pub due_closed : (a : ℕ) → (c.machine a).part.closed ≡ true
    due_closed a =
        ⊎_elim
        (λ (none : rounds.steps ≡ 0). t.first none a)
        (λ (even : AreEven rounds). ⊎_elim
        (λ (low : a < st.machines). (shown due.whole even a low).0)
        (λ (high : st.machines ≤ a). t.others a high)
        (cases_lt a st.machines))
        due.over

    pub due_free : (s : ScopeId) → (c.machine s.home.0).part.flight s ≡ None
    due_free s = t.closed s (due_closed s.home.0)

    pub due_made : (a : ℕ) → a < st.machines → (t.made a ≡ true) × (is_told (t.turn a) ≡ true)
    due_made a low =
        let told = t.told due.whole a low in (
          ⊎_elim
              (λ (none : rounds.steps ≡ 0). (t.machines a low).first none)
              (λ (even : AreEven rounds). (t.machines a low).in_turn (since_some rounds.since even.two) (told_come (t.turn a) told))
              due.over,
          told,
        )
