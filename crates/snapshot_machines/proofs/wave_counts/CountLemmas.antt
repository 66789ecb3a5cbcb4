-- What a machine counts, as it puts out, sends, receives and answers.
use Rattle.std.proofs.Common.{◌≡◌, ◌≢◌, ℕ, zero, suc, ◌+◌, ◌-◌, ◌<◌, ◌≤◌, ◌^◌, Bool, true, false, if◌then◌else◌, ◌&&◌, ◌||◌, is_some, Option, None, Some, List, [], ◌∷◌, ◌++◌, length, append-nil, refl, sym, ◌∙◌, ap, subst, ⊎_elim, arith}
use Rattle.std.specs.Prelude.{nat_lt}
use Rattle.std.proofs.lemmas.Bool.{cases_Bool, cases_eq, lt-ltb, ltb-true}
use Rattle.cluster_laws.specs.cluster_core.Ranges.{set_at}
use Rattle.cluster_laws.proofs.cluster_core.Basics.{set_at-other, set_at-same}
use Rattle.cluster_laws.specs.cluster_model.Calls.{Count}
use Rattle.cluster_laws.specs.cluster_model.Machines.{count_of}
use Rattle.cluster_laws.specs.cluster_model.Totals.{total, total_from}
use Rattle.cluster_laws.specs.cluster_model.Working.{or_zero}
use Rattle.gl_base.specs.declared.scopes.Counted.{Counted}
use Rattle.snapshot_machines.specs.wave_counts.Counts.{MayTellCounts, CountsView, HasAnsweredWave, HasPutOut, IsCountOf, IsOpenCount, Machine, Message, Setting, answer_reports, answer_to, gained, is_done, is_idle, one_more, prompt, waiting_in}
use Rattle.snapshot_machines.specs.declared.wave_counts.answers.WaveAnswer.{WaveAnswer}

-- ---- sums over the machines

grown : (f g fs gs ds : ℕ) → f ≤ g → gs ≡ fs + ds → g + gs ≡ f + fs + (g - f + ds)
grown f g fs gs ds low rest = omega arith

none_and : (f fs : ℕ) → f ≡ 0 → fs ≡ 0 → f + fs ≡ 0
none_and f fs one rest = omega arith

same_first : (f g fs gs : ℕ) → g ≡ f + 1 → gs ≡ fs → g + gs ≡ f + fs + 1
same_first f g fs gs one rest = omega arith

same_rest : (f g fs gs : ℕ) → g ≡ f → gs ≡ fs + 1 → g + gs ≡ f + fs + 1
same_rest f g fs gs one rest = omega arith

not_between : (k a : ℕ) → k ≤ a → a < k + 0 → ⊥
not_between k a low high = omega arith

above : (k a : ℕ) → k ≤ a → a ≢ k → suc k ≤ a
above k a low off = omega (arith, off)

next_high : (k many a : ℕ) → a < k + suc many → a < suc k + many
next_high k many a high = omega arith

is_above : (k b : ℕ) → suc k ≤ b → b ≡ k → ⊥
is_above k b low is = omega arith

low_next : (k b : ℕ) → suc k ≤ b → k ≤ b
low_next k b low = omega arith

pub total_from-gained : (k many : ℕ) (f g : ℕ → ℕ) → ((q : ℕ) → f q ≤ g q) → total_from k many g ≡ total_from k many f + total_from k many (λ q. g q - f q)
unfolding total_from
total_from-gained k zero f g low = omega arith
total_from-gained k (suc many) f g low =
    grown (f k) (g k) (total_from (suc k) many f) (total_from (suc k) many g) (total_from (suc k) many (λ q. g q - f q)) (low k) (total_from-gained (suc k) many f g low)

pub total_from-nothing : (k many : ℕ) (f : ℕ → ℕ) → ((q : ℕ) → f q ≡ 0) → total_from k many f ≡ 0
unfolding total_from
total_from-nothing k zero f none = refl
total_from-nothing k (suc many) f none = none_and (f k) (total_from (suc k) many f) (none k) (total_from-nothing (suc k) many f none)

total_from-alike : (k many : ℕ) (f g : ℕ → ℕ) → ((b : ℕ) → k ≤ b → g b ≡ f b) → total_from k many g ≡ total_from k many f
unfolding total_from
total_from-alike k zero f g same = refl
total_from-alike k (suc many) f g same =
    let here : g k ≡ f k = same k (omega arith) in
    let rest : total_from (suc k) many g ≡ total_from (suc k) many f = total_from-alike (suc k) many f g (λ b low. same b (low_next k b low)) in
    omega arith

total_from-one_more : (k many : ℕ) (f g : ℕ → ℕ) (a : ℕ) → k ≤ a → a < k + many → g a ≡ f a + 1 → ((b : ℕ) → b ≢ a → g b ≡ f b) → total_from k many g ≡ total_from k many f + 1
unfolding total_from
total_from-one_more k zero f g a low high here there = absurd (not_between k a low high)
total_from-one_more k (suc many) f g a low high here there =
    ⊎_elim
    (λ (at : a ≡ k).
    same_first (f k) (g k) (total_from (suc k) many f) (total_from (suc k) many g) (subst (λ (j : ℕ). g j ≡ f j + 1) at here)
    (total_from-alike (suc k) many f g (λ b from. there b (λ is. is_above k b from (is ∙ at)))))
    (λ (off : a ≢ k).
    same_rest (f k) (g k) (total_from (suc k) many f) (total_from (suc k) many g) (there k (λ is. off (sym is)))
    (total_from-one_more (suc k) many f g a (above k a low off) (next_high k many a high) here there))
    (cases_eq a k)

-- ---- counts that go on

pub open_more : (n : ℕ) → IsOpenCount (one_more n) → IsOpenCount n × (one_more n ≡ n + 1)
open_more n fits =
    ⊎_elim
    (λ (more : nat_lt (n + 1) (2 ^ 64) ≡ true). (ltb-true (n + 1) (2 ^ 64) more, ap (λ (t : Bool). if t then n + 1 else n) more))
    (λ (none : nat_lt (n + 1) (2 ^ 64) ≡ false).
    let same : one_more n ≡ n = ap (λ (t : Bool). if t then n + 1 else n) none in
    let less : nat_lt (n + 1) (2 ^ 64) ≡ true = lt-ltb (n + 1) (2 ^ 64) (subst IsOpenCount same fits) in
    absurd (cc))
    (cases_Bool (nat_lt (n + 1) (2 ^ 64)))

sum_on : (new old more w x y : ℕ) → new ≡ old + more → old ≡ w + x → y ≡ x + more → new ≡ w + y
sum_on new old more w x y one two three = omega arith

sum_sent : (old w x y n : ℕ) → old ≡ w + x → x ≡ y + 1 → n ≡ w + 1 → old ≡ n + y
sum_sent old w x y n one two three = omega arith

suc_more : (old w n : ℕ) → old ≡ w → n ≡ w + 1 → suc old ≡ n
suc_more old w n one two = omega arith

pub nothing_counted : (n : ℕ) → n ≡ 0 → 0 ≡ 0 + n
nothing_counted n none = omega arith

one_longer : (n : ℕ) → suc n ≡ n + 1
one_longer n = omega arith

module _ (st : Setting) (w : CountsView) (m new : Machine) (is : IsCountOf st w m) where
  -- the machine puts messages out
  pub counts_put_out : HasPutOut m.part new.part → new.sent ≡ m.sent + gained st m.part new.part → new.received ≡ m.received → new.held ≡ m.held → IsCountOf st w new
  counts_put_out longer sent received held =
      record {
        sent = λ fits. sum_on new.sent m.sent (gained st m.part new.part) w.sent (waiting_in st m.part) (waiting_in st new.part) sent (is.sent fits)
            (total_from-gained 0 st.machines (λ q. length (m.part.out q)) (λ q. length (new.part.out q)) longer);
        received = λ fits. received ∙ is.received fits;
        held = held ∙ is.held;
      }

  -- a message has left its outbox
  pub counts_sent : (q : ℕ) (message : Message) (behind : List Message) → q < st.machines → m.part.out q ≡ message ∷ behind → new.part.out ≡ set_at m.part.out q behind →
      new.sent ≡ m.sent → new.received ≡ m.received → new.held ≡ m.held → IsCountOf st (record w { sent = one_more w.sent }) new
  counts_sent q message behind low first out sent received held =
      let less : waiting_in st m.part ≡ waiting_in st new.part + 1 =
      total_from-one_more 0 st.machines (λ b. length (new.part.out b)) (λ b. length (m.part.out b)) q (omega arith) (omega arith)
      (ap length first ∙ one_longer (length behind) ∙ sym (ap (λ (f : ℕ → List Message). length (f q) + 1) out ∙ ap (λ (ms : List Message). length ms + 1) (set_at-same m.part.out q behind)))
      (λ b off. sym (ap (λ (f : ℕ → List Message). length (f b)) out ∙ ap length (set_at-other m.part.out q behind b off))) in
      record {
        sent = λ fits.
            let more = open_more w.sent fits in
            sent ∙ sum_sent m.sent w.sent (waiting_in st m.part) (waiting_in st new.part) (one_more w.sent) (is.sent more.0) less more.1;
        received = λ fits. received ∙ is.received fits;
        held = held ∙ is.held;
      }

-- a message was received
pub counts_received : (st : Setting) (w : CountsView) (m new : Machine) → IsCountOf st w m → new.part.out ≡ m.part.out → new.sent ≡ m.sent → new.received ≡ suc m.received → new.held ≡ m.held →
    IsCountOf st (record w { received = one_more w.received }) new
counts_received st w m new is out sent received held =
    record {
      sent = λ fits. sent ∙ is.sent fits ∙ ap (λ (f : ℕ → List Message). w.sent + total st.machines (λ q. length (f q))) (sym out);
      received = λ fits. let more = open_more w.received fits in received ∙ suc_more m.received w.received (one_more w.received) (is.received more.0) more.1;
      held = held ∙ is.held;
    }

-- ---- answers

module _ (st : Setting) (a sent updates : ℕ) (idle : Bool) (old new : CountsView) (answer : Option WaveAnswer) (m : Machine) (is : IsCountOf st old m)
    (can : MayTellCounts old (waiting_in st m.part)) (sum : sent ≡ old.sent + waiting_in st m.part) (made : updates ≡ length m.part.log) (rests : idle ≡ is_idle st m.part) where
  abbrev told_now : Counted
  told_now = record { sent = sent; received = old.received; updates = updates; idle = idle }

  counted_is : told_now ≡ record { sent = m.sent; received = m.received; updates = length m.part.log; idle = is_idle st m.part }
  counted_is = λ i. record { sent = (sum ∙ sym (is.sent can.sent)) i; received = sym (is.received can.received) i; updates = made i; idle = rests i }

  tests : (done : Bool) (held : Option ℕ) → (is_some held && done) ≡ is_some (if done then answer_to old sent updates idle held else None)
  tests true None = refl
  tests true (Some k) = refl
  tests false None = refl
  tests false (Some k) = refl

  helds : (done : Bool) (held : Option ℕ) → (if is_some held && done then None else held) ≡ (if done then None else held)
  helds true None = refl
  helds true (Some k) = refl
  helds false None = refl
  helds false (Some k) = refl

  outs : (done : Bool) (held : Option ℕ) →
      (if is_some held && done then m.out ++ Count (or_zero held) (count_of st m) ∷ [] else m.out) ≡ m.out ++ answer_reports (if done then answer_to old sent updates idle held else None)
  outs true None = sym (append-nil m.out)
  outs true (Some k) = ap (λ (counts : Counted). m.out ++ Count k counts ∷ []) (sym counted_is)
  outs false None = sym (append-nil m.out)
  outs false (Some k) = sym (append-nil m.out)

  module _ (has : HasAnsweredWave old new (is_done st.engine st a m) sent updates idle answer) where
    abbrev done : Bool
    done = is_done st.engine st a m

    closed_is : (is_some m.held && done) ≡ is_some answer
    closed_is = ap (λ (held : Option ℕ). is_some held && done) is.held ∙ tests done old.held ∙ ap (λ (o : Option WaveAnswer). is_some o) (sym has.told)

    held_is : (if is_some m.held && done then None else m.held) ≡ new.held
    held_is = ap (λ (held : Option ℕ). if is_some held && done then None else held) is.held ∙ helds done old.held ∙ ap (λ (w : CountsView). w.held) (sym has.rest)

    out_is : (if is_some m.held && done then m.out ++ Count (or_zero m.held) (count_of st m) ∷ [] else m.out) ≡ m.out ++ answer_reports answer
    out_is =
        ap (λ (held : Option ℕ). if is_some held && done then m.out ++ Count (or_zero held) (count_of st m) ∷ [] else m.out) is.held
        ∙ outs done old.held ∙ ap (λ (o : Option WaveAnswer). m.out ++ answer_reports o) (sym has.told)

    abbrev answered_now : Machine
    answered_now = record m { part = record m.part { closed = m.part.closed || is_some answer }; held = new.held; out = m.out ++ answer_reports answer }

    pub prompt_is : prompt st a m ≡ record m { part = record m.part { closed = m.part.closed || is_some answer }; held = new.held; out = m.out ++ answer_reports answer }
    prompt_is = λ i. record m { part = record m.part { closed = m.part.closed || closed_is i }; held = held_is i; out = out_is i }

    pub prompt_counts : IsCountOf st new (prompt st a m)
    prompt_counts =
        subst (IsCountOf st new) (sym prompt_is)
        (subst (λ (w : CountsView). IsCountOf st w answered_now) (sym has.rest)
        (record { sent = is.sent; received = is.received; held = ap (λ (w : CountsView). w.held) has.rest }))
