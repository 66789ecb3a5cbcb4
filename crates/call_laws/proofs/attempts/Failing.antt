-- Failures: how many restarts they add, where these stand, and how many updates are lost.
use Rattle.std.proofs.Common.{◌≡◌, ◌≤◌, ◌<◌, Bool, true, false, ℕ, zero, suc, ◌+◌, ◌*◌, nat_le, nat_lt, if◌then◌else◌, List, [], ◌∷◌, ◌++◌, length, filter, refl, sym, ap, ap₂, ◌∙◌, subst, ⊎_elim, le_trans, le_refl, append_assoc, append-nil, arith}
use Rattle.std.specs.List.{AllByRecursion, list_any}
use Rattle.std.proofs.Math.Nat.{mul-le-mul_left}
use Rattle.std.proofs.lemmas.Bool.{and_from, cases_lt, le-leb, lt-ltb}
use Rattle.std.proofs.lemmas.List.{length-append}
use Rattle.std.proofs.lemmas.List.Elements.{filter-append}
use Rattle.std.proofs.lemmas.List.Sums.{length-filter}
use Rattle.gl_base.specs.declared.entries.Entry.{Entry}
use Rattle.gl_base.specs.declared.entries.Entry.TheVariants.{Go, Restart}
use Rattle.gl_base.specs.declared.jobs.FailureAt.{FailureAt}
use Rattle.call_laws.specs.attempts.Accounted.{AreRestarts, IsFollowedByRestart, IsRestartBetween}
use Rattle.call_laws.specs.attempts.Beginnings.{KeepsWindow, again, held_updates, last_of, nothing, order_after, unheld_updates}
use Rattle.call_laws.specs.attempts.EngineCalls.{AreAttempts, EngineCall, IsEngineCall, begins_behind, call_order, first_ticket, fired_of, lost_in, lost_of, made_in, made_of, opening, struck_in}
use Rattle.cluster_laws.specs.cluster_cuts.Goings.{AreUpdatesFrom}
use Rattle.cluster_laws.specs.cluster_runs.Attempts.{Attempt, Beginning, Shared, StopsAtFailure, done_with, is_reached, made_by}
use Rattle.cluster_laws.specs.cluster_core.Replays.{entries_of, is_of, ticket_of}
use Rattle.call_laws.specs.attempts.Entries.{is_restart, is_restart_at}
use Rattle.cluster_laws.specs.cluster_model.ByTicket.{restarts}
use Rattle.call_laws.proofs.attempts.Accounting.{filter_all, filter_none, made_tickets, restart_behind}
use Rattle.call_laws.proofs.attempts.Counting.{fired_many, made_by-append}
use Rattle.call_laws.proofs.attempts.Cutting.{all_cut, either, made_below}
use Rattle.call_laws.proofs.attempts.Standing.{all_back, all_both, all_weaker}

-- ---- restarts

pub no_restart : (next : ℕ) (made : List Entry) → AreUpdatesFrom next made → AllByRecursion (λ entry. is_restart entry ≡ false) made
no_restart next [] tickets = tt
no_restart next (Restart ticket ∷ made) tickets = absurd tickets
no_restart next (Go m v t ∷ made) tickets = (refl, no_restart (suc next) made tickets.1)

pub all_restarts : (n ticket : ℕ) → AllByRecursion (λ entry. is_restart entry ≡ true) (restarts n ticket)
all_restarts zero ticket = tt
all_restarts (suc n) ticket = (refl, all_restarts n ticket)

length_restarts : (n ticket : ℕ) → length (restarts n ticket) ≡ n
length_restarts zero ticket = refl
length_restarts (suc n) ticket = ap suc (length_restarts n ticket)

opened_many : (b : Bool) (f : ℕ) → length (filter is_restart (if b then Restart f ∷ [] else [])) ≡ (if b then 1 else 0)
opened_many true f = refl
opened_many false f = refl

-- ---- what is lost

two_sums : (w s k x y z : ℕ) → x ≤ w * s → y ≤ w * k → z ≡ x + y → z ≤ w * s + w * k
two_sums w s k x y z one two three = omega arith

distributes : (w s k : ℕ) → w * (s + k) ≡ w * s + w * k
distributes w s k = omega arith

module _ (shared : Shared) where
  lost_few : (window : ℕ) (b : Beginning) (failed : List Attempt) (last : Attempt) → AreAttempts shared b failed last → AllByRecursion (KeepsWindow window) failed →
      (m : ℕ) → made_by (lost_in failed) m ≤ window * struck_in failed
  lost_few window b [] last are keep m = zero_low (window * 0)
    where
      zero_low : (n : ℕ) → 0 ≤ n
      zero_low n = omega arith
  lost_few window b (a ∷ failed) last are keep m =
      subst (λ (n : ℕ). made_by (unheld_updates a ++ lost_in failed) m ≤ n) (sym (distributes window a.struck (struck_in failed)))
      (two_sums window a.struck (struck_in failed) (made_by (unheld_updates a) m) (made_by (lost_in failed) m) (made_by (unheld_updates a ++ lost_in failed) m)
      (le_trans (keep.0 m) (once window a.struck are.1))
      (lost_few window (again b a) failed last are.2 keep.1 m)
      (made_by-append (unheld_updates a) (lost_in failed) m))
    where
      times_one : (w : ℕ) → w * 1 ≡ w
      times_one w = omega arith

      once : (w s : ℕ) → 1 ≤ s → w ≤ w * s
      once w s some = subst (λ (n : ℕ). n ≤ w * s) (times_one w) (mul-le-mul_left w some)

  plus_low : (n k : ℕ) → n ≤ n + k
  plus_low n k = omega arith

  pub lost_within : (window : ℕ) (call : EngineCall) → IsEngineCall shared call → AllByRecursion (KeepsWindow window) call.failed → (m : ℕ) →
      made_by (lost_of call) m ≤ window * length (fired_of shared call)
  lost_within window call is keep m =
      le_trans (lost_few window (opening call) call.failed call.last is.attempts keep m)
      (mul-le-mul_left window (subst (λ (n : ℕ). struck_in call.failed ≤ n) (sym (fired_many shared call is)) (plus_low (struck_in call.failed) call.last.struck)))

  -- ---- the restarts of the order

  abbrev HasRestarts : List Entry → List Entry → ℕ → Type 0
  HasRestarts order front n = (new : List Entry) × (filter is_restart order ≡ filter is_restart front ++ new) × (length new ≡ n)

  restarts_behind : (b : Beginning) (failed : List Attempt) (last : Attempt) → AreAttempts shared b failed last →
      HasRestarts (order_after (begins_behind b failed) last) b.front (struck_in failed)
  restarts_behind b [] last are = (
    [],
    filter-append is_restart b.front last.made ∙ ap (λ (es : List Entry). filter is_restart b.front ++ es) (filter_none is_restart last.made (no_restart b.next last.made are.tickets)),
    refl,
  )
  restarts_behind b (a ∷ failed) last are =
      let next : ℕ = b.next + length a.made in
      let rest = restarts_behind (again b a) failed last are.2 in
      let own : List Entry = restarts a.struck next in
      let front : filter is_restart (b.front ++ (held_updates a ++ own)) ≡ filter is_restart b.front ++ own =
      filter-append is_restart b.front (held_updates a ++ own)
      ∙ ap (λ (es : List Entry). filter is_restart b.front ++ es)
      (filter-append is_restart (held_updates a) own
      ∙ ap₂ (λ (xs ys : List Entry). xs ++ ys)
      (filter_none is_restart (held_updates a) (all_cut (λ entry. is_restart entry ≡ false) (last_of nothing a.kept) a.made (no_restart b.next a.made are.0.tickets)))
      (filter_all is_restart own (all_restarts a.struck next))) in (
        own ++ rest.0,
        rest.1 ∙ ap (λ (es : List Entry). es ++ rest.0) front ∙ append_assoc (filter is_restart b.front) own rest.0,
        length-append own rest.0 ∙ ap₂ (λ (n k : ℕ). n + k) (length_restarts a.struck next) rest.2,
      )

  pub call_restarts : (call : EngineCall) → IsEngineCall shared call → AreRestarts shared call
  call_restarts call is =
      let all = restarts_behind (opening call) call.failed call.last is.attempts in
      let opened : List Entry = if call.resumed then Restart (first_ticket call) ∷ [] else [] in
      record {
        new = filter is_restart opened ++ all.0;
        behind = all.1 ∙ ap (λ (es : List Entry). es ++ all.0) (filter-append is_restart call.base opened) ∙ append_assoc (filter is_restart call.base) (filter is_restart opened) all.0;
        many = length-append (filter is_restart opened) all.0 ∙ ap₂ (λ (n k : ℕ). n + k) (opened_many call.resumed (first_ticket call)) all.2;
        fired = fired_many shared call is;
      }

-- ---- where the restart behind a failure stands

head_same : (x y : Entry) (xs ys : List Entry) → x ∷ xs ≡ y ∷ ys → x ≡ y
head_same x y xs ys is = cc

tail_same : (x y : Entry) (xs ys : List Entry) → x ∷ xs ≡ y ∷ ys → xs ≡ ys
tail_same x y xs ys is = cc

suc_not : (n : ℕ) → suc n ≤ 0 → ⊥
suc_not n is = omega arith

suc_down : (n k : ℕ) → suc n ≤ suc k → n ≤ k
suc_down n k is = omega arith

front_longer : (xs ys before more : List Entry) → xs ++ ys ≡ before ++ more → length xs ≤ length before → (between : List Entry) × (before ≡ xs ++ between) × (ys ≡ between ++ more)
front_longer [] ys before more same low = (before, refl, same)
front_longer (x ∷ xs) ys [] more same low = absurd (suc_not (length xs) low)
front_longer (x ∷ xs) ys (z ∷ before) more same low =
    let rest = front_longer xs ys before more (tail_same x z (xs ++ ys) (before ++ more) same) (suc_down (length xs) (length before) low) in
    (rest.0, ap₂ (λ (e : Entry) (es : List Entry). e ∷ es) (sym (head_same x z (xs ++ ys) (before ++ more) same)) rest.1, rest.2)

all_filter : (P : Entry → Type 0) (test : Entry → Bool) (xs : List Entry) → AllByRecursion P xs → AllByRecursion P (filter test xs)
all_filter P test [] all = tt
all_filter P test (x ∷ xs) all = either (AllByRecursion P) (test x) (x ∷ filter test xs) (filter test xs) (all.0, all_filter P test xs all.1) (all_filter P test xs all.1)

not_past : (d lb lm after n : ℕ) → n ≡ (lb + 1) + (1 + lm) → d + n ≡ after → (d + lb) + 1 ≡ after → ⊥
not_past d lb lm after n one two three = omega arith

too_many : (d la lb after : ℕ) → suc lb < la → d + la ≡ after → (d + lb) + 1 ≡ after → ⊥
too_many d la lb after one two three = omega arith

below_after : (d lb after : ℕ) → (d + lb) + 1 ≡ after → d < after
below_after d lb after is = omega arith

after_by : (d la lb after : ℕ) → lb < la → (d + lb) + 1 ≡ after → after ≤ d + la
after_by d la lb after low is = omega arith

long_is : (x y : Entry) (before more : List Entry) → length (before ++ x ∷ y ∷ more) ≡ (length before + 1) + (1 + length more)
long_is x y before more = length-append before (x ∷ y ∷ more) ∙ sums (length before) (length more)
  where
    sums : (n k : ℕ) → n + suc (suc k) ≡ (n + 1) + (1 + k)
    sums n k = omega arith

more_than : (n k l : ℕ) → n ≡ (k + 1) + (1 + l) → k < n
more_than n k l is = omega arith

from_next : (low next : ℕ) (made : List Entry) → AreUpdatesFrom next made → low ≤ next → AllByRecursion (λ entry. low ≤ ticket_of entry) made
from_next low next [] tickets up = tt
from_next low next (Restart ticket ∷ made) tickets up = absurd tickets
from_next low next (Go m v t ∷ made) tickets up = (subst (λ (n : ℕ). low ≤ n) (sym tickets.0) up, from_next low (suc next) made tickets.1 (suc_up low next up))
  where
    suc_up : (n k : ℕ) → n ≤ k → n ≤ suc k
    suc_up n k is = omega arith

-- behind the updates of this machine before the call, and its first ones in these attempts, a restart comes where the failure's count is reached
abbrev Follows : Beginning → List Entry → List Entry → FailureAt → Type 0
Follows b updates order failure =
    (before : List Entry) (x y : Entry) (more : List Entry) →
    entries_of failure.machine.0 updates ≡ before ++ x ∷ y ∷ more → (b.done failure.machine.0 + length before) + 1 ≡ failure.after → IsRestartBetween order x y

reached_now : (b : Beginning) (made : List Entry) (failure : FailureAt) (lb : ℕ) → lb < made_by made failure.machine.0 → (b.done failure.machine.0 + lb) + 1 ≡ failure.after →
    is_reached b.done (done_with b made) failure ≡ true
reached_now b made failure lb low is =
    let d : ℕ = b.done failure.machine.0 in
    and_from (nat_lt d failure.after) (nat_le failure.after (d + made_by made failure.machine.0)) (lt-ltb d failure.after (below_after d lb failure.after is))
    (le-leb failure.after (d + made_by made failure.machine.0) (after_by d (made_by made failure.machine.0) lb failure.after low is))

follow_last : (b : Beginning) (last : Attempt) (order : List Entry) (failure : FailureAt) → StopsAtFailure b last.made failure → Follows b last.made order failure
follow_last b last order failure stops before x y more same is =
    let m : ℕ = failure.machine.0 in
    let long : made_by last.made m ≡ (length before + 1) + (1 + length more) = sym (length-filter (is_of m) last.made) ∙ ap length same ∙ long_is x y before more in
    absurd (not_past (b.done m) (length before) (length more) failure.after (made_by last.made m) long
    (stops (reached_now b last.made failure (length before) (more_than (made_by last.made m) (length before) (length more) long) is)) is)

-- the last update of an attempt and the first one behind it
joined_at : (es fs before : List Entry) (x y : Entry) (more : List Entry) → es ++ fs ≡ before ++ x ∷ y ∷ more → length es ≡ length before + 1 →
    (P Q : Entry → Type 0) → AllByRecursion P es → AllByRecursion Q fs → P x × Q y
joined_at es fs before x y more same long P Q all_es all_fs =
    let split = front_longer es fs (before ++ x ∷ []) (y ∷ more) (same ∙ sym (append_assoc before (x ∷ []) (y ∷ more))) (subst (λ (n : ℕ). length es ≤ n) (long ∙ sym (length-append before (x ∷ []))) (le_refl (length es))) in
    let none : split.0 ≡ [] = empty split.0 (cancel (length es) (length split.0) (length-append es split.0) (ap length split.1) (long ∙ sym (length-append before (x ∷ [])))) in
    let own : es ≡ before ++ x ∷ [] = sym (append-nil es) ∙ ap (λ (gs : List Entry). es ++ gs) (sym none) ∙ sym split.1 in
    let behind : fs ≡ y ∷ more = split.2 ∙ ap (λ (gs : List Entry). gs ++ y ∷ more) none in
    ((all_back P before (x ∷ []) (subst (AllByRecursion P) own all_es)).0, (subst (AllByRecursion Q) behind all_fs).0)
  where
    suc_is : (n : ℕ) → suc n ≡ 0 → ⊥
    suc_is n is = omega arith

    empty : (gs : List Entry) → length gs ≡ 0 → gs ≡ []
    empty [] is = refl
    empty (g ∷ gs) is = absurd (suc_is (length gs) is)

    cancel : {w v : ℕ} (n k : ℕ) → w ≡ n + k → v ≡ w → n ≡ v → k ≡ 0
    cancel n k one two three = omega arith

again_count : (d la lb after : ℕ) (between : ℕ) → lb ≡ la + between → (d + lb) + 1 ≡ after → ((d + la) + between) + 1 ≡ after
again_count d la lb after between one two = omega arith

exactly : (la lb : ℕ) → lb < la → la ≤ suc lb → la ≡ lb + 1
exactly la lb low high = omega arith

follow_step : (b : Beginning) (a : Attempt) (rest order : List Entry) (failure : FailureAt) → AreUpdatesFrom b.next a.made → AreUpdatesFrom (b.next + length a.made) rest →
    list_any (is_restart_at (b.next + length a.made)) order ≡ true → StopsAtFailure b a.made failure → Follows (again b a) rest order failure → Follows b (a.made ++ rest) order failure
follow_step b a rest order failure tickets later has stops follows before x y more same is =
    let m : ℕ = failure.machine.0 in
    let es : List Entry = entries_of m a.made in
    let fs : List Entry = entries_of m rest in
    let la : ℕ = length es in
    let count : made_by a.made m ≡ la = sym (length-filter (is_of m) a.made) in
    let split : es ++ fs ≡ before ++ x ∷ y ∷ more = sym (filter-append (is_of m) a.made rest) ∙ same in
    ⊎_elim
    (λ (some : length before < la). ⊎_elim
    (λ (two : suc (length before) < la).
    absurd (too_many (b.done m) la (length before) failure.after two
    (subst (λ (n : ℕ). b.done m + n ≡ failure.after) count (stops (reached_now b a.made failure (length before) (subst (λ (n : ℕ). length before < n) (sym count) some) is))) is))
    (λ (one : la ≤ suc (length before)).
    let next : ℕ = b.next + length a.made in
    let both = joined_at es fs before x y more split (exactly la (length before) some one) (λ (entry : Entry). ticket_of entry < next) (λ (entry : Entry). next ≤ ticket_of entry)
    (all_filter (λ (entry : Entry). ticket_of entry < next) (is_of m) a.made (made_below b.next a.made tickets))
    (all_filter (λ (entry : Entry). next ≤ ticket_of entry) (is_of m) rest (from_next next next rest later (le_refl next))) in
    (next, has, both.0, both.1))
    (cases_lt (suc (length before)) la))
    (λ (none : la ≤ length before).
    let cut = front_longer es fs before (x ∷ y ∷ more) split none in
    follows cut.0 x y more cut.2
    (again_count (b.done m) (made_by a.made m) (length before) failure.after (length cut.0)
    (ap length cut.1 ∙ length-append es cut.0 ∙ ap (λ (n : ℕ). n + length cut.0) (sym count)) is))
    (cases_lt (length before) la)

module _ (shared : Shared) where
  follows_all : (b : Beginning) (failed : List Attempt) (last : Attempt) → AreAttempts shared b failed last →
      AllByRecursion (Follows b (made_in failed last) (order_after (begins_behind b failed) last)) shared.failures
  follows_all b [] last are =
      all_weaker (StopsAtFailure b last.made) (Follows b last.made (order_after b last)) (λ failure stops. follow_last b last (order_after b last) failure stops) shared.failures are.stops
  follows_all b (a ∷ failed) last are =
      let order : List Entry = order_after (begins_behind (again b a) failed) last in
      all_both (StopsAtFailure b a.made) (Follows (again b a) (made_in failed last) order) (Follows b (a.made ++ made_in failed last) order)
      (λ failure stops follows. follow_step b a (made_in failed last) order failure are.0.tickets (made_tickets shared (again b a) failed last are.2) (restart_behind b a failed last are.1) stops follows)
      shared.failures are.0.stops (follows_all (again b a) failed last are.2)

  pub call_followed : (call : EngineCall) → IsEngineCall shared call → AllByRecursion (IsFollowedByRestart (call_order call) (made_of call)) shared.failures
  call_followed call is =
      all_weaker (Follows (opening call) (made_of call) (call_order call)) (IsFollowedByRestart (call_order call) (made_of call))
      (λ failure follows before x y more same count. follows before x y more same (ap (λ (n : ℕ). n + 1) (no_more (length before)) ∙ count)) shared.failures
      (follows_all (opening call) call.failed call.last is.attempts)
    where
      no_more : (n : ℕ) → 0 + n ≡ n
      no_more n = omega arith
