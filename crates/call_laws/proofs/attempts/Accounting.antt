-- What is left of an order and what was lost are together all updates that were made.
use Rattle.std.proofs.Common.{◌≡◌, ◌≤◌, ◌<◌, Bool, true, false, ℕ, zero, suc, ◌+◌, ◌==◌, ◌||◌, nat_le, nat_lt, if◌then◌else◌, List, [], ◌∷◌, ◌++◌, length, filter, IsPermutation, refl, sym, ap, ap₂, ◌∙◌, subst, le_refl, append_assoc, append-nil, arith}
use Rattle.std.specs.List.{AllByRecursion, list_any}
use Rattle.std.proofs.lemmas.Bool.{cond-false, cond-true, eq-eqb, false_from_ne_true, le-leb, le-ltb, leb-true, lt-ltb}
use Rattle.std.proofs.lemmas.List.{length-append}
use Rattle.std.proofs.lemmas.List.Elements.{filter-append}
use Rattle.std.proofs.lemmas.List.Folds.{list_any-append}
use Rattle.std.proofs.lemmas.List.Sorted.{IsPermutation-append_comm, IsPermutation-append_left, IsPermutation-append_right, IsPermutation-refl, IsPermutation-trans}
use Rattle.gl_base.specs.declared.entries.Entry.{Entry}
use Rattle.gl_base.specs.declared.entries.Entry.TheVariants.{Go, Restart}
use Rattle.graph_core.proofs.HalvesLaws.{each-append}
use Rattle.cluster_laws.proofs.cluster_cuts.CutsGoOn.{updates_from-append}
use Rattle.call_laws.specs.attempts.Accounted.{AreAccounted}
use Rattle.call_laws.specs.attempts.Beginnings.{IsBeginning, again, held_updates, last_of, nothing, order_after, unheld_updates}
use Rattle.call_laws.specs.attempts.EngineCalls.{AreAttempts, EngineCall, IsEngineCall, begins_behind, call_order, first_ticket, lost_in, lost_of, made_in, made_of, opening}
use Rattle.cluster_laws.specs.cluster_cuts.Goings.{AreUpdatesFrom, IsByOwner}
use Rattle.cluster_laws.specs.cluster_runs.Attempts.{Attempt, Beginning, Shared}
use Rattle.cluster_laws.specs.cluster_model.ByTicket.{StandByTicket, restarts}
use Rattle.call_laws.specs.attempts.Entries.{is_restart_at, is_update, is_update_below, is_update_from}
use Rattle.cluster_laws.specs.cluster_core.Replays.{ticket_of}
use Rattle.call_laws.proofs.attempts.Cutting.{all_cut, all_left, cut_and_left, made_below, stand_left}
use Rattle.call_laws.proofs.attempts.Opening.{opening_begins}
use Rattle.call_laws.proofs.attempts.Standing.{all_weaker, stand_append, stand_made, stand_within}

-- ---- which entries are updates from a ticket on

-- an update with this ticket or a later one
abbrev pub IsUpdateFrom : ℕ → Entry → Type 0
IsUpdateFrom f entry = is_update_from f entry ≡ true

from_next : (f next t : ℕ) → f ≤ next → t ≡ next → f ≤ t
from_next f next t low same = omega arith

suc_up : (f next : ℕ) → f ≤ next → f ≤ suc next
suc_up f next low = omega arith

pub made_from : (f next : ℕ) (made : List Entry) → AreUpdatesFrom next made → f ≤ next → AllByRecursion (IsUpdateFrom f) made
made_from f next [] tickets low = tt
made_from f next (Restart ticket ∷ made) tickets low = absurd tickets
made_from f next (Go m v t ∷ made) tickets low = (le-leb f t (from_next f next t low tickets.0), made_from f (suc next) made tickets.1 (suc_up f next low))

pub filter_all : (test : Entry → Bool) (order : List Entry) → AllByRecursion (λ entry. test entry ≡ true) order → filter test order ≡ order
filter_all test [] all = refl
filter_all test (e ∷ order) all = cond-true (test e) (e ∷ filter test order) (filter test order) all.0 ∙ ap (λ (es : List Entry). e ∷ es) (filter_all test order all.1)

pub filter_none : (test : Entry → Bool) (order : List Entry) → AllByRecursion (λ entry. test entry ≡ false) order → filter test order ≡ []
filter_none test [] all = refl
filter_none test (e ∷ order) all = cond-false (test e) (e ∷ filter test order) (filter test order) all.0 ∙ filter_none test order all.1

not_below : (t f : ℕ) → suc t ≤ f → f ≤ t → ⊥
not_below t f one other = omega arith

none_from : (low : ℕ) (order : List Entry) (f : ℕ) → StandByTicket low order f → AllByRecursion (λ entry. is_update_from f entry ≡ false) order
none_from low [] f stand = tt
none_from low (Go m v t ∷ order) f stand = (
  false_from_ne_true (nat_le f t) (λ is. not_below t f (stand_within (suc t) order f stand.1) (leb-true f t is)),
  none_from (suc t) order f stand.1,
)
none_from low (Restart t ∷ order) f stand = (refl, none_from t order f stand.1)

none_in_restarts : (f n ticket : ℕ) → filter (is_update_from f) (restarts n ticket) ≡ []
none_in_restarts f zero ticket = refl
none_in_restarts f (suc n) ticket = none_in_restarts f n ticket

-- ---- which entries are updates below a ticket

none_below : (f next : ℕ) (made : List Entry) → AreUpdatesFrom next made → f ≤ next → AllByRecursion (λ entry. is_update_below f entry ≡ false) made
none_below f next [] tickets low = tt
none_below f next (Restart ticket ∷ made) tickets low = absurd tickets
none_below f next (Go m v t ∷ made) tickets low = (le-ltb t f (from_next f next t low tickets.0), none_below f (suc next) made tickets.1 (suc_up f next low))

none_below_restarts : (f n ticket : ℕ) → filter (is_update_below f) (restarts n ticket) ≡ []
none_below_restarts f zero ticket = refl
none_below_restarts f (suc n) ticket = none_below_restarts f n ticket

-- in an order that stands below the ticket all updates are below it
all_below : (low : ℕ) (order : List Entry) (f : ℕ) → StandByTicket low order f → filter (is_update_below f) order ≡ filter is_update order
all_below low [] f stand = refl
all_below low (Go m v t ∷ order) f stand =
    cond-true (nat_lt t f) (Go m v t ∷ filter (is_update_below f) order) (filter (is_update_below f) order) (lt-ltb t f (stand_within (suc t) order f stand.1))
    ∙ ap (λ (es : List Entry). Go m v t ∷ es) (all_below (suc t) order f stand.1)
all_below low (Restart t ∷ order) f stand = all_below t order f stand.1

no_update : (resumed : Bool) (ticket : ℕ) → filter is_update (if resumed then Restart ticket ∷ [] else []) ≡ []
no_update true ticket = refl
no_update false ticket = refl

-- ---- which restarts an order has

pub any_left : (p : Entry → Bool) (xs ys : List Entry) → list_any p xs ≡ true → list_any p (xs ++ ys) ≡ true
any_left p xs ys is = list_any-append p xs ys ∙ ap (λ (b : Bool). b || list_any p ys) is

or_right : (b c : Bool) → c ≡ true → (b || c) ≡ true
or_right true c is = refl
or_right false c is = is

pub any_right : (p : Entry → Bool) (xs ys : List Entry) → list_any p ys ≡ true → list_any p (xs ++ ys) ≡ true
any_right p xs ys is = list_any-append p xs ys ∙ or_right (list_any p xs) (list_any p ys) is

none_less : 1 ≤ 0 → ⊥
none_less is = omega arith

true_or : (b c : Bool) → b ≡ true → (b || c) ≡ true
true_or true c is = refl
true_or false c is = absurd cc

restarts_have : (n ticket : ℕ) → 1 ≤ n → list_any (is_restart_at ticket) (restarts n ticket) ≡ true
restarts_have zero ticket some = absurd (none_less some)
restarts_have (suc n) ticket some = any_left (is_restart_at ticket) (Restart ticket ∷ []) (restarts n ticket) (true_or (ticket == ticket) false (eq-eqb ticket ticket refl))

-- the order of a call begins with what each of its attempts began with
pub order_begins : (b : Beginning) (failed : List Attempt) (last : Attempt) → (rest : List Entry) × (order_after (begins_behind b failed) last ≡ b.front ++ rest)
order_begins b [] last = (last.made, refl)
order_begins b (a ∷ failed) last =
    let more : List Entry = held_updates a ++ restarts a.struck (b.next + length a.made) in
    let rest = order_begins (again b a) failed last in
    (more ++ rest.0, rest.1 ∙ append_assoc b.front more rest.0)

pub restart_behind : (b : Beginning) (a : Attempt) (failed : List Attempt) (last : Attempt) → 1 ≤ a.struck →
    list_any (is_restart_at (b.next + length a.made)) (order_after (begins_behind (again b a) failed) last) ≡ true
restart_behind b a failed last some =
    let test : Entry → Bool = is_restart_at (b.next + length a.made) in
    let new : List Entry = restarts a.struck (b.next + length a.made) in
    let begins = order_begins (again b a) failed last in
    ap (list_any test) begins.1
    ∙ any_left test (b.front ++ (held_updates a ++ new)) begins.0
    (any_right test b.front (held_updates a ++ new) (any_right test (held_updates a) new (restarts_have a.struck (b.next + length a.made) some)))

-- ---- permutations

exchange : (orders losts own fronts helds made rest : List Entry) → IsPermutation (orders ++ losts) ((fronts ++ helds) ++ rest) → IsPermutation (helds ++ own) made →
    IsPermutation (orders ++ (own ++ losts)) (fronts ++ (made ++ rest))
exchange orders losts own fronts helds made rest one other =
    let first : IsPermutation (orders ++ (own ++ losts)) ((orders ++ losts) ++ own) =
    subst (IsPermutation (orders ++ (own ++ losts))) (sym (append_assoc orders losts own)) (IsPermutation-append_right orders (own ++ losts) (losts ++ own) (IsPermutation-append_comm own losts)) in
    let second : IsPermutation ((orders ++ losts) ++ own) (((fronts ++ helds) ++ rest) ++ own) = IsPermutation-append_left own (orders ++ losts) ((fronts ++ helds) ++ rest) one in
    let third : IsPermutation (((fronts ++ helds) ++ rest) ++ own) ((fronts ++ helds) ++ (own ++ rest)) =
    subst (λ (es : List Entry). IsPermutation es ((fronts ++ helds) ++ (own ++ rest))) (sym (append_assoc (fronts ++ helds) rest own))
    (IsPermutation-append_right (fronts ++ helds) (rest ++ own) (own ++ rest) (IsPermutation-append_comm rest own)) in
    let same : (fronts ++ helds) ++ (own ++ rest) ≡ fronts ++ ((helds ++ own) ++ rest) =
    append_assoc fronts helds (own ++ rest) ∙ ap (λ (es : List Entry). fronts ++ es) (sym (append_assoc helds own rest)) in
    let fourth : IsPermutation (fronts ++ ((helds ++ own) ++ rest)) (fronts ++ (made ++ rest)) =
    IsPermutation-append_right fronts ((helds ++ own) ++ rest) (made ++ rest) (IsPermutation-append_left rest (helds ++ own) made other) in
    IsPermutation-trans (orders ++ (own ++ losts)) ((orders ++ losts) ++ own) (fronts ++ (made ++ rest)) first
    (IsPermutation-trans ((orders ++ losts) ++ own) (((fronts ++ helds) ++ rest) ++ own) (fronts ++ (made ++ rest)) second
    (IsPermutation-trans (((fronts ++ helds) ++ rest) ++ own) ((fronts ++ helds) ++ (own ++ rest)) (fronts ++ (made ++ rest)) third
    (subst (λ (es : List Entry). IsPermutation es (fronts ++ (made ++ rest))) (sym same) fourth)))

le_more : (f n k : ℕ) → f ≤ n → f ≤ n + k
le_more f n k low = omega arith

plus_assoc : (n k m : ℕ) → (n + k) + m ≡ n + (k + m)
plus_assoc n k m = omega arith

module _ (shared : Shared) where
  pub together : (f : ℕ) (b : Beginning) (failed : List Attempt) (last : Attempt) → f ≤ b.next → AreAttempts shared b failed last →
      IsPermutation (filter (is_update_from f) (order_after (begins_behind b failed) last) ++ lost_in failed) (filter (is_update_from f) b.front ++ made_in failed last)
  together f b [] last low are =
      let test : Entry → Bool = is_update_from f in
      subst (λ (es : List Entry). IsPermutation es (filter test b.front ++ last.made))
      (sym (append-nil (filter test (b.front ++ last.made)) ∙ filter-append test b.front last.made
      ∙ ap (λ (es : List Entry). filter test b.front ++ es) (filter_all test last.made (made_from f b.next last.made are.tickets low))))
      (IsPermutation-refl (filter test b.front ++ last.made))
  together f b (a ∷ failed) last low are =
      let test : Entry → Bool = is_update_from f in
      let new : List Entry = restarts a.struck (b.next + length a.made) in
      let own : AllByRecursion (IsUpdateFrom f) (held_updates a) = all_cut (IsUpdateFrom f) (last_of nothing a.kept) a.made (made_from f b.next a.made are.0.tickets low) in
      let front : filter test (b.front ++ (held_updates a ++ new)) ≡ filter test b.front ++ held_updates a =
      filter-append test b.front (held_updates a ++ new)
      ∙ ap (λ (es : List Entry). filter test b.front ++ es)
      (filter-append test (held_updates a) new ∙ ap₂ (λ (xs ys : List Entry). xs ++ ys) (filter_all test (held_updates a) own) (none_in_restarts f a.struck (b.next + length a.made)) ∙ append-nil (held_updates a)) in
      exchange (filter test (order_after (begins_behind (again b a) failed) last)) (lost_in failed) (unheld_updates a) (filter test b.front) (held_updates a) a.made (made_in failed last)
      (subst (λ (es : List Entry). IsPermutation (filter test (order_after (begins_behind (again b a) failed) last) ++ lost_in failed) (es ++ made_in failed last)) front
      (together f (again b a) failed last (le_more f b.next (length a.made) low) are.2))
      (cut_and_left (last_of nothing a.kept) b.next a.made are.0.tickets)

  pub made_tickets : (b : Beginning) (failed : List Attempt) (last : Attempt) → AreAttempts shared b failed last → AreUpdatesFrom b.next (made_in failed last)
  made_tickets b [] last are = are.tickets
  made_tickets b (a ∷ failed) last are = updates_from-append b.next a.made (made_in failed last) are.0.tickets (made_tickets (again b a) failed last are.2)

  pub made_owned : (b : Beginning) (failed : List Attempt) (last : Attempt) → AreAttempts shared b failed last → AllByRecursion (IsByOwner shared.owner) (made_in failed last)
  made_owned b [] last are = are.owners
  made_owned b (a ∷ failed) last are = each-append (IsByOwner shared.owner) a.made (made_in failed last) are.0.owners (made_owned (again b a) failed last are.2)

  pub lost_stands : (b : Beginning) (failed : List Attempt) (last : Attempt) → AreAttempts shared b failed last → StandByTicket b.next (lost_in failed) (b.next + length (made_in failed last))
  lost_stands b [] last are = le_more b.next b.next (length last.made) (le_refl b.next)
  lost_stands b (a ∷ failed) last are =
      let next : ℕ = b.next + length a.made in
      stand_append b.next (unheld_updates a) next (lost_in failed) (b.next + length (a.made ++ made_in failed last))
      (stand_left (last_of nothing a.kept) b.next a.made next (stand_made b.next a.made are.0.tickets))
      (subst (λ (n : ℕ). StandByTicket next (lost_in failed) n)
      (plus_assoc b.next (length a.made) (length (made_in failed last)) ∙ ap (λ (n : ℕ). b.next + n) (sym (length-append a.made (made_in failed last))))
      (lost_stands (again b a) failed last are.2))

  -- each lost update is below a restart of the order
  abbrev IsBelowRestart : List Entry → Entry → Type 0
  IsBelowRestart order entry = (r : ℕ) × (ticket_of entry < r) × (list_any (is_restart_at r) order ≡ true)

  pub lost_below : (b : Beginning) (failed : List Attempt) (last : Attempt) → AreAttempts shared b failed last →
      AllByRecursion (IsBelowRestart (order_after (begins_behind b failed) last)) (lost_in failed)
  lost_below b [] last are = tt
  lost_below b (a ∷ failed) last are =
      let order : List Entry = order_after (begins_behind (again b a) failed) last in
      let next : ℕ = b.next + length a.made in
      each-append (IsBelowRestart order) (unheld_updates a) (lost_in failed)
      (all_weaker (λ (entry : Entry). ticket_of entry < next) (IsBelowRestart order) (λ entry low. (next, low, restart_behind b a failed last are.1)) (unheld_updates a)
      (all_left (λ (entry : Entry). ticket_of entry < next) (last_of nothing a.kept) a.made (made_below b.next a.made are.0.tickets)))
      (lost_below (again b a) failed last are.2)

  -- no attempt has an update below the call's first ticket
  pub kept_below : (f : ℕ) (b : Beginning) (failed : List Attempt) (last : Attempt) → f ≤ b.next → AreAttempts shared b failed last →
      filter (is_update_below f) (order_after (begins_behind b failed) last) ≡ filter (is_update_below f) b.front
  kept_below f b [] last low are =
      let test : Entry → Bool = is_update_below f in
      filter-append test b.front last.made
      ∙ ap (λ (es : List Entry). filter test b.front ++ es) (filter_none test last.made (none_below f b.next last.made are.tickets low))
      ∙ append-nil (filter test b.front)
  kept_below f b (a ∷ failed) last low are =
      let test : Entry → Bool = is_update_below f in
      let new : List Entry = restarts a.struck (b.next + length a.made) in
      let own : AllByRecursion (λ entry. test entry ≡ false) (held_updates a) = all_cut (λ entry. test entry ≡ false) (last_of nothing a.kept) a.made (none_below f b.next a.made are.0.tickets low) in
      kept_below f (again b a) failed last (le_more f b.next (length a.made) low) are.2
      ∙ filter-append test b.front (held_updates a ++ new)
      ∙ ap (λ (es : List Entry). filter test b.front ++ es)
      (filter-append test (held_updates a) new ∙ ap₂ (λ (xs ys : List Entry). xs ++ ys) (filter_none test (held_updates a) own) (none_below_restarts f a.struck (b.next + length a.made)))
      ∙ append-nil (filter test b.front)

  pub call_kept : (call : EngineCall) → IsEngineCall shared call → filter (is_update_below (first_ticket call)) (call_order call) ≡ filter is_update call.base
  call_kept call is =
      let b : Beginning = opening call in
      let f : ℕ = first_ticket call in
      kept_below f b call.failed call.last (le_refl f) is.attempts
      ∙ all_below 0 b.front f (opening_begins shared call is).by_ticket
      ∙ filter-append is_update call.base (if call.resumed then Restart f ∷ [] else [])
      ∙ ap (λ (es : List Entry). filter is_update call.base ++ es) (no_update call.resumed f)
      ∙ append-nil (filter is_update call.base)

  pub call_accounted : (call : EngineCall) → IsEngineCall shared call → AreAccounted shared (first_ticket call) (call_order call) (lost_of call) (made_of call)
  call_accounted call is =
      let b : Beginning = opening call in
      let f : ℕ = first_ticket call in
      let begins : IsBeginning shared b = opening_begins shared call is in
      record {
        same = subst (λ (es : List Entry). IsPermutation (filter (is_update_from f) (call_order call) ++ lost_of call) (es ++ made_of call))
            (filter_none (is_update_from f) b.front (none_from 0 b.front f begins.by_ticket))
            (together f b call.failed call.last (le_refl f) is.attempts);
        tickets = made_tickets b call.failed call.last is.attempts;
        owners = made_owned b call.failed call.last is.attempts;
        lost_by_ticket = lost_stands b call.failed call.last is.attempts;
        lost_before = lost_below b call.failed call.last is.attempts;
      }
