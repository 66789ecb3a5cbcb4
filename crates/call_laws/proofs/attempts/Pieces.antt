-- From each bound to the next, what was made is valid behind what the order has before.
use Rattle.std.proofs.Common.{◌≡◌, ◌⊎◌, ◌≤◌, ◌<◌, Bool, true, false, ℕ, suc, ◌+◌, ◌==◌, nat_le, nat_lt, List, [], ◌∷◌, ◌++◌, length, filter, refl, sym, ap, ap₂, ◌∙◌, subst, inl, inr, ⊎_elim, le_refl, le_trans, append_assoc, append-nil, arith}
use Rattle.std.specs.List.{AllByRecursion, list_any}
use Rattle.std.proofs.lemmas.Bool.{and_from, and_left, and_right, cases_lt, cond-false, cond-true, eqb-true, eq-eqb, false_from_ne_true, le-leb, le-ltb, leb-true, lt-ltb, ne_eqb, or_cases}
use Rattle.std.proofs.lemmas.List.{length-append}
use Rattle.std.proofs.lemmas.List.Elements.{filter-append}
use Rattle.std.proofs.lemmas.List.Folds.{list_any-append}
use Rattle.gl_base.specs.declared.entries.Entry.{Entry}
use Rattle.gl_base.specs.declared.entries.Entry.TheVariants.{Go, Restart}
use Rattle.graph_core.proofs.HalvesLaws.{each-append}
use Rattle.seq_run.specs.Orders.{IsValidOrder}
use Rattle.call_laws.specs.attempts.Accounted.{AreValidBetween, IsBound, pieces_at}
use Rattle.call_laws.specs.attempts.Beginnings.{IsBeginning, again, held_updates, last_of, nothing, order_after}
use Rattle.call_laws.specs.attempts.EngineCalls.{AreAttempts, EngineCall, IsEngineCall, begins_behind, call_order, first_ticket, made_in, made_of, opening}
use Rattle.cluster_laws.specs.cluster_cuts.Goings.{AreUpdatesFrom}
use Rattle.cluster_laws.specs.cluster_runs.Attempts.{Attempt, Beginning, IsAttempt, Shared}
use Rattle.cluster_laws.specs.cluster_model.ByTicket.{StandByTicket, restarts}
use Rattle.call_laws.specs.attempts.Entries.{is_before_ticket, is_restart_at, is_update_within}
use Rattle.call_laws.proofs.attempts.Accounting.{filter_all, filter_none, made_tickets, restart_behind}
use Rattle.call_laws.proofs.attempts.Beginning.{again_begins, longer_valid, stand_held}
use Rattle.call_laws.proofs.attempts.Cutting.{all_cut}
use Rattle.call_laws.proofs.attempts.Opening.{opening_begins}
use Rattle.call_laws.proofs.attempts.Standing.{stand_append, stand_made, stand_restarts, stand_within}

-- ---- an order by ticket up to r: what is below r, and the restarts at r, are all of it

low_in : (t r : ℕ) → suc t ≤ r → t < r
low_in t r is = is

at_most : (t r : ℕ) → t ≤ r → (t < r) ⊎ (t ≡ r)
at_most t r is = ⊎_elim (λ (less : t < r). inl less) (λ (high : r ≤ t). inr (same t r is high)) (cases_lt t r)
  where
    same : (t r : ℕ) → t ≤ r → r ≤ t → t ≡ r
    same t r one other = omega arith

not_less : (t r : ℕ) → r ≤ t → t < r → ⊥
not_less t r one other = omega arith

-- entries from low on, none of which is below r
none_below : (r low : ℕ) (order : List Entry) (high : ℕ) → StandByTicket low order high → r ≤ low → filter (is_before_ticket r) order ≡ []
none_below r low order high stand up = filter_none (is_before_ticket r) order (all low order high stand up)
  where
    step : (r low t : ℕ) → r ≤ low → low ≤ t → r ≤ suc t
    step r low t one other = omega arith

    all : (low : ℕ) (order : List Entry) (high : ℕ) → StandByTicket low order high → r ≤ low → AllByRecursion (λ e. is_before_ticket r e ≡ false) order
    all low [] high stand up = tt
    all low (Go m v t ∷ order) high stand up = (le-ltb t r (le_trans up stand.0), all (suc t) order high stand.1 (step r low t up stand.0))
    all low (Restart t ∷ order) high stand up = (le-ltb t r (le_trans up stand.0), all t order high stand.1 (le_trans up stand.0))

-- entries at r and no further are restarts at r
all_at : (r : ℕ) (order : List Entry) → StandByTicket r order r → filter (is_restart_at r) order ≡ order
all_at r order stand = filter_all (is_restart_at r) order (all r order stand (le_refl r))
  where
    past : (r t : ℕ) → r ≤ t → suc t ≤ r → ⊥
    past r t one other = omega arith

    same : (r t : ℕ) → r ≤ t → t ≤ r → t ≡ r
    same r t one other = omega arith

    all : (low : ℕ) (order : List Entry) → StandByTicket low order r → r ≤ low → AllByRecursion (λ e. is_restart_at r e ≡ true) order
    all low [] stand up = tt
    all low (Go m v t ∷ order) stand up = absurd (past r t (le_trans up stand.0) (stand_within (suc t) order r stand.1))
    all low (Restart t ∷ order) stand up = (eq-eqb t r (same r t (le_trans up stand.0) (stand_within t order r stand.1)), all t order stand.1 (le_trans up stand.0))

split_at : (r low : ℕ) (order : List Entry) → StandByTicket low order r → filter (is_before_ticket r) order ++ filter (is_restart_at r) order ≡ order
split_at r low [] stand = refl
split_at r low (Go m v t ∷ order) stand =
    ap (λ (es : List Entry). es ++ filter (is_restart_at r) order) (cond-true (nat_lt t r) (Go m v t ∷ filter (is_before_ticket r) order) (filter (is_before_ticket r) order) (lt-ltb t r (stand_within (suc t) order r stand.1)))
    ∙ ap (λ (es : List Entry). Go m v t ∷ es) (split_at r (suc t) order stand.1)
split_at r low (Restart t ∷ order) stand =
    ⊎_elim
    (λ (less : t < r).
    ap₂ (λ (xs ys : List Entry). xs ++ ys)
    (cond-true (nat_lt t r) (Restart t ∷ filter (is_before_ticket r) order) (filter (is_before_ticket r) order) (lt-ltb t r less))
    (cond-false (t == r) (Restart t ∷ filter (is_restart_at r) order) (filter (is_restart_at r) order) (ne_eqb t r (λ same. not_same t r less same)))
    ∙ ap (λ (es : List Entry). Restart t ∷ es) (split_at r t order stand.1))
    (λ (high : r ≤ t).
    ap₂ (λ (xs ys : List Entry). xs ++ ys) (none_below r r (Restart t ∷ order) r (high, stand.1) (le_refl r)) (all_at r (Restart t ∷ order) (high, stand.1)))
    (cases_lt t r)
  where
    not_same : (t r : ℕ) → t < r → t ≡ r → ⊥
    not_same t r less same = omega arith

-- ---- which restarts an order has

none_has : (r low : ℕ) (order : List Entry) (high : ℕ) → StandByTicket low order high → list_any (is_restart_at r) order ≡ true → (low ≤ r) × (r ≤ high)
none_has r low [] high stand has = absurd (not_so has)
  where
    not_so : false ≡ true → ⊥
    not_so is = cc
none_has r low (Go m v t ∷ order) high stand has = let rest = none_has r (suc t) order high stand.1 has in (le_trans (le_trans stand.0 (up t)) rest.0, rest.1)
  where
    up : (t : ℕ) → t ≤ suc t
    up t = omega arith
none_has r low (Restart t ∷ order) high stand has =
    ⊎_elim
    (λ (here : (t == r) ≡ true). (subst (λ (n : ℕ). low ≤ n) (eqb-true t r here) stand.0, subst (λ (n : ℕ). n ≤ high) (eqb-true t r here) (stand_within t order high stand.1)))
    (λ (later : list_any (is_restart_at r) order ≡ true). let rest = none_has r t order high stand.1 later in (le_trans stand.0 rest.0, rest.1))
    (or_cases (t == r) (list_any (is_restart_at r) order) has)

made_has : (r next : ℕ) (made : List Entry) → AreUpdatesFrom next made → list_any (is_restart_at r) made ≡ true → ⊥
made_has r next [] tickets has = not_so has
  where
    not_so : false ≡ true → ⊥
    not_so is = cc
made_has r next (Restart ticket ∷ made) tickets has = tickets
made_has r next (Go m v t ∷ made) tickets has = made_has r (suc next) made tickets.1 has

any_cases : (p : Entry → Bool) (xs ys : List Entry) → list_any p (xs ++ ys) ≡ true → (list_any p xs ≡ true) ⊎ (list_any p ys ≡ true)
any_cases p xs ys has = or_cases (list_any p xs) (list_any p ys) (sym (list_any-append p xs ys) ∙ has)

-- ---- which updates are within bounds

within_all : (r s next : ℕ) (made : List Entry) → AreUpdatesFrom next made → r ≤ next → next + length made ≤ s → filter (is_update_within r s) made ≡ made
within_all r s next made tickets low high = filter_all (is_update_within r s) made (all next made tickets low high)
  where
    from : (r next t : ℕ) → t ≡ next → r ≤ next → r ≤ t
    from r next t same low = omega arith

    under : (next t n s : ℕ) → t ≡ next → next + suc n ≤ s → t < s
    under next t n s same high = omega arith

    rest : (next n s : ℕ) → next + suc n ≤ s → suc next + n ≤ s
    rest next n s high = omega arith

    up : (r next : ℕ) → r ≤ next → r ≤ suc next
    up r next low = omega arith

    all : (next : ℕ) (made : List Entry) → AreUpdatesFrom next made → r ≤ next → next + length made ≤ s → AllByRecursion (λ e. is_update_within r s e ≡ true) made
    all next [] tickets low high = tt
    all next (Restart ticket ∷ made) tickets low high = absurd tickets
    all next (Go m v t ∷ made) tickets low high = (
      and_from (nat_le r t) (nat_lt t s) (le-leb r t (from r next t tickets.0 low)) (lt-ltb t s (under next t (length made) s tickets.0 high)),
      all (suc next) made tickets.1 (up r next low) (rest next (length made) s high),
    )

within_none : (r s next : ℕ) (made : List Entry) → AreUpdatesFrom next made → next + length made ≤ r → filter (is_update_within r s) made ≡ []
within_none r s next made tickets high = filter_none (is_update_within r s) made (all next made tickets high)
  where
    not_from : (next t n r : ℕ) → t ≡ next → next + suc n ≤ r → r ≤ t → ⊥
    not_from next t n r same high low = omega arith

    rest : (next n s : ℕ) → next + suc n ≤ s → suc next + n ≤ s
    rest next n s high = omega arith

    all : (next : ℕ) (made : List Entry) → AreUpdatesFrom next made → next + length made ≤ r → AllByRecursion (λ e. is_update_within r s e ≡ false) made
    all next [] tickets high = tt
    all next (Restart ticket ∷ made) tickets high = absurd tickets
    all next (Go m v t ∷ made) tickets high = (
      and_left (nat_le r t) (nat_lt t s) (false_from_ne_true (nat_le r t) (λ is. not_from next t (length made) r tickets.0 high (leb-true r t is))),
      all (suc next) made tickets.1 (rest next (length made) r high),
    )

within_late : (r s next : ℕ) (made : List Entry) → AreUpdatesFrom next made → s ≤ next → filter (is_update_within r s) made ≡ []
within_late r s next made tickets low = filter_none (is_update_within r s) made (all next made tickets low)
  where
    from : (s next t : ℕ) → t ≡ next → s ≤ next → s ≤ t
    from s next t same low = omega arith

    up : (r next : ℕ) → r ≤ next → r ≤ suc next
    up r next low = omega arith

    all : (next : ℕ) (made : List Entry) → AreUpdatesFrom next made → s ≤ next → AllByRecursion (λ e. is_update_within r s e ≡ false) made
    all next [] tickets low = tt
    all next (Restart ticket ∷ made) tickets low = absurd tickets
    all next (Go m v t ∷ made) tickets low = (and_right (nat_le r t) (nat_lt t s) (le-ltb t s (from s next t tickets.0 low)), all (suc next) made tickets.1 (up s next low))

-- ---- what an order has behind the beginning of an attempt

-- what comes behind the order that an attempt began with
abbrev behind : Beginning → List Attempt → Attempt → List Entry
behind b [] last = last.made
behind b (a ∷ failed) last = (held_updates a ++ restarts a.struck (b.next + length a.made)) ++ behind (again b a) failed last

order_behind : (b : Beginning) (failed : List Attempt) (last : Attempt) → order_after (begins_behind b failed) last ≡ b.front ++ behind b failed last
order_behind b [] last = refl
order_behind b (a ∷ failed) last =
    order_behind (again b a) failed last ∙ append_assoc b.front (held_updates a ++ restarts a.struck (b.next + length a.made)) (behind (again b a) failed last)

plus_more : (n k m : ℕ) → (n + k) + m ≡ n + (k + m)
plus_more n k m = omega arith

module _ (shared : Shared) where
  long_is : (b : Beginning) (a : Attempt) (failed : List Attempt) (last : Attempt) → (b.next + length a.made) + length (made_in failed last) ≡ b.next + length (made_in (a ∷ failed) last)
  long_is b a failed last = plus_more b.next (length a.made) (length (made_in failed last)) ∙ ap (λ (n : ℕ). b.next + n) (sym (length-append a.made (made_in failed last)))

  behind_stands : (b : Beginning) (failed : List Attempt) (last : Attempt) → AreAttempts shared b failed last → StandByTicket b.next (behind b failed last) (b.next + length (made_in failed last))
  behind_stands b [] last are = stand_made b.next last.made are.tickets
  behind_stands b (a ∷ failed) last are =
      let next : ℕ = b.next + length a.made in
      let own : List Entry = restarts a.struck next in
      stand_append b.next (held_updates a ++ own) next (behind (again b a) failed last) (b.next + length (made_in (a ∷ failed) last))
      (stand_append b.next (held_updates a) next own next (stand_held shared b a are.0) (stand_restarts a.struck next))
      (subst (λ (n : ℕ). StandByTicket next (behind (again b a) failed last) n) (long_is b a failed last) (behind_stands (again b a) failed last are.2))

  -- the three parts at an attempt's beginning are its order, where nothing behind is at that ticket
  piece : (b : Beginning) (made more rest : List Entry) (top : ℕ) → IsBeginning shared b → filter (is_before_ticket b.next) rest ≡ [] → filter (is_restart_at b.next) rest ≡ [] →
      filter (is_update_within b.next top) (made ++ more) ≡ made → pieces_at b.next top (b.front ++ rest) (made ++ more) ≡ b.front ++ made
  piece b made more rest top is below at within =
      let fb : List Entry = filter (is_before_ticket b.next) b.front in
      let fa : List Entry = filter (is_restart_at b.next) b.front in
      ap₂ (λ (xs ys : List Entry). xs ++ ys)
      (filter-append (is_before_ticket b.next) b.front rest ∙ ap (λ (es : List Entry). fb ++ es) below ∙ append-nil fb)
      (ap₂ (λ (xs ys : List Entry). xs ++ ys) (filter-append (is_restart_at b.next) b.front rest ∙ ap (λ (es : List Entry). fa ++ es) at ∙ append-nil fa) within)
      ∙ sym (append_assoc fb fa made) ∙ ap (λ (es : List Entry). es ++ made) (split_at b.next 0 b.front is.by_ticket)

  no_restart_at : (r next : ℕ) (made : List Entry) → AreUpdatesFrom next made → filter (is_restart_at r) made ≡ []
  no_restart_at r next made tickets = filter_none (is_restart_at r) made (all next made tickets)
    where
      all : (next : ℕ) (made : List Entry) → AreUpdatesFrom next made → AllByRecursion (λ e. is_restart_at r e ≡ false) made
      all next [] tickets = tt
      all next (Restart ticket ∷ made) tickets = absurd tickets
      all next (Go m v t ∷ made) tickets = (refl, all (suc next) made tickets.1)

  none_any : (p : Entry → Bool) (xs : List Entry) → AllByRecursion (λ e. p e ≡ false) xs → list_any p xs ≡ true → ⊥
  none_any p [] all has = not_so has
    where
      not_so : false ≡ true → ⊥
      not_so is = cc
  none_any p (x ∷ xs) all has = ⊎_elim (λ (here : p x ≡ true). clash (p x) all.0 here) (λ (later : list_any p xs ≡ true). none_any p xs all.1 later) (or_cases (p x) (list_any p xs) has)
    where
      clash : (b : Bool) → b ≡ false → b ≡ true → ⊥
      clash b one other = cc

  none_at : (r low : ℕ) (order : List Entry) (high : ℕ) → StandByTicket low order high → r < low → AllByRecursion (λ e. is_restart_at r e ≡ false) order
  none_at r low [] high stand less = tt
  none_at r low (Go m v t ∷ order) high stand less = (refl, none_at r (suc t) order high stand.1 (up r low t less stand.0))
    where
      up : (r low t : ℕ) → r < low → low ≤ t → r < suc t
      up r low t one other = omega arith
  none_at r low (Restart t ∷ order) high stand less = (ne_eqb t r (off r low t less stand.0), none_at r t order high stand.1 (up r low t less stand.0))
    where
      off : (r low t : ℕ) → r < low → low ≤ t → t ≡ r → ⊥
      off r low t one other same = omega arith

      up : (r low t : ℕ) → r < low → low ≤ t → r < t
      up r low t one other = omega arith

  held_none : (r : ℕ) (a : Attempt) (next : ℕ) → AreUpdatesFrom next a.made → AllByRecursion (λ e. is_restart_at r e ≡ false) (held_updates a)
  held_none r a next tickets = all_cut (λ e. is_restart_at r e ≡ false) (last_of nothing a.kept) a.made (all next a.made tickets)
    where
      all : (next : ℕ) (made : List Entry) → AreUpdatesFrom next made → AllByRecursion (λ e. is_restart_at r e ≡ false) made
      all next [] tickets = tt
      all next (Restart ticket ∷ made) tickets = absurd tickets
      all next (Go m v t ∷ made) tickets = (refl, all (suc next) made tickets.1)

  plus_low : (n k : ℕ) → n ≤ n + k
  plus_low n k = omega arith

  equal : (n k : ℕ) → n ≤ k → k ≤ n → n ≡ k
  equal n k one other = omega arith

  no_both : (r s top : ℕ) → r ≡ top → r < s → s ≤ top → ⊥
  no_both r s top one two three = omega arith

  no_self : (r s n : ℕ) → r ≡ n → s ≤ n → r < s → ⊥
  no_self r s n one two three = omega arith

  abbrev Between : Beginning → List Entry → ℕ → List Entry → ℕ → ℕ → Type 0
  Between b order top updates r s =
      IsBound b.next order top r → IsBound b.next order top s → r < s → ((q : ℕ) → IsBound b.next order top q → r < q → s ≤ q) →
      IsValidOrder shared.graph shared.program (pieces_at r s order updates)

  last_between : (b : Beginning) (last : Attempt) → IsBeginning shared b → IsAttempt shared b last → (r s : ℕ) → Between b (b.front ++ last.made) (b.next + length last.made) last.made r s
  last_between b last is attempt r s bound_r bound_s less least =
      let top : ℕ = b.next + length last.made in
      let early : (q : ℕ) → list_any (is_restart_at q) (b.front ++ last.made) ≡ true → q ≤ b.next =
      λ q has. ⊎_elim (λ (in_front : list_any (is_restart_at q) b.front ≡ true). (none_has q 0 b.front b.next is.by_ticket in_front).1)
      (λ (in_made : list_any (is_restart_at q) last.made ≡ true). absurd (made_has q b.next last.made attempt.tickets in_made)) (any_cases (is_restart_at q) b.front last.made has) in
      let high : s ≤ top = ⊎_elim (λ (at : s ≡ b.next). subst (λ (n : ℕ). n ≤ top) (sym at) (plus_low b.next (length last.made)))
      (λ (more : ((b.next ≤ s) × (list_any (is_restart_at s) (b.front ++ last.made) ≡ true)) ⊎ (s ≡ top)). ⊎_elim
      (λ (has : (b.next ≤ s) × (list_any (is_restart_at s) (b.front ++ last.made) ≡ true)). le_trans (early s has.1) (plus_low b.next (length last.made)))
      (λ (at : s ≡ top). subst (λ (n : ℕ). s ≤ n) at (le_refl s)) more) bound_s in
      let first : r ≡ b.next = ⊎_elim (λ (at : r ≡ b.next). at)
      (λ (more : ((b.next ≤ r) × (list_any (is_restart_at r) (b.front ++ last.made) ≡ true)) ⊎ (r ≡ top)). ⊎_elim
      (λ (has : (b.next ≤ r) × (list_any (is_restart_at r) (b.front ++ last.made) ≡ true)). equal r b.next (early r has.1) has.0)
      (λ (at : r ≡ top). absurd (no_both r s top at less high)) more) bound_r in
      let end : s ≡ top = ⊎_elim (λ (at : s ≡ b.next). absurd (no_self r s b.next first (subst (λ (n : ℕ). s ≤ n) at (le_refl s)) less))
      (λ (more : ((b.next ≤ s) × (list_any (is_restart_at s) (b.front ++ last.made) ≡ true)) ⊎ (s ≡ top)). ⊎_elim
      (λ (has : (b.next ≤ s) × (list_any (is_restart_at s) (b.front ++ last.made) ≡ true)). absurd (no_self r s b.next first (early s has.1) less))
      (λ (at : s ≡ top). at) more) bound_s in
      let whole : pieces_at b.next top (b.front ++ last.made) (last.made ++ []) ≡ b.front ++ last.made =
      piece b last.made [] last.made top is (none_below b.next b.next last.made top (stand_made b.next last.made attempt.tickets) (le_refl b.next)) (no_restart_at b.next b.next last.made attempt.tickets)
      (ap (filter (is_update_within b.next top)) (append-nil last.made) ∙ within_all b.next top b.next last.made attempt.tickets (le_refl b.next) (le_refl top)) in
      subst (IsValidOrder shared.graph shared.program)
      (sym (ap₂ (λ (n k : ℕ). pieces_at n k (b.front ++ last.made) last.made) first end
      ∙ ap (λ (es : List Entry). pieces_at b.next top (b.front ++ last.made) es) (sym (append-nil last.made)) ∙ whole))
      (longer_valid shared b is last.made attempt.valid)

  pub pieces : (b : Beginning) (failed : List Attempt) (last : Attempt) → IsBeginning shared b → AreAttempts shared b failed last →
      (order : List Entry) → order ≡ b.front ++ behind b failed last → (top : ℕ) → top ≡ b.next + length (made_in failed last) → (r s : ℕ) → Between b order top (made_in failed last) r s
  pieces b [] last is are order same top top_is r s bound_r bound_s less least =
      let all : (o : List Entry) → o ≡ b.front ++ last.made → (t : ℕ) → t ≡ b.next + length last.made → Between b o t last.made r s =
      λ o o_is t t_is. subst (λ (os : List Entry). Between b os t last.made r s) (sym o_is) (subst (λ (n : ℕ). Between b (b.front ++ last.made) n last.made r s) (sym t_is) (last_between b last is are r s)) in
      all order same top top_is bound_r bound_s less least
  pieces b (a ∷ failed) last is are order same top top_is r s bound_r bound_s less least =
      let next : ℕ = b.next + length a.made in
      let own : List Entry = restarts a.struck next in
      let later : List Entry = behind (again b a) failed last in
      let rest : List Entry = made_in failed last in
      let begins : IsBeginning shared (again b a) = again_begins shared b a are.0 is are.1 in
      let top_again : top ≡ next + length rest = top_is ∙ sym (long_is b a failed last) in
      let later_stands : StandByTicket next later (next + length rest) = behind_stands (again b a) failed last are.2 in
      let has_next : list_any (is_restart_at next) order ≡ true =
      ap (list_any (is_restart_at next)) (same ∙ sym (order_behind b (a ∷ failed) last)) ∙ restart_behind b a failed last are.1 in
      let parted : (q : ℕ) → IsBound b.next order top q → (q ≡ b.next) ⊎ (next ≤ q) =
      λ q bound. ⊎_elim (λ (at : q ≡ b.next). inl at)
      (λ (more : ((b.next ≤ q) × (list_any (is_restart_at q) order ≡ true)) ⊎ (q ≡ top)). ⊎_elim
      (λ (has : (b.next ≤ q) × (list_any (is_restart_at q) order ≡ true)). ⊎_elim
      (λ (in_front : list_any (is_restart_at q) b.front ≡ true). inl (equal q b.next (none_has q 0 b.front b.next is.by_ticket in_front).1 has.0))
      (λ (in_behind : list_any (is_restart_at q) ((held_updates a ++ own) ++ later) ≡ true). ⊎_elim
      (λ (in_own : list_any (is_restart_at q) (held_updates a ++ own) ≡ true). ⊎_elim
      (λ (in_held : list_any (is_restart_at q) (held_updates a) ≡ true). absurd (none_any (is_restart_at q) (held_updates a) (held_none q a b.next are.0.tickets) in_held))
      (λ (in_new : list_any (is_restart_at q) own ≡ true). inr (none_has q next own next (stand_restarts a.struck next) in_new).0)
      (any_cases (is_restart_at q) (held_updates a) own in_own))
      (λ (in_later : list_any (is_restart_at q) later ≡ true). inr (none_has q next later (next + length rest) later_stands in_later).0)
      (any_cases (is_restart_at q) (held_updates a ++ own) later in_behind))
      (any_cases (is_restart_at q) b.front ((held_updates a ++ own) ++ later) (ap (list_any (is_restart_at q)) (sym same) ∙ has.1)))
      (λ (at : q ≡ top). inr (subst (λ (n : ℕ). next ≤ n) (sym (at ∙ top_again)) (plus_low next (length rest))))
      more) bound in
      let again_bound : (q : ℕ) → IsBound b.next order top q → next ≤ q → IsBound next order top q =
      λ q bound up. ⊎_elim (λ (at : q ≡ b.next). inl (equal q next (subst (λ (n : ℕ). n ≤ next) (sym at) (plus_low b.next (length a.made))) up))
      (λ (more : ((b.next ≤ q) × (list_any (is_restart_at q) order ≡ true)) ⊎ (q ≡ top)). ⊎_elim
      (λ (has : (b.next ≤ q) × (list_any (is_restart_at q) order ≡ true)). inr (inl (up, has.1)))
      (λ (at : q ≡ top). inr (inr at)) more) bound in
      let back_bound : (q : ℕ) → IsBound next order top q → IsBound b.next order top q =
      λ q bound. ⊎_elim (λ (at : q ≡ next). inr (inl (subst (λ (n : ℕ). b.next ≤ n) (sym at) (plus_low b.next (length a.made)), subst (λ (n : ℕ). list_any (is_restart_at n) order ≡ true) (sym at) has_next)))
      (λ (more : ((next ≤ q) × (list_any (is_restart_at q) order ≡ true)) ⊎ (q ≡ top)). ⊎_elim
      (λ (has : (next ≤ q) × (list_any (is_restart_at q) order ≡ true)). inr (inl (le_trans (plus_low b.next (length a.made)) has.0, has.1)))
      (λ (at : q ≡ top). inr (inr at)) more) bound in
      let go_on : next ≤ r → IsValidOrder shared.graph shared.program (pieces_at r s order (a.made ++ rest)) =
      λ up. subst (λ (es : List Entry). IsValidOrder shared.graph shared.program (filter (is_before_ticket r) order ++ (filter (is_restart_at r) order ++ es)))
      (sym (filter-append (is_update_within r s) a.made rest ∙ ap (λ (es : List Entry). es ++ filter (is_update_within r s) rest) (within_none r s b.next a.made are.0.tickets up)))
      (pieces (again b a) failed last begins are.2 order (same ∙ sym (append_assoc b.front (held_updates a ++ own) later)) top top_again r s
      (again_bound r bound_r up) (again_bound s bound_s (le_trans up (below r s less))) less (λ q bound high. least q (back_bound q bound) high)) in
      let here : r ≡ b.next → b.next < next → IsValidOrder shared.graph shared.program (pieces_at r s order (a.made ++ rest)) =
      λ at some.
      let end : s ≡ next = ⊎_elim (λ (at_s : s ≡ b.next). absurd (no_self r s b.next at (subst (λ (n : ℕ). s ≤ n) at_s (le_refl s)) less))
      (λ (up : next ≤ s). equal s next (least next (inr (inl (plus_low b.next (length a.made), has_next))) (subst (λ (n : ℕ). n < next) (sym at) some)) up) (parted s bound_s) in
      let behind_low : filter (is_before_ticket b.next) ((held_updates a ++ own) ++ later) ≡ [] =
      none_below b.next b.next ((held_updates a ++ own) ++ later) (b.next + length (made_in (a ∷ failed) last)) (behind_stands b (a ∷ failed) last are) (le_refl b.next) in
      let behind_none : filter (is_restart_at b.next) ((held_updates a ++ own) ++ later) ≡ [] =
      filter_none (is_restart_at b.next) ((held_updates a ++ own) ++ later)
      (each-append (λ e. is_restart_at b.next e ≡ false) (held_updates a ++ own) later
      (each-append (λ e. is_restart_at b.next e ≡ false) (held_updates a) own (held_none b.next a b.next are.0.tickets) (none_at b.next next own next (stand_restarts a.struck next) some))
      (none_at b.next next later (next + length rest) later_stands some)) in
      let inside : filter (is_update_within b.next next) (a.made ++ rest) ≡ a.made =
      filter-append (is_update_within b.next next) a.made rest
      ∙ ap₂ (λ (xs ys : List Entry). xs ++ ys) (within_all b.next next b.next a.made are.0.tickets (le_refl b.next) (le_refl next)) (within_late b.next next next rest (made_tickets shared (again b a) failed last are.2) (le_refl next))
      ∙ append-nil a.made in
      subst (IsValidOrder shared.graph shared.program)
      (sym (ap₂ (λ (n k : ℕ). pieces_at n k order (a.made ++ rest)) at end ∙ ap (λ (es : List Entry). pieces_at b.next next es (a.made ++ rest)) same
      ∙ piece b a.made rest ((held_updates a ++ own) ++ later) next is behind_low behind_none inside))
      (longer_valid shared b is a.made are.0.valid) in
      ⊎_elim (λ (at : r ≡ b.next). ⊎_elim (λ (some : b.next < next). here at some) (λ (none : next ≤ b.next). go_on (subst (λ (n : ℕ). next ≤ n) (sym at) none)) (cases_lt b.next next))
      (λ (up : next ≤ r). go_on up) (parted r bound_r)
    where
      below : (r s : ℕ) → r < s → r ≤ s
      below r s is = omega arith

  pub call_between : (call : EngineCall) → IsEngineCall shared call → AreValidBetween shared (first_ticket call) (call_order call) (made_of call)
  call_between call is r s bound_r bound_s less least =
      pieces (opening call) call.failed call.last (opening_begins shared call is) is.attempts (call_order call) (order_behind (opening call) call.failed call.last)
      (first_ticket call + length (made_of call)) refl r s bound_r bound_s less least
