-- Calls leave good stores, and each attempt begins at the last snapshot.
use Rattle.std.proofs.Common.{◌≡◌, ◌≤◌, Bool, true, false, ℕ, suc, ◌+◌, if◌then◌else◌, List, [], ◌∷◌, ◌++◌, length, filter, map, IsPermutation, refl, sym, ap, ap₂, ◌∙◌, subst, append_assoc, append-nil, arith}
use Rattle.std.specs.List.{AllByRecursion}
use Rattle.std.proofs.lemmas.List.{append_cancel_left, map-append}
use Rattle.std.proofs.lemmas.List.Elements.{filter-append}
use Rattle.std.proofs.lemmas.List.Sorted.{IsPermutation-append_right}
use Rattle.gl_base.specs.declared.entries.Entry.{Entry}
use Rattle.gl_base.specs.declared.entries.Entry.TheVariants.{Go, Restart}
use Rattle.graph_core.proofs.HalvesLaws.{each-append}
use Rattle.seq_run.specs.Orders.{IsValidFrom, all_tasks, replay}
use Rattle.call_laws.specs.attempts.Beginnings.{IsBeginning, KeepsWindow, again, held_updates, last_of, nothing, order_after, snapshot_order, unheld_updates}
use Rattle.call_laws.specs.attempts.EngineCalls.{AreAttempts, EngineCall, HaveFailed, IsEngineCall, IsOrderInTurn, begins_behind, call_order, first_ticket, last_beginning, opening}
use Rattle.cluster_laws.specs.cluster_cuts.Goings.{AreUpdatesFrom, IsByOwner}
use Rattle.cluster_laws.specs.cluster_runs.Attempts.{Attempt, Beginning, IsAttempt, Shared}
use Rattle.cluster_laws.specs.cluster_core.Cuts.{cut_of}
use Rattle.call_laws.specs.attempts.Entries.{is_restart, is_update}
use Rattle.cluster_laws.specs.cluster_model.ByTicket.{restarts}
use Rattle.call_laws.specs.attempts.Stores.{AreGoodOrders, IsEarlier, IsStoreImage, IsWithinWindow, ResumesFrom, last_order, snapshot_orders, attempted_snapshots, snapshots_of}
use Rattle.call_laws.proofs.attempts.Accounting.{filter_all, filter_none}
use Rattle.call_laws.proofs.attempts.Beginning.{again_begins, longer_valid}
use Rattle.call_laws.proofs.attempts.Cutting.{all_cut, cut_and_left, cut_none, stand_cut}
use Rattle.call_laws.proofs.attempts.Failing.{all_restarts, no_restart}
use Rattle.call_laws.proofs.attempts.Opening.{last_begins, opening_begins}
use Rattle.call_laws.proofs.attempts.Prefixes.{IsUnder, all_map, cut_earlier, cuts_earlier_first, earlier_first_append, earlier_first_front, earlier_longer, earlier_than_last, last_order_append, last_order_holds, last_order_map, rising_last, rising_more}
use Rattle.call_laws.proofs.attempts.Standing.{all_front, all_weaker, stand_append, stand_made}

-- every entry is a restart
abbrev AreRestartsAlone : List Entry → Type 0
AreRestartsAlone entries = AllByRecursion (λ entry. is_restart entry ≡ true) entries

no_updates : (entries : List Entry) → AreRestartsAlone entries → filter is_update entries ≡ []
no_updates [] all = refl
no_updates (Go m v t ∷ entries) all = absurd (not_so all.0)
  where
    not_so : false ≡ true → ⊥
    not_so is = cc
no_updates (Restart ticket ∷ entries) all = no_updates entries all.1

all_updates : (next : ℕ) (made : List Entry) → AreUpdatesFrom next made → AllByRecursion (λ entry. is_update entry ≡ true) made
all_updates next [] tickets = tt
all_updates next (Restart ticket ∷ made) tickets = absurd tickets
all_updates next (Go m v t ∷ made) tickets = (refl, all_updates (suc next) made tickets.1)

module _ (shared : Shared) where
  -- the cut of what was made from here on is valid
  abbrev IsValidCut : Beginning → Attempt → (ℕ → ℕ) → Type 0
  IsValidCut b a count = IsValidFrom shared.graph shared.program (replay shared.graph shared.program b.front) (all_tasks shared.graph) (cut_of count a.made)

  snapshot_in_turn : (b : Beginning) (a : Attempt) → IsBeginning shared b → IsAttempt shared b a → (count : ℕ → ℕ) → IsValidCut b a count → IsOrderInTurn shared (snapshot_order b a count)
  snapshot_in_turn b a is attempt count valid =
      record {
        valid = longer_valid shared b is (cut_of count a.made) valid;
        high = b.next + length a.made;
        by_ticket = stand_append 0 b.front b.next (cut_of count a.made) (b.next + length a.made) is.by_ticket (stand_cut count b.next a.made (b.next + length a.made) (stand_made b.next a.made attempt.tickets));
        owners = each-append (IsByOwner shared.owner) b.front (cut_of count a.made) is.owners (all_cut (IsByOwner shared.owner) count a.made attempt.owners);
      }

  pub store_longer : (store : List (List Entry)) (b : Beginning) (a : Attempt) → IsBeginning shared b → IsAttempt shared b a → AreGoodOrders shared store →
      AllByRecursion (λ (order : List Entry). IsEarlier order b.front) store → AreGoodOrders shared (store ++ snapshot_orders b a)
  store_longer store b a is attempt good before =
      record {
        in_turn = each-append (IsOrderInTurn shared) store (snapshot_orders b a) good.in_turn
            (all_map (IsOrderInTurn shared) (snapshot_order b a) a.kept
            (all_weaker (IsValidCut b a) (λ (count : ℕ → ℕ). IsOrderInTurn shared (snapshot_order b a count)) (λ count valid. snapshot_in_turn b a is attempt count valid) a.kept attempt.cuts));
        earlier_first = earlier_first_append store (snapshot_orders b a) good.earlier_first (cuts_earlier_first b.front b.next a.made attempt.tickets nothing a.kept attempt.rising)
            (all_weaker (λ (order : List Entry). IsEarlier order b.front) (λ (order : List Entry). AllByRecursion (IsEarlier order) (snapshot_orders b a))
            (λ order earlier. all_map (IsEarlier order) (snapshot_order b a) a.kept (each order earlier a.kept)) store before);
      }
    where
      each : (order : List Entry) → IsEarlier order b.front → (counts : List (ℕ → ℕ)) → AllByRecursion (λ (count : ℕ → ℕ). IsEarlier order (snapshot_order b a count)) counts
      each order earlier [] = tt
      each order earlier (count ∷ counts) = (earlier_longer order b.front (cut_of count a.made) earlier, each order earlier counts)

  pub store_before : (store : List (List Entry)) (b : Beginning) (a : Attempt) → IsAttempt shared b a → AllByRecursion (λ (order : List Entry). IsEarlier order b.front) store →
      AllByRecursion (λ (order : List Entry). IsEarlier order (again b a).front) (store ++ snapshot_orders b a)
  store_before store b a attempt before =
      let next : ℕ = b.next + length a.made in
      let new : List Entry = restarts a.struck next in
      each-append (λ (order : List Entry). IsEarlier order (again b a).front) store (snapshot_orders b a)
      (all_weaker (λ (order : List Entry). IsEarlier order b.front) (λ (order : List Entry). IsEarlier order (again b a).front)
      (λ order earlier. earlier_longer order b.front (held_updates a ++ new) earlier) store before)
      (all_map (λ (order : List Entry). IsEarlier order (again b a).front) (snapshot_order b a) a.kept
      (all_weaker (λ (c : ℕ → ℕ). IsUnder c (last_of nothing a.kept)) (λ (c : ℕ → ℕ). IsEarlier (snapshot_order b a c) (again b a).front)
      (λ c under. subst (IsEarlier (snapshot_order b a c)) (append_assoc b.front (held_updates a) new)
      (earlier_longer (snapshot_order b a c) (b.front ++ held_updates a) new (cut_earlier b.front c (last_of nothing a.kept) b.next a.made attempt.tickets under)))
      a.kept (rising_last nothing a.kept attempt.rising)))

  stores_grow : (store : List (List Entry)) (b : Beginning) (failed : List Attempt) (last : Attempt) → IsBeginning shared b → AreAttempts shared b failed last → AreGoodOrders shared store →
      AllByRecursion (λ (order : List Entry). IsEarlier order b.front) store → AreGoodOrders shared (store ++ (attempted_snapshots b failed ++ snapshot_orders (begins_behind b failed) last))
  stores_grow store b [] last is are good before = store_longer store b last is are good before
  stores_grow store b (a ∷ failed) last is are good before =
      let own : List (List Entry) = snapshot_orders b a in
      let later : List (List Entry) = attempted_snapshots (again b a) failed in
      let ends : List (List Entry) = snapshot_orders (begins_behind (again b a) failed) last in
      subst (AreGoodOrders shared) (append_assoc store own (later ++ ends) ∙ ap (λ (orders : List (List Entry)). store ++ orders) (sym (append_assoc own later ends)))
      (stores_grow (store ++ own) (again b a) failed last (again_begins shared b a are.0 is are.1) are.2 (store_longer store b a is are.0 good before) (store_before store b a are.0 before))

  pub call_stores : (store : List (List Entry)) (call : EngineCall) → AreGoodOrders shared store → call.base ≡ last_order [] store → IsEngineCall shared call → AreGoodOrders shared (store ++ snapshots_of call)
  call_stores store call good base is =
      stores_grow store (opening call) call.failed call.last (opening_begins shared call is) is.attempts good
      (all_weaker (λ (order : List Entry). IsEarlier order (last_order [] store)) (λ (order : List Entry). IsEarlier order (opening call).front)
      (λ order earlier. earlier_longer order call.base (if call.resumed then Restart (first_ticket call) ∷ [] else []) (subst (IsEarlier order) (sym base) earlier))
      store (earlier_than_last [] store good.earlier_first))

  pub good_front : (orders more : List (List Entry)) → AreGoodOrders shared (orders ++ more) → AreGoodOrders shared orders
  good_front orders more good = record { in_turn = all_front (IsOrderInTurn shared) orders more good.in_turn; earlier_first = earlier_first_front orders more good.earlier_first }

  pub images_good : (store added image : List (List Entry)) → AreGoodOrders shared (store ++ added) → IsStoreImage store added image → AreGoodOrders shared image
  images_good store added image good is =
      subst (AreGoodOrders shared) (sym is.3)
      (good_front (store ++ is.0) is.1 (subst (AreGoodOrders shared) (ap (λ (orders : List (List Entry)). store ++ orders) is.2 ∙ sym (append_assoc store is.0 is.1)) good))

  pub last_in_turn : (store : List (List Entry)) → AreGoodOrders shared store → IsOrderInTurn shared (last_order [] store)
  last_in_turn store good = last_order_holds (IsOrderInTurn shared) [] store (record { valid = tt; high = 0; by_ticket = zero_low 0; owners = tt }) good.in_turn
    where
      zero_low : (n : ℕ) → n ≤ n
      zero_low n = omega arith

  -- ---- one snapshot more, recorded but not acknowledged

  abbrev with_one : Attempt → (ℕ → ℕ) → Attempt
  with_one a later = record { made = a.made; kept = a.kept ++ later ∷ []; struck = a.struck }

  one_more_is : (b : Beginning) (a : Attempt) (later : ℕ → ℕ) → IsAttempt shared b a → IsUnder (last_of nothing a.kept) later → IsValidCut b a later → IsAttempt shared b (with_one a later)
  one_more_is b a later is under valid =
      record {
        tickets = is.tickets;
        owners = is.owners;
        valid = is.valid;
        cuts = each-append (IsValidCut b a) a.kept (later ∷ []) is.cuts (valid, tt);
        rising = rising_more nothing a.kept later is.rising under;
        struck = is.struck;
        stops = is.stops;
      }

  last_changes : (b : Beginning) (failed : List Attempt) (last other : Attempt) → AreAttempts shared b failed last → IsAttempt shared (begins_behind b failed) other → AreAttempts shared b failed other
  last_changes b [] last other are is = is
  last_changes b (a ∷ failed) last other are is = (are.0, are.1, last_changes (again b a) failed last other are.2 is)

  pub pending_good : (store : List (List Entry)) (call : EngineCall) (later : ℕ → ℕ) → AreGoodOrders shared store → call.base ≡ last_order [] store → IsEngineCall shared call →
      IsUnder (last_of nothing call.last.kept) later → IsValidCut (last_beginning call) call.last later →
      AreGoodOrders shared (store ++ (snapshots_of call ++ snapshot_order (last_beginning call) call.last later ∷ []))
  pending_good store call later good base is under valid =
      let b : Beginning = last_beginning call in
      let both = last_begins shared (opening call) call.failed call.last (opening_begins shared call is) is.attempts in
      let other : EngineCall = record { base = call.base; resumed = call.resumed; failed = call.failed; last = with_one call.last later } in
      let other_is : IsEngineCall shared other =
      record { counts = is.counts; base = is.base; begins = is.begins; attempts = last_changes (opening call) call.failed call.last (with_one call.last later) is.attempts (one_more_is b call.last later both.1 under valid) } in
      subst (λ (orders : List (List Entry)). AreGoodOrders shared (store ++ orders))
      (ap (λ (orders : List (List Entry)). attempted_snapshots (opening call) call.failed ++ orders) (map-append (snapshot_order b call.last) call.last.kept (later ∷ []))
      ∙ sym (append_assoc (attempted_snapshots (opening call) call.failed) (snapshot_orders b call.last) (snapshot_order b call.last later ∷ [])))
      (call_stores store other good base other_is)

  -- ---- each attempt begins at the last snapshot

  pub goes_back : (snapshot : List Entry) (b : Beginning) (a : Attempt) → IsAttempt shared b a → ResumesFrom snapshot b.front → ResumesFrom (last_order snapshot (snapshot_orders b a)) (again b a).front
  goes_back snapshot b a is back = by_kept a.kept refl
    where
      by_kept : (counts : List (ℕ → ℕ)) → a.kept ≡ counts → ResumesFrom (last_order snapshot (map (snapshot_order b a) a.kept)) (b.front ++ (held_updates a ++ restarts a.struck (b.next + length a.made)))
      by_kept [] same =
          let own : List Entry = restarts a.struck (b.next + length a.made) in
          let none : held_updates a ≡ [] = ap (λ (counts : List (ℕ → ℕ)). cut_of (last_of nothing counts) a.made) same ∙ cut_none b.next a.made is.tickets in
          subst (λ (order : List Entry). ResumesFrom order (b.front ++ (held_updates a ++ own))) (sym (ap (λ (counts : List (ℕ → ℕ)). last_order snapshot (map (snapshot_order b a) counts)) same)) (
            back.0 ++ own,
            ap (λ (es : List Entry). b.front ++ (es ++ own)) none ∙ ap (λ (es : List Entry). es ++ own) back.1 ∙ append_assoc snapshot back.0 own,
            each-append (λ entry. is_restart entry ≡ true) back.0 own back.2 (all_restarts a.struck (b.next + length a.made)),
          )
      by_kept (count ∷ counts) same =
          let own : List Entry = restarts a.struck (b.next + length a.made) in
          let last : last_order snapshot (map (snapshot_order b a) a.kept) ≡ b.front ++ held_updates a =
          ap (λ (cs : List (ℕ → ℕ)). last_order snapshot (map (snapshot_order b a) cs)) same ∙ last_order_map (snapshot_order b a) count counts
          ∙ ap (λ (cs : List (ℕ → ℕ)). b.front ++ cut_of (last_of nothing cs) a.made) (sym same) in
          subst (λ (order : List Entry). ResumesFrom order (b.front ++ (held_updates a ++ own))) (sym last)
          (own, sym (append_assoc b.front (held_updates a) own), all_restarts a.struck (b.next + length a.made))

  begins_back : (snapshot : List Entry) (b : Beginning) (failed : List Attempt) (last : Attempt) → AreAttempts shared b failed last → ResumesFrom snapshot b.front →
      ResumesFrom (last_order snapshot (attempted_snapshots b failed)) (begins_behind b failed).front
  begins_back snapshot b [] last are back = back
  begins_back snapshot b (a ∷ failed) last are back =
      subst (λ (order : List Entry). ResumesFrom order (begins_behind (again b a) failed).front) (sym (last_order_append snapshot (snapshot_orders b a) (attempted_snapshots (again b a) failed)))
      (begins_back (last_order snapshot (snapshot_orders b a)) (again b a) failed last are.2 (goes_back snapshot b a are.0 back))

  opened_alone : (b : Bool) (f : ℕ) → AreRestartsAlone (if b then Restart f ∷ [] else [])
  opened_alone true f = (refl, tt)
  opened_alone false f = tt

  pub call_back : (call : EngineCall) → IsEngineCall shared call → ResumesFrom (last_order call.base (attempted_snapshots (opening call) call.failed)) (last_beginning call).front
  call_back call is =
      begins_back call.base (opening call) call.failed call.last is.attempts (if call.resumed then Restart (first_ticket call) ∷ [] else [], refl, opened_alone call.resumed (first_ticket call))

  -- ---- what is outside the last snapshot

  pub call_window : (window : ℕ) (call : EngineCall) → IsEngineCall shared call → KeepsWindow window call.last → IsWithinWindow window (last_order call.base (snapshots_of call)) (call_order call)
  call_window window call is keep =
      let b : Beginning = last_beginning call in
      let a : Attempt = call.last in
      let attempt : IsAttempt shared b a = (last_begins shared (opening call) call.failed call.last (opening_begins shared call is) is.attempts).1 in
      let newest : List Entry = last_order call.base (snapshots_of call) in
      let own : List Entry = restarts a.struck (b.next + length a.made) in
      let back : ResumesFrom newest (again b a).front =
      subst (λ (order : List Entry). ResumesFrom order (again b a).front) (sym (last_order_append call.base (attempted_snapshots (opening call) call.failed) (snapshot_orders b a)))
      (goes_back (last_order call.base (attempted_snapshots (opening call) call.failed)) b a attempt (call_back call is)) in
      let updates : AllByRecursion (λ entry. is_update entry ≡ true) a.made = all_updates b.next a.made attempt.tickets in
      let snapshot : filter is_update newest ≡ filter is_update b.front ++ held_updates a =
      sym (append-nil (filter is_update newest)) ∙ ap (λ (es : List Entry). filter is_update newest ++ es) (sym (no_updates back.0 back.2)) ∙ sym (filter-append is_update newest back.0)
      ∙ ap (filter is_update) (sym back.1) ∙ filter-append is_update b.front (held_updates a ++ own)
      ∙ ap (λ (es : List Entry). filter is_update b.front ++ es)
      (filter-append is_update (held_updates a) own
      ∙ ap₂ (λ (xs ys : List Entry). xs ++ ys) (filter_all is_update (held_updates a) (all_cut (λ entry. is_update entry ≡ true) (last_of nothing a.kept) a.made updates))
      (no_updates own (all_restarts a.struck (b.next + length a.made)))
      ∙ append-nil (held_updates a)) in
      record {
        outside = unheld_updates a;
        same = subst₂_same (filter is_update newest ++ unheld_updates a) (filter is_update b.front ++ (held_updates a ++ unheld_updates a)) (filter is_update (call_order call)) (filter is_update b.front ++ a.made)
            (ap (λ (es : List Entry). es ++ unheld_updates a) snapshot ∙ append_assoc (filter is_update b.front) (held_updates a) (unheld_updates a))
            (filter-append is_update b.front a.made ∙ ap (λ (es : List Entry). filter is_update b.front ++ es) (filter_all is_update a.made updates))
            (IsPermutation-append_right (filter is_update b.front) (held_updates a ++ unheld_updates a) a.made (cut_and_left (last_of nothing a.kept) b.next a.made attempt.tickets));
        few = keep;
      }
    where
      subst₂_same : (xs us ys vs : List Entry) → xs ≡ us → ys ≡ vs → IsPermutation us vs → IsPermutation xs ys
      subst₂_same xs us ys vs one other same = subst (λ (es : List Entry). IsPermutation es ys) (sym one) (subst (IsPermutation us) (sym other) same)

  pub recovery_is : (snapshot : List Entry) (b : Beginning) (a : Attempt) (missing : List Entry) → IsAttempt shared b a → ResumesFrom snapshot b.front →
      filter is_restart b.front ++ restarts a.struck (b.next + length a.made) ≡ filter is_restart (last_order snapshot (snapshot_orders b a)) ++ missing →
      last_order snapshot (snapshot_orders b a) ++ missing ≡ (again b a).front
  recovery_is snapshot b a missing is back same =
      let newest : List Entry = last_order snapshot (snapshot_orders b a) in
      let own : List Entry = restarts a.struck (b.next + length a.made) in
      let goes : ResumesFrom newest (again b a).front = goes_back snapshot b a is back in
      let one : filter is_restart (again b a).front ≡ filter is_restart b.front ++ own =
      filter-append is_restart b.front (held_updates a ++ own)
      ∙ ap (λ (es : List Entry). filter is_restart b.front ++ es)
      (filter-append is_restart (held_updates a) own
      ∙ ap₂ (λ (xs ys : List Entry). xs ++ ys)
      (filter_none is_restart (held_updates a) (all_cut (λ entry. is_restart entry ≡ false) (last_of nothing a.kept) a.made (no_restart b.next a.made is.tickets)))
      (filter_all is_restart own (all_restarts a.struck (b.next + length a.made)))) in
      let other : filter is_restart (again b a).front ≡ filter is_restart newest ++ goes.0 =
      ap (filter is_restart) goes.1 ∙ filter-append is_restart newest goes.0 ∙ ap (λ (es : List Entry). filter is_restart newest ++ es) (filter_all is_restart goes.0 goes.2) in
      ap (λ (es : List Entry). newest ++ es) (append_cancel_left (filter is_restart newest) missing goes.0 (sym same ∙ sym one ∙ other)) ∙ sym goes.1

  -- ---- where the last snapshot has everything

  none_less : (n : ℕ) → 1 ≤ n → n ≡ 0 → ⊥
  none_less n some none = omega arith

  full_kept : (snapshot : List Entry) (b : Beginning) (a : Attempt) (counts : List (ℕ → ℕ)) → a.kept ≡ counts → 1 ≤ length counts → held_updates a ≡ a.made →
      last_order snapshot (snapshot_orders b a) ≡ order_after b a
  full_kept snapshot b a [] same some full = absurd (none_less 0 some refl)
  full_kept snapshot b a (count ∷ counts) same some full =
      ap (λ (cs : List (ℕ → ℕ)). last_order snapshot (map (snapshot_order b a) cs)) same ∙ last_order_map (snapshot_order b a) count counts
      ∙ ap (λ (cs : List (ℕ → ℕ)). b.front ++ cut_of (last_of nothing cs) a.made) (sym same) ∙ ap (λ (es : List Entry). b.front ++ es) full

  pub full_is : (call : EngineCall) → IsEngineCall shared call → 1 ≤ length call.last.kept → held_updates call.last ≡ call.last.made → last_order call.base (snapshots_of call) ≡ call_order call
  full_is call is some full =
      last_order_append call.base (attempted_snapshots (opening call) call.failed) (snapshot_orders (last_beginning call) call.last)
      ∙ full_kept (last_order call.base (attempted_snapshots (opening call) call.failed)) (last_beginning call) call.last call.last.kept refl some full

  -- ---- one attempt more

  pub failed_push : (b : Beginning) (failed : List Attempt) (a : Attempt) → HaveFailed shared b failed → IsAttempt shared (begins_behind b failed) a → 1 ≤ a.struck → HaveFailed shared b (failed ++ a ∷ [])
  failed_push b [] a have is some = (is, some, tt)
  failed_push b (one ∷ failed) a have is some = (have.0, have.1, failed_push (again b one) failed a have.2 is some)

  pub attempts_end : (b : Beginning) (failed : List Attempt) (last : Attempt) → HaveFailed shared b failed → IsAttempt shared (begins_behind b failed) last → AreAttempts shared b failed last
  attempts_end b [] last have is = is
  attempts_end b (one ∷ failed) last have is = (have.0, have.1, attempts_end (again b one) failed last have.2 is)

pub begins_push : (b : Beginning) (failed : List Attempt) (a : Attempt) → begins_behind b (failed ++ a ∷ []) ≡ again (begins_behind b failed) a
begins_push b [] a = refl
begins_push b (one ∷ failed) a = begins_push (again b one) failed a
