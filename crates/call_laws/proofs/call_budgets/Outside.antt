-- The last snapshot of a call, what is outside it, and the restarts that it lacks are no more than the call's order.
use Rattle.std.proofs.Common.{◌≡◌, ◌∙◌, ℕ, suc, ◌+◌, ◌≤◌, ◌==◌, Bool, true, false, List, [], ◌∷◌, ◌++◌, ap, arith, filter, if◌then◌else◌, length, length-append, pred, subst, sym}
use Rattle.std.proofs.lemmas.List.Elements.{filter-append}
use Rattle.gl_base.specs.declared.entries.Entry.{Entry}
use Rattle.gl_base.specs.declared.entries.Entry.TheVariants.{Go, Restart}
use Rattle.call_laws.proofs.attempts.Prefixes.{last_order_append, last_order_map}
use Rattle.call_laws.proofs.attempts.Storing.{call_back}
use Rattle.call_laws.specs.attempts.Beginnings.{last_of, left_out, nothing, snapshot_order, unheld_updates}
use Rattle.call_laws.specs.attempts.EngineCalls.{EngineCall, IsEngineCall, call_order, last_beginning, opening}
use Rattle.call_laws.specs.attempts.Entries.{is_restart}
use Rattle.call_laws.specs.attempts.Stores.{ResumesFrom, attempted_snapshots, last_order, snapshot_orders, snapshots_of}
use Rattle.call_laws.proofs.call_budgets.Stretches.{filter_few}
use Rattle.cluster_laws.specs.cluster_core.Cuts.{cut_of}
use Rattle.cluster_laws.specs.cluster_core.Ranges.{set_at}
use Rattle.cluster_laws.specs.cluster_runs.Attempts.{Attempt, Beginning, Shared}

-- what a cut has and what it leaves out
both_short : (count : ℕ → ℕ) (order : List Entry) → length (cut_of count order) + length (left_out count order) ≤ length order
both_short count [] = omega arith
both_short count (Restart ticket ∷ order) = longer (length (cut_of count order)) (length (left_out count order)) (length order) (both_short count order)
  where
    longer : (n k m : ℕ) → n + k ≤ m → suc n + k ≤ suc m
    longer n k m low = omega arith
both_short count (Go machine vertex ticket ∷ order) = either (count vertex.0 == 0) (both_short count order) (both_short (set_at count vertex.0 (pred (count vertex.0))) order)
  where
    either : (out : Bool) → length (cut_of count order) + length (left_out count order) ≤ length order →
        length (cut_of (set_at count vertex.0 (pred (count vertex.0))) order) + length (left_out (set_at count vertex.0 (pred (count vertex.0))) order) ≤ length order →
        length (if out then cut_of count order else Go machine vertex ticket ∷ cut_of (set_at count vertex.0 (pred (count vertex.0))) order)
        + length (if out then Go machine vertex ticket ∷ left_out count order else left_out (set_at count vertex.0 (pred (count vertex.0))) order) ≤ suc (length order)
    either true low less = omega arith
    either false low less = omega arith

none_kept : (s sr front fr missing mr unheld made cut all : ℕ) → front ≡ s + missing → fr ≡ sr + mr → mr ≤ missing → cut + unheld ≤ made → all ≡ front + made → s + fr + unheld ≤ all + sr
none_kept s sr front fr missing mr unheld made cut all front_is fr_is few low all_is = omega arith

some_kept : (s sr front fr cr unheld made cut all : ℕ) → s ≡ front + cut → sr ≡ fr + cr → cut + unheld ≤ made → all ≡ front + made → s + fr + unheld ≤ all + sr
some_kept s sr front fr cr unheld made cut all s_is sr_is low all_is = omega arith

filter_long : (xs ys : List Entry) → length (filter is_restart (xs ++ ys)) ≡ length (filter is_restart xs) + length (filter is_restart ys)
filter_long xs ys = ap (length {A = Entry}) (filter-append is_restart xs ys) ∙ length-append (filter is_restart xs) (filter is_restart ys)

module _ (early : List Entry) (b : Beginning) (made : List Entry) (struck : ℕ) (back : ResumesFrom early b.front) where
  abbrev with_counts : List (ℕ → ℕ) → Attempt
  with_counts counts = record { made = made; kept = counts; struck = struck }

  abbrev Fits : List (ℕ → ℕ) → List Entry → Type 0
  Fits counts newest = length newest + length (filter is_restart b.front) + length (unheld_updates (with_counts counts)) ≤ length (b.front ++ made) + length (filter is_restart newest)

  fits : (counts : List (ℕ → ℕ)) → Fits counts (last_order early (snapshot_orders b (with_counts counts)))
  fits [] =
      none_kept (length early) (length (filter is_restart early)) (length b.front) (length (filter is_restart b.front)) (length back.0) (length (filter is_restart back.0)) (length (left_out nothing made)) (length made) (length (cut_of nothing made))
      (length (b.front ++ made)) (ap (length {A = Entry}) back.1 ∙ length-append early back.0) (ap (λ (es : List Entry). length (filter is_restart es)) back.1 ∙ filter_long early back.0) (filter_few is_restart back.0) (both_short nothing made) (length-append b.front made)
  fits (count ∷ counts) =
      let last : ℕ → ℕ = last_of count counts in
      subst (Fits (count ∷ counts)) (sym (last_order_map (snapshot_order b (with_counts (count ∷ counts))) count counts))
      (some_kept (length (b.front ++ cut_of last made)) (length (filter is_restart (b.front ++ cut_of last made))) (length b.front) (length (filter is_restart b.front)) (length (filter is_restart (cut_of last made))) (length (left_out last made)) (length made)
      (length (cut_of last made)) (length (b.front ++ made)) (length-append b.front (cut_of last made)) (filter_long b.front (cut_of last made)) (both_short last made) (length-append b.front made))

module _ (shared : Shared) (call : EngineCall) (is : IsEngineCall shared call) where
  pub outside_few : length (last_order call.base (snapshots_of call)) + length (filter is_restart (last_beginning call).front) + length (unheld_updates call.last) ≤ length (call_order call) + length (filter is_restart (last_order call.base (snapshots_of call)))
  outside_few =
      let early : List Entry = last_order call.base (attempted_snapshots (opening call) call.failed) in
      subst (λ (newest : List Entry). length newest + length (filter is_restart (last_beginning call).front) + length (unheld_updates call.last) ≤ length (call_order call) + length (filter is_restart newest))
      (sym (last_order_append call.base (attempted_snapshots (opening call) call.failed) (snapshot_orders (last_beginning call) call.last)))
      (fits early (last_beginning call) call.last.made call.last.struck (call_back shared call is) call.last.kept)
