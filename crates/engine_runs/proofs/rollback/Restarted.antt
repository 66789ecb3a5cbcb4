-- Restarts behind an order.
use Rattle.std.proofs.Common.{◌≡◌, ℕ, zero, suc, ◌+◌, ◌++◌, ◌∙◌, true, false, List, [], ◌∷◌, ap, filter, length, length-append, refl, sym}
use Rattle.std.specs.List.{AllByRecursion}
use Rattle.std.proofs.lemmas.List.Elements.{filter-append}
use Rattle.gl_base.specs.declared.entries.Entry.{Entry}
use Rattle.gl_base.specs.declared.entries.Entry.TheVariants.{Go, Restart}
use Rattle.graph_core.specs.DataGraph.{DataGraph}
use Rattle.recovery.specs.Journals.{order_behind, with_entries}
use Rattle.recovery.specs.Orders.{replay, start_state}
use Rattle.seq_run.proofs.GoingOn.{replay_from-append}
use Rattle.seq_run.specs.Orders.{replay_from}
use Rattle.seq_run.specs.States.{GraphState}
use Rattle.store.specs.store_format.StoredOrders.{body_entries}
use Rattle.update_api.specs.Updates.{Update}
use Rattle.recovery.specs.restarts.Missing.{Begins, is_restart, restarts}

abbrev pub AreRestarts : List Entry → Type 0
AreRestarts entries = AllByRecursion (λ entry. is_restart entry ≡ true) entries

not_so : false ≡ true → ⊥
not_so is = cc

-- all of them are kept
pub all_kept : (entries : List Entry) → AreRestarts entries → filter is_restart entries ≡ entries
all_kept [] are = refl
all_kept (Go machine vertex ticket ∷ entries) are = absurd (not_so are.0)
all_kept (Restart ticket ∷ entries) are = ap (λ (es : List Entry). Restart ticket ∷ es) (all_kept entries are.1)

-- and twice is as once
pub kept_once : (entries : List Entry) → filter is_restart (filter is_restart entries) ≡ filter is_restart entries
kept_once [] = refl
kept_once (Go machine vertex ticket ∷ entries) = kept_once entries
kept_once (Restart ticket ∷ entries) = ap (λ (es : List Entry). Restart ticket ∷ es) (kept_once entries)

pub begins_kept : (one other : List Entry) → Begins one other → Begins (filter is_restart one) (filter is_restart other)
begins_kept one other begins = (filter is_restart begins.0, ap (filter is_restart) begins.1 ∙ filter-append is_restart one begins.0)

-- so many restarts
many_restarts : (n ticket : ℕ) → length (restarts n ticket) ≡ n
many_restarts zero ticket = refl
many_restarts (suc n) ticket = ap suc (many_restarts n ticket)

-- the restarts of an order and what it lacked, where these are restarts of two orders
module _ (stored front before order missing : List Entry) (failures ticket : ℕ) (stored_is : stored ≡ filter is_restart before) (front_is : front ≡ filter is_restart order)
    (lacks : filter is_restart stored ++ missing ≡ filter is_restart front ++ restarts failures ticket) where
  stored_once : filter is_restart stored ≡ stored
  stored_once = ap (filter is_restart) stored_is ∙ kept_once before ∙ sym stored_is

  front_once : filter is_restart front ≡ front
  front_once = ap (filter is_restart) front_is ∙ kept_once order ∙ sym front_is

  pub lacks_so : filter is_restart before ++ missing ≡ filter is_restart order ++ restarts failures ticket
  lacks_so =
      ap (λ (es : List Entry). es ++ missing) (sym stored_is ∙ sym stored_once) ∙ lacks
      ∙ ap (λ (es : List Entry). es ++ restarts failures ticket) (front_once ∙ front_is)

  pub one_more_each : length (stored ++ missing) ≡ length front + failures
  one_more_each =
      ap length (ap (λ (es : List Entry). es ++ missing) (sym stored_once) ∙ lacks ∙ ap (λ (es : List Entry). es ++ restarts failures ticket) front_once)
      ∙ length-append front (restarts failures ticket) ∙ ap (λ (n : ℕ). length front + n) (many_restarts failures ticket)

  pub behind_before : AreRestarts missing → stored ++ missing ≡ filter is_restart (before ++ missing)
  behind_before are =
      ap (λ (es : List Entry). es ++ missing) stored_is ∙ ap (λ (es : List Entry). filter is_restart before ++ es) (sym (all_kept missing are))
      ∙ sym (filter-append is_restart before missing)

-- restarts change no number
module _ (g : DataGraph) (p : Update) where
  no_change : (s : GraphState) (missing : List Entry) → AreRestarts missing → replay_from g p s missing ≡ s
  no_change s [] are = refl
  no_change s (Go machine vertex ticket ∷ missing) are = absurd (not_so are.0)
  no_change s (Restart ticket ∷ missing) are = no_change s missing are.1

  pub same_numbers : (order missing : List Entry) → AreRestarts missing → replay g p (order ++ missing) ≡ replay g p order
  same_numbers order missing are = replay_from-append g p (start_state g p) order missing ∙ no_change (replay g p order) missing are

-- the order behind records and more of them
pub order_append : (order : List Entry) (xs ys : List (List ℕ)) → order_behind order (xs ++ ys) ≡ order_behind (order_behind order xs) ys
order_append order [] ys = refl
order_append order (x ∷ xs) ys = order_append (with_entries order (body_entries x)) xs ys
