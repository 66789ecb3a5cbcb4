-- Each snapshot that a machine asked for has at least half a window of updates more than the one before.
use Rattle.std.proofs.Common.{◌≡◌, ◌⊎◌, ℕ, zero, suc, pred, ◌+◌, ◌*◌, ◌/◌, ◌-◌, ◌<◌, ◌≤◌, nat_lt, Bool, true, false, if◌then◌else◌, Option, List, [], ◌∷◌, ◌++◌, length, inl, inr, refl, sym, ◌∙◌, ap, subst, ⊎_elim, append-nil, length-append, le_refl, zero-add, mul-add, mul-one, mul-zero, mul_comm, le-div_iff_mul-le, arith}
use Rattle.std.proofs.lemmas.Bool.{cases_Bool, cases_lt, cond-false, cond-true, le-ltb, lt-ltb}
use Rattle.std.proofs.lemmas.List.{length-map}
use Rattle.gl_base.specs.declared.entries.Entry.{Entry}
use Rattle.gl_base.specs.declared.scopes.ScopeId.{ScopeId}
use Rattle.cluster_laws.specs.cluster_core.Messages.{Message}
use Rattle.cluster_laws.specs.cluster_core.Recovering.{going_on}
use Rattle.cluster_laws.specs.cluster_core.Settings.{IsSetting, Setting}
use Rattle.cluster_laws.specs.cluster_model.Calls.{Call, Count, Report, Saved, Want}
use Rattle.cluster_laws.specs.cluster_model.Clusters.{BaseView, Cluster, call_way, report_way}
use Rattle.cluster_laws.specs.cluster_model.Events.{Event, Admit, DeliverCall, DeliverReport, Deliver, Fail, Grant, IsTrace, Mark, MayDo, PutBegin, PutStep, PutWave, Record, Recover, Section, Send, SendCall, SendReport, Stop, Update, after_event, delivers_call, delivers_message, delivers_report, makes, recovers, saves, sends_call, sends_message, sends_report, setting_after}
use Rattle.cluster_laws.specs.cluster_model.Machines.{outside}
use Rattle.cluster_laws.specs.cluster_model.Working.{half_window}
use Rattle.whole_laws.specs.cluster_whole.Logged.{Logged, entries_to, is_up_to}
use Rattle.whole_laws.specs.cluster_whole.Whole.{AreColoured, IsNoRecovery, IsWhole}
use Rattle.whole_laws.specs.cluster_records.Few.{snapshot_at, snapshots_in_all, unasked_at, unasked_in, under_way}
use Rattle.whole_laws.specs.cluster_records.Recorded.{IsAccounted}
use Rattle.whole_laws.specs.cluster_records.Wanting.{AreAsking, known_by_calls, is_outside, numbers_from, want_told}
use Rattle.whole_laws.proofs.cluster_records.Accounts.{begun_accounts, quiet_kept, update_kept}
use Rattle.whole_laws.proofs.cluster_records.Asking.{events_asking, update_asking}
use Rattle.whole_laws.proofs.cluster_records.Traces.{are_coloured}
use Rattle.whole_laws.proofs.cluster_records.Entering.{IsNoUpdate, own_logged, update_logged}
use Rattle.whole_laws.proofs.cluster_records.Filtering.{all_up_to, passing-append, passing-cons_in, passing-cons_out, up_to_no, up_to_yes}
use Rattle.whole_laws.proofs.cluster_records.Outside.{many_outside, out_no}

-- ---- the beginning

no_half : (half : ℕ) → 0 < half → half ≤ 0 → ⊥
no_half half some none = omega arith

plus_zero : (n : ℕ) → n ≡ n + 0
plus_zero n = omega arith

false_true : false ≡ true → ⊥
false_true is = cc

pub begun_asking : (st : Setting) (base : BaseView) (c : Cluster) → AreAsking (going_on st base.numbers base.number) (recovers st base c) []
begun_asking st base c =
    record {
      counting = λ a low. record { late = 0; newest = plus_zero base.number; commits = refl; sections = 0; sent = plus_zero base.number; unsure = refl };
      asking = λ a low. record { asked = λ some stored half. absurd (no_half (half_window st) some half); told = λ asked newest. absurd (false_true asked); truly = tt };
      wanted = λ is. absurd (false_true is);
    }

-- ---- how many updates

first_more : (x y z w n : ℕ) → x ≡ suc z → y ≡ w → z + w ≤ n → x + y ≤ suc n
first_more x y z w n one two is = omega arith

second_more : (x y z w n : ℕ) → x ≡ z → y ≤ suc w → z + w ≤ n → x + y ≤ suc n
second_more x y z w n one two is = omega arith

up_one : (n : ℕ) → n ≤ suc n
up_one n = omega arith

out_few : (a k : ℕ) (l : Logged) (ls : List Logged) → many_outside a k (l ∷ ls) ≤ suc (many_outside a k ls)
out_few a k l ls =
    ⊎_elim
    (λ (is : is_outside a k l ≡ true). subst (λ (es : List Entry). length es ≤ suc (many_outside a k ls)) (sym (passing-cons_in (is_outside a k) l ls is)) (le_refl (suc (many_outside a k ls))))
    (λ (is : is_outside a k l ≡ false). subst (λ (es : List Entry). length es ≤ suc (many_outside a k ls)) (sym (passing-cons_out (is_outside a k) l ls is)) (up_one (many_outside a k ls)))
    (cases_Bool (is_outside a k l))

-- what a snapshot has, and what of one machine is outside it
parts_few : (a k : ℕ) (ls : List Logged) → length (entries_to k ls) + many_outside a k ls ≤ length ls
parts_few a k [] = le_refl 0
parts_few a k (l ∷ ls) =
    ⊎_elim
    (λ (high : k < l.number).
    second_more (length (entries_to k (l ∷ ls))) (many_outside a k (l ∷ ls)) (length (entries_to k ls)) (many_outside a k ls) (length ls)
    (ap (λ (es : List Entry). length es) (passing-cons_out (is_up_to k) l ls (up_to_no k l high))) (out_few a k l ls) (parts_few a k ls))
    (λ (low : l.number ≤ k).
    first_more (length (entries_to k (l ∷ ls))) (many_outside a k (l ∷ ls)) (length (entries_to k ls)) (many_outside a k ls) (length ls)
    (ap (λ (es : List Entry). length es) (passing-cons_in (is_up_to k) l ls (up_to_yes k l low)))
    (ap (λ (es : List Entry). length es) (passing-cons_out (is_outside a k) l ls (out_no a k l low))) (parts_few a k ls))
    (cases_lt k l.number)

part_few : (n m k : ℕ) → n + m ≤ k → n ≤ k
part_few n m k is = omega arith

pub held_few : (k : ℕ) (ls : List Logged) → length (entries_to k ls) ≤ length ls
held_few k ls = part_few (length (entries_to k ls)) (many_outside 0 k ls) (length ls) (parts_few 0 k ls)

held_more : (k : ℕ) (ls more : List Logged) → length (entries_to k ls) ≤ length (entries_to k (ls ++ more))
held_more k ls more =
    subst (λ (n : ℕ). length (entries_to k ls) ≤ n) (sym (ap (λ (es : List Entry). length es) (passing-append (is_up_to k) ls more) ∙ length-append (entries_to k ls) (entries_to k more)))
    (grows (length (entries_to k ls)) (length (entries_to k more)))
  where
    grows : (n m : ℕ) → n ≤ n + m
    grows n m = omega arith

-- ---- the tally

-- the snapshot under way is to have as many updates
abbrev pending : ℕ → Cluster → ℕ
pending half c = if nat_lt c.coordinator.acknowledged c.coordinator.begun then half else 0

-- So many snapshots were stored, so many begun that nobody asked for, and so many updates made in earlier attempts.
pub record HasFew (half first total : ℕ) (c : Cluster) (logged : List Logged) (stored unasked earlier : ℕ) : Type 0 where
  pub few : half * stored + pending half c ≤ earlier + length (entries_to c.coordinator.begun logged) + half * unasked
  pub drawn : c.next ≡ first + earlier + length logged
  pub tickets : c.next + c.left ≡ total

-- A whole cluster with its accounts.
pub record HasAccounts (st : Setting) (c : Cluster) : Type 0 where
  pub whole : IsWhole st c
  pub logged : List Logged
  pub account : IsAccounted st c whole logged
  pub asking : AreAsking st c logged

-- nothing that the tally goes by changes
abbrev TallySame : Cluster → Cluster → Type 0
TallySame c new = (new.coordinator.begun ≡ c.coordinator.begun) × (new.coordinator.acknowledged ≡ c.coordinator.acknowledged) × (new.next ≡ c.next) × (new.left ≡ c.left)

report_tally : (c : Cluster) (a : ℕ) (report : Report) (behind : List Report) → TallySame c (delivers_report c a (report ∷ behind))
report_tally c a (Saved k section entries) behind = (refl, refl, refl, refl)
report_tally c a (Count k counts) behind = (refl, refl, refl, refl)
report_tally c a (Want k) behind = (refl, refl, refl, refl)

one_times : (half n : ℕ) → half * (1 + n) ≡ half + half * n
one_times half n = mul-add half 1 n ∙ ap (λ (x : ℕ). x + half * n) (mul-one half)

no_times : (half n : ℕ) → half * (0 + n) ≡ half * n
no_times half n = ap (λ (x : ℕ). half * x) (zero-add n)

-- a snapshot that was asked for begins
begin_asked : (x pend earlier held out all y x' y' : ℕ) → x + pend ≤ earlier + held + y → pend ≡ 0 → held + out ≤ all → (half : ℕ) → half ≤ out → x' ≡ x → y' ≡ y → x' + half ≤ earlier + all + y'
begin_asked x pend earlier held out all y x' y' few none parts half some one two = omega arith

-- or one that wasn't
begin_unasked : (x pend earlier held all y x' y' half : ℕ) → x + pend ≤ earlier + held + y → pend ≡ 0 → held ≤ all → x' ≡ x → y' ≡ half + y → x' + half ≤ earlier + all + y'
begin_unasked x pend earlier held all y x' y' half few none parts one two = omega arith

record_few : (x pend earlier held y x' y' half pend' : ℕ) → x + pend ≤ earlier + held + y → pend ≡ half → pend' ≡ 0 → x' ≡ half + x → y' ≡ y → x' + pend' ≤ earlier + held + y'
record_few x pend earlier held y x' y' half pend' few is none one two = omega arith

update_few : (x pend earlier held held' y x' y' : ℕ) → x + pend ≤ earlier + held + y → held ≤ held' → x' ≡ x → y' ≡ y → x' + pend ≤ earlier + held' + y'
update_few x pend earlier held held' y x' y' few more one two = omega arith

recover_few : (x pend earlier held all y x' y' pend' : ℕ) → x + pend ≤ earlier + held + y → held ≤ all → pend' ≡ 0 → x' ≡ x → y' ≡ y → x' + pend' ≤ earlier + all + 0 + y'
recover_few x pend earlier held all y x' y' pend' few more none one two = omega arith

one_drawn : (next first earlier long long' : ℕ) → next ≡ first + earlier + long → long' ≡ long + 1 → suc next ≡ first + earlier + long'
one_drawn next first earlier long long' is one = omega arith

none_drawn : (next first earlier long : ℕ) → next ≡ first + earlier + long → next ≡ first + (earlier + long) + 0
none_drawn next first earlier long is = omega arith

one_ticket : (next left total : ℕ) → next + left ≡ total → 0 < left → suc next + pred left ≡ total
one_ticket next left total is some = omega arith

module _ (half first total : ℕ) (st : Setting) (is : IsSetting st) (same_half : half_window st ≡ half) (c : Cluster) (has : HasAccounts st c) (stored unasked earlier : ℕ) (tally : HasFew half first total c has.logged stored unasked earlier) where
  abbrev logged : List Logged
  logged = has.logged

  -- what an event leaves
  abbrev Leaves : Event → Type 0
  Leaves event = IsSetting (setting_after st event) × (half_window (setting_after st event) ≡ half) × (next : HasAccounts (setting_after st event) (after_event st c event)) × (before : ℕ)
      × HasFew half first total (after_event st c event) next.logged (snapshot_at event + stored) (unasked_at c event + unasked) before

  abbrev quiet_accounts : (event : Event) → MayDo st c event → IsNoRecovery event → IsNoUpdate event → HasAccounts st (after_event st c event)
  quiet_accounts event may other none =
      let kept = quiet_kept st is c has.whole logged has.account event may other none in
      record {
        whole = kept.0;
        logged = logged ++ [];
        account = kept.1;
        asking = subst (AreAsking st (after_event st c event)) (sym (append-nil logged)) (events_asking st is c has.whole logged has.account.lists has.asking event may other none);
      }

  same_few : (new : Cluster) → TallySame c new → (more less : ℕ) → more ≡ 0 → less ≡ 0 → HasFew half first total new (logged ++ []) (more + stored) (less + unasked) earlier
  same_few new same more less none_more none_less =
      record {
        few = subst (λ (x : ℕ). x + pending half new ≤ earlier + length (entries_to new.coordinator.begun (logged ++ [])) + half * (less + unasked)) (sym (ap (λ (n : ℕ). half * (n + stored)) none_more ∙ no_times half stored))
            (subst (λ (y : ℕ). half * stored + pending half new ≤ earlier + length (entries_to new.coordinator.begun (logged ++ [])) + y) (sym (ap (λ (n : ℕ). half * (n + unasked)) none_less ∙ no_times half unasked))
            (subst (λ (ls : List Logged). half * stored + pending half new ≤ earlier + length (entries_to new.coordinator.begun ls) + half * unasked) (sym (append-nil logged))
            (subst (λ (b : ℕ). half * stored + (if nat_lt new.coordinator.acknowledged b then half else 0) ≤ earlier + length (entries_to b logged) + half * unasked) (sym same.0)
            (subst (λ (a : ℕ). half * stored + (if nat_lt a c.coordinator.begun then half else 0) ≤ earlier + length (entries_to c.coordinator.begun logged) + half * unasked) (sym same.1) tally.few))));
        drawn = same.2 ∙ tally.drawn ∙ ap (λ (ls : List Logged). first + earlier + length ls) (sym (append-nil logged));
        tickets = (λ i. same.2 i + same.3 i) ∙ tally.tickets;
      }

  quiet : (event : Event) (may : MayDo st c event) (other : IsNoRecovery event) (none : IsNoUpdate event) → TallySame c (after_event st c event) → snapshot_at event ≡ 0 → unasked_at c event ≡ 0 →
      (next : HasAccounts st (after_event st c event)) × (before : ℕ) × HasFew half first total (after_event st c event) next.logged (snapshot_at event + stored) (unasked_at c event + unasked) before
  quiet event may other none same no_store no_ask =
      (quiet_accounts event may other none, earlier, same_few (after_event st c event) same (snapshot_at event) (unasked_at c event) no_store no_ask)

  -- ---- an update, a snapshot begun, one acknowledged, and a recovery

  updated : (s : ScopeId) (may : MayDo st c (Update s)) → IsNoRecovery (Update s) → Leaves (Update s)
  updated s may other =
      let l : Logged = update_logged st c s may.1.vertex in
      let new : Cluster = after_event st c (Update s) in
      let own = own_logged st is c has.whole logged has.account.order s may other in
      let kept = update_kept st is c has.whole logged has.account s may other in
      let same : (new.coordinator.begun ≡ c.coordinator.begun) × (new.coordinator.acknowledged ≡ c.coordinator.acknowledged) × (new.next ≡ suc c.next) × (new.left ≡ pred c.left) =
      subst (λ (flight : Option ℕ). ((makes st c s flight).coordinator.begun ≡ c.coordinator.begun) × ((makes st c s flight).coordinator.acknowledged ≡ c.coordinator.acknowledged) × ((makes st c s flight).next ≡ suc c.next) × ((makes st c s flight).left ≡ pred c.left)) (sym may.1.flight) (refl, refl, refl, refl) in (
        is,
        same_half,
        record { whole = kept.0; logged = logged ++ l ∷ []; account = kept.1; asking = update_asking st is c has.whole logged has.account.lists has.asking s may own.0 own.1 },
        earlier,
        record {
          few = subst (λ (b : ℕ). half * (0 + stored) + (if nat_lt new.coordinator.acknowledged b then half else 0) ≤ earlier + length (entries_to b (logged ++ l ∷ [])) + half * (0 + unasked)) (sym same.0)
              (subst (λ (a : ℕ). half * (0 + stored) + (if nat_lt a c.coordinator.begun then half else 0) ≤ earlier + length (entries_to c.coordinator.begun (logged ++ l ∷ [])) + half * (0 + unasked)) (sym same.1)
              (update_few (half * stored) (pending half c) earlier (length (entries_to c.coordinator.begun logged)) (length (entries_to c.coordinator.begun (logged ++ l ∷ []))) (half * unasked) (half * (0 + stored)) (half * (0 + unasked))
              tally.few (held_more c.coordinator.begun logged (l ∷ [])) (no_times half stored) (no_times half unasked)));
          drawn = same.2 ∙ one_drawn c.next first earlier (length logged) (length (logged ++ l ∷ [])) tally.drawn (length-append logged (l ∷ []));
          tickets = (λ i. same.2 i + same.3 i) ∙ one_ticket c.next c.left total tally.tickets may.1.ticket;
        },
      )

  begins_tally : (less : ℕ) (wanted : Bool) → c.coordinator.wanted ≡ wanted → MayDo st c PutBegin → less ≡ (if wanted then 0 else 1) → HasFew half first total (after_event st c PutBegin) (logged ++ []) (0 + stored) (less + unasked) earlier
  begins_tally less wanted is_wanted may is_less =
      let b : ℕ = c.coordinator.begun in
      let a : ℕ = c.coordinator.acknowledged in
      let before : pending half c ≡ 0 = cond-false (nat_lt a b) half 0 (le-ltb a b (subst (λ (n : ℕ). b ≤ n) (sym may.none) (le_refl b))) in
      let after_it : pending half (after_event st c PutBegin) ≡ half = cond-true (nat_lt a (suc b)) half 0 (lt-ltb a (suc b) (subst (λ (n : ℕ). n < suc b) (sym may.none) (le_refl (suc b)))) in
      let all : length (entries_to (suc b) logged) ≡ length logged =
      ap (λ (es : List Entry). length es) (all_up_to (suc b) logged has.account.order.low) ∙ length-map logged (λ (l : Logged). l.entry) in
      let right : half * (0 + stored) + half ≤ earlier + length logged + half * (less + unasked) = by_case before wanted is_wanted is_less in
      record {
        few = subst (λ (n : ℕ). half * (0 + stored) + n ≤ earlier + length (entries_to (suc b) (logged ++ [])) + half * (less + unasked)) (sym after_it)
            (subst (λ (ls : List Logged). half * (0 + stored) + half ≤ earlier + length (entries_to (suc b) ls) + half * (less + unasked)) (sym (append-nil logged))
            (subst (λ (n : ℕ). half * (0 + stored) + half ≤ earlier + n + half * (less + unasked)) (sym all) right));
        drawn = tally.drawn ∙ ap (λ (ls : List Logged). first + earlier + length ls) (sym (append-nil logged));
        tickets = tally.tickets;
      }
    where
      by_case : pending half c ≡ 0 → (wanted : Bool) → c.coordinator.wanted ≡ wanted → less ≡ (if wanted then 0 else 1) → half * (0 + stored) + half ≤ earlier + length logged + half * (less + unasked)
      by_case before true is_wanted is_less =
          let some = has.asking.wanted is_wanted in
          begin_asked (half * stored) (pending half c) earlier (length (entries_to c.coordinator.begun logged)) (many_outside some.0 c.coordinator.begun logged) (length logged) (half * unasked) (half * (0 + stored)) (half * (less + unasked))
          tally.few before (parts_few some.0 c.coordinator.begun logged) half
          (subst (λ (n : ℕ). half ≤ many_outside some.0 n logged) may.none (subst (λ (n : ℕ). n ≤ many_outside some.0 c.coordinator.acknowledged logged) same_half some.2))
          (no_times half stored) (ap (λ (n : ℕ). half * (n + unasked)) is_less ∙ no_times half unasked)
      by_case before false is_wanted is_less =
          begin_unasked (half * stored) (pending half c) earlier (length (entries_to c.coordinator.begun logged)) (length logged) (half * unasked) (half * (0 + stored)) (half * (less + unasked)) half
          tally.few before (held_few c.coordinator.begun logged) (no_times half stored) (ap (λ (n : ℕ). half * (n + unasked)) is_less ∙ one_times half unasked)

  recorded : (may : MayDo st c Record) → HasFew half first total (after_event st c Record) (logged ++ []) (1 + stored) (0 + unasked) earlier
  recorded may =
      let b : ℕ = c.coordinator.begun in
      let a : ℕ = c.coordinator.acknowledged in
      record {
        few = subst (λ (ls : List Logged). half * (1 + stored) + pending half (after_event st c Record) ≤ earlier + length (entries_to b ls) + half * (0 + unasked)) (sym (append-nil logged))
            (record_few (half * stored) (pending half c) earlier (length (entries_to b logged)) (half * unasked) (half * (1 + stored)) (half * (0 + unasked)) half (pending half (after_event st c Record))
            tally.few (cond-true (nat_lt a b) half 0 (lt-ltb a b may.0.under)) (cond-false (nat_lt b b) half 0 (le-ltb b b (le_refl b))) (one_times half stored) (no_times half unasked));
        drawn = tally.drawn ∙ ap (λ (ls : List Logged). first + earlier + length ls) (sym (append-nil logged));
        tickets = tally.tickets;
      }

  recovered : (base : BaseView) → Leaves (Recover base)
  recovered base =
      let new : Cluster = recovers st base c in
      let begun = begun_accounts st is (are_coloured st st.engine c has.whole.apart) base c in (
        record { graph = is.graph; owner = is.owner },
        same_half,
        record { whole = begun.0; logged = []; account = begun.1; asking = begun_asking st base c },
        earlier + length logged,
        record {
          few = recover_few (half * stored) (pending half c) earlier (length (entries_to c.coordinator.begun logged)) (length logged) (half * unasked) (half * (0 + stored)) (half * (0 + unasked)) (pending half new)
              tally.few (held_few c.coordinator.begun logged) (cond-false (nat_lt base.number base.number) half 0 (le-ltb base.number base.number (le_refl base.number))) (no_times half stored) (no_times half unasked);
          drawn = none_drawn c.next first earlier (length logged) tally.drawn;
          tickets = tally.tickets;
        },
      )

  pub event_few : (event : Event) → MayDo st c event → Leaves event
  event_few (Admit a v) may =
      let next = quiet (Admit a v) may (λ base same. cc) (λ s same. cc) ((refl, refl, refl, refl)) refl refl in (is, same_half, next.0, next.1, next.2)
  event_few (Grant a x) may =
      let next = quiet (Grant a x) may (λ base same. cc) (λ s same. cc) ((refl, refl, refl, refl)) refl refl in (is, same_half, next.0, next.1, next.2)
  event_few (Send p q) may =
      let next = quiet (Send p q) may (λ base same. cc) (λ s same. cc) (subst (λ (ms : List Message). TallySame c (sends_message c p q ms)) (sym may.2.first) (refl, refl, refl, refl)) refl refl in (is, same_half, next.0, next.1, next.2)
  event_few (SendCall a) may =
      let next = quiet (SendCall a) may (λ base same. cc) (λ s same. cc) (subst (λ (calls : List Call). TallySame c (sends_call c a calls)) (sym may.1.first) (refl, refl, refl, refl)) refl refl in (is, same_half, next.0, next.1, next.2)
  event_few (SendReport a) may =
      let next = quiet (SendReport a) may (λ base same. cc) (λ s same. cc) (subst (λ (reports : List Report). TallySame c (sends_report c a reports)) (sym may.1.first) (refl, refl, refl, refl)) refl refl in (is, same_half, next.0, next.1, next.2)
  event_few (Deliver p q) may =
      let next = quiet (Deliver p q) may (λ base same. cc) (λ s same. cc) (subst (λ (ms : List Message). TallySame c (delivers_message st c p q ms)) (sym may.2.first) (refl, refl, refl, refl)) refl refl in (is, same_half, next.0, next.1, next.2)
  event_few (DeliverCall a) may =
      let next = quiet (DeliverCall a) may (λ base same. cc) (λ s same. cc) (subst (λ (calls : List Call). TallySame c (delivers_call st c a calls)) (sym may.1.first) (refl, refl, refl, refl)) refl refl in (is, same_half, next.0, next.1, next.2)
  event_few (DeliverReport a) may =
      let next = quiet (DeliverReport a) may (λ base same. cc) (λ s same. cc) (subst (λ (reports : List Report). TallySame c (delivers_report c a reports)) (sym may.1.first) (report_tally c a may.1.message may.1.behind)) refl refl in (is, same_half, next.0, next.1, next.2)
  event_few (Update s) may = updated s may (λ base same. cc)
  event_few (Mark s) may =
      let next = quiet (Mark s) may (λ base same. cc) (λ s same. cc) (subst (λ (flight : Option ℕ). TallySame c (saves st c s flight)) (sym may.1.flight) (refl, refl, refl, refl)) refl refl in (is, same_half, next.0, next.1, next.2)
  event_few (Section a) may =
      let next = quiet (Section a) may (λ base same. cc) (λ s same. cc) ((refl, refl, refl, refl)) refl refl in (is, same_half, next.0, next.1, next.2)
  event_few Record may = (is, same_half, quiet_accounts Record may (λ base same. cc) (λ s same. cc), earlier, recorded may)
  event_few PutBegin may = (is, same_half, quiet_accounts PutBegin may (λ base same. cc) (λ s same. cc), earlier, begins_tally (unasked_at c PutBegin) c.coordinator.wanted refl may refl)
  event_few PutStep may =
      let next = quiet PutStep may (λ base same. cc) (λ s same. cc) ((refl, refl, refl, refl)) refl refl in (is, same_half, next.0, next.1, next.2)
  event_few PutWave may =
      let next = quiet PutWave may (λ base same. cc) (λ s same. cc) ((refl, refl, refl, refl)) refl refl in (is, same_half, next.0, next.1, next.2)
  event_few (Fail a) may =
      let next = quiet (Fail a) may (λ base same. cc) (λ s same. cc) ((refl, refl, refl, refl)) refl refl in (is, same_half, next.0, next.1, next.2)
  event_few (Recover base) may = recovered base
  event_few Stop may =
      let next = quiet Stop may (λ base same. cc) (λ s same. cc) ((refl, refl, refl, refl)) refl refl in (is, same_half, next.0, next.1, next.2)

-- ---- every list of events

regroup : (a b c : ℕ) → (a + b) + c ≡ b + (a + c)
regroup a b c = omega arith

last_few : (x pend earlier held long y next first : ℕ) → x + pend ≤ earlier + held + y → held ≤ long → next ≡ first + earlier + long → (left total : ℕ) → next + left ≡ total → (budget : ℕ) → first + budget ≡ total → x + pend ≤ budget + y
last_few x pend earlier held long y next first few all drawn left total tickets budget begun = omega arith

plus_none : (n : ℕ) → n + 0 ≡ n
plus_none n = omega arith

traces_few : (half first budget : ℕ) (events : List Event) (st : Setting) → IsSetting st → half_window st ≡ half → (c new : Cluster) (has : HasAccounts st c) (stored unasked earlier : ℕ) →
    HasFew half first (first + budget) c has.logged stored unasked earlier → IsTrace st c events new → half * (stored + snapshots_in_all events) + pending half new ≤ budget + half * (unasked + unasked_in st c events)
traces_few half first budget [] st is same_half c new has stored unasked earlier tally trace =
    subst (λ (x : Cluster). half * (stored + 0) + pending half x ≤ budget + half * (unasked + 0)) (sym trace)
    (subst (λ (n : ℕ). half * n + pending half c ≤ budget + half * (unasked + 0)) (sym (plus_none stored))
    (subst (λ (n : ℕ). half * stored + pending half c ≤ budget + half * n) (sym (plus_none unasked))
    (last_few (half * stored) (pending half c) earlier (length (entries_to c.coordinator.begun has.logged)) (length has.logged) (half * unasked) c.next first tally.few (held_few c.coordinator.begun has.logged) tally.drawn c.left (first + budget) tally.tickets budget refl)))
traces_few half first budget (event ∷ events) st is same_half c new has stored unasked earlier tally trace =
    let next = event_few half first (first + budget) st is same_half c has stored unasked earlier tally event trace.0.1 in
    let rest = traces_few half first budget events (setting_after st event) next.0 next.1 (after_event st c event) new next.2 (snapshot_at event + stored) (unasked_at c event + unasked) next.3 next.4 trace.1 in
    subst (λ (n : ℕ). half * n + pending half new ≤ budget + half * (unasked + unasked_in st c (event ∷ events))) (regroup (snapshot_at event) stored (snapshots_in_all events))
    (subst (λ (n : ℕ). half * ((snapshot_at event + stored) + snapshots_in_all events) + pending half new ≤ budget + half * n) (regroup (unasked_at c event) unasked (unasked_in (setting_after st event) (after_event st c event) events)) rest)

first_few : (x y pend : ℕ) → x ≡ 0 → pend ≡ 0 → x + pend ≤ 0 + 0 + y
first_few x y pend one two = omega arith

-- one that is under way has half a window, too
one_or_none : (half : ℕ) (b : Bool) → half * (if b then 1 else 0) ≡ (if b then half else 0)
one_or_none half true = mul-one half
one_or_none half false = mul-zero half

with_pending : (half stored : ℕ) (c : Cluster) → half * (stored + under_way c) ≡ half * stored + pending half c
with_pending half stored c = mul-add half stored (under_way c) ∙ ap (λ (n : ℕ). half * stored + n) (one_or_none half (nat_lt c.coordinator.acknowledged c.coordinator.begun))

from_first : (n : ℕ) → n ≡ n + 0 + 0
from_first n = omega arith

pub attempts_few : (st : Setting) → IsSetting st → AreColoured st st.engine → (base : BaseView) (c : Cluster) (events : List Event) (new : Cluster) → IsTrace (going_on st base.numbers base.number) (recovers st base c) events new →
    half_window st * (snapshots_in_all events + under_way new) ≤ c.left + half_window st * unasked_in (going_on st base.numbers base.number) (recovers st base c) events
attempts_few st is coloured base c events new trace =
    let start : Cluster = recovers st base c in
    let now : Setting = going_on st base.numbers base.number in
    let half : ℕ = half_window st in
    let begun = begun_accounts st is coloured base c in
    let rest = traces_few half c.next c.left events now (record { graph = is.graph; owner = is.owner }) refl start new (record { whole = begun.0; logged = []; account = begun.1; asking = begun_asking st base c }) 0 0 0
    (record {
      few = first_few (half * 0) (half * 0) (pending half start) (mul-zero half) (cond-false (nat_lt base.number base.number) half 0 (le-ltb base.number base.number (le_refl base.number)));
      drawn = from_first c.next;
      tickets = refl;
    }) trace in
    subst (λ (n : ℕ). n ≤ c.left + half * unasked_in now start events) (sym (with_pending half (snapshots_in_all events) new))
    (subst (λ (n : ℕ). half * n + pending half new ≤ c.left + half * unasked_in now start events) (zero-add (snapshots_in_all events))
    (subst (λ (n : ℕ). half * (0 + snapshots_in_all events) + pending half new ≤ c.left + half * n) (zero-add (unasked_in now start events)) rest))

-- ---- and so few in all

split_times : (half less more : ℕ) → half * (less + more) ≡ half * less + half * more
split_times half less more = mul-add half less more

rest_times : (x y z budget : ℕ) → x ≡ y + z → x ≤ budget + y → z ≤ budget
rest_times x y z budget is few = omega arith

over : (stored unasked : ℕ) → unasked ≤ stored → stored ≡ unasked + (stored - unasked)
over stored unasked high = omega arith

in_all : (stored unasked more : ℕ) → stored - unasked ≤ more → stored ≤ more + unasked
in_all stored unasked more few = omega arith

below_all : (stored unasked more : ℕ) → stored < unasked → stored ≤ more + unasked
below_all stored unasked more low = omega arith

pub by_half : (half stored unasked budget : ℕ) → 0 < half → half * stored ≤ budget + half * unasked → stored ≤ budget / half + unasked
by_half half stored unasked budget some few =
    ⊎_elim
    (λ (low : stored < unasked). below_all stored unasked (budget / half) low)
    (λ (high : unasked ≤ stored).
    let more : ℕ = stored - unasked in
    let rest : half * more ≤ budget = rest_times (half * stored) (half * unasked) (half * more) budget (ap (λ (n : ℕ). half * n) (over stored unasked high) ∙ split_times half unasked more) few in
    in_all stored unasked (budget / half) ((le-div_iff_mul-le some).1 (subst (λ (n : ℕ). n ≤ budget) (mul_comm half more) rest)))
    (cases_lt stored unasked)

-- ---- who asks, event by event

pub in_time : (st : Setting) (c : Cluster) (updates : List Logged) → AreAsking st c updates → (a : ℕ) → a < st.machines → 0 < half_window st → st.stored ≡ true → half_window st ≤ outside (c.machine a) →
    ((rest : List ℕ) × (known_by_calls (call_way c a) ≡ suc (c.machine a).acknowledged ∷ rest)) ⊎ ((want_told (c.machine a).acknowledged (report_way c a) ≡ true) ⊎ (c.coordinator.wanted ≡ true))
in_time st c updates asking a low some stored half =
    let counting = asking.counting a low in
    let its = asking.asking a low in
    by_late counting.late counting.newest counting.commits (its.told (its.asked some stored half))
  where
    by_late : (late : ℕ) → c.coordinator.acknowledged ≡ (c.machine a).acknowledged + late → known_by_calls (call_way c a) ≡ numbers_from (suc (c.machine a).acknowledged) late →
        ((c.machine a).acknowledged ≡ c.coordinator.acknowledged → (want_told (c.machine a).acknowledged (report_way c a) ≡ true) ⊎ (c.coordinator.wanted ≡ true)) →
        ((rest : List ℕ) × (known_by_calls (call_way c a) ≡ suc (c.machine a).acknowledged ∷ rest)) ⊎ ((want_told (c.machine a).acknowledged (report_way c a) ≡ true) ⊎ (c.coordinator.wanted ≡ true))
    by_late zero newest commits told = inr (told (plus_zero (c.machine a).acknowledged ∙ sym newest))
    by_late (suc late) newest commits told = inl (numbers_from (suc (suc (c.machine a).acknowledged)) late, commits)

module _ (st : Setting) (is : IsSetting st) (c : Cluster) (whole : IsWhole st c) (logged : List Logged) (account : IsAccounted st c whole logged) (asking : AreAsking st c logged) where
  abbrev AsksOn : Event → Type 0
  AsksOn event = (next : IsWhole st (after_event st c event)) × (more : List Logged) × IsAccounted st (after_event st c event) next (logged ++ more) × AreAsking st (after_event st c event) (logged ++ more)

  still_asking : (event : Event) → MayDo st c event → IsNoRecovery event → IsNoUpdate event → AsksOn event
  still_asking event may other none =
      let kept = quiet_kept st is c whole logged account event may other none in
      (kept.0, [], kept.1, subst (AreAsking st (after_event st c event)) (sym (append-nil logged)) (events_asking st is c whole logged account.lists asking event may other none))

  pub asking_kept : (event : Event) → MayDo st c event → IsNoRecovery event → AsksOn event
  asking_kept (Admit a v) may other = still_asking (Admit a v) may other (λ s same. cc)
  asking_kept (Grant a x) may other = still_asking (Grant a x) may other (λ s same. cc)
  asking_kept (Send p q) may other = still_asking (Send p q) may other (λ s same. cc)
  asking_kept (SendCall a) may other = still_asking (SendCall a) may other (λ s same. cc)
  asking_kept (SendReport a) may other = still_asking (SendReport a) may other (λ s same. cc)
  asking_kept (Deliver p q) may other = still_asking (Deliver p q) may other (λ s same. cc)
  asking_kept (DeliverCall a) may other = still_asking (DeliverCall a) may other (λ s same. cc)
  asking_kept (DeliverReport a) may other = still_asking (DeliverReport a) may other (λ s same. cc)
  asking_kept (Update s) may other =
      let own = own_logged st is c whole logged account.order s may other in
      let kept = update_kept st is c whole logged account s may other in
      (kept.0, update_logged st c s may.1.vertex ∷ [], kept.1, update_asking st is c whole logged account.lists asking s may own.0 own.1)
  asking_kept (Mark s) may other = still_asking (Mark s) may other (λ s same. cc)
  asking_kept (Section a) may other = still_asking (Section a) may other (λ s same. cc)
  asking_kept Record may other = still_asking Record may other (λ s same. cc)
  asking_kept PutBegin may other = still_asking PutBegin may other (λ s same. cc)
  asking_kept PutStep may other = still_asking PutStep may other (λ s same. cc)
  asking_kept PutWave may other = still_asking PutWave may other (λ s same. cc)
  asking_kept (Fail a) may other = still_asking (Fail a) may other (λ s same. cc)
  asking_kept (Recover base) may other = absurd (other base refl)
  asking_kept Stop may other = still_asking Stop may other (λ s same. cc)
