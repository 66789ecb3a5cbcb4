-- What a cluster has made on a board, and what its receipt has of it.
use Rattle.std.proofs.Common.{List, Option, [], ap, ap₂, append-nil, append_assoc, arith, drop, length, map, refl, subst, suc, sym, zero, ◌++◌, ◌+◌, ◌<◌, ◌∙◌, ◌∷◌, ◌≡◌, ℕ}
use Rattle.std.proofs.lemmas.List.{length-append}
use Rattle.std.proofs.lemmas.List.Elements.{filter-append}
use Rattle.std.proofs.lemmas.List.Prefix.{front_rest}
use Rattle.std.specs.List.{AllByRecursion, range_with_len}
use Rattle.std.specs.List.Sorted.{IsNonDecreasingBy, IsPermutation}
use Rattle.std.specs.Prelude.{Err, IfOk, Ok, Result, slice_index_or}
use Rattle.call_laws.proofs.whole_calls.Leading.{behind_since}
use Rattle.cluster_laws.proofs.cluster_cuts.CutsGoOn.{updates_from-append}
use Rattle.cluster_laws.proofs.merged_logs.PartLemmas.{logs_merge, updates_rise}
use Rattle.cluster_laws.specs.cluster_core.Replays.{entries_of, is_of, ticket_of}
use Rattle.cluster_laws.specs.cluster_core.Settings.{IsSetting}
use Rattle.cluster_laws.specs.cluster_cuts.Goings.{AreUpdatesFrom}
use Rattle.cluster_laws.specs.cluster_model.Events as law
use Rattle.cluster_laws.specs.merged_logs.Merges.{IsByMachineBelow, all_logged, logs_of}
use Rattle.cluster_step.proofs.trace.Going.{setting_now}
use Rattle.cluster_step.specs.trace.Traces.{CallOpening, Cluster, IsTraceNow, TraceGoesOn, first_cluster, first_setting, newest_setting}
use Rattle.cluster_step.specs.trace.Later.{apart_now}
use Rattle.gl_base.specs.declared.entries.Entry.{Entry}
use Rattle.gl_base.specs.declared.scopes.ScopeId.{ScopeId}
use Rattle.whole_laws.proofs.cluster_ending.Traces.{setting_same}
use Rattle.whole_laws.proofs.cluster_records.Accounts.{quiet_kept, update_kept}
use Rattle.whole_laws.proofs.cluster_records.Entering.{IsNoUpdate, draws_none, update_logged}
use Rattle.whole_laws.proofs.cluster_records.Filtering.{all-more}
use Rattle.whole_laws.specs.cluster_records.Recorded.{IsAccounted}
use Rattle.whole_laws.specs.cluster_whole.Logged.{Logged, all_entries}
use Rattle.whole_laws.specs.cluster_whole.Whole.{IsNoRecovery, IsWhole, setting_behind}
use Rattle.wire_board.proofs.Goings.{passing_others}
use Rattle.wire_board.specs.Receipts.{AreLengthsOf, AreMadeSince, HasLoggedBehind, HaveBeenMade, IsMerge, IsReceipt, Machine, Setting, TraceView, logged_behind}

each-append : {X : Type 0} (P : X → Type 0) (xs ys : List X) → AllByRecursion P xs → AllByRecursion P ys → AllByRecursion P (xs ++ ys)
each-append P [] ys one other = other
each-append P (x ∷ xs) ys one other = (one.0, each-append P xs ys one.1 other)

no_more : (n : ℕ) → n ≡ n + 0
no_more n = omega arith

one_more : (n k : ℕ) → k ≡ suc n → k ≡ n + 1
one_more n k is = omega arith

sums : (a b c x y : ℕ) → b ≡ a + x → c ≡ b + y → c ≡ a + (x + y)
sums a b c x y one two = omega arith

-- ---- what the law has made

-- A cluster whose updates are these has made more of them.
record HasLogged (st : Setting) (old new : Cluster) (logged : List Logged) : Type 0 where
  pub whole : IsWhole st new
  pub more : List Logged
  pub account : IsAccounted st new whole (logged ++ more)
  pub tickets : AreUpdatesFrom old.next (all_entries more)
  pub drawn : new.next ≡ old.next + length (all_entries more)
  pub owners : AllByRecursion (IsByMachineBelow st.machines) (all_entries more)

module _ (st : Setting) (is : IsSetting st) (c : Cluster) (whole : IsWhole st c) (logged : List Logged) (account : IsAccounted st c whole logged) where
  quiet : (event : law.Event) → law.MayDo st c event → IsNoRecovery event → IsNoUpdate event → HasLogged st c (law.after_event st c event) logged
  quiet event may other none =
      let kept = quiet_kept st is c whole logged account event may other none in
      record { whole = kept.0; more = []; account = kept.1; tickets = tt; drawn = draws_none st c event may none ∙ no_more c.next; owners = tt }

  updates : (s : ScopeId) → law.MayDo st c (law.Update s) → HasLogged st c (law.after_event st c (law.Update s)) logged
  updates s may =
      let kept = update_kept st is c whole logged account s may (λ base same. cc) in
      let drawn : (law.after_event st c (law.Update s)).next ≡ suc c.next = subst (λ (flight : Option ℕ). (law.makes st c s flight).next ≡ suc c.next) (sym may.1.flight) refl in
      record {
        whole = kept.0;
        more = update_logged st c s may.1.vertex ∷ [];
        account = kept.1;
        tickets = (refl, tt);
        drawn = one_more c.next (law.after_event st c (law.Update s)).next drawn;
        owners = (may.0.machine, tt);
      }

  logs_by_event : (event : law.Event) → law.MayDo st c event → IsNoRecovery event → HasLogged st c (law.after_event st c event) logged
  logs_by_event (law.Admit a v) may other = quiet (law.Admit a v) may other (λ s same. cc)
  logs_by_event (law.Grant a x) may other = quiet (law.Grant a x) may other (λ s same. cc)
  logs_by_event (law.Send p q) may other = quiet (law.Send p q) may other (λ s same. cc)
  logs_by_event (law.SendCall a) may other = quiet (law.SendCall a) may other (λ s same. cc)
  logs_by_event (law.SendReport a) may other = quiet (law.SendReport a) may other (λ s same. cc)
  logs_by_event (law.Deliver p q) may other = quiet (law.Deliver p q) may other (λ s same. cc)
  logs_by_event (law.DeliverCall a) may other = quiet (law.DeliverCall a) may other (λ s same. cc)
  logs_by_event (law.DeliverReport a) may other = quiet (law.DeliverReport a) may other (λ s same. cc)
  logs_by_event (law.Update s) may other = updates s may
  logs_by_event (law.Mark s) may other = quiet (law.Mark s) may other (λ s same. cc)
  logs_by_event (law.Section a) may other = quiet (law.Section a) may other (λ s same. cc)
  logs_by_event (law.Record) may other = quiet (law.Record) may other (λ s same. cc)
  logs_by_event (law.PutBegin) may other = quiet (law.PutBegin) may other (λ s same. cc)
  logs_by_event (law.PutStep) may other = quiet (law.PutStep) may other (λ s same. cc)
  logs_by_event (law.PutWave) may other = quiet (law.PutWave) may other (λ s same. cc)
  logs_by_event (law.Fail a) may other = quiet (law.Fail a) may other (λ s same. cc)
  logs_by_event (law.Recover base) may other = absurd (other base refl)
  logs_by_event (law.Stop) may other = quiet (law.Stop) may other (λ s same. cc)

logs_then : (st : Setting) (a b c : Cluster) (logged : List Logged) (one : HasLogged st a b logged) → HasLogged st b c (logged ++ one.more) → HasLogged st a c logged
logs_then st a b c logged one other =
    let first : List Entry = all_entries one.more in
    let second : List Entry = all_entries other.more in
    let both : all_entries (one.more ++ other.more) ≡ first ++ second = all-more one.more other.more in
    record {
      whole = other.whole;
      more = one.more ++ other.more;
      account = subst (IsAccounted st c other.whole) (append_assoc logged one.more other.more) other.account;
      tickets = subst (AreUpdatesFrom a.next) (sym both) (updates_from-append a.next first second one.tickets (subst (λ (n : ℕ). AreUpdatesFrom n second) one.drawn other.tickets));
      drawn = sums a.next b.next c.next (length first) (length second) one.drawn other.drawn ∙ ap (λ (n : ℕ). a.next + n) (sym (ap length both ∙ length-append first second));
      owners = subst (AllByRecursion (IsByMachineBelow st.machines)) (sym both) (each-append (IsByMachineBelow st.machines) first second one.owners other.owners);
    }

logs_by_events : (events : List law.Event) → AllByRecursion IsNoRecovery events → (st : Setting) → IsSetting st → (old new : Cluster) (whole : IsWhole st old) (logged : List Logged) → IsAccounted st old whole logged →
    law.IsTrace st old events new → HasLogged st old new logged
logs_by_events [] all st is old new whole logged account trace =
    subst (λ (c : Cluster). HasLogged st old c logged) (sym trace)
    (record { whole = whole; more = []; account = subst (IsAccounted st old whole) (sym (append-nil logged)) account; tickets = tt; drawn = no_more old.next; owners = tt })
logs_by_events (event ∷ events) all st is old new whole logged account trace =
    let next : Cluster = law.after_event st old event in
    let one : HasLogged st old next logged = logs_by_event st is old whole logged account event trace.0.1 all.0 in
    logs_then st old next new logged one
    (logs_by_events events all.1 st is next new one.whole (logged ++ one.more) one.account (subst (λ (s : Setting). law.IsTrace s next events new) (setting_same st event all.0) trace.1))

-- each machine's log is its part of what is logged
log_is : (st : Setting) (c : Cluster) (whole : IsWhole st c) (logged : List Logged) → IsAccounted st c whole logged → (a : ℕ) → (c.machine a).part.log ≡ entries_of a (all_entries logged)
log_is st c whole logged account a = whole.consistent.replay.logs a ∙ ap (entries_of a) account.order.order

made_so : (st : Setting) (old new : Cluster) (whole : IsWhole st old) (logged : List Logged) → IsAccounted st old whole logged → (so : HasLogged st old new logged) → HaveBeenMade st.machines old new (all_entries so.more)
made_so st old new whole logged account so = record {
  tickets = so.tickets;
  drawn = so.drawn;
  owners = so.owners;
  logs = λ a.
      log_is st new so.whole (logged ++ so.more) so.account a
      ∙ ap (entries_of a) (all-more logged so.more)
      ∙ filter-append (is_of a) (all_entries logged) (all_entries so.more)
      ∙ ap (λ (es : List Entry). es ++ entries_of a (all_entries so.more)) (sym (log_is st old whole logged account a));
}

-- ---- from one state of a trace to a later one

trace_behind : (xs ys : List law.Event) (st : Setting) (a b c : Cluster) → law.IsTrace st a xs b → law.IsTrace st a (xs ++ ys) c → law.IsTrace (setting_behind st xs) b ys c
trace_behind [] ys st a b c one whole = subst (λ (x : Cluster). law.IsTrace st x ys c) (sym one) whole
trace_behind (x ∷ xs) ys st a b c one whole = trace_behind xs ys (law.setting_after st x) (law.after_event st a x) b c one.1 whole.1

module _ {M : Type 0} (represents : Setting → ℕ → Machine → M → Type 0) where
  -- what was made between
  pub made_between : (v w : TraceView M) (st : Setting) (o : CallOpening) (events more : List law.Event) (c later : Cluster) → AllByRecursion IsNoRecovery more → IsTraceNow represents v st o events c → IsTraceNow represents w st o (events ++ more) later →
      (made : List Entry) × HaveBeenMade st.machines c later made
  made_between v w st o events more c later others was now =
      let newest : Setting = newest_setting st o events in
      let going = was.code.going in
      let trace : law.IsTrace newest c more later = trace_behind events more (first_setting st o) (first_cluster st o) c later was.trace.trace now.trace.trace in
      let so : HasLogged newest c later going.logged = logs_by_events more others newest (setting_now st o events was.setting).is c later going.followed.0 going.logged going.accounts trace in
      let machines : newest.machines ≡ st.machines = ap (λ (s : Setting). s.machines) (behind_since events (first_setting st o)) in
      (all_entries so.more, subst (λ (n : ℕ). HaveBeenMade n c later (all_entries so.more)) machines (made_so newest c later going.followed.0 going.logged going.accounts so))

-- ---- one stretch behind another

pub made_then : (n : ℕ) (a b c : Cluster) (xs ys : List Entry) → HaveBeenMade n a b xs → HaveBeenMade n b c ys → HaveBeenMade n a c (xs ++ ys)
made_then n a b c xs ys one other = record {
  tickets = updates_from-append a.next xs ys one.tickets (subst (λ (k : ℕ). AreUpdatesFrom k ys) one.drawn other.tickets);
  drawn = sums a.next b.next c.next (length xs) (length ys) one.drawn other.drawn ∙ ap (λ (k : ℕ). a.next + k) (sym (length-append xs ys));
  owners = each-append (IsByMachineBelow n) xs ys one.owners other.owners;
  logs = λ m.
      other.logs m ∙ ap (λ (es : List Entry). es ++ entries_of m ys) (one.logs m) ∙ append_assoc (a.machine m).part.log (entries_of m xs) (entries_of m ys)
      ∙ ap (λ (es : List Entry). (a.machine m).part.log ++ es) (sym (filter-append (is_of m) xs ys));
}

pub made_none : (n : ℕ) (c : Cluster) → HaveBeenMade n c c []
made_none n c = record { tickets = tt; drawn = no_more c.next; owners = tt; logs = λ m. sym (append-nil (c.machine m).part.log) }

-- ---- what the logs have behind their lengths

more_of : {X : Type 0} (f : ℕ → X) (a n : ℕ) → map f (range_with_len a (suc n)) ≡ map f (range_with_len a n) ++ f (a + n) ∷ []
more_of f a zero = ap (λ (k : ℕ). f k ∷ []) (plus_none a)
  where
    plus_none : (a : ℕ) → a ≡ a + 0
    plus_none a = omega arith
more_of f a (suc n) = ap (λ xs. f a ∷ xs) (more_of f (a + 1) n ∙ ap (λ (k : ℕ). map f (range_with_len (a + 1) n) ++ f k ∷ []) (moved a n))
  where
    moved : (a n : ℕ) → (a + 1) + n ≡ a + suc n
    moved a n = omega arith

logged_more : (logs : List (List Entry)) (log : List Entry) → all_logged (logs ++ log ∷ []) ≡ all_logged logs ++ log
logged_more [] log = append-nil log
logged_more (first ∷ logs) log = ap (λ (es : List Entry). first ++ es) (logged_more logs log) ∙ sym (append_assoc first (all_logged logs) log)

parts_more : (n : ℕ) (made : List Entry) → all_logged (logs_of (suc n) made) ≡ all_logged (logs_of n made) ++ entries_of n made
parts_more n made =
    ap all_logged (more_of (λ a. entries_of a made) 0 n ∙ ap (λ (k : ℕ). logs_of n made ++ entries_of k made ∷ []) (zero_first n)) ∙ logged_more (logs_of n made) (entries_of n made)
  where
    zero_first : (k : ℕ) → 0 + k ≡ k
    zero_first k = omega arith

behind_are : (lengths : List ℕ) (old new : Cluster) (many : ℕ) (made : List Entry) → HaveBeenMade many old new made → (m : ℕ) → ((a : ℕ) → a < m → slice_index_or lengths a 0 ≡ length (old.machine a).part.log) →
    logged_behind lengths m new ≡ all_logged (logs_of m made)
behind_are lengths old new many made have zero each = refl
behind_are lengths old new many made have (suc m) each =
    ap₂ (λ (xs ys : List Entry). xs ++ ys) (behind_are lengths old new many made have m (λ a low. each a (up a m low)))
    (ap (λ (k : ℕ). drop k (new.machine m).part.log) (each m (last m)) ∙ front_rest (new.machine m).part.log (old.machine m).part.log (entries_of m made) (have.logs m))
    ∙ sym (parts_more m made)
  where
    up : (a m : ℕ) → a < m → a < suc m
    up a m low = omega arith

    last : (m : ℕ) → m < suc m
    last m = omega arith

-- one machine more
pub behind_more : (lengths : List ℕ) (c : Cluster) (n : ℕ) (all log tail : List Entry) (from : ℕ) → all ≡ logged_behind lengths n c → log ≡ (c.machine n).part.log → from ≡ slice_index_or lengths n 0 → tail ≡ drop from log →
    all ++ tail ≡ logged_behind lengths (n + 1) c
behind_more lengths c n all log tail from all_is log_is from_is tail_is =
    ap₂ (λ (xs ys : List Entry). xs ++ ys) all_is (tail_is ∙ ap₂ (λ (k : ℕ) (es : List Entry). drop k es) from_is log_is)
    ∙ ap (λ (k : ℕ). logged_behind lengths k c) (one_behind n)
  where
    one_behind : (k : ℕ) → suc k ≡ k + 1
    one_behind k = omega arith

-- ---- the receipt

pub machines_are : {M : Type 0} (represents : Setting → ℕ → Machine → M → Type 0) (v : TraceView M) (st : Setting) (o : CallOpening) (events : List law.Event) (c : Cluster) → IsTraceNow represents v st o events c → length v.now.machines.items ≡ st.machines
machines_are represents v st o events c is = is.code.many ∙ ap (λ (s : Setting). s.machines) (behind_since events (first_setting st o))

module _ {M : Type 0} (represents : Setting → ℕ → Machine → M → Type 0) (v w : TraceView M) where
  -- what was merged is what was made
  pub receipt_is : (lengths : List ℕ) (base entries : List Entry) → AreLengthsOf represents v lengths → TraceGoesOn represents v w → HasLoggedBehind represents w lengths base entries → IsReceipt represents v w base entries
  receipt_is lengths base entries are goes has = record {
    made = has.made;
    entries_are = has.entries_are;
    since = λ st o events c is.
        let one = goes st o events c is in
        let others : AllByRecursion IsNoRecovery one.0 = passing_others one.0 one.2 in
        let between = made_between represents v w st o events one.0 c one.1 others is one.3 in
        let have : HaveBeenMade st.machines c one.1 between.0 = between.1 in
        let many : length v.now.machines.items ≡ st.machines = machines_are represents v st o events c is in
        let all : logged_behind lengths st.machines one.1 ≡ all_logged (logs_of st.machines between.0) =
        behind_are lengths c one.1 st.machines between.0 have st.machines (λ a low. are.each st o events c is a (subst (λ (n : ℕ). a < n) (sym many) low)) in
        let same : has.made ≡ between.0 =
        logs_merge st.machines between.0 has.made (updates_rise c.next between.0 have.tickets) have.owners (subst (λ (es : List Entry). IsMerge es has.made) all (has.merged st o (events ++ one.0) one.1 one.3)) in
        (one.0, one.1, others, one.3, subst (HaveBeenMade st.machines c one.1) (sym same) have);
  }

  -- nothing has happened
  pub receipt_stays : (base : List Entry) → w ≡ record v { since = v.now } → IsReceipt represents v w base base
  receipt_stays base is = record {
    made = [];
    entries_are = sym (append-nil base);
    since = λ st o events c now. (
      [],
      c,
      tt,
      subst (λ (x : TraceView M). IsTraceNow represents x st o (events ++ []) c) (sym is)
          (subst (λ (more : List law.Event). IsTraceNow represents (record v { since = v.now }) st o more c) (sym (append-nil events))
          (record { setting = now.setting; trace = now.trace; code = now.code; done = now.done })),
      made_none st.machines c,
    );
  }

-- as the cluster went out
pub lengths_apart : {M : Type 0} (represents : Setting → ℕ → Machine → M → Type 0) (v : TraceView M) (lengths : List ℕ) → AreLengthsOf represents v lengths → AreLengthsOf represents (apart_now v) lengths
lengths_apart represents v lengths are = record { many = are.many; each = λ st o events c is. are.each st o events c (record { setting = is.setting; trace = is.trace; code = is.code; done = is.done }) }

pub receipt_apart : {M : Type 0} (represents : Setting → ℕ → Machine → M → Type 0) (v w : TraceView M) (base entries : List Entry) → IsReceipt represents (apart_now v) w base entries → IsReceipt represents v w base entries
receipt_apart represents v w base entries is = record {
  made = is.made;
  entries_are = is.entries_are;
  since = λ st o events c now. is.since st o events c (record { setting = now.setting; trace = now.trace; code = now.code; done = now.done });
}

pub merge_so : (entries all merged : List Entry) → all ≡ entries → IsPermutation all merged → IsNonDecreasingBy ticket_of merged → IsMerge entries merged
merge_so entries all merged are same up = record { same = subst (λ (es : List Entry). IsPermutation es merged) are same; by_ticket = up }

-- ---- one board behind another

pub made_on : {M : Type 0} (represents : Setting → ℕ → Machine → M → Type 0) (u v w : TraceView M) (xs ys : List Entry) → AreMadeSince represents u v xs → AreMadeSince represents v w ys → AreMadeSince represents u w (xs ++ ys)
made_on {M} represents u v w xs ys one other st o events c is =
    let first = one st o events c is in
    let second = other st o (events ++ first.0) first.1 first.3 in (
      first.0 ++ second.0,
      second.1,
      each-append IsNoRecovery first.0 second.0 first.2 second.2,
      subst (λ (es : List law.Event). IsTraceNow represents w st o es second.1) (append_assoc events first.0 second.0) second.3,
      made_then st.machines c first.1 second.1 xs ys first.4 second.4,
    )

-- where there is an answer
pub ok_both : {X E : Type 0} (r : Result X E) (P Q R : X → Type 0) → ((x : X) → P x → Q x → R x) → IfOk r P → IfOk r Q → IfOk r R
ok_both (Ok x) P Q R both one other = both x one other
ok_both (Err e) P Q R both one other = tt
