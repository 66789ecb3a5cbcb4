-- Each event keeps the waves.
use Rattle.std.proofs.Common.{◌≡◌, ℕ, suc, pred, ◌+◌, ◌<◌, ◌≤◌, Bool, true, if◌then◌else◌, Option, List, [], ◌∷◌, ◌++◌, length, refl, sym, ◌∙◌, ap, subst, ⊎_elim, le_refl, le_of_eq, append-nil, append_assoc, length-append, arith}
use Rattle.std.proofs.lemmas.Bool.{both_ways}
use Rattle.gl_base.specs.declared.entries.Entry.{Entry}
use Rattle.gl_base.specs.declared.entries.Entry.TheVariants.{Go}
use Rattle.cluster_laws.specs.cluster_core.Actions.{Action, HasFirst, MayHappen, MayUpdate, after, delivers, hears, marks, sends, updates}
use Rattle.cluster_laws.specs.cluster_core.Actions as act
use Rattle.cluster_laws.specs.cluster_core.Copies.{AreCopies}
use Rattle.cluster_laws.specs.cluster_core.Effects.{received}
use Rattle.cluster_laws.specs.cluster_core.Messages.{Ask, Done, Message, Ready}
use Rattle.cluster_laws.specs.cluster_core.Parts.{Part}
use Rattle.cluster_laws.specs.cluster_core.Places.{IsExclusive}
use Rattle.cluster_laws.specs.cluster_core.Ranges.{set_at}
use Rattle.cluster_laws.specs.cluster_core.Settings.{IsSetting, Setting}
use Rattle.cluster_laws.specs.cluster_core.Worlds.{World, way}
use Rattle.cluster_laws.proofs.cluster_core.Basics.{set_at-holds, set_at-kept, set_at-other, set_at-same}
use Rattle.cluster_laws.proofs.cluster_core.Taking.{sent-way, taken, taken-here, taken-there}
use Rattle.cluster_laws.proofs.cluster_numbers.Quiet.{admitted-quiet, goes_on-quiet, granted-quiet}
use Rattle.cluster_laws.specs.cluster_model.Calls.{Begin, Call, Committed, Count, Report, Saved, Step, Want, Wave, begins_in, sections_in}
use Rattle.cluster_laws.specs.cluster_model.Clusters.{BaseView, Cluster, call_way, report_way}
use Rattle.cluster_laws.specs.cluster_model.Counting.{Counting}
use Rattle.cluster_laws.specs.cluster_model.Events.{Event, Admit, DeliverCall, DeliverReport, Deliver, Fail, Grant, Mark, MayDo, PutBegin, PutStep, PutWave, Record, Recover, Section, Send, SendCall, SendReport, Stop, Update, after_event, delivers_call, delivers_message, delivers_report, makes, saves, sends_call, sends_message, sends_report}
use Rattle.cluster_laws.specs.cluster_model.Machines.{Machine, count_of, gained, is_idle}
use Rattle.cluster_laws.specs.cluster_model.Working.{admits, asks_more, commits, fails, grants, hands, hands_report, makes_mark, makes_update, prompt, receives, sections, takes_call, works_on}
use Rattle.whole_laws.specs.cluster_whole.Steps.{Turn, counts_in, messages_between}
use Rattle.whole_laws.specs.cluster_whole.Views.{world_of}
use Rattle.whole_laws.proofs.cluster_whole.Flows.{part_flows, same_flows, taken_flows}
use Rattle.whole_laws.proofs.cluster_whole.Joining.{asked, begin_gone, changed, changed_world, one_machine}
use Rattle.whole_laws.proofs.cluster_whole.Pieces.{passed, read_at, set_twice}
use Rattle.whole_laws.proofs.cluster_whole.Stepping.{nil_cons}
use Rattle.whole_laws.proofs.cluster_whole.Turning.{counts-append, counts_pushed, counts_told}
use Rattle.whole_laws.specs.cluster_ending.Watched.{AreWatched, HoldsNoTask, puts_wave_out, waves_in}
use Rattle.whole_laws.proofs.cluster_ending.Coming.{come_watched}
use Rattle.whole_laws.proofs.cluster_ending.Deeds.{IsAlike, IsDeed, IsSeen, alike_deed, deed_keeps, work_deed}
use Rattle.whole_laws.proofs.cluster_ending.Growing.{IsLonger, admitted_longer, granted_longer, marked_longer, received_longer, updated_longer}
use Rattle.whole_laws.proofs.cluster_ending.Idle.{idle_pending, idle_queues, idle_tasks}
use Rattle.whole_laws.proofs.cluster_ending.Leaving.{StaysDone, done_action}
use Rattle.whole_laws.proofs.cluster_ending.Putting.{begin_watched, wave_put_watched}
use Rattle.whole_laws.proofs.cluster_ending.Turns.{StayWatched, prompt_watched, watch_of, wave_watched}
use Rattle.whole_laws.proofs.cluster_ending.Words.{IsLikeCalls, call_came, call_gone, calls_again, calls_same}

plus_none : (n : ℕ) → n ≡ n + 0
plus_none n = omega arith

more_low : (n m : ℕ) → n ≤ n + m
more_low n m = omega arith

suc_low : (n : ℕ) → n ≤ suc n
suc_low n = omega arith

suc_plus : (n : ℕ) → suc n ≡ n + 1
suc_plus n = omega arith

suc_other : (n : ℕ) → suc n ≡ n → ⊥
suc_other n is = omega arith

zero_low : (n : ℕ) → 0 ≤ n
zero_low n = omega arith

flows_none : (now was gain : ℕ) → now ≡ was + gain → now + 0 ≡ was + gain
flows_none now was gain is = omega arith

flows_taken : (was mid now gain : ℕ) → was ≡ mid + 1 → now ≡ mid + gain → now + 1 ≡ was + gain
flows_taken was mid now gain one two = omega arith

some_way : (was mid : ℕ) → was ≡ mid + 1 → 1 ≤ was
some_way was mid is = omega arith

flows_same : (now was : ℕ) → now ≡ was → now + 0 ≡ was + 0
flows_same now was is = omega arith

received-log : (st : Setting) (a : ℕ) (m : Message) (part : Part) → length (received st a m part).log ≡ length part.log
received-log st a (Ask s v rest) part = ap (λ (log : List Entry). length log) (goes_on-quiet st a s v 0 rest part).log
received-log st a (Ready s) part = refl
received-log st a (Done s news) part = refl

-- a machine that was not idle
seen_busy : (st : Setting) (begins : List ℕ) (m new : Machine) → m.sent ≤ new.sent → m.received ≤ new.received → length m.part.log ≤ length new.part.log →
    (HoldsNoTask st m.part → HoldsNoTask st new.part × (length new.part.log ≡ length m.part.log)) → (is_idle st m.part ≡ true → ⊥) → IsSeen st begins m new
seen_busy st begins m new sent received updates free busy =
    record { low = record { sent = sent; received = received; updates = updates }; free = λ got none. free none; rests = λ none got idle. absurd (busy idle) }

-- a machine that received a message
seen_taken : (st : Setting) (begins : List ℕ) (m new : Machine) → m.sent ≤ new.sent → new.received ≡ suc m.received → length m.part.log ≤ length new.part.log → IsSeen st begins m new
seen_taken st begins m new sent received updates =
    record {
      low = record { sent = sent; received = subst (λ (n : ℕ). m.received ≤ n) (sym received) (suc_low m.received); updates = updates };
      free = λ got none. absurd (suc_other m.received (sym received ∙ got));
      rests = λ none got idle. absurd (suc_other m.received (sym received ∙ got));
    }

module _ (st : Setting) (is : IsSetting st) (c : Cluster) (copies : AreCopies st (world_of c)) (apart : IsExclusive st (world_of c)) (turn : ℕ → Turn) (before newest : ℕ)
    (was : AreWatched st c.coordinator.rounds.counting c.coordinator.begun c (watch_of turn before newest)) where
  abbrev counting : Counting
  counting = c.coordinator.rounds.counting

  abbrev begun : ℕ
  begun = c.coordinator.begun

  abbrev w : World
  w = world_of c

  -- the waves are kept of this cluster, and nothing else of the coordinator changed
  abbrev Kept : Cluster → Type 0
  Kept new = StayWatched st counting begun new before newest

  by_deed : (new : Cluster) → IsDeed st c new → Kept new
  by_deed new deed = (turn, deed_keeps st counting begun c new (watch_of turn before newest) was deed)

  abbrev changed_to : (ℕ → Machine) → (ℕ → ℕ → List Message) → (ℕ → List Call) → ℕ → ℕ → Cluster
  changed_to machine link calls next left =
      record { machine = machine; link = link; calls = calls; reports = c.reports; coordinator = c.coordinator; next = next; left = left; base = c.base; stopped = c.stopped }

  module _ (a : ℕ) (low : a < st.machines) where
    abbrev m : Machine
    m = c.machine a

    -- a machine answers behind what it did
    then_prompt : (m1 : Machine) (link : ℕ → ℕ → List Message) (calls : ℕ → List Call) (next left : ℕ) → Kept (changed st c a m1 link calls next left) → Kept (changed st c a (prompt st a m1) link calls next left)
    then_prompt m1 link calls next left at =
        let one : Cluster = changed st c a m1 link calls next left in
        let here : one.machine a ≡ m1 = set_at-same c.machine a m1 in
        subst Kept
        (λ i. changed_to (λ b. (ap (λ (x : Machine). set_at one.machine a (prompt st a x) b) here ∙ set_twice c.machine a m1 (prompt st a m1) b) i) link calls next left)
        (prompt_watched st counting begun one at.0 before newest at.1 a low)

    reports_kept : (m1 : Machine) (link : ℕ → ℕ → List Message) (calls : ℕ → List Call) (next left : ℕ) → counts_in (c.reports a ++ m1.out) ≡ counts_in (c.reports a ++ m.out) →
        (b : ℕ) → counts_in (report_way (changed st c a m1 link calls next left) b) ≡ counts_in (report_way c b)
    reports_kept m1 link calls next left same b = set_at-holds (λ (b : ℕ) (x : Machine). counts_in (c.reports b ++ x.out) ≡ counts_in (report_way c b)) c.machine a m1 b same (λ off. refl)

    -- what the waves see of the machine stays as it was
    still : (m1 : Machine) (calls : ℕ → List Call) → count_of st m1 ≡ count_of st m → m1.part.task ≡ m.part.task → m1.part.out ≡ m.part.out → m1.held ≡ m.held → counts_in (c.reports a ++ m1.out) ≡ counts_in (c.reports a ++ m.out) →
        ((b : ℕ) → IsLikeCalls (call_way c b) (calls b ++ c.coordinator.out b)) → Kept (changed st c a (prompt st a m1) c.link calls c.next c.left)
    still m1 calls counts tasks out held same like =
        let new : Cluster = changed st c a m1 c.link calls c.next c.left in
        then_prompt m1 c.link calls c.next c.left
        (by_deed new
        (alike_deed st c new
        (record {
          counts = set_at-kept (count_of st) c.machine a m1 counts;
          tasks = set_at-kept (λ (x : Machine). x.part.task) c.machine a m1 tasks;
          ways = λ p q. ap (λ (ms : List Message). c.link p q ++ ms) (set_at-kept (λ (x : Machine). x.part.out q) c.machine a m1 (ap (λ (f : ℕ → List Message). f q) out) p);
        })
        like (reports_kept m1 c.link calls c.next c.left same) (set_at-kept (λ (x : Machine). x.held) c.machine a m1 held)))

    -- the machine does something
    work : (m1 : Machine) (action : Action) (link : ℕ → ℕ → List Message) (calls : ℕ → List Call) (orders : ℕ → List ℕ) (next left gain took : ℕ) →
        MayHappen st w action → after st w action ≡ changed_world st c a m1.part link orders next left →
        sections_in (c.reports a ++ m1.out) ≡ sections_in (c.reports a ++ m.out) → ((b : ℕ) → begins_in (calls b ++ c.coordinator.out b) ≡ orders b) →
        m1.held ≡ m.held → counts_in (c.reports a ++ m1.out) ≡ counts_in (c.reports a ++ m.out) → ((b : ℕ) → IsLikeCalls (call_way c b) (calls b ++ c.coordinator.out b)) →
        IsSeen st (begins_in (call_way c a)) m m1 → m1.sent ≡ m.sent + gain → m1.received ≡ m.received + took →
        messages_between st (world_of (changed st c a m1 link calls next left)) + took ≡ messages_between st w + gain → took ≤ messages_between st w →
        Kept (changed st c a (prompt st a m1) link calls next left)
    work m1 action link calls orders next left gain took may made same heard held counts like seen sent received flows some =
        let new : Cluster = changed st c a m1 link calls next left in
        let here : new.machine a ≡ m1 = set_at-same c.machine a m1 in
        then_prompt m1 link calls next left
        (by_deed new
        (work_deed st c new a gain took low
        (record {
          others = λ b off. set_at-other c.machine a m1 b off;
          seen = subst (IsSeen st (begins_in (call_way c a)) m) (sym here) seen;
          sent = ap (λ (x : Machine). x.sent) here ∙ sent;
          received = ap (λ (x : Machine). x.received) here ∙ received;
          flows = flows;
          was = some;
        })
        like (reports_kept m1 link calls next left counts) (set_at-kept (λ (x : Machine). x.held) c.machine a m1 held)
        (λ left_none. subst (StaysDone st w) (made ∙ sym (one_machine st c a m1 link calls orders next left same heard)) (done_action st is w copies.told left_none apart action may))))

    -- how much is on the way then, where the links are as they were
    part_flow : (m1 : Machine) (calls : ℕ → List Call) (next left : ℕ) → IsLonger m.part m1.part → messages_between st (world_of (changed st c a m1 c.link calls next left)) + 0 ≡ messages_between st w + gained st m.part m1.part
    part_flow m1 calls next left longer =
        let new : Cluster = changed st c a m1 c.link calls next left in
        flows_none (messages_between st (world_of new)) (messages_between st w) (gained st m.part m1.part)
        (same_flows st (record w { part = set_at w.part a m1.part }) (world_of new) (λ p q. ap (λ (part : Part). c.link p q ++ part.out q) (read_at (λ (x : Machine). x.part) c.machine a m1 p))
        ∙ part_flows st w a m1.part low longer)

    -- a machine acts by itself
    alone : (m1 : Machine) (action : Action) (next left : ℕ) → MayHappen st w action → after st w action ≡ changed_world st c a m1.part c.link w.orders next left →
        sections_in (c.reports a ++ m1.out) ≡ sections_in (c.reports a ++ m.out) → m1.held ≡ m.held → counts_in (c.reports a ++ m1.out) ≡ counts_in (c.reports a ++ m.out) →
        IsSeen st (begins_in (call_way c a)) m m1 → m1.sent ≡ m.sent + gained st m.part m1.part → m1.received ≡ m.received → IsLonger m.part m1.part →
        Kept (changed st c a (prompt st a m1) c.link c.calls next left)
    alone m1 action next left may made same held counts seen sent received longer =
        work m1 action c.link c.calls w.orders next left (gained st m.part m1.part) 0 may made same (λ b. refl) held counts (λ b. calls_again (call_way c b)) seen sent (received ∙ plus_none m.received)
        (part_flow m1 c.calls next left longer) (zero_low (messages_between st w))

    admit_kept : (v : ℕ) → MayDo st c (Admit a v) → Kept (after_event st c (Admit a v))
    admit_kept v may =
        let m1 : Machine = admits st a v m in
        let quiet = admitted-quiet st a v m.part in
        alone m1 (act.Admit a v) c.next c.left may.1.may refl refl refl refl
        (seen_busy st (begins_in (call_way c a)) m m1 (more_low m.sent (gained st m.part m1.part)) (le_refl m.received) (le_of_eq (ap (λ (log : List Entry). length log) (sym quiet.log)))
        (λ none. ((λ u within. ap (λ (f : ℕ → Bool). f u) quiet.task ∙ none u within), ap (λ (log : List Entry). length log) quiet.log))
        (λ idle. ⊎_elim
        (λ (pending : m.part.pending v ≡ true). both_ways (m.part.pending v) (idle_pending st m.part idle v may.1.may.vertex) pending)
        (λ (task : m.part.task v ≡ true). both_ways (m.part.task v) (idle_tasks st m.part idle v may.1.may.vertex) task)
        may.1.may.due))
        refl refl (admitted_longer st a v m.part)

    grant_kept : (x : ℕ) → MayDo st c (Grant a x) → Kept (after_event st c (Grant a x))
    grant_kept x may =
        let m1 : Machine = grants st a x m in
        let quiet = granted-quiet st a x m.part in
        alone m1 (act.Grant a x) c.next c.left may.1 refl refl refl refl
        (seen_busy st (begins_in (call_way c a)) m m1 (more_low m.sent (gained st m.part m1.part)) (le_refl m.received) (le_of_eq (ap (λ (log : List Entry). length log) (sym quiet.log)))
        (λ none. ((λ u within. ap (λ (f : ℕ → Bool). f u) quiet.task ∙ none u within), ap (λ (log : List Entry). length log) quiet.log))
        (λ idle. nil_cons may.1.claim may.1.behind (sym (idle_queues st m.part idle x may.1.vertex) ∙ may.1.first)))
        refl refl (granted_longer st a x m.part)

    -- a message comes
    took_kept : (p : ℕ) → p < st.machines → (message : Message) (behind : List Message) → c.link p a ≡ message ∷ behind → Kept (delivers_message st c p a (message ∷ behind))
    took_kept p p_low message behind first =
        let m1 : Machine = receives st a message m in
        let link : ℕ → ℕ → List Message = set_at c.link p (set_at (c.link p) a behind) in
        let mid : World = taken w p a message behind first in
        let new : Cluster = changed st c a m1 link c.calls c.next c.left in
        let gain : ℕ = gained st m.part m1.part in
        let one : messages_between st w ≡ messages_between st mid + 1 = taken_flows st w mid p a p_low low message (taken-here w p a message behind first) (λ p' q' off. taken-there w p a message behind first p' q' off) in
        let two : messages_between st (world_of new) ≡ messages_between st mid + gain =
        same_flows st (record mid { part = set_at mid.part a m1.part }) (world_of new) (λ p' q'. ap (λ (part : Part). link p' q' ++ part.out q') (read_at (λ (x : Machine). x.part) c.machine a m1 p'))
        ∙ part_flows st mid a m1.part low (received_longer st a message m.part) in
        work m1 (act.Deliver p a) link c.calls w.orders c.next c.left gain 1
        (record { message = message; behind = behind; first = first }) (ap (delivers st w p a) first) refl (λ b. refl) refl refl (λ b. calls_again (call_way c b))
        (seen_taken st (begins_in (call_way c a)) m m1 (more_low m.sent gain) refl (le_of_eq (sym (received-log st a message m.part))))
        refl (suc_plus m.received)
        (flows_taken (messages_between st w) (messages_between st mid) (messages_between st (world_of new)) gain one two) (some_way (messages_between st w) (messages_between st mid) one)

    -- ---- a call comes

    gone : (call : Call) (behind : List Call) → c.calls a ≡ call ∷ behind → waves_in (call ∷ []) ≡ [] → (b : ℕ) → IsLikeCalls (call_way c b) (set_at c.calls a behind b ++ c.coordinator.out b)
    gone call behind first none b =
        set_at-holds (λ (b : ℕ) (xs : List Call). IsLikeCalls (call_way c b) (xs ++ c.coordinator.out b)) c.calls a behind b
        (subst (λ (cs : List Call). IsLikeCalls (cs ++ c.coordinator.out a) (behind ++ c.coordinator.out a)) (sym first) (call_gone call (behind ++ c.coordinator.out a) none))
        (λ off. calls_again (call_way c b))

    called_kept : (call : Call) (behind : List Call) → c.calls a ≡ call ∷ behind → Kept (delivers_call st c a (call ∷ behind))
    called_kept (Begin k) behind first =
        let m1 : Machine = takes_call st a (Begin k) m in
        let calls : ℕ → List Call = set_at c.calls a behind in
        let rest : List ℕ = begins_in (behind ++ c.coordinator.out a) in
        let orders_are : w.orders a ≡ k ∷ rest = ap (λ (xs : List Call). begins_in (xs ++ c.coordinator.out a)) first in
        let new : Cluster = changed st c a m1 c.link calls c.next c.left in
        work m1 (act.Hear a) c.link calls (set_at w.orders a rest) c.next c.left 0 0
        (record { number = k; behind = rest; first = orders_are }) (ap (hears st w a) orders_are) refl (begin_gone st c a k behind) refl refl (gone (Begin k) behind first refl)
        (record {
          low = record { sent = le_refl m.sent; received = le_refl m.received; updates = le_refl (length m.part.log) };
          free = λ got none. (none, refl);
          rests = λ none got idle. absurd (nil_cons k rest (sym none ∙ orders_are));
        })
        (plus_none m.sent) (plus_none m.received)
        (flows_same (messages_between st (world_of new)) (messages_between st w) (same_flows st w (world_of new) (λ p q. ap (λ (ms : List Message). c.link p q ++ ms) (set_at-kept (λ (x : Machine). x.part.out q) c.machine a m1 refl p))))
        (zero_low (messages_between st w))
    called_kept (Committed k) behind first =
        still (takes_call st a (Committed k) m) (set_at c.calls a behind) refl refl refl refl (counts_told (asks_more st (commits k m)) (c.reports a) m.out (Want k) refl) (gone (Committed k) behind first refl)
    called_kept (Wave k) behind first =
        then_prompt (takes_call st a (Wave k) m) c.link (set_at c.calls a behind) c.next c.left
        (_, wave_watched st counting begun c turn before newest was a low k behind first)
    called_kept (Step colour) behind first =
        still (takes_call st a (Step colour) m) (set_at c.calls a behind) refl refl refl refl refl (gone (Step colour) behind first refl)

  -- ---- each event

  -- machines and links between them stay as they are
  beside : (new : Cluster) → IsAlike st c new → ((a : ℕ) → IsLikeCalls (call_way c a) (call_way new a)) → ((a : ℕ) → counts_in (report_way new a) ≡ counts_in (report_way c a)) → ((a : ℕ) → (new.machine a).held ≡ (c.machine a).held) → Kept new
  beside new alike calls reports held = by_deed new (alike_deed st c new alike calls reports held)

  came : (call : Call) → waves_in (call ∷ []) ≡ [] → begins_in (call ∷ []) ≡ [] → (a : ℕ) → IsLikeCalls (call_way c a) (c.calls a ++ (c.coordinator.out a ++ call ∷ []))
  came call none no_begin a = subst (IsLikeCalls (call_way c a)) (append_assoc (c.calls a) (c.coordinator.out a) (call ∷ [])) (call_came (call_way c a) call none no_begin)

  reports_same : (a : ℕ) (report : Report) (behind : List Report) → c.reports a ≡ report ∷ behind → counts_in (report ∷ []) ≡ [] → (b : ℕ) → counts_in (set_at c.reports a behind b ++ (c.machine b).out) ≡ counts_in (report_way c b)
  reports_same a report behind first none b =
      set_at-holds (λ (b : ℕ) (xs : List Report). counts_in (xs ++ (c.machine b).out) ≡ counts_in (report_way c b)) c.reports a behind b
      (sym (ap (λ (xs : List Report). counts_in (xs ++ (c.machine a).out)) first ∙ counts-append (report ∷ []) (behind ++ (c.machine a).out) ∙ ap (λ (rs : List Report). rs ++ counts_in (behind ++ (c.machine a).out)) none))
      (λ off. refl)

  -- one machine changes in nothing that the waves see
  aside : (new : Cluster) (a : ℕ) (m1 : Machine) → new.machine ≡ set_at c.machine a m1 → count_of st m1 ≡ count_of st (c.machine a) → m1.part.task ≡ (c.machine a).part.task → m1.held ≡ (c.machine a).held →
      ((p q : ℕ) → way (world_of new) p q ≡ way w p q) → ((b : ℕ) → IsLikeCalls (call_way c b) (call_way new b)) → ((b : ℕ) → counts_in (report_way new b) ≡ counts_in (report_way c b)) → Kept new
  aside new a m1 same counts tasks held ways calls reports =
      beside new
      (record {
        counts = λ b. (λ i. count_of st (same i b)) ∙ set_at-kept (count_of st) c.machine a m1 counts b;
        tasks = λ b. (λ i. (same i b).part.task) ∙ set_at-kept (λ (x : Machine). x.part.task) c.machine a m1 tasks b;
        ways = ways;
      })
      calls reports
      (λ b. (λ i. (same i b).held) ∙ set_at-kept (λ (x : Machine). x.held) c.machine a m1 held b)

  abbrev Stays : Cluster → Type 0
  Stays new = StayWatched st new.coordinator.rounds.counting new.coordinator.begun new before newest

  report_kept : (a : ℕ) → a < st.machines → (report : Report) (behind : List Report) → c.reports a ≡ report ∷ behind → Stays (delivers_report c a (report ∷ behind))
  report_kept a low (Saved k section entries) behind first =
      beside (delivers_report c a (Saved k section entries ∷ behind)) (record { counts = λ b. refl; tasks = λ b. refl; ways = λ p q. refl }) (λ b. calls_again (call_way c b)) (reports_same a (Saved k section entries) behind first refl) (λ b. refl)
  report_kept a low (Count k counts) behind first = (_, come_watched st begun c turn before newest was a low k counts behind first)
  report_kept a low (Want k) behind first =
      beside (delivers_report c a (Want k ∷ behind)) (record { counts = λ b. refl; tasks = λ b. refl; ways = λ p q. refl }) (λ b. calls_again (call_way c b)) (reports_same a (Want k) behind first refl) (λ b. refl)

  pub event_watched : (event : Event) → MayDo st c event → ((base : BaseView) → event ≡ Recover base → ⊥) →
      StayWatched st (after_event st c event).coordinator.rounds.counting (after_event st c event).coordinator.begun (after_event st c event)
      (if puts_wave_out event then newest else before) (if puts_wave_out event then c.coordinator.begun else newest)
  event_watched (Admit a v) may other = admit_kept a may.0.machine v may
  event_watched (Grant a x) may other = grant_kept a may.0.machine x may
  event_watched (Send p q) may other =
      let first = may.2.first in
      let less : Machine = hands q may.2.behind (c.machine p) in
      let link : ℕ → ℕ → List Message = set_at c.link p (set_at (c.link p) q (c.link p q ++ may.2.message ∷ [])) in
      subst (λ (ms : List Message). Stays (sends_message c p q ms)) (sym first)
      (aside (sends_message c p q (may.2.message ∷ may.2.behind)) p less refl refl refl refl
      (λ p' q'. ap (λ (x : World). way x p' q') (one_machine st c p less link c.calls w.orders c.next c.left refl (λ b. refl)) ∙ sent-way w p q may.2.message may.2.behind first p' q')
      (λ b. calls_again (call_way c b))
      (λ b. set_at-holds (λ (b : ℕ) (x : Machine). counts_in (c.reports b ++ x.out) ≡ counts_in (report_way c b)) c.machine p less b refl (λ off. refl)))
  event_watched (SendCall a) may other =
      let first = may.1.first in
      subst (λ (calls : List Call). Stays (sends_call c a calls)) (sym first)
      (beside (sends_call c a (may.1.message ∷ may.1.behind)) (record { counts = λ b. refl; tasks = λ b. refl; ways = λ p q. refl })
      (λ b. calls_same (call_way c b) (call_way (sends_call c a (may.1.message ∷ may.1.behind)) b) (passed c.calls c.coordinator.out a may.1.message may.1.behind first b)) (λ b. refl) (λ b. refl))
  event_watched (SendReport a) may other =
      let first = may.1.first in
      let less : Machine = hands_report may.1.behind (c.machine a) in
      subst (λ (reports : List Report). Stays (sends_report c a reports)) (sym first)
      (aside (sends_report c a (may.1.message ∷ may.1.behind)) a less refl refl refl refl
      (λ p q. ap (λ (ms : List Message). c.link p q ++ ms) (set_at-kept (λ (x : Machine). x.part.out q) c.machine a less refl p))
      (λ b. calls_again (call_way c b))
      (λ b. ap counts_in (ap (λ (xs : List Report). set_at c.reports a (c.reports a ++ may.1.message ∷ []) b ++ xs) (read_at (λ (x : Machine). x.out) c.machine a less b) ∙ passed c.reports (λ b. (c.machine b).out) a may.1.message may.1.behind first b)))
  event_watched (Deliver p q) may other =
      subst (λ (ms : List Message). Stays (delivers_message st c p q ms)) (sym may.2.first) (took_kept q may.0.machine p may.1 may.2.message may.2.behind may.2.first)
  event_watched (DeliverCall a) may other =
      subst (λ (calls : List Call). Stays (delivers_call st c a calls)) (sym may.1.first) (called_kept a may.0.machine may.1.message may.1.behind may.1.first)
  event_watched (DeliverReport a) may other =
      subst (λ (reports : List Report). Stays (delivers_report c a reports)) (sym may.1.first) (report_kept a may.0 may.1.message may.1.behind may.1.first)
  event_watched (Update s) may other =
      let a : ℕ = s.home.0 in
      let v : ℕ = may.1.vertex in
      let entry : Entry = Go s.home (record { 0 = v }) c.next in
      let m : Machine = c.machine a in
      let done : Machine = works_on st a s v entry m in
      let m1 : Machine = makes_update st a s v entry m in
      let same = asked st c a done (asks_more st done) in
      let own = apart.owned s v (may.1.flight, may.1.ready) in
      subst (λ (flight : Option ℕ). Stays (makes st c s flight)) (sym may.1.flight)
      (alone a may.0.machine m1 (act.Update s) (suc c.next) (pred c.left) may.1 (ap (updates st w s) may.1.flight) same refl (counts_told (asks_more st done) (c.reports a) m.out (Want m.acknowledged) refl)
      (seen_busy st (begins_in (call_way c a)) m m1 (more_low m.sent (gained st m.part m1.part)) (le_refl m.received)
      (subst (λ (n : ℕ). length m.part.log ≤ n) (sym (length-append m.part.log (entry ∷ []))) (more_low (length m.part.log) 1))
      (λ none. absurd (both_ways (m.part.task v) (none v own.0) may.1.task))
      (λ idle. both_ways (m.part.task v) (idle_tasks st m.part idle v own.0) may.1.task))
      refl refl (updated_longer st a s v entry m.part))
  event_watched (Mark s) may other =
      let a : ℕ = s.home.0 in
      let v : ℕ = may.1.vertex in
      let m : Machine = c.machine a in
      let m1 : Machine = makes_mark st a s v m in
      let own = apart.owned s v (may.1.flight, may.1.ready) in
      subst (λ (flight : Option ℕ). Stays (saves st c s flight)) (sym may.1.flight)
      (alone a may.0.machine m1 (act.Mark s) c.next c.left may.1 (ap (marks st w s) may.1.flight) refl refl refl
      (seen_busy st (begins_in (call_way c a)) m m1 (more_low m.sent (gained st m.part m1.part)) (le_refl m.received) (le_refl (length m.part.log))
      (λ none. (none, refl))
      (λ idle. both_ways (m.part.pending v) (idle_pending st m.part idle v own.0) may.1.pending))
      refl refl (marked_longer st a s v m.part))
  event_watched (Section a) may other =
      let m : Machine = c.machine a in
      still a may.0.machine (sections m) c.calls refl refl refl refl
      (counts_pushed (c.reports a) m.out (Saved m.part.known m.part.saved m.before) ∙ append-nil (counts_in (report_way c a))) (λ b. calls_again (call_way c b))
  event_watched Record may other =
      beside (after_event st c Record) (record { counts = λ b. refl; tasks = λ b. refl; ways = λ p q. refl }) (came (Committed c.coordinator.begun) refl refl) (λ b. refl) (λ b. refl)
  event_watched PutBegin may other = (turn, begin_watched st begun c turn before newest was)
  event_watched PutStep may other =
      beside (after_event st c PutStep) (record { counts = λ b. refl; tasks = λ b. refl; ways = λ p q. refl }) (came (Step _) refl refl) (λ b. refl) (λ b. refl)
  event_watched PutWave may other = (_, wave_put_watched st begun c turn before newest was may.2.whole)
  event_watched (Fail a) may other =
      aside (after_event st c (Fail a)) a (fails (c.machine a)) refl refl refl refl
      (λ p q. ap (λ (ms : List Message). c.link p q ++ ms) (set_at-kept (λ (x : Machine). x.part.out q) c.machine a (fails (c.machine a)) refl p))
      (λ b. calls_again (call_way c b))
      (λ b. set_at-holds (λ (b : ℕ) (x : Machine). counts_in (c.reports b ++ x.out) ≡ counts_in (report_way c b)) c.machine a (fails (c.machine a)) b refl (λ off. refl))
  event_watched (Recover base) may other = absurd (other base refl)
  event_watched Stop may other = beside (after_event st c Stop) (record { counts = λ b. refl; tasks = λ b. refl; ways = λ p q. refl }) (λ b. calls_again (call_way c b)) (λ b. refl) (λ b. refl)
