-- From what the machine's own calls answer to what a cluster is promised.
use Rattle.std.proofs.Common.{Global, Vec, ◌≡◌, ◌↔◌, ℕ, ◌+◌, ◌/◌, ◌++◌, ◌||◌, if◌then◌else◌, Bool, true, false, true≢false, Option, None, Some, List, [], ◌∷◌, length, refl, sym, ap, ◌∙◌, subst}
use Rattle.std.specs.Prelude.{Result, Ok, Err, IfNone, IfSome, IsErrOf, OnErr, OnOk, option_map, slice_get}
use Rattle.std.specs.Result.{is_err}
use Rattle.gl_base.specs.declared.numbers.MachineNo.{MachineNo}
use Rattle.gl_base.specs.declared.numbers.Vertex.{Vertex}
use Rattle.gl_base.specs.declared.scopes.Peer.TheVariants as peer
use Rattle.gl_base.specs.declared.scopes.ScopeId.{ScopeId}
use Rattle.update_api.specs.Updates.{Update}
use Rattle.cluster_laws.specs.cluster_core.Actions.{MayMark, MayUpdate}
use Rattle.cluster_laws.specs.cluster_core.Messages.{Ask, Ready}
use Rattle.cluster_laws.specs.cluster_model.Machines.{is_idle}
use Rattle.machine_core.specs.declared.machine_parts.cores.Core.{Core}
use Rattle.machine_core.specs.machine_parts.Order.{IsOrderly}
use Rattle.machine_core.specs.machine_parts.Parts.{flight_at, machine_numbers}
use Rattle.machine_core.specs.machine_parts.Settings.{SameSettings}
use Rattle.machine_core.specs.machine_scopes.Asking.{AreMachinesFor, CanBecomeReady, HasReceivedMessage, IsNewAt}
use Rattle.machine_core.proofs.machine_scopes.LawLemmas.{some_number}
use Rattle.wire.specs.outboxes.Outboxes.{outbox_to, waiting_for, with_outbox, without_first}
use Rattle.snapshot_machines.specs.saving.Machines.{SnapMachineView}
use Rattle.snapshot_machines.specs.marking.Learning.{CanLearnNews}
use Rattle.snapshot_machines.specs.marking.Sending.{MayNotSendSection, MaySendSection}
use Rattle.coordinator.specs.machine_api.Deeds.{Section as SectionDeed}
use Rattle.coordinator.specs.machine_api.Promises.{HasDone, HasReceived, MayBeDone, MayReceiveFirst, OfEach, SendsItsFirst, StandsStill}
use Rattle.coordinator.specs.snap_update.Snaps.{IsSameButRoom, asked_behind, own_section, with_asking, with_section}
use Rattle.snapshot_machines.specs.wave_counts.Counts.{HasAnsweredWave, answer_to, one_more}
use Rattle.snapshot_machines.specs.declared.wave_counts.answers.WaveAnswer.{WaveAnswer}
use Rattle.wire.specs.wire_msgs.Views.{SectionView, message_view}
use Rattle.wire.specs.wire_msgs.Views as wire
use Rattle.wire.specs.declared.wire_msgs.messages.Done as word
use Rattle.wire.specs.declared.wire_msgs.messages.Message as message
use Rattle.wire.specs.declared.wire_msgs.messages.Message.TheVariants as sent
use Rattle.snapshot_machines.specs.locking.Reports.{ReportsView, with_report}
use Rattle.snapshot_machines.specs.locking.Asking.{HasToldCounts, HasWanted, asked_in, has_to_ask_in, with_asking_in, with_wish}
use Rattle.snapshot_machines.specs.locking.Machines.{CountsView, IsPartOf, IsLockingMachineOf, LockingMachineView, Setting, part_of}
use Rattle.snapshot_machines.proofs.locking.StandLemmas.{reports_stand}
use Rattle.snapshot_machines.proofs.locking.ScopeLemmas.{to_now}
use Rattle.snapshot_machines.proofs.locking.MarkLemmas.{can_not_send, can_send, section_sent}
use Rattle.snapshot_machines.proofs.locking.ReceiveLemmas.{ask_new, ask_received, done_learned, ready_home, ready_received, received_more}
use Rattle.snapshot_machines.proofs.locking.ReadLemmas.{message_taken, messages_still}

-- ---- answers

pub on_ok : {X E : Type 0} (r : Result X E) (A B C D : Type 0) → OnOk r A → OnOk r B → OnOk r C → (A → B → C → D) → OnOk r D
on_ok (Ok x) A B C D a b c make = make a b c
on_ok (Err e) A B C D a b c make = tt

pub on_err : {X E : Type 0} (r : Result X E) (A B C D : Type 0) → OnErr r A → OnErr r B → OnErr r C → (A → B → C → D) → OnErr r D
on_err (Ok x) A B C D a b c make = tt
on_err (Err e) A B C D a b c make = make a b c

pub if_some : {X : Type 0} (o : Option X) (A B : X → Type 0) → IfSome o A → ((x : X) → A x → B x) → IfSome o B
if_some None A B a make = tt
if_some (Some x) A B a make = make x a

pub if_some_both : {X : Type 0} (o : Option X) (A B C : X → Type 0) → IfSome o A → IfSome o B → ((x : X) → A x → B x → C x) → IfSome o C
if_some_both None A B C a b make = tt
if_some_both (Some x) A B C a b make = make x a b

pub if_none : {X : Type 0} (o : Option X) (A B : Type 0) → IfNone o A → (A → B) → IfNone o B
if_none None A B a make = make a
if_none (Some x) A B a make = tt

-- what was taken is the first
pub taken_some : {X Y : Type 0} (view : X → Y) (o : Option X) (ys : List Y) (C : X → Type 0) → option_map view o ≡ slice_get ys 0 → ((x : X) → Some (view x) ≡ slice_get ys 0 → C x) → IfSome o C
taken_some view None ys C is make = tt
taken_some view (Some x) ys C is make = make x is

pub taken_none : {X Y : Type 0} (view : X → Y) (o : Option X) (ys : List Y) (C : Type 0) → option_map view o ≡ slice_get ys 0 → (None ≡ slice_get ys 0 → C) → IfNone o C
taken_none view None ys C is make = make is
taken_none view (Some x) ys C is make = tt

pub error_is : {X E : Type 0} (e x : E) → IsErrOf {T = X} (Err e) x → e ≡ x
error_is e x is = cc

-- the same error of another call
pub other_err : {X Y E : Type 0} (e x : E) → IsErrOf {T = X} (Err e) x → IsErrOf {T = Y} (Err e) x
other_err {X} {Y} {E} e x is = subst (λ (z : E). IsErrOf {T = Y} (Err e) z) (error_is {X = X} e x is) refl

-- there is room where no error came
pub room_made : {X E : Type 0} (r : Result X E) (A : Type 0) → is_err r ≡ false → OnOk r A → A
room_made (Ok x) A is a = a
room_made (Err e) A is a = absurd (true≢false is)

-- ---- scopes of this home

pub update_home : (m : Core) (s : ScopeId) → IsOrderly m → MayUpdate s (part_of m) 1 → s.home ≡ m.numbers.local.me
update_home m s orderly may = (orderly.flights.given s (record { 0 = may.vertex }) (some_number (flight_at m.pipe s) may.vertex may.flight)).0 ∙ orderly.flights.home

pub mark_home : (m : Core) (s : ScopeId) → IsOrderly m → MayMark s (part_of m) → s.home ≡ m.numbers.local.me
mark_home m s orderly may = (orderly.flights.given s (record { 0 = may.vertex }) (some_number (flight_at m.pipe s) may.vertex may.flight)).0 ∙ orderly.flights.home

-- ---- what is asked for

or_false : (b : Bool) → b ≡ (b || false)
or_false true = refl
or_false false = refl

-- without a window nothing is
pub asked_never : {P : Type 0} (x : LockingMachineView P) → None ≡ x.window → HasWanted x x
asked_never x none =
    let never : false ≡ has_to_ask_in x.window x.machine.kept = ap (λ (o : Option ℕ). has_to_ask_in o x.machine.kept) none in
    let same : x.machine.kept.wanted ≡ (x.machine.kept.wanted || false) = or_false x.machine.kept.wanted in
    λ i. record x {
      machine = record x.machine { kept = record x.machine.kept { wanted = (same ∙ ap (λ (b : Bool). x.machine.kept.wanted || b) never) i } };
      reports = ap (λ (b : Bool). with_wish (if b then Some x.machine.kept.acknowledged else None) x.reports) never i;
    }

module _ {P : Type 0} (x : LockingMachineView P) (window : ℕ) (some_window : Some window ≡ x.window) (now : SnapMachineView P) (kept_now : now.kept ≡ with_asking ((window + 1) / 2) x.machine.kept) (core : now.core ≡ x.machine.core) (program : now.program ≡ x.machine.program) where
  kept : now.kept ≡ with_asking_in x.window x.machine.kept
  kept = kept_now ∙ ap (λ (o : Option ℕ). with_asking_in o x.machine.kept) some_window

  abbrev wish : Option ℕ
  wish = asked_behind ((window + 1) / 2) x.machine.kept

  wished : wish ≡ asked_in x.window x.machine.kept
  wished = ap (λ (o : Option ℕ). asked_in o x.machine.kept) some_window

  pub asked_some : (k : ℕ) (reports : ReportsView) → Some k ≡ wish → reports ≡ with_report (wire.Want k) x.reports → HasWanted x (record x { machine = now; reports = reports })
  asked_some k reports one told =
      let some : Some k ≡ asked_in x.window x.machine.kept = one ∙ wished in
      λ i. record x { machine = record { core = core i; kept = kept i; program = program i }; reports = (told ∙ ap (λ (o : Option ℕ). with_wish o x.reports) some) i }

  pub asked_none : None ≡ wish → HasWanted x (record x { machine = now })
  asked_none none = λ i. record x { machine = record { core = core i; kept = kept i; program = program i }; reports = ap (λ (o : Option ℕ). with_wish o x.reports) (none ∙ wished) i }

-- ---- a wave

same_some : {X : Type 0} (x y : X) → Some x ≡ Some y → x ≡ y
same_some x y is = cc

none_some : {X : Type 0} (x : X) → None ≡ Some x → ⊥
none_some x is = cc

module _ {P : Type 0} (x : LockingMachineView P) (held counts : CountsView) (wave sent_count updates : ℕ) (idle : Bool) (result : Option WaveAnswer) (holds : held ≡ record x.counts { held = Some wave }) (answers : HasAnsweredWave held counts true sent_count updates idle result)
    (made : updates ≡ length x.machine.core.numbers.log.items) (rests : (st : Setting) → IsPartOf st x.machine.core → idle ≡ is_idle st (part_of x.machine.core)) where
  abbrev told_answer : WaveAnswer
  told_answer = record { wave = wave; counted = record { sent = sent_count; received = x.counts.received; updates = length x.machine.core.numbers.log.items; idle = idle } }

  result_is : result ≡ Some told_answer
  result_is =
      answers.told ∙ ap (λ (w : CountsView). answer_to w sent_count updates idle w.held) holds
      ∙ ap (λ (n : ℕ). Some (record { wave = wave; counted = record { sent = sent_count; received = x.counts.received; updates = n; idle = idle } })) made

  counts_is : counts ≡ record x.counts { held = None }
  counts_is = answers.rest ∙ ap (λ (w : CountsView). record w { held = None }) holds

  pub wave_answered : (answer : WaveAnswer) (reports : ReportsView) → result ≡ Some answer → reports ≡ with_report (wire.Count answer.wave answer.counted) x.reports → HasToldCounts x (record x { counts = counts; reports = reports }) wave sent_count
  wave_answered answer reports some told =
      let same : answer ≡ told_answer = same_some answer told_answer (sym some ∙ result_is) in
      record {
        idle = idle;
        rests = rests;
        after = λ i. record x { counts = counts_is i; reports = (told ∙ ap (λ (w : WaveAnswer). with_report (wire.Count w.wave w.counted) x.reports) same) i };
      }

  pub wave_unanswered : result ≡ None → ⊥
  wave_unanswered none = none_some told_answer (sym none ∙ result_is)

-- ---- the same machine

pub machine_stands : {P : Type 0} (meaning : P → Update) (x : LockingMachineView P) (now : SnapMachineView P) (reports : ReportsView) → now ≡ x.machine → reports.messages ≡ x.reports.messages → StandsStill (IsLockingMachineOf meaning) x (record x { machine = now; reports = reports })
machine_stands {P} meaning x now reports same told = subst (λ (m : SnapMachineView P). StandsStill (IsLockingMachineOf meaning) x (record x { machine = m; reports = reports })) (sym same) (reports_stand meaning x reports told)

-- ---- sections

module _ {P : Type 0} (meaning : P → Update) (x : LockingMachineView P) (seen now : SnapMachineView P) (same : seen ≡ x.machine) where
  pub section_may : MaySendSection seen.core seen.kept → MaySendSection x.machine.core x.machine.kept
  section_may may = subst (λ (m : SnapMachineView P). MaySendSection m.core m.kept) same may

  pub section_may_not : MayNotSendSection seen.core seen.kept → MayNotSendSection x.machine.core x.machine.kept
  section_may_not not = subst (λ (m : SnapMachineView P). MayNotSendSection m.core m.kept) same not

  module _ (core : now.core ≡ seen.core) (program : now.program ≡ seen.program) where
    pub section_now : (roomy told : ReportsView) (section : SectionView) → MaySendSection seen.core seen.kept → IsSameButRoom (with_section seen.kept) now.kept → section ≡ own_section seen.kept → roomy.messages ≡ x.reports.messages
        → told ≡ with_report (wire.Section section) roomy → HasDone (IsLockingMachineOf meaning) x SectionDeed (record x { machine = now; reports = told })
    section_now roomy told section may after saved room put =
        let sent_one = subst (λ (m : SnapMachineView P). IsSameButRoom (with_section m.kept) now.kept) same after in
        let messages : told.messages ≡ x.reports.messages ++ wire.Section (own_section x.machine.kept) ∷ [] =
        ap (λ (r : ReportsView). r.messages) put
        ∙ (λ i. room i ++ wire.Section ((saved ∙ ap (λ (m : SnapMachineView P). own_section m.kept) same) i) ∷ []) in
        subst (HasDone (IsLockingMachineOf meaning) x SectionDeed) (λ i. record x {
          machine = record { core = sym (core ∙ ap (λ (m : SnapMachineView P). m.core) same) i; kept = now.kept; program = sym (program ∙ ap (λ (m : SnapMachineView P). m.program) same) i };
          reports = told;
        })
        (section_sent meaning x now.kept told (section_may may) sent_one messages)

    pub section_back : (roomy : ReportsView) → now.kept ≡ seen.kept → roomy.messages ≡ x.reports.messages → StandsStill (IsLockingMachineOf meaning) x (record x { machine = now; reports = roomy })
    section_back roomy kept room = machine_stands meaning x now roomy ((λ i. record { core = core i; kept = kept i; program = program i }) ∙ same) room

  pub section_due : (b : Bool) → (b ≡ true → MaySendSection x.machine.core x.machine.kept) → (b ≡ false → MayNotSendSection x.machine.core x.machine.kept) → OfEach (IsLockingMachineOf meaning) x (λ st a m. (b ≡ true) ↔ MayBeDone st a m SectionDeed)
  section_due true can cannot st a m snap is = (λ due. can_send meaning x (can refl) st a m snap is, λ may. refl)
  section_due false can cannot st a m snap is = (λ due. absurd (true≢false (sym due)), λ may. absurd (can_not_send meaning x (cannot refl) st a m snap is may))

-- ---- what comes from other machines

module _ {P : Type 0} (meaning : P → Update) (x y : LockingMachineView P) (seen : x ≡ y) (p : ℕ) (orderly : IsOrderly x.machine.core) where
  pub ask_can : (s : ScopeId) (centre : Vertex) (rest : Vec MachineNo Global) → MayReceiveFirst (IsLockingMachineOf meaning) y p (sent.Ask s centre rest) → IsNewAt x.machine.core s centre × AreMachinesFor x.machine.core s rest.items
  ask_can s centre rest may = ask_new meaning x p orderly s centre rest (subst (λ (z : LockingMachineView P). MayReceiveFirst (IsLockingMachineOf meaning) z p (sent.Ask s centre rest)) (sym seen) may)

  pub ready_can : (s : ScopeId) → MayReceiveFirst (IsLockingMachineOf meaning) y p (sent.Ready s) → CanBecomeReady x.machine.core s
  ready_can s may = ready_home meaning x p orderly s (subst (λ (z : LockingMachineView P). MayReceiveFirst (IsLockingMachineOf meaning) z p (sent.Ready s)) (sym seen) may)

  pub done_can : (done : word.Done) → MayReceiveFirst (IsLockingMachineOf meaning) y p (sent.Done done) → CanLearnNews x.machine.core done
  done_can done may = done_learned meaning x p orderly done (subst (λ (z : LockingMachineView P). MayReceiveFirst (IsLockingMachineOf meaning) z p (sent.Done done)) (sym seen) may)

module _ {P : Type 0} (meaning : P → Update) (x : LockingMachineView P) (now : SnapMachineView P) (counts : CountsView) (kept : now.kept ≡ x.machine.kept) (program : now.program ≡ x.machine.program) (settings : SameSettings x.machine.core now.core)
    (numbers : now.core.numbers ≡ x.machine.core.numbers) (counted : counts ≡ record x.counts { received = one_more x.counts.received }) (p : ℕ) where
  pub ask_now : (s : ScopeId) (centre : Vertex) (rest : Vec MachineNo Global) → HasReceivedMessage x.machine.core now.core (Ask s centre.0 (machine_numbers rest.items)) → HasReceived (IsLockingMachineOf meaning) x p (sent.Ask s centre rest) (record x { machine = now; counts = counts })
  ask_now s centre rest has =
      subst (λ (k : CountsView). HasReceived (IsLockingMachineOf meaning) x p (sent.Ask s centre rest) (record x { machine = now; counts = k })) (sym counted)
      (to_now x now kept program (received_more meaning x) (HasReceived (IsLockingMachineOf meaning) x p (sent.Ask s centre rest)) (ask_received meaning x now.core numbers settings p s centre rest has))

  pub ready_now : (s : ScopeId) → HasReceivedMessage x.machine.core now.core (Ready s) → HasReceived (IsLockingMachineOf meaning) x p (sent.Ready s) (record x { machine = now; counts = counts })
  ready_now s has =
      subst (λ (k : CountsView). HasReceived (IsLockingMachineOf meaning) x p (sent.Ready s) (record x { machine = now; counts = k })) (sym counted)
      (to_now x now kept program (received_more meaning x) (HasReceived (IsLockingMachineOf meaning) x p (sent.Ready s)) (ready_received meaning x now.core numbers settings p s has))

-- ---- what is sent

module _ {P : Type 0} (meaning : P → Update) (x : LockingMachineView P) (to : MachineNo) (now : SnapMachineView P)
    (core : now.core ≡ record x.machine.core { out = with_outbox x.machine.core.out (peer.Machine to) (without_first (outbox_to x.machine.core.out (peer.Machine to))) }) (kept : now.kept ≡ x.machine.kept) (program : now.program ≡ x.machine.program) where
  machine_is : record x.machine { core = record x.machine.core { out = with_outbox x.machine.core.out (peer.Machine to) (without_first (outbox_to x.machine.core.out (peer.Machine to))) } } ≡ now
  machine_is = λ i. record { core = sym core i; kept = sym kept i; program = sym program i }

  pub message_now : (counts : CountsView) (one : message.Message) → SameSettings x.machine.core now.core → counts ≡ record x.counts { sent = one_more x.counts.sent } → Some (message_view one) ≡ slice_get (waiting_for x.machine.core.out (peer.Machine to)) 0
      → OfEach (IsLockingMachineOf meaning) x (SendsItsFirst (IsLockingMachineOf meaning) to.0 one (record x { machine = now; counts = counts }))
  message_now counts one settings counted first =
      subst (λ (k : CountsView). OfEach (IsLockingMachineOf meaning) x (SendsItsFirst (IsLockingMachineOf meaning) to.0 one (record x { machine = now; counts = k }))) (sym counted)
      (subst (λ (m : SnapMachineView P). OfEach (IsLockingMachineOf meaning) x (SendsItsFirst (IsLockingMachineOf meaning) to.0 one (record x { machine = m; counts = record x.counts { sent = one_more x.counts.sent } }))) machine_is
      (message_taken meaning x to (with_outbox x.machine.core.out (peer.Machine to) (without_first (outbox_to x.machine.core.out (peer.Machine to)))) refl one first (subst (SameSettings x.machine.core) core settings)))

  pub message_back : None ≡ slice_get (waiting_for x.machine.core.out (peer.Machine to)) 0 → StandsStill (IsLockingMachineOf meaning) x (record x { machine = now })
  message_back none =
      subst (λ (m : SnapMachineView P). StandsStill (IsLockingMachineOf meaning) x (record x { machine = m })) machine_is
      (messages_still meaning x to (with_outbox x.machine.core.out (peer.Machine to) (without_first (outbox_to x.machine.core.out (peer.Machine to)))) refl none)
