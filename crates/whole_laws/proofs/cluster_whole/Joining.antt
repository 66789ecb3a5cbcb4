-- Each event but a recovery is an action of the core, or none, and may turn a machine to the next step.
use Rattle.std.proofs.Common.{◌≡◌, ℕ, suc, pred, Bool, ◌&&◌, is_some, None, Option, Some, List, [], ◌∷◌, ◌++◌, inl, inr, refl, sym, ◌∙◌, ap, subst, append-nil}
use Rattle.gl_base.specs.declared.entries.Entry.{Entry}
use Rattle.gl_base.specs.declared.entries.Entry.TheVariants.{Go}
use Rattle.cluster_laws.specs.cluster_core.Actions.{Action, HasFirst, HasOrder, HasSection, MayHappen, after, begins_one, collects, delivers, draws, hears, marks, records, sends, sends_section, updates}
use Rattle.cluster_laws.specs.cluster_core.Messages as core
use Rattle.cluster_laws.specs.cluster_core.Messages.{Message}
use Rattle.cluster_laws.specs.cluster_core.Parts.{Part}
use Rattle.cluster_laws.specs.cluster_core.Ranges.{set_at}
use Rattle.cluster_laws.specs.cluster_core.Settings.{Setting}
use Rattle.cluster_laws.specs.cluster_core.Worlds.{World, with_part}
use Rattle.cluster_laws.specs.cluster_core.Actions as act
use Rattle.cluster_laws.proofs.cluster_core.Basics.{set_at-holds, set_at-kept, set_at-other, set_at-same}
use Rattle.cluster_laws.specs.cluster_model.Calls.{Begin, Call, Committed, Count, Report, Saved, Step, Want, Wave, begins_in, sections_in}
use Rattle.cluster_laws.specs.cluster_model.Clusters.{BaseView, Cluster, call_way, report_way, with_machine}
use Rattle.cluster_laws.specs.cluster_model.Events.{Event, Admit, DeliverCall, DeliverReport, Deliver, Fail, Grant, Mark, MayDo, PutBegin, PutStep, PutWave, Record, Recover, Section, Send, SendCall, SendReport, Stop, Update, after_event, delivers_call, delivers_message, delivers_report, makes, saves, sends_call, sends_message, sends_report}
use Rattle.cluster_laws.specs.cluster_model.Rounds.{with_step}
use Rattle.cluster_laws.specs.cluster_model.Leading.{Come}
use Rattle.cluster_laws.specs.cluster_model.Machines.{Machine, count_of}
use Rattle.cluster_laws.specs.cluster_model.Working.{admits, asks_if, asks_more, commits, fails, grants, hands, hands_report, is_done, makes_mark, makes_update, or_zero, prompt, receives, sections, takes_call, works_on}
use Rattle.whole_laws.specs.cluster_whole.Views.{IsMove, IsTurned, section_of, world_of}
use Rattle.whole_laws.proofs.cluster_whole.Pieces.{begins-append, begins_pushed, passed, read_at, sections-append, sections_pushed, sections_told, set_twice}

acts : (st : Setting) (old new : World) (action : Action) → MayHappen st old action → new ≡ after st old action → IsMove st old new
acts st old new action may is = (new, inr (action, (may, is)), inl refl)

stays : (st : Setting) (old new : World) → new ≡ old → IsMove st old new
stays st old new is = (new, inl is, inl refl)

-- an action that leaves machine a with this part, and then the machine turns
acts_turns : (st : Setting) (old new : World) (action : Action) (a : ℕ) (part turned : Part) → MayHappen st old action → (after st old action).part a ≡ part → IsTurned part turned → new ≡ with_part (after st old action) a turned → IsMove st old new
acts_turns st old new action a part turned may at turns is =
    (after st old action, inr (action, (may, refl)), inr (a, turned, subst (λ (p : Part). IsTurned p turned) (sym at) turns, is))

turns_alone : (st : Setting) (old new : World) (a : ℕ) (turned : Part) → IsTurned (old.part a) turned → new ≡ with_part old a turned → IsMove st old new
turns_alone st old new a turned turns is = (old, inl refl, inr (a, turned, turns, is))

module _ (st : Setting) (c : Cluster) where
  -- a machine, links and tickets change, and what goes to and from the coordinator stays as it was
  abbrev pub changed : ℕ → Machine → (ℕ → ℕ → List Message) → (ℕ → List Call) → ℕ → ℕ → Cluster
  changed a new link calls next left =
      record {
        machine = set_at c.machine a new;
        link = link;
        calls = calls;
        reports = c.reports;
        coordinator = c.coordinator;
        next = next;
        left = left;
        base = c.base;
        stopped = c.stopped;
      }

  -- the same, in the core
  abbrev pub changed_world : ℕ → Part → (ℕ → ℕ → List Message) → (ℕ → List ℕ) → ℕ → ℕ → World
  changed_world a part link orders next left =
      let w : World = world_of c in
      record {
        part = set_at w.part a part;
        link = link;
        next = next;
        left = left;
        begun = w.begun;
        acknowledged = w.acknowledged;
        orders = orders;
        reports = w.reports;
        collected = w.collected;
      }

  sections_kept : (a : ℕ) (new : Machine) → sections_in (c.reports a ++ new.out) ≡ sections_in (c.reports a ++ (c.machine a).out) →
      (b : ℕ) → sections_in (c.reports b ++ (set_at c.machine a new b).out) ≡ sections_in (c.reports b ++ (c.machine b).out)
  sections_kept a new same b =
      set_at-holds (λ (b : ℕ) (m : Machine). sections_in (c.reports b ++ m.out) ≡ sections_in (c.reports b ++ (c.machine b).out)) c.machine a new b same (λ off. refl)

  pub one_machine : (a : ℕ) (new : Machine) (link : ℕ → ℕ → List Message) (calls : ℕ → List Call) (orders : ℕ → List ℕ) (next left : ℕ) →
      sections_in (c.reports a ++ new.out) ≡ sections_in (c.reports a ++ (c.machine a).out) →
      ((b : ℕ) → begins_in (calls b ++ c.coordinator.out b) ≡ orders b) →
      world_of (changed a new link calls next left) ≡ changed_world a new.part link orders next left
  one_machine a new link calls orders next left same heard =
      λ i. record {
        part = λ b. read_at (λ (m : Machine). m.part) c.machine a new b i;
        link = link;
        next = next;
        left = left;
        begun = c.coordinator.begun;
        acknowledged = c.coordinator.acknowledged;
        orders = λ b. heard b i;
        reports = λ b. sections_kept a new same b i;
        collected = λ b. section_of (c.coordinator.come b);
      }

  -- an action that makes `part` of machine a's, and then the machine turns: both at once
  twice_world : (a : ℕ) (part turned : Part) (link : ℕ → ℕ → List Message) (orders : ℕ → List ℕ) (next left : ℕ) →
      changed_world a turned link orders next left ≡ with_part (changed_world a part link orders next left) a turned
  twice_world a part turned link orders next left =
      λ i. record {
        part = λ b. sym (set_twice (world_of c).part a part turned b) i;
        link = link;
        next = next;
        left = left;
        begun = c.coordinator.begun;
        acknowledged = c.coordinator.acknowledged;
        orders = orders;
        reports = λ b. sections_in (report_way c b);
        collected = λ b. section_of (c.coordinator.come b);
      }

  -- a machine does something, and then answers where it may
  works : (a : ℕ) (m : Machine) (action : Action) (link : ℕ → ℕ → List Message) (calls : ℕ → List Call) (orders : ℕ → List ℕ) (next left : ℕ) →
      MayHappen st (world_of c) action → after st (world_of c) action ≡ changed_world a m.part link orders next left →
      sections_in (c.reports a ++ m.out) ≡ sections_in (c.reports a ++ (c.machine a).out) →
      ((b : ℕ) → begins_in (calls b ++ c.coordinator.out b) ≡ orders b) →
      IsMove st (world_of c) (world_of (changed a (prompt st a m) link calls next left))
  works a m action link calls orders next left may is same heard =
      let new : Machine = prompt st a m in
      let told : sections_in (c.reports a ++ new.out) ≡ sections_in (c.reports a ++ m.out) =
      sections_told (is_some m.held && is_done st.engine st a m) (c.reports a) m.out (Count (or_zero m.held) (count_of st m)) refl in
      acts_turns st (world_of c) (world_of (changed a new link calls next left)) action a m.part new.part may
      (ap (λ (w : World). w.part a) is ∙ set_at-same (world_of c).part a m.part)
      refl
      (one_machine a new link calls orders next left (told ∙ same) heard ∙ twice_world a m.part new.part link orders next left ∙ ap (λ (w : World). with_part w a new.part) (sym is))

  -- a machine turns, and then answers where it may
  turned : (a : ℕ) (m : Machine) (calls : ℕ → List Call) → IsTurned (c.machine a).part m.part →
      sections_in (c.reports a ++ m.out) ≡ sections_in (c.reports a ++ (c.machine a).out) →
      ((b : ℕ) → begins_in (calls b ++ c.coordinator.out b) ≡ begins_in (call_way c b)) →
      IsMove st (world_of c) (world_of (changed a (prompt st a m) c.link calls c.next c.left))
  turned a m calls turns same heard =
      let new : Machine = prompt st a m in
      let told : sections_in (c.reports a ++ new.out) ≡ sections_in (c.reports a ++ m.out) =
      sections_told (is_some m.held && is_done st.engine st a m) (c.reports a) m.out (Count (or_zero m.held) (count_of st m)) refl in
      turns_alone st (world_of c) (world_of (changed a new c.link calls c.next c.left)) a new.part
      (λ i. record (turns i) { closed = new.part.closed })
      (one_machine a new c.link calls (world_of c).orders c.next c.left (told ∙ same) heard)

  -- the core doesn't see what changed of the machine
  unseen : (a : ℕ) (new : Machine) → new.part ≡ (c.machine a).part → sections_in (c.reports a ++ new.out) ≡ sections_in (c.reports a ++ (c.machine a).out) →
      world_of (with_machine c a new) ≡ world_of c
  unseen a new part same =
      λ i. record {
        part = λ b. set_at-kept (λ (m : Machine). m.part) c.machine a new part b i;
        link = c.link;
        next = c.next;
        left = c.left;
        begun = c.coordinator.begun;
        acknowledged = c.coordinator.acknowledged;
        orders = (world_of c).orders;
        reports = λ b. sections_kept a new same b i;
        collected = (world_of c).collected;
      }

  -- asking for a snapshot is no section
  pub asked : (a : ℕ) (m : Machine) (test : Bool) → sections_in (c.reports a ++ (asks_if test m).out) ≡ sections_in (c.reports a ++ m.out)
  asked a m test = sections_told test (c.reports a) m.out (Want m.acknowledged) refl

  -- the first call is gone
  pub call_gone : (a : ℕ) (call : Call) (behind : List Call) → c.calls a ≡ call ∷ behind → begins_in (call ∷ []) ≡ [] → (b : ℕ) →
      begins_in (set_at c.calls a behind b ++ c.coordinator.out b) ≡ begins_in (call_way c b)
  call_gone a call behind first none b =
      set_at-holds (λ (b : ℕ) (xs : List Call). begins_in (xs ++ c.coordinator.out b) ≡ begins_in (call_way c b)) c.calls a behind b
      (sym (ap (λ (xs : List Call). begins_in (xs ++ c.coordinator.out a)) first ∙ begins-append (call ∷ []) (behind ++ c.coordinator.out a) ∙ ap (λ (ks : List ℕ). ks ++ begins_in (behind ++ c.coordinator.out a)) none))
      (λ off. refl)

  pub begin_gone : (a k : ℕ) (behind : List Call) (b : ℕ) →
      begins_in (set_at c.calls a behind b ++ c.coordinator.out b) ≡ set_at (world_of c).orders a (begins_in (behind ++ c.coordinator.out a)) b
  begin_gone a k behind b =
      let rest : List ℕ = begins_in (behind ++ c.coordinator.out a) in
      set_at-holds (λ (b : ℕ) (xs : List Call). begins_in (xs ++ c.coordinator.out b) ≡ set_at (world_of c).orders a rest b) c.calls a behind b
      (sym (set_at-same (world_of c).orders a rest))
      (λ off. sym (set_at-other (world_of c).orders a rest b off))

  -- a call comes
  call_leads : (a : ℕ) (call : Call) (behind : List Call) → c.calls a ≡ call ∷ behind → IsMove st (world_of c) (world_of (delivers_call st c a (call ∷ behind)))
  call_leads a (Begin k) behind first =
      let rest : List ℕ = begins_in (behind ++ c.coordinator.out a) in
      let orders_are : (world_of c).orders a ≡ k ∷ rest = ap (λ (xs : List Call). begins_in (xs ++ c.coordinator.out a)) first in
      works a (takes_call st a (Begin k) (c.machine a)) (act.Hear a) c.link (set_at c.calls a behind) (set_at (world_of c).orders a rest) c.next c.left
      (record { number = k; behind = rest; first = orders_are })
      (ap (hears st (world_of c) a) orders_are)
      refl (begin_gone a k behind)
  call_leads a (Committed k) behind first =
      turned a (takes_call st a (Committed k) (c.machine a)) (set_at c.calls a behind) refl (asked a (commits k (c.machine a)) (asks_more st (commits k (c.machine a)))) (call_gone a (Committed k) behind first refl)
  call_leads a (Wave k) behind first =
      turned a (takes_call st a (Wave k) (c.machine a)) (set_at c.calls a behind) refl refl (call_gone a (Wave k) behind first refl)
  call_leads a (Step colour) behind first =
      turned a (takes_call st a (Step colour) (c.machine a)) (set_at c.calls a behind) refl refl (call_gone a (Step colour) behind first refl)

  -- the core where what goes to and from the coordinator changed
  abbrev told_world : (ℕ → List ℕ) → (ℕ → List core.Section) → (ℕ → Option core.Section) → World
  told_world orders reports collected =
      record {
        part = λ a. (c.machine a).part;
        link = c.link;
        next = c.next;
        left = c.left;
        begun = c.coordinator.begun;
        acknowledged = c.coordinator.acknowledged;
        orders = orders;
        reports = reports;
        collected = collected;
      }

  -- the first report is gone
  report_gone : (a : ℕ) (report : Report) (behind : List Report) → c.reports a ≡ report ∷ behind → sections_in (report ∷ []) ≡ [] → (b : ℕ) →
      sections_in (set_at c.reports a behind b ++ (c.machine b).out) ≡ sections_in (report_way c b)
  report_gone a report behind first none b =
      set_at-holds (λ (b : ℕ) (xs : List Report). sections_in (xs ++ (c.machine b).out) ≡ sections_in (report_way c b)) c.reports a behind b
      (sym (ap (λ (xs : List Report). sections_in (xs ++ (c.machine a).out)) first ∙ sections-append (report ∷ []) (behind ++ (c.machine a).out) ∙ ap (λ (ss : List core.Section). ss ++ sections_in (behind ++ (c.machine a).out)) none))
      (λ off. refl)

  report_leads : (a : ℕ) (report : Report) (behind : List Report) → c.reports a ≡ report ∷ behind → IsMove st (world_of c) (world_of (delivers_report c a (report ∷ behind)))
  report_leads a (Saved k section entries) behind first =
      let rest : List core.Section = sections_in (behind ++ (c.machine a).out) in
      let reports_are : (world_of c).reports a ≡ section ∷ rest = ap (λ (xs : List Report). sections_in (xs ++ (c.machine a).out)) first in
      let come : Come = record { section = section; entries = entries } in
      acts st (world_of c) (world_of (delivers_report c a (Saved k section entries ∷ behind))) (act.Collect a)
      (record { section = section; behind = rest; first = reports_are })
      ((λ i. told_world (world_of c).orders
      (λ b. set_at-holds (λ (b : ℕ) (xs : List Report). sections_in (xs ++ (c.machine b).out) ≡ set_at (world_of c).reports a rest b) c.reports a behind b
      (sym (set_at-same (world_of c).reports a rest)) (λ off. sym (set_at-other (world_of c).reports a rest b off)) i)
      (λ b. read_at section_of c.coordinator.come a (Some come) b i))
      ∙ sym (ap (collects (world_of c) a) reports_are))
  report_leads a (Count k counts) behind first =
      stays st (world_of c) (world_of (delivers_report c a (Count k counts ∷ behind)))
      (λ i. told_world (world_of c).orders (λ b. report_gone a (Count k counts) behind first refl b i) (world_of c).collected)
  report_leads a (Want k) behind first =
      stays st (world_of c) (world_of (delivers_report c a (Want k ∷ behind)))
      (λ i. told_world (world_of c).orders (λ b. report_gone a (Want k) behind first refl b i) (world_of c).collected)

  -- the coordinator tells all machines something that is no new snapshot
  call_pushed : (call : Call) → begins_in (call ∷ []) ≡ [] → (b : ℕ) → begins_in (c.calls b ++ (c.coordinator.out b ++ call ∷ [])) ≡ begins_in (call_way c b)
  call_pushed call none b =
      begins_pushed (c.calls b) (c.coordinator.out b) call ∙ ap (λ (ks : List ℕ). begins_in (call_way c b) ++ ks) none ∙ append-nil (begins_in (call_way c b))

  sent_call : (a : ℕ) (call : Call) (behind : List Call) → c.coordinator.out a ≡ call ∷ behind → world_of (sends_call c a (call ∷ behind)) ≡ world_of c
  sent_call a call behind first =
      λ i. told_world (λ b. begins_in (passed c.calls c.coordinator.out a call behind first b i)) (world_of c).reports (world_of c).collected

  sent_report : (a : ℕ) (report : Report) (behind : List Report) → (c.machine a).out ≡ report ∷ behind → world_of (sends_report c a (report ∷ behind)) ≡ world_of c
  sent_report a report behind first =
      let less : Machine = hands_report behind (c.machine a) in
      λ i. record {
        part = λ b. set_at-kept (λ (m : Machine). m.part) c.machine a less refl b i;
        link = c.link;
        next = c.next;
        left = c.left;
        begun = c.coordinator.begun;
        acknowledged = c.coordinator.acknowledged;
        orders = (world_of c).orders;
        reports = λ b. sections_in ((ap (λ (xs : List Report). set_at c.reports a (c.reports a ++ report ∷ []) b ++ xs) (read_at (λ (m : Machine). m.out) c.machine a less b) ∙ passed c.reports (λ b. (c.machine b).out) a report behind first b) i);
        collected = (world_of c).collected;
      }

  -- a machine's section
  section_leads : (a : ℕ) → MayHappen st (world_of c) (act.SendSection a) → IsMove st (world_of c) (world_of (with_machine c a (prompt st a (sections (c.machine a)))))
  section_leads a may =
      let m : Machine = sections (c.machine a) in
      let new : Machine = prompt st a m in
      let w : World = world_of c in
      let told : sections_in (c.reports a ++ new.out) ≡ w.reports a ++ (c.machine a).part.saved ∷ [] =
      sections_told (is_some m.held && is_done st.engine st a m) (c.reports a) m.out (Count (or_zero m.held) (count_of st m)) refl
      ∙ sections_pushed (c.reports a) (c.machine a).out (Saved (c.machine a).part.known (c.machine a).part.saved (c.machine a).before) in
      acts_turns st w (world_of (with_machine c a new)) (act.SendSection a) a m.part new.part may
      (set_at-same w.part a m.part) refl
      (λ i. record {
        part = λ b. (read_at (λ (m : Machine). m.part) c.machine a new b ∙ sym (set_twice w.part a m.part new.part b)) i;
        link = c.link;
        next = c.next;
        left = c.left;
        begun = c.coordinator.begun;
        acknowledged = c.coordinator.acknowledged;
        orders = w.orders;
        reports = λ b. set_at-holds (λ (b : ℕ) (x : Machine). sections_in (c.reports b ++ x.out) ≡ set_at w.reports a (w.reports a ++ (c.machine a).part.saved ∷ []) b) c.machine a new b
            (told ∙ sym (set_at-same w.reports a (w.reports a ++ (c.machine a).part.saved ∷ [])))
            (λ off. sym (set_at-other w.reports a (w.reports a ++ (c.machine a).part.saved ∷ []) b off)) i;
        collected = w.collected;
      })

  collected_by : (a : ℕ) (come : Come) → c.coordinator.come a ≡ Some come → section_of (c.coordinator.come a) ≡ Some come.section
  collected_by a come is = ap section_of is

  -- ---- each event but a recovery
  pub event_leads : (event : Event) → MayDo st c event → ((base : BaseView) → event ≡ Recover base → ⊥) → IsMove st (world_of c) (world_of (after_event st c event))
  event_leads (Admit a v) may other =
      works a (admits st a v (c.machine a)) (act.Admit a v) c.link c.calls (world_of c).orders c.next c.left may.1.may refl refl (λ b. refl)
  event_leads (Grant a x) may other =
      works a (grants st a x (c.machine a)) (act.Grant a x) c.link c.calls (world_of c).orders c.next c.left may.1 refl refl (λ b. refl)
  event_leads (Send p q) may other =
      let first = may.2.first in
      let less : Machine = hands q may.2.behind (c.machine p) in
      let link : ℕ → ℕ → List Message = set_at c.link p (set_at (c.link p) q (c.link p q ++ may.2.message ∷ [])) in
      subst (λ (ms : List Message). IsMove st (world_of c) (world_of (sends_message c p q ms))) (sym first)
      (acts st (world_of c) (world_of (sends_message c p q (may.2.message ∷ may.2.behind))) (act.Send p q) may.2
      (one_machine p less link c.calls (world_of c).orders c.next c.left refl (λ b. refl) ∙ sym (ap (sends (world_of c) p q) first)))
  event_leads (SendCall a) may other =
      subst (λ (calls : List Call). IsMove st (world_of c) (world_of (sends_call c a calls))) (sym may.1.first)
      (stays st (world_of c) (world_of (sends_call c a (may.1.message ∷ may.1.behind))) (sent_call a may.1.message may.1.behind may.1.first))
  event_leads (SendReport a) may other =
      subst (λ (reports : List Report). IsMove st (world_of c) (world_of (sends_report c a reports))) (sym may.1.first)
      (stays st (world_of c) (world_of (sends_report c a (may.1.message ∷ may.1.behind))) (sent_report a may.1.message may.1.behind may.1.first))
  event_leads (Deliver p q) may other =
      let link : ℕ → ℕ → List Message = set_at c.link p (set_at (c.link p) q may.2.behind) in
      subst (λ (ms : List Message). IsMove st (world_of c) (world_of (delivers_message st c p q ms))) (sym may.2.first)
      (works q (receives st q may.2.message (c.machine q)) (act.Deliver p q) link c.calls (world_of c).orders c.next c.left may.2
      (ap (delivers st (world_of c) p q) may.2.first) refl (λ b. refl))
  event_leads (DeliverCall a) may other =
      subst (λ (calls : List Call). IsMove st (world_of c) (world_of (delivers_call st c a calls))) (sym may.1.first) (call_leads a may.1.message may.1.behind may.1.first)
  event_leads (DeliverReport a) may other =
      subst (λ (reports : List Report). IsMove st (world_of c) (world_of (delivers_report c a reports))) (sym may.1.first) (report_leads a may.1.message may.1.behind may.1.first)
  event_leads (Update s) may other =
      let a : ℕ = s.home.0 in
      let v : ℕ = may.1.vertex in
      let entry : Entry = Go s.home (record { 0 = v }) c.next in
      let m : Machine = works_on st a s v entry (c.machine a) in
      subst (λ (flight : Option ℕ). IsMove st (world_of c) (world_of (makes st c s flight))) (sym may.1.flight)
      (works a (makes_update st a s v entry (c.machine a)) (act.Update s) c.link c.calls (world_of c).orders (suc c.next) (pred c.left) may.1
      (ap (updates st (world_of c) s) may.1.flight) (asked a m (asks_more st m)) (λ b. refl))
  event_leads (Mark s) may other =
      let a : ℕ = s.home.0 in
      subst (λ (flight : Option ℕ). IsMove st (world_of c) (world_of (saves st c s flight))) (sym may.1.flight)
      (works a (makes_mark st a s may.1.vertex (c.machine a)) (act.Mark s) c.link c.calls (world_of c).orders c.next c.left may.1
      (ap (marks st (world_of c) s) may.1.flight) refl (λ b. refl))
  event_leads (Section a) may other = section_leads a may.1
  event_leads Record may other =
      acts st (world_of c) (world_of (after_event st c Record)) act.Record
      (record { under = may.0.under; sections = λ a low. let come = may.0.sections a low in (come.0.section, collected_by a come.0 come.1) })
      (λ i. record {
        part = (world_of c).part;
        link = c.link;
        next = c.next;
        left = c.left;
        begun = c.coordinator.begun;
        acknowledged = c.coordinator.begun;
        orders = λ b. call_pushed (Committed c.coordinator.begun) refl b i;
        reports = (world_of c).reports;
        collected = λ a. None;
      })
  event_leads PutBegin may other =
      acts st (world_of c) (world_of (after_event st c PutBegin)) act.Begin may.none
      (λ i. record {
        part = (world_of c).part;
        link = c.link;
        next = c.next;
        left = c.left;
        begun = suc c.coordinator.begun;
        acknowledged = c.coordinator.acknowledged;
        orders = λ b. begins_pushed (c.calls b) (c.coordinator.out b) (Begin (suc c.coordinator.begun)) i;
        reports = (world_of c).reports;
        collected = (world_of c).collected;
      })
  event_leads PutStep may other =
      stays st (world_of c) (world_of (after_event st c PutStep))
      (λ i. told_world (λ b. call_pushed (Step (with_step st.engine c.coordinator.rounds).colour) refl b i) (world_of c).reports (world_of c).collected)
  event_leads PutWave may other =
      stays st (world_of c) (world_of (after_event st c PutWave))
      (λ i. told_world (λ b. call_pushed (Wave c.coordinator.rounds.counting.put_out) refl b i) (world_of c).reports (world_of c).collected)
  event_leads (Fail a) may other = stays st (world_of c) (world_of (after_event st c (Fail a))) (unseen a (fails (c.machine a)) refl refl)
  event_leads (Recover base) may other = absurd (other base refl)
  event_leads Stop may other = stays st (world_of c) (world_of (after_event st c Stop)) refl
