-- What the steps of the coordinator's seat owe the rule.
use Rattle.std.proofs.Common.{List, Some, [], ap, arith, inl, inr, length-set, refl, subst, suc, sym, ◌++◌, ◌<◌, ◌∙◌, ◌∷◌, ◌≡◌, ◌≢◌, ⊎_elim, ℕ}
use Rattle.std.proofs.lemmas.Bool.{cases_eq}
use Rattle.std.specs.Prelude.{slice_get, slice_set}
use Rattle.cluster_laws.specs.cluster_model.Clusters.{with_coordinator}
use Rattle.cluster_laws.specs.cluster_model.Events as law
use Rattle.cluster_laws.specs.cluster_model.Leading.{Coordinator}
use Rattle.call_laws.specs.whole_calls.Following.{FollowsJob}
use Rattle.cluster_step.proofs.clusters.Leading.{may_report}
use Rattle.cluster_step.proofs.clusters.LinkLemmas.{has_link}
use Rattle.cluster_step.specs.trace.Traces.{IsPassing}
use Rattle.coordinator.specs.coord_core.Calls.{HasHandedOver, HasTakenReport, MayLead, MayReport, StaysCoordinator}
use Rattle.coordinator.specs.coord_core.Coordinators.{CoordinatorView, IsCoordinatorOf}
use Rattle.coordinator.specs.machine_api.Promises.{MessageView, message_view}
use Rattle.gl_base.specs.declared.numbers.MachineNo.{MachineNo}
use Rattle.link_tables.specs.Rule.{Carries, CarriesLink, Learnt}
use mathlib.Core.Option.{some}
use lib.ListN.{get_elem?}
use Rattle.atomic_table.proofs.Lists.{at_set}
use Rattle.wire_board.proofs.Holding.{held_link, is_there}
use Rattle.wire_board.proofs.Ruling.{have_all, led_on, same_link}
use Rattle.wire_board.proofs.Singles.{call_told_goes, led_goes, report_heard_goes, stays_goes, stays_led_goes}
use Rattle.wire_board.specs.Going.{Cluster, FailureAt, Machine, Parts, Setting}
use Rattle.wire_board.specs.Led.{HoldParts, HasBeenLed, IsLeadOf, IsMachineAt, Lead, Leading, Learns, LinkView, Node, Seated, Standing, StandsOwing, link_between, link_no, number_of}
use Rattle.wire.specs.declared.wire_msgs.messages.Message.{Message}

under : (x y : ℕ) → x < y → x < suc y
under x y less = omega arith

self_under : (x : ℕ) → x < suc x
self_under x = omega arith

module _ {M : Type 0} (n : ℕ) (p : Parts (Standing M)) (parts : List (Seated M)) (links : List LinkView) (next left : ℕ) (h : HoldParts n p parts links next left) where
  -- the coordinator is the last part
  pub is_last : (a : ℕ) (x : Leading) → get_elem? parts a ≡ some (Lead x) → a ≡ n
  is_last a x at =
      let within : a < suc n = subst (λ (k : ℕ). a < k) h.count (is_there parts a (Lead x) at) in
      elim (cases_eq a n) [
        | inl last ↦ last
        | inr other ↦ (let low : a < n = omega arith in absurd (h.machines a (Lead x) low at))
      ]

  pub lead_is : (a : ℕ) (x : Leading) → get_elem? parts a ≡ some (Lead x) → IsLeadOf n p (Lead x)
  lead_is a x at = h.lead (Lead x) (subst (λ (k : ℕ). get_elem? parts k ≡ some (Lead x)) (is_last a x at) at)

  -- the coordinator is another
  module _ (x : Leading) (number : x.number ≡ n) where
    abbrev new : Parts (Standing M)
    new = record p { coordinator = x.coordinator }

    still : (b : ℕ) (z : Seated M) → IsMachineAt n p b z → IsMachineAt n new b z
    still b (Node y) is = is
    still b (Lead y) is = is

    there : (a : ℕ) → a ≡ n → (z : Seated M) → get_elem? (slice_set parts a (Lead x)) n ≡ some z → IsLeadOf n new z
    there a last z at =
        ⊎_elim
        (λ (is : (n ≡ a) × (Lead x ≡ z)). subst (IsLeadOf n new) is.1 (number, refl))
        (λ (is : (n ≢ a) × (get_elem? parts n ≡ some z)). absurd (is.0 (sym last)))
        (at_set parts a n (Lead x) z at)

    pub held_lead : (a : ℕ) → a ≡ n → HoldParts n new (slice_set parts a (Lead x)) links next left
    held_lead a last = record {
      many = h.many;
      count = length-set parts a (Lead x) ∙ h.count;
      machines = λ b z low_b at.
          ⊎_elim
          (λ (is : (b ≡ a) × (Lead x ≡ z)). let same : b ≡ n = is.0 ∙ last in absurd (omega arith))
          (λ (is : (b ≢ a) × (get_elem? parts b ≡ some z)). still b z (h.machines b z low_b is.1))
          (at_set parts a b (Lead x) z at);
      lead = there a last;
      lines = h.lines;
      next_is = h.next_is;
      left_is = h.left_is;
      awake = h.awake;
      runs = h.runs;
    }

module _ {M : Type 0} (represents : Setting → ℕ → Machine → M → Type 0) (failures : List FailureAt) (done : List ℕ) (opening : Parts (Standing M)) (n : ℕ) where
  abbrev Led : List (Seated M) → List LinkView → ℕ → ℕ → Type 0
  Led = HasBeenLed represents failures done opening n

  module _ (was lead : Leading) (number : lead.number ≡ was.number) where
    -- it is what it was
    pub carries_stays : StaysCoordinator was.coordinator lead.coordinator → Carries number_of Led (Lead was) (Lead lead)
    carries_stays stays parts links next left at led =
        let h = led.held in
        let last : was.number ≡ n = is_last n led.now parts links next left h was.number was at in
        let is : IsLeadOf n led.now (Lead was) = lead_is n led.now parts links next left h was.number was at in
        led_on represents failures done opening n parts links next left led _
        (stays_goes represents failures done led.now h.runs lead.coordinator (subst (λ (c : CoordinatorView). StaysCoordinator c lead.coordinator) (sym is.1) stays))
        (slice_set parts was.number (Lead lead)) links next left (held_lead n led.now parts links next left h lead (number ∙ last) was.number last)

    -- it has done something by itself
    module _ (e : law.Event) (passes : IsPassing e) (follows : (st : Setting) (c : Cluster) → FollowsJob st failures c e) (leads : Setting → Coordinator → Coordinator)
        (effect : (st : Setting) (c : Cluster) → law.after_event st c e ≡ with_coordinator c (leads st c.coordinator)) where
      pub carries_led : MayLead e was.coordinator → ((st : Setting) (k : Coordinator) → IsCoordinatorOf st was.coordinator k → IsCoordinatorOf st lead.coordinator (leads st k))
          → Carries number_of Led (Lead was) (Lead lead)
      carries_led may has parts links next left at led =
          let h = led.held in
          let last : was.number ≡ n = is_last n led.now parts links next left h was.number was at in
          let is : IsLeadOf n led.now (Lead was) = lead_is n led.now parts links next left h was.number was at in
          led_on represents failures done opening n parts links next left led _
          (led_goes represents failures done led.now h.runs lead.coordinator e passes follows leads effect (subst (MayLead e) (sym is.1) may)
          (subst (λ (c : CoordinatorView). (st : Setting) (k : Coordinator) → IsCoordinatorOf st c k → IsCoordinatorOf st lead.coordinator (leads st k)) (sym is.1) has))
          (slice_set parts was.number (Lead lead)) links next left (held_lead n led.now parts links next left h lead (number ∙ last) was.number last)

    -- it has a link to or from machine a
    module _ (a : ℕ) (low : a < was.number) (q r : LinkView) where
      pub carries_call_told : (message : Message) → r.messages ≡ q.messages ++ message_view message ∷ [] → HasHandedOver was.coordinator lead.coordinator a (Some message)
          → CarriesLink number_of Led (link_no (suc was.number) was.number a) (Lead was) q (Lead lead) r
      carries_call_told message are handed parts links next left at on led =
          let h = led.held in
          let last : was.number ≡ n = is_last n led.now parts links next left h was.number was at in
          let is : IsLeadOf n led.now (Lead was) = lead_is n led.now parts links next left h was.number was at in
          let low_a : a < n = subst (λ (k : ℕ). a < k) last low in
          let there_q : q ≡ link_between led.now.links n a =
          same_link represents failures done opening n parts links next left led (suc n) n a refl (self_under n) (under a n low_a) q (ap (λ (k : ℕ). get_elem? links (link_no (suc k) k a)) (sym last) ∙ on)
          in
          let goes = call_told_goes represents failures done led.now h.runs lead.coordinator n h.many a low_a r message (are ∙ ap (λ (l : LinkView). l.messages ++ message_view message ∷ []) there_q)
          (subst (λ (c : CoordinatorView). HasHandedOver c lead.coordinator a (Some message)) (sym is.1) handed)
          in
          subst (λ (k : ℕ). Led (slice_set parts was.number (Lead lead)) (slice_set links (link_no (suc k) k a) r) next left) (sym last)
          (led_on represents failures done opening n parts links next left led _ goes (slice_set parts was.number (Lead lead)) (slice_set links (link_no (suc n) n a) r) next left
          (held_link n (record led.now { coordinator = lead.coordinator }) (slice_set parts was.number (Lead lead)) links next left
          (held_lead n led.now parts links next left h lead (number ∙ last) was.number last) n a (self_under n) (under a n low_a) r
          (has_link led.now.links (suc n) n a (have_all represents failures done opening n parts links next left led) (self_under n) (under a n low_a))))

      pub carries_report_heard : (message : Message) → q.messages ≡ message_view message ∷ r.messages → HasTakenReport was.coordinator lead.coordinator a (message_view message)
          → CarriesLink number_of Led (link_no (suc was.number) a was.number) (Lead was) q (Lead lead) r
      carries_report_heard message were taken parts links next left at on led =
          let h = led.held in
          let last : was.number ≡ n = is_last n led.now parts links next left h was.number was at in
          let is : IsLeadOf n led.now (Lead was) = lead_is n led.now parts links next left h was.number was at in
          let low_a : a < n = subst (λ (k : ℕ). a < k) last low in
          let there_q : q ≡ link_between led.now.links a n =
          same_link represents failures done opening n parts links next left led (suc n) a n refl (under a n low_a) (self_under n) q (ap (λ (k : ℕ). get_elem? links (link_no (suc k) a k)) (sym last) ∙ on)
          in
          let goes = report_heard_goes represents failures done led.now h.runs lead.coordinator n h.many a low_a r message (ap (λ (l : LinkView). l.messages) (sym there_q) ∙ were)
          (subst (λ (c : CoordinatorView). HasTakenReport c lead.coordinator a (message_view message)) (sym is.1) taken)
          in
          subst (λ (k : ℕ). Led (slice_set parts was.number (Lead lead)) (slice_set links (link_no (suc k) a k) r) next left) (sym last)
          (led_on represents failures done opening n parts links next left led _ goes (slice_set parts was.number (Lead lead)) (slice_set links (link_no (suc n) a n) r) next left
          (held_link n (record led.now { coordinator = lead.coordinator }) (slice_set parts was.number (Lead lead)) links next left
          (held_lead n led.now parts links next left h lead (number ∙ last) was.number last) a n (under a n low_a) (self_under n) r
          (has_link led.now.links (suc n) a n (have_all represents failures done opening n parts links next left led) (under a n low_a) (self_under n))))

      -- nothing has happened, but that there is other room on the link
      pub carries_no_call : r.messages ≡ q.messages → StaysCoordinator was.coordinator lead.coordinator → CarriesLink number_of Led (link_no (suc was.number) was.number a) (Lead was) q (Lead lead) r
      carries_no_call same stays parts links next left at on led =
          let h = led.held in
          let last : was.number ≡ n = is_last n led.now parts links next left h was.number was at in
          let is : IsLeadOf n led.now (Lead was) = lead_is n led.now parts links next left h was.number was at in
          let low_a : a < n = subst (λ (k : ℕ). a < k) last low in
          let there_q : q ≡ link_between led.now.links n a =
          same_link represents failures done opening n parts links next left led (suc n) n a refl (self_under n) (under a n low_a) q (ap (λ (k : ℕ). get_elem? links (link_no (suc k) k a)) (sym last) ∙ on)
          in
          let goes = stays_led_goes represents failures done led.now h.runs lead.coordinator n h.many n a (self_under n) (under a n low_a) r (same ∙ ap (λ (l : LinkView). l.messages) there_q)
          (subst (λ (c : CoordinatorView). StaysCoordinator c lead.coordinator) (sym is.1) stays)
          in
          subst (λ (k : ℕ). Led (slice_set parts was.number (Lead lead)) (slice_set links (link_no (suc k) k a) r) next left) (sym last)
          (led_on represents failures done opening n parts links next left led _ goes (slice_set parts was.number (Lead lead)) (slice_set links (link_no (suc n) n a) r) next left
          (held_link n (record led.now { coordinator = lead.coordinator }) (slice_set parts was.number (Lead lead)) links next left
          (held_lead n led.now parts links next left h lead (number ∙ last) was.number last) n a (self_under n) (under a n low_a) r
          (has_link led.now.links (suc n) n a (have_all represents failures done opening n parts links next left led) (self_under n) (under a n low_a))))

      pub carries_no_report : r.messages ≡ q.messages → StaysCoordinator was.coordinator lead.coordinator → CarriesLink number_of Led (link_no (suc was.number) a was.number) (Lead was) q (Lead lead) r
      carries_no_report same stays parts links next left at on led =
          let h = led.held in
          let last : was.number ≡ n = is_last n led.now parts links next left h was.number was at in
          let is : IsLeadOf n led.now (Lead was) = lead_is n led.now parts links next left h was.number was at in
          let low_a : a < n = subst (λ (k : ℕ). a < k) last low in
          let there_q : q ≡ link_between led.now.links a n =
          same_link represents failures done opening n parts links next left led (suc n) a n refl (under a n low_a) (self_under n) q (ap (λ (k : ℕ). get_elem? links (link_no (suc k) a k)) (sym last) ∙ on)
          in
          let goes = stays_led_goes represents failures done led.now h.runs lead.coordinator n h.many a n (under a n low_a) (self_under n) r (same ∙ ap (λ (l : LinkView). l.messages) there_q)
          (subst (λ (c : CoordinatorView). StaysCoordinator c lead.coordinator) (sym is.1) stays)
          in
          subst (λ (k : ℕ). Led (slice_set parts was.number (Lead lead)) (slice_set links (link_no (suc k) a k) r) next left) (sym last)
          (led_on represents failures done opening n parts links next left led _ goes (slice_set parts was.number (Lead lead)) (slice_set links (link_no (suc n) a n) r) next left
          (held_link n (record led.now { coordinator = lead.coordinator }) (slice_set parts was.number (Lead lead)) links next left
          (held_lead n led.now parts links next left h lead (number ∙ last) was.number last) a n (under a n low_a) (self_under n) r
          (has_link led.now.links (suc n) a n (have_all represents failures done opening n parts links next left led) (under a n low_a) (self_under n))))

  -- what it learns of a link that it takes
  pub learnt_lead : (lead : Leading) (i : ℕ) → Learnt number_of Led (Learns represents) (Lead lead) i
  learnt_lead lead i parts links next left q at on led a message rest low i_is first =
      let h = led.held in
      let last : lead.number ≡ n = is_last n led.now parts links next left h lead.number lead at in
      let is : IsLeadOf n led.now (Lead lead) = lead_is n led.now parts links next left h lead.number lead at in
      let low_a : a < n = subst (λ (k : ℕ). a < k) last low in
      let there_q : q ≡ link_between led.now.links a n =
      same_link represents failures done opening n parts links next left led (suc n) a n refl (under a n low_a) (self_under n) q
      (ap (λ (k : ℕ). get_elem? links (link_no (suc k) a k)) (sym last) ∙ ap (get_elem? links) (sym i_is) ∙ on)
      in
      let read : Some (message_view message) ≡ slice_get (link_between led.now.links a n).messages 0 = ap (λ (ms : List MessageView). slice_get ms 0) (sym first) ∙ ap (λ (l : LinkView). slice_get l.messages 0) there_q in
      let from : MachineNo = record { 0 = a } in
      let end : MachineNo = record { 0 = n } in
      subst (λ (c : CoordinatorView). MayReport c a (message_view message)) is.1
      (may_report (StandsOwing represents) led.now h.runs from (subst (λ (k : ℕ). a < k) (sym h.many) low_a) end (sym h.many) message read (led.setting, led.cluster, led.snaps, led.stood))
