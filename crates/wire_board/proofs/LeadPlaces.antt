-- How the coordinator's seat stands after each step.
use Rattle.std.proofs.Common.{List, None, Some, [], refl, sym, ◌∙◌, ◌∷◌, ◌≡◌, ℕ}
use Rattle.coordinator.specs.coord_core.Calls.{StaysCoordinator}
use Rattle.link_tables.proofs.Standing.{holds_another, holds_taken, rests_changed, rests_given, rests_on, same_queue}
use Rattle.link_tables.specs.Seats.{HoldsLink, Rests, Sat, saw, view, with_first}
use Rattle.link_tables.specs.declared.views.Sight.{Sight}
use Rattle.wire_board.specs.Led.{Learns}
use Rattle.wire_board.specs.Seats.{HasTakenLead, Lead, Leading, Leads, LinkView, Machine, Seated, Setting}

module _ {M : Type 0} (lead : Leading) (others : List (Seated M)) where
  pub leads_changed : (me me' : Sat (Seated M) LinkView) (p : Seated M) (seen : List (Sight LinkView)) → Rests me p others → me' ≡ (view (with_first (Lead lead) me.0.parts) None me.0.raised seen, []) → Leads lead others me'
  leads_changed me me' p seen r is = record { was = lead; rests = rests_changed me me' p (Lead lead) others seen r is; number = refl; stays = λ st c of. of }

  pub leads_still : (me : Sat (Seated M) LinkView) → Leads lead others me → (new : Leading) → new.number ≡ lead.number → StaysCoordinator lead.coordinator new.coordinator → Leads new others me
  leads_still me s new number stays = record { was = s.was; rests = s.rests; number = number ∙ s.number; stays = λ st c of. stays st c (s.stays st c of) }

  pub leads_read : (me me' : Sat (Seated M) LinkView) (word number : ℕ) → Leads lead others me → me' ≡ (saw me.0 word number, me.1) → Leads lead others me'
  leads_read me me' word number s is = record { was = s.was; rests = rests_on me me' (Lead s.was) others word number s.rests is; number = s.number; stays = s.stays }

  pub leads_given : (me me' : Sat (Seated M) LinkView) (p : Seated M) (i : ℕ) (q r : LinkView) (seen : List (Sight LinkView)) → HoldsLink me p others i q r
      → me' ≡ (view (with_first (Lead lead) me.0.parts) None me.0.raised seen, []) → Leads lead others me'
  leads_given me me' p i q r seen h is = record { was = lead; rests = rests_given me me' p (Lead lead) others i q r seen h is; number = refl; stays = λ st c of. of }

  module _ (represents : Setting → ℕ → Machine → M → Type 0) where
    pub lead_has_taken : (me me' : Sat (Seated M) LinkView) (p : Seated M) (i : ℕ) (q : LinkView) (seen : List (Sight LinkView)) → Rests me p others
        → me' ≡ (view (with_first (Lead lead) me.0.parts) (Some (i, q)) me.0.raised seen, (i, q) ∷ []) → Learns represents (Lead lead) i q → HasTakenLead represents lead others i me'
    lead_has_taken me me' p i q seen r is learns = record { queue = q; holds = holds_taken me me' p (Lead lead) others i q seen r is; learns = learns }

    module _ (me me' : Sat (Seated M) LinkView) (i : ℕ) (new was : LinkView) (t : HasTakenLead represents lead others i me) (is : me' ≡ (me.0, (i, new) ∷ [])) (there : me.1 ≡ (i, was) ∷ []) where
      pub lead_holds_now : HoldsLink me' (Lead lead) others i t.queue new
      lead_holds_now = holds_another me me' (Lead lead) others i t.queue t.queue new t.holds is

      pub lead_queue_is : t.queue ≡ was
      lead_queue_is = same_queue i t.queue was (sym t.holds.slots ∙ there)
