-- How a seat stands behind what its machine does in a turn, and the coordinator's.
use Rattle.std.proofs.Common.{List, None, Option, Some, [], false, length, suc, sym, ◌+◌, ◌∙◌, ◌<◌, ◌≤◌, ◌≡◌, ℕ, IfNone, IfSome}
use Rattle.std.specs.Prelude.{Err, Ok, OnErr, OnOk, Result, slice_index_or}
use Rattle.call_laws.specs.whole_calls.Following.{reaches}
use Rattle.coordinator.specs.machine_api.InTurn.{HasGrantedInTurn}
use Rattle.coordinator.specs.machine_api.Promises.{Deed, HasAdmittedSome, HasDone, OfEach, StandsStill}
use Rattle.link_tables.proofs.Standing.{rests_raised}
use Rattle.link_tables.specs.Seats.{Sat, saw, view}
use Rattle.wire_board.proofs.Places.{sits_read}
use Rattle.wire_board.proofs.Seating.{come_on, on_admitted, on_done, on_granted, on_still, on_then}
use Rattle.wire_board.specs.Freeing.{IsFree}
use Rattle.wire_board.specs.Going.{FailureAt}
use Rattle.wire_board.specs.Seats.{Lead, Leading, Leads, LinkView, Machine, Member, Node, Seated, Setting, Sits}
use Rattle.wire_board.specs.Standings.{ComesOn, IsOwn}

module _ {M : Type 0} (represents : Setting → ℕ → Machine → M → Type 0) where
  -- ---- what a machine does by itself

  pub on_nowhere : (x : M) → ComesOn represents x x
  on_nowhere x = on_still represents x x (λ st a m setting here. here)

  pub on_came : {X E : Type 0} (x y z : M) (d : Deed) → IsOwn d → StandsStill represents x y → (r : Result X E) → OnOk r (HasDone represents y d z) → OnErr r (StandsStill represents y z) → ComesOn represents x z
  on_came x y z d own still (Ok t) done same = on_then represents x y z (on_still represents x y still) (on_done represents y z d own done)
  on_came x y z d own still (Err e) done same = on_then represents x y z (on_still represents x y still) (on_still represents y z same)

  pub on_locked : {X E : Type 0} (x y z : M) (v : ℕ) → StandsStill represents x y → (r : Result X E) → OnOk r (HasGrantedInTurn represents y v z) → OnErr r (StandsStill represents y z) → ComesOn represents x z
  on_locked x y z v still (Ok t) done same = on_then represents x y z (on_still represents x y still) (on_granted represents y z v done)
  on_locked x y z v still (Err e) done same = on_then represents x y z (on_still represents x y still) (on_still represents y z same)

  pub on_tried : {X E : Type 0} (x y : M) → (r : Result X E) → OnOk r (HasAdmittedSome represents x y) → OnErr r (StandsStill represents x y) → ComesOn represents x y
  on_tried x y (Ok t) done same = on_admitted represents x y done
  on_tried x y (Err e) done same = on_still represents x y same

  -- ---- its seat

  pub sits_on : (me : Sat (Seated M) LinkView) (member new : Member M) → new.number ≡ member.number → new.peers ≡ member.peers → ComesOn represents member.machine new.machine
      → Sits represents member me → Sits represents new me
  sits_on me member new number peers on s =
      record { was = s.was; rests = s.rests; number = number ∙ s.number; peers = peers ∙ s.peers; come = come_on represents s.was member.machine new.machine s.come on }

  pub sits_looked : (member : Member M) (me me' : Sat (Seated M) LinkView) (word top : ℕ) (r : Option ℕ) → IfSome r (λ ticket. (ticket < top) × (me' ≡ (saw me.0 word ticket, me.1)))
      → IfNone r ((next : ℕ) × (top ≤ next) × (me' ≡ (saw me.0 word next, me.1))) → Sits represents member me → Sits represents member me'
  sits_looked member me me' word top (Some ticket) next spent s = sits_read represents member me me' word ticket s next.1
  sits_looked member me me' word top None next spent s = sits_read represents member me me' word spent.0 s spent.2

  pub sits_raised : (member : Member M) (me me' : Sat (Seated M) LinkView) → me' ≡ (view me.0.parts me.0.link (suc me.0.raised) me.0.seen, me.1) → Sits represents member me → Sits represents member me'
  sits_raised member me me' is s =
      record { was = s.was; rests = rests_raised me me' (Node s.was) [] s.rests is; number = s.number; peers = s.peers; come = s.come }

pub leads_raised : {M : Type 0} (lead : Leading) (others : List (Seated M)) (me me' : Sat (Seated M) LinkView) → me' ≡ (view me.0.parts me.0.link (suc me.0.raised) me.0.seen, me.1) → Leads lead others me → Leads lead others me'
leads_raised lead others me me' is s = record { was = s.was; rests = rests_raised me me' (Lead s.was) others s.rests is; number = s.number; stays = s.stays }

-- it has reached the count of no failure
pub free_so : {M : Type 0} (represents : Setting → ℕ → Machine → M → Type 0) (failures : List FailureAt) (y : M) (a before made : ℕ) → OfEach represents y (λ st k m. made ≡ length m.part.log)
    → reaches failures a before (before + made) ≡ false → (done : List ℕ) → slice_index_or done a 0 ≡ before → IsFree represents failures done y a
free_so represents failures y a before made log none done is st m setting here counted =
    let at : m.done ≡ before = counted ∙ is in
    let len : length m.part.log ≡ made = sym (log st a m setting here) in
    (λ i. reaches failures a (at i) (at i + len i)) ∙ none
