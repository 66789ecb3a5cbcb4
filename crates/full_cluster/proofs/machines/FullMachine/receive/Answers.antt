use Rattle.std.proofs.Common.{◌≡◌, ◌∙◌, ◌<◌, ℕ, suc, true, map, refl, sym, ap, subst, unwrap_or, length, Option, Some}
use Rattle.gl_base.specs.declared.numbers.MachineNo.{MachineNo}
use Rattle.gl_base.specs.declared.numbers.Vertex.{Vertex}
use Rattle.graph_core.specs.DataGraph.{size}
use Rattle.full_laws.specs.FullEffects.{received_full}
use Rattle.full_laws.specs.FullMessages as model
use Rattle.full_laws.specs.FullMessages.{Gather, Gift, Give}
use Rattle.full_laws.specs.Items.{AVertex}
use Rattle.full_cluster.specs.declared.giving.FullGift.{FullGift}
use Rattle.full_cluster.specs.declared.machines.ScopeStand.{ScopeStand}
use Rattle.full_cluster.specs.declared.messages.FullMessage.{FullMessage}
use Rattle.full_cluster.specs.FullMachines.{CanStandThere, GivesWhatItHolds, HoldsAlong, IsMachineOf, IsOrderedFor, IsPreparedFor}
use Rattle.full_cluster.specs.FullQueues.{IsMessage, seen_in}
use Rattle.full_cluster.specs.Given.{IsGift, IsWithin}
use Rattle.full_cluster.specs.Orders.{IsLockOrder}
use Rattle.full_cluster.proofs.ArrivingLemmas.{given_listed}
use Rattle.full_cluster.proofs.MachineLemmas.{already_up, first_asked}
use Rattle.full_cluster.proofs.machines.FullMachine.receive.Goals as goal

pub returns-in-Gather-clause-received : goal.returns-in-Gather-clause-received
returns-in-Gather-clause-received c = λ st old m is says order gives.
    let here = c.args.self.now in
    let s = c.in-Gather.scope in
    let stand : ScopeStand = record { centre = c.in-Gather.centre; part = c.args.part; place = 0; rest = c.in-Gather.rest; seen = c.in-Gather.seen } in
    let can : CanStandThere here s stand = subst (λ (x : FullMessage). IsPreparedFor here x c.args.part) c.in-Gather.is c.requires.prepared in
    let ordered : IsLockOrder st stand.centre.0 here.me.0 (map (λ (x : Vertex). x.0) stand.part.items) = subst (λ (x : FullMessage). IsOrderedFor st here.me.0 x c.args.part.items) c.in-Gather.is order in
    let same : m ≡ Gather s stand.centre.0 (map (λ (b : MachineNo). b.0) stand.rest.items) (seen_in stand.seen.items) = subst (λ (x : FullMessage). IsMessage st x m) c.in-Gather.is says in
    subst (λ (message : model.FullMessage). IsMachineOf st c.go_on.new.self (received_full st here.me.0 message old)) (sym same)
    (c.go_on.ensures.went st old 0 (first_asked st here.me.0 stand ordered refl) (already_up st here old s is can.none))

pub returns-in-Give-clause-received : goal.returns-in-Give-clause-received
returns-in-Give-clause-received c = λ st old m is says order gives.
    let here = c.args.self.now in
    let s = c.in-Give.scope in
    let gift : FullGift = c.in-Give.gift in
    let told : (given : Gift) × (m ≡ Give s given) × IsGift st gift given × IsWithin (size st.graph) (length st.graph.edges) gift = subst (λ (x : FullMessage). IsMessage st x m) c.in-Give.is says in
    let held : (x : ℕ) → x < size st.graph → old.holds x s ≡ true → (n : ℕ) × (told.0.numbers (AVertex x) ≡ Some n) = subst (GivesWhatItHolds st old) told.1 gives in
    let along : HoldsAlong st old s gift.numbers.items = λ x low holds.
    let number = held x low holds in
    given_listed gift.numbers.items x number.0 (told.2.vertices x (suc number.0) low ∙ ap (λ (o : Option ℕ). unwrap_or o (suc number.0)) number.1) in
    subst (λ (message : model.FullMessage). IsMachineOf st c.receive_give.new.self (received_full st here.me.0 message old)) (sym told.1)
    (c.receive_give.ensures.received st old told.0 is told.2 along)
