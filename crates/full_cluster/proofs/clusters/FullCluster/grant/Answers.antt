-- A machine of the cluster grants a lock.
use Rattle.std.proofs.Common.{◌≡◌, ◌∙◌, ◌<◌, ℕ, length, sym, subst, arith}
use Rattle.std.proofs.lemmas.Result.{on_err_weaker, on_ok_weaker}
use Rattle.full_laws.specs.FullActions.{Grants, MayGrantFull}
use Rattle.full_cluster.proofs.ClusterLemmas.{acted_not, asks_here, granted, reached_coherent, seat_at, seat_own, still_cluster}
use Rattle.full_cluster.proofs.CoherentLemmas.{stands_within}
use Rattle.full_cluster.proofs.clusters.FullCluster.grant.Goals as goal

pub grant-requires-clause-within : goal.grant-requires-clause-within
grant-requires-clause-within c =
    let has = c.requires.cluster in
    let long = c.args.self.now.machines.ok.0 in
    let many = c.len.ensures in
    let inside = c.if-place-len.false in
    let low : c.args.machine.0 < length c.args.self.now.machines.items = omega (arith, long, many, inside) in
    let seat = seat_at has.setting has.program has.world c.args.self.now.machines.items c.args.self.now.links.items c.args.self.now.next c.args.self.now.left c.args.machine.0 c.index_mut.result.now has.is low c.index_mut.ensures.value in
    stands_within has.setting has.program has.world c.index_mut.result.now has.fits.divided.setting (reached_coherent has.setting has.program has.world has.fits.divided.setting has.is.reached)
    (seat_own has.setting has.world c.args.machine.0 c.index_mut.result.now seat) seat.queues

pub returns-clause-applied : goal.returns-clause-applied
returns-clause-applied c = λ st p w fits are.
    let long = c.args.self.now.machines.ok.0 in
    let many = c.len.ensures in
    let inside = c.if-place-len.false in
    let low : c.args.machine.0 < length c.args.self.now.machines.items = omega (arith, long, many, inside) in
    let seat = seat_at st p w c.args.self.now.machines.items c.args.self.now.links.items c.args.self.now.next c.args.self.now.left c.args.machine.0 c.index_mut.result.now are low c.index_mut.ensures.value in
    let owned : st.owner c.args.x.0 ≡ c.args.machine.0 = (λ k. fits.divided.owners k c.args.x.0) ∙ sym c.owner_of.ensures ∙ c.if-owner_of-machine.false in
    let ask = asks_here st p w c.args.machine.0 c.args.x.0 fits.divided.setting are.reached owned in
    on_ok_weaker c.grant.result
    (λ done. let after = granted st p w c.args.self.now.machines.items c.args.self.now.links.items c.args.self.now.next c.args.self.now.left c.args.machine.0 c.args.x.0 c.index_mut.result.now c.grant.new.self low are seat c.grant.ensures.still done in
    record { may = after.0; after = after.1 })
    (c.grant.ensures.granted st (w.part c.args.machine.0) fits.divided seat.is ask)

pub returns-clause-not_now : goal.returns-clause-not_now
returns-clause-not_now c = λ st p w fits are refused may.
    let long = c.args.self.now.machines.ok.0 in
    let many = c.len.ensures in
    let inside = c.if-place-len.false in
    let low : c.args.machine.0 < length c.args.self.now.machines.items = omega (arith, long, many, inside) in
    let seat = seat_at st p w c.args.self.now.machines.items c.args.self.now.links.items c.args.self.now.next c.args.self.now.left c.args.machine.0 c.index_mut.result.now are low c.index_mut.ensures.value in
    let owned : st.owner c.args.x.0 ≡ c.args.machine.0 = (λ k. fits.divided.owners k c.args.x.0) ∙ sym c.owner_of.ensures ∙ c.if-owner_of-machine.false in
    let ask = asks_here st p w c.args.machine.0 c.args.x.0 fits.divided.setting are.reached owned in
    c.grant.ensures.not_now st (w.part c.args.machine.0) fits.divided seat.is ask refused
    (subst (λ (b : ℕ). MayGrantFull st b c.args.x.0 (w.part c.args.machine.0)) (sym seat.me) may)

pub returns-clause-no_memory : goal.returns-clause-no_memory
returns-clause-no_memory c = λ st p w fits are refused.
    let long = c.args.self.now.machines.ok.0 in
    let many = c.len.ensures in
    let inside = c.if-place-len.false in
    let low : c.args.machine.0 < length c.args.self.now.machines.items = omega (arith, long, many, inside) in
    let seat = seat_at st p w c.args.self.now.machines.items c.args.self.now.links.items c.args.self.now.next c.args.self.now.left c.args.machine.0 c.index_mut.result.now are low c.index_mut.ensures.value in
    let owned : st.owner c.args.x.0 ≡ c.args.machine.0 = (λ k. fits.divided.owners k c.args.x.0) ∙ sym c.owner_of.ensures ∙ c.if-owner_of-machine.false in
    let ask = asks_here st p w c.args.machine.0 c.args.x.0 fits.divided.setting are.reached owned in
    subst (λ (b : ℕ). MayGrantFull st b c.args.x.0 (w.part c.args.machine.0)) seat.me
    (c.grant.ensures.no_memory st (w.part c.args.machine.0) fits.divided seat.is ask refused)

pub returns-clause-unchanged : goal.returns-clause-unchanged
returns-clause-unchanged c = λ st p w fits are.
    let long = c.args.self.now.machines.ok.0 in
    let many = c.len.ensures in
    let inside = c.if-place-len.false in
    let low : c.args.machine.0 < length c.args.self.now.machines.items = omega (arith, long, many, inside) in
    let seat = seat_at st p w c.args.self.now.machines.items c.args.self.now.links.items c.args.self.now.next c.args.self.now.left c.args.machine.0 c.index_mut.result.now are low c.index_mut.ensures.value in
    on_err_weaker c.grant.result
    (λ same. acted_not st p w c.args.self.now.machines.items c.args.self.now.links.items c.args.self.now.next c.args.self.now.left c.args.machine.0 c.index_mut.result.now c.grant.new.self low are seat c.grant.ensures.still same)
    (c.grant.ensures.unchanged st (w.part c.args.machine.0) seat.is)

pub returns-clause-cluster : goal.returns-clause-cluster
returns-clause-cluster c =
    let has = c.requires.cluster in
    still_cluster c.args.division.now c.args.terms has.setting has.program has.world (Grants c.args.machine.0 c.args.x.0) _ c.grant.result has.fits
    (returns-clause-applied c has.setting has.program has.world has.fits has.is) (returns-clause-unchanged c has.setting has.program has.world has.fits has.is)
