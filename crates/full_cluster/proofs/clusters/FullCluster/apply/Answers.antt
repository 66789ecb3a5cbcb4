-- An event of the cluster.
use Rattle.std.proofs.Common.{sym, subst}
use Rattle.std.specs.Prelude.{OnOk}
use Rattle.full_scope.specs.FullUpdates.{FullUpdate}
use Rattle.full_laws.specs.FullActions.{MayHappenFull}
use Rattle.full_cluster.specs.declared.events.FullEvent.{FullEvent}
use Rattle.full_cluster.specs.FullClusters.{HasApplied}
use Rattle.full_cluster.specs.FullEvents.{action_of}
use Rattle.full_cluster.proofs.ClusterLemmas.{of_some_program, still_for}
use Rattle.full_cluster.proofs.clusters.FullCluster.apply.Goals as goal

pub returns-in-Admit-clause-not_now : goal.returns-in-Admit-clause-not_now
returns-in-Admit-clause-not_now g c = λ st p w fits are refused may.
    c.admit.ensures.not_now st p w fits are refused (subst (λ (e : FullEvent). MayHappenFull st w (action_of e)) c.in-Admit.is may)

pub returns-in-Admit-clause-no_memory : goal.returns-in-Admit-clause-no_memory
returns-in-Admit-clause-no_memory g c = λ st p w fits are refused.
    subst (λ (e : FullEvent). MayHappenFull st w (action_of e)) (sym c.in-Admit.is) (c.admit.ensures.no_memory st p w fits are refused)

pub admit-requires : goal.admit-requires
admit-requires g c = record { cluster = of_some_program c.args.division.now c.args.terms (g.P.FullProgram.meaning c.args.program.now) c.args.self.now c.requires.cluster }

pub returns-in-Admit-clause-applied : goal.returns-in-Admit-clause-applied
returns-in-Admit-clause-applied g c = λ st w fits are.
    let p : FullUpdate = g.P.FullProgram.meaning c.args.program.now in
    subst (λ (e : FullEvent). OnOk c.admit.result (HasApplied st p w (action_of e) c.admit.new.self)) (sym c.in-Admit.is) (c.admit.ensures.applied st p w fits are)

pub returns-in-Admit-clause-cluster : goal.returns-in-Admit-clause-cluster
returns-in-Admit-clause-cluster g c =
    let p : FullUpdate = g.P.FullProgram.meaning c.args.program.now in
    let has = c.requires.cluster in
    still_for c.args.division.now c.args.terms has.setting p has.world _ c.admit.new.self c.admit.result has.fits (c.admit.ensures.applied has.setting p has.world has.fits has.is) (c.admit.ensures.unchanged has.setting p has.world has.fits has.is)

pub returns-in-Grant-clause-not_now : goal.returns-in-Grant-clause-not_now
returns-in-Grant-clause-not_now g c = λ st p w fits are refused may.
    c.grant.ensures.not_now st p w fits are refused (subst (λ (e : FullEvent). MayHappenFull st w (action_of e)) c.in-Grant.is may)

pub returns-in-Grant-clause-no_memory : goal.returns-in-Grant-clause-no_memory
returns-in-Grant-clause-no_memory g c = λ st p w fits are refused.
    subst (λ (e : FullEvent). MayHappenFull st w (action_of e)) (sym c.in-Grant.is) (c.grant.ensures.no_memory st p w fits are refused)

pub grant-requires : goal.grant-requires
grant-requires g c = record { cluster = of_some_program c.args.division.now c.args.terms (g.P.FullProgram.meaning c.args.program.now) c.args.self.now c.requires.cluster }

pub returns-in-Grant-clause-applied : goal.returns-in-Grant-clause-applied
returns-in-Grant-clause-applied g c = λ st w fits are.
    let p : FullUpdate = g.P.FullProgram.meaning c.args.program.now in
    subst (λ (e : FullEvent). OnOk c.grant.result (HasApplied st p w (action_of e) c.grant.new.self)) (sym c.in-Grant.is) (c.grant.ensures.applied st p w fits are)

pub returns-in-Grant-clause-cluster : goal.returns-in-Grant-clause-cluster
returns-in-Grant-clause-cluster g c =
    let p : FullUpdate = g.P.FullProgram.meaning c.args.program.now in
    let has = c.requires.cluster in
    still_for c.args.division.now c.args.terms has.setting p has.world _ c.grant.new.self c.grant.result has.fits (c.grant.ensures.applied has.setting p has.world has.fits has.is) (c.grant.ensures.unchanged has.setting p has.world has.fits has.is)

pub returns-in-Send-clause-not_now : goal.returns-in-Send-clause-not_now
returns-in-Send-clause-not_now g c = λ st p w fits are refused may.
    c.send.ensures.not_now st p w fits are refused (subst (λ (e : FullEvent). MayHappenFull st w (action_of e)) c.in-Send.is may)

pub returns-in-Send-clause-no_memory : goal.returns-in-Send-clause-no_memory
returns-in-Send-clause-no_memory g c = λ st p w fits are refused.
    subst (λ (e : FullEvent). MayHappenFull st w (action_of e)) (sym c.in-Send.is) (c.send.ensures.no_memory st p w fits are refused)

pub send-requires : goal.send-requires
send-requires g c = record { cluster = of_some_program c.args.division.now c.args.terms (g.P.FullProgram.meaning c.args.program.now) c.args.self.now c.requires.cluster }

pub returns-in-Send-clause-applied : goal.returns-in-Send-clause-applied
returns-in-Send-clause-applied g c = λ st w fits are.
    let p : FullUpdate = g.P.FullProgram.meaning c.args.program.now in
    subst (λ (e : FullEvent). OnOk c.send.result (HasApplied st p w (action_of e) c.send.new.self)) (sym c.in-Send.is) (c.send.ensures.applied st p w fits are)

pub returns-in-Send-clause-cluster : goal.returns-in-Send-clause-cluster
returns-in-Send-clause-cluster g c =
    let p : FullUpdate = g.P.FullProgram.meaning c.args.program.now in
    let has = c.requires.cluster in
    still_for c.args.division.now c.args.terms has.setting p has.world _ c.send.new.self c.send.result has.fits (c.send.ensures.applied has.setting p has.world has.fits has.is) (c.send.ensures.unchanged has.setting p has.world has.fits has.is)

pub returns-in-Deliver-clause-not_now : goal.returns-in-Deliver-clause-not_now
returns-in-Deliver-clause-not_now g c = λ st p w fits are refused may.
    c.deliver.ensures.not_now st p w fits are refused (subst (λ (e : FullEvent). MayHappenFull st w (action_of e)) c.in-Deliver.is may)

pub returns-in-Deliver-clause-no_memory : goal.returns-in-Deliver-clause-no_memory
returns-in-Deliver-clause-no_memory g c = λ st p w fits are refused.
    subst (λ (e : FullEvent). MayHappenFull st w (action_of e)) (sym c.in-Deliver.is) (c.deliver.ensures.no_memory st p w fits are refused)

pub deliver-requires : goal.deliver-requires
deliver-requires g c = record { cluster = of_some_program c.args.division.now c.args.terms (g.P.FullProgram.meaning c.args.program.now) c.args.self.now c.requires.cluster }

pub returns-in-Deliver-clause-applied : goal.returns-in-Deliver-clause-applied
returns-in-Deliver-clause-applied g c = λ st w fits are.
    let p : FullUpdate = g.P.FullProgram.meaning c.args.program.now in
    subst (λ (e : FullEvent). OnOk c.deliver.result (HasApplied st p w (action_of e) c.deliver.new.self)) (sym c.in-Deliver.is) (c.deliver.ensures.applied st p w fits are)

pub returns-in-Deliver-clause-cluster : goal.returns-in-Deliver-clause-cluster
returns-in-Deliver-clause-cluster g c =
    let p : FullUpdate = g.P.FullProgram.meaning c.args.program.now in
    let has = c.requires.cluster in
    still_for c.args.division.now c.args.terms has.setting p has.world _ c.deliver.new.self c.deliver.result has.fits (c.deliver.ensures.applied has.setting p has.world has.fits has.is) (c.deliver.ensures.unchanged has.setting p has.world has.fits has.is)

pub returns-in-Update-clause-not_now : goal.returns-in-Update-clause-not_now
returns-in-Update-clause-not_now g c = λ st p w fits are refused may.
    c.update.ensures.not_now st p w fits are refused (subst (λ (e : FullEvent). MayHappenFull st w (action_of e)) c.in-Update.is may)

pub returns-in-Update-clause-no_memory : goal.returns-in-Update-clause-no_memory
returns-in-Update-clause-no_memory g c = λ st p w fits are refused.
    subst (λ (e : FullEvent). MayHappenFull st w (action_of e)) (sym c.in-Update.is) (c.update.ensures.no_memory st p w fits are refused)
