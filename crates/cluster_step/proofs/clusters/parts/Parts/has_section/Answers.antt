-- The machine may put its section out in the cluster where it may by itself.
use Rattle.std.proofs.Common.{sym, ◌∙◌}
use Rattle.std.proofs.lemmas.Bool.{false≢true}
use Rattle.cluster_step.specs.declared.clusters.events.Event.TheVariants as event
use Rattle.cluster_step.specs.declared.clusters.events.Local.TheVariants as local
use Rattle.cluster_step.proofs.clusters.Answering.{still_alone}
use Rattle.cluster_step.proofs.clusters.Next.{section_can, section_cannot, still_cannot}
use Rattle.cluster_step.proofs.clusters.parts.Parts.has_section.Goals as goal

pub returns-then-is_still-clause-no : goal.returns-then-is_still-clause-no
returns-then-is_still-clause-no g c = λ no. still_cannot g.M.SavingMachine.represents c.args.self.now (event.Local (local.Section c.args.at)) (c.is_still.ensures.yes c.if-is_still.true)

pub returns-clause-yes : goal.returns-clause-yes
returns-clause-yes g c = λ yes.
    let still = c.is_still.ensures.no c.if-is_still.false in
    section_can g.M.SavingMachine.represents c.args.self.now still.0 c.args.at c.requires still.1 c.index_mut.result.now c.index_mut.ensures.value
    (λ st a m setting here. (c.has_section.ensures.section st a m setting here).0 yes)

pub returns-clause-no : goal.returns-clause-no
returns-clause-no g c = λ no.
    let still = c.is_still.ensures.no c.if-is_still.false in
    section_cannot g.M.SavingMachine.represents c.args.self.now still.0 c.args.at c.requires still.1 c.index_mut.result.now c.index_mut.ensures.value
    (λ st a m setting here may. absurd (false≢true (sym no ∙ (c.has_section.ensures.section st a m setting here).1 may)))

pub returns-clause-same : goal.returns-clause-same
returns-clause-same g c =
    let still = c.is_still.ensures.no c.if-is_still.false in
    still_alone g.M.SavingMachine.represents c.args.self.now still.0 c.args.at.0 c.requires still.1 c.index_mut.result.now c.index_mut.ensures.value c.has_section.new.self c.has_section.ensures.unchanged
