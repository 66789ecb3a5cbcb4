-- Nothing was counted, and nothing waits.
use Rattle.std.proofs.Common.{ap, false, refl, subst, sym}
use Rattle.cluster_laws.specs.cluster_model.TwoWaves.{TwoWaves}
use Rattle.coordinator.specs.coord_core.Coordinators.{Counting}
use Rattle.coordinator.specs.coord_core.Inner.Kept.{AreStepsKept}
use Rattle.gl_base.specs.declared.scopes.Peer.TheVariants.{Machine}
use Rattle.coordinator.proofs.coord_core.CallLemmas.{none_wait}
use Rattle.coordinator.proofs.coord_core.StepLemmas.{none_kept}
use Rattle.coordinator.proofs.coord_core.leading.Coordinator.first.Goals as goal

pub invariant_of-result : goal.invariant_of-result
invariant_of-result c = (
  none_wait c.in-Ok-new.out c.args.machines c.in-Ok-new.ensures.machines (λ a. c.in-Ok-new.ensures.none (Machine (record { 0 = a }))),
  c.requires.come,
  c.requires.kept,
  subst AreStepsKept (sym c.none.ensures) (none_kept c.args.engine),
)

pub returns : goal.returns
returns c = record {
  counting = ap (λ (waves : TwoWaves). let counting : Counting = record { put_out = 0; waiting = false; waves = waves } in counting) c.in-Ok.ensures;
  steps = c.none.ensures;
  saving = refl;
  many = c.in-Ok-new.ensures.machines;
  none = λ a. c.in-Ok-new.ensures.none (Machine (record { 0 = a }));
}
