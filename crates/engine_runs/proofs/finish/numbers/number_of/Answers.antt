-- The machine that owns the vertex has its number.
use Rattle.std.proofs.Common.{◌≡◌, ℕ, ◌<◌, ◌∙◌, ap, length, subst, sym}
use Rattle.gl_base.specs.declared.numbers.AtomNo.{AtomNo}
use Rattle.gl_base.specs.declared.scopes.Datum.{Datum}
use Rattle.engine_runs.proofs.finish.MachineLemmas.{number_in, placed_at}
use Rattle.engine_runs.specs.finish.Gathered.{IsAnyMachineOf, placed_owner}
use Rattle.partition.specs.machine_numbers.Views.{datum_here}
use Rattle.machine_core.specs.declared.machine_parts.cores.Core.{Core}
use Rattle.engine_runs.proofs.finish.numbers.number_of.Given as given
use Rattle.engine_runs.proofs.finish.numbers.number_of.Goals as goal

owner_at : (g : given.Over) (c : goal.After-datum g) → placed_owner c.args.places.now.of.items c.args.places.now.owner.items c.args.v.0 ≡ c.index-owner.result.now.0
owner_at g c =
    let low : c.args.v.0 < length c.args.places.now.of.items = subst (λ (n : ℕ). c.args.v.0 < n) (sym c.requires.places.each) c.requires.inside in
    let below : c.index-atom.result.now.0 < length c.args.places.now.owner.items =
    subst (λ (a : AtomNo). a.0 < length c.args.places.now.owner.items) (sym c.index-atom.ensures) (c.requires.places.atoms c.args.v.0 c.index-atom.result.now low) in
    placed_at c.args.places.now.of.items c.args.places.now.owner.items c.args.v.0 c.index-atom.result.now c.index-owner.result.now low below c.index-atom.ensures c.index-owner.ensures

pub returns : goal.returns
returns g c = λ st o events x now low owned.
    ap (λ (d : Datum). d.value) (c.datum.ensures ∙ ap (λ (k : Core). datum_here k.numbers c.args.v.0) c.core_of-core.ensures.parts)
    ∙ number_in (IsAnyMachineOf g.P.Program.meaning) c.args.trace.now st o events x now g.P.Program.meaning c.index-owner.result.now.0 c.machine.result.now (c.machine.ensures st o events x now) c.args.v.0 low (owned ∙ owner_at g c)
