-- The call goes on from what the store has.
use Rattle.std.proofs.Common.{ap, length, subst, subst₂, sym, ℕ, ◌∙◌}
use Rattle.recovery.specs.declared.restarts.restarts.Restarts.{Restarts}
use Rattle.placed_machines.specs.declared.placing.Places.{Places}
use Rattle.placed_machines.proofs.RunLemmas.{stored_with}
use Rattle.engine_runs.proofs.Begun.{begun, from_started}
use Rattle.engine_runs.specs.Calls.{ArePlacesOf, Begins, IsHeaderOf, IsRunAt}
use Rattle.store.specs.declared.snap_journal.faults.JournalFault.TheVariants.{BadStore}
use Rattle.engine_runs.proofs.Refusing.{few_more, never_begun, same_fault}
use Rattle.engine_runs.proofs.running.begin.Goals as goal

pub returns-in-Ok-clause-can : goal.returns-in-Ok-clause-can
returns-in-Ok-clause-can g c =
    let graph = c.args.input.now.graph.now in
    record {
      places = subst₂ (λ (n : ℕ) (p : Places). ArePlacesOf graph n p) (sym (ap (λ x. length x.now.machines.items) c.call_of.ensures.trace ∙ c.in-Ok.ensures.machines)) (sym c.call_of.ensures.places) c.in-Ok.ensures.places.are;
      header = subst (IsHeaderOf graph) (sym (ap (λ j. j.header) c.in-Ok.ensures.kept)) c.requires.graph;
      restarts = subst (λ (r : Restarts). Begins r.stored.items r.front.items) (sym c.call_of.ensures.restarts) c.in-Ok.ensures.restarts;
      well = c.in-Ok.ensures.well.1;
      running = ap (λ x. x.now.stopped) c.call_of.ensures.trace ∙ c.in-Ok.ensures.runs;
    }

pub returns-in-Ok-clause-begun : goal.returns-in-Ok-clause-begun
returns-in-Ok-clause-begun g c = λ told st runs good.
    let graph = c.args.input.now.graph.now in
    let there : IsRunAt graph (g.P.Program.meaning c.args.program) c.in-Ok.started.places st = subst (λ (p : Places). IsRunAt graph (g.P.Program.meaning c.args.program) p st) c.call_of.ensures.places runs in
    let has = c.in-Ok.ensures.started told st there good in
    begun g.P.Program.meaning g.D.Disk.past c.call_of.result c.args.journal.now c.start_call.new.journal c.args.resumed c.args.input.now.plan.run.budget st c.args.input.now.failures.now
    (ap (λ x. x.failures) c.call_of.ensures.trace ∙ c.in-Ok.ensures.failures) (c.in-Ok.ensures.past told) (ap (λ j. j.header) c.in-Ok.ensures.kept) good
    (c.length-length.ensures.knows told c.in-Ok.ensures.well.0).durable c.call_of.ensures.lost c.call_of.ensures.snapshots has.opening has.resumed_is has.tickets
    (stored_with st c.args.input.now.plan.window (there.window ∙ c.in-Ok.ensures.places.window)).0
    (from_started g.P.Program.meaning c.in-Ok.started c.call_of.result c.args.journal.now.header _ st has.opening c.call_of.ensures.trace c.call_of.ensures.restarts c.call_of.ensures.order has.known)

pub returns-in-Err-clause-good : goal.returns-in-Err-clause-good
returns-in-Err-clause-good g c = λ told short bad is.
    never_begun g.D.Disk.past _ _ c.args.journal.now c.start_call.new.journal _ _ c.in-Err.why c.length-length.result bad told (few_more c.args.resumed)
    (λ ok. (c.length-length.ensures.knows told ok).bytes) short c.in-Err.ensures.refused (sym c.refused_by.ensures ∙ same_fault c.refused_by.result (BadStore bad) is)
