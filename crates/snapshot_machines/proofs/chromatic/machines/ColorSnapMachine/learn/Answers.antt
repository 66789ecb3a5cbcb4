-- The news are received as the law says, and whom they name stands in line.
use Rattle.std.proofs.Common.{ap, length, sym, subst, List}
use Rattle.gl_base.specs.declared.numbers.Vertex.{Vertex}
use Rattle.partition.specs.machine_numbers.Views.{LocalView}
use Rattle.machine_core.specs.declared.machine_parts.cores.Core.{Core}
use Rattle.snapshot_machines.specs.marking.Seeding.{HasOtherPending}
use Rattle.machine_core.specs.color_parts.Enlisting.{HasEnlisted}
use Rattle.machine_core.specs.declared.color_parts.enlisting.Which.TheVariants.{All}
use Rattle.snapshot_machines.specs.chromatic.Machines.{ColorSnapView, IsInSameStep, with_locking}
use Rattle.snapshot_machines.specs.chromatic.Snapshots.{HasBegunInStep}
use Rattle.snapshot_machines.specs.chromatic.Inner.Keeping.{seen_in_steps}
use Rattle.snapshot_machines.proofs.chromatic.HearLemmas.{begun_part, can_learn, heard_by_colour, step_on}
use Rattle.snapshot_machines.proofs.chromatic.KeepLemmas.{kept_on, same_step}
use Rattle.snapshot_machines.proofs.chromatic.LearnLemmas.{learned_in_line, learned_without_locks}
use Rattle.snapshot_machines.proofs.chromatic.machines.ColorSnapMachine.learn.Goals as goal

pub learn-requires : goal.learn-requires
learn-requires g c =
    let m = c.self.inside in
    let rest = subst (λ (x : ColorSnapView g.row.P.Denot). HasOtherPending c.args.self.now.core x.core) (sym c.self.view_is) c.begin.ensures.rest in
    λ orderly. can_learn c.args.self.now.core m.machine.core c.args.done rest c.requires orderly c.self.invariant.free

pub invariant_of-self : goal.invariant_of-self
invariant_of-self g c =
    let m = c.self.inside in
    let is = c.self.invariant in
    let e = c.learn.ensures in
    let before = c.core-begun.ensures in
    let x = seen_in_steps m.machine m.lines.colours m.colour m.closed in
    let rest = subst (λ (y : ColorSnapView g.row.P.Denot). HasOtherPending c.args.self.now.core y.core) (sym c.self.view_is) c.begin.ensures.rest in
    let step = subst (λ (y : ColorSnapView g.row.P.Denot). IsInSameStep c.args.self.now y) (sym c.self.view_is) c.begin.ensures.step in
    let has = subst (λ (y : ColorSnapView g.row.P.Denot). HasBegunInStep c.args.self.now y c.args.done.number) (sym c.self.view_is) c.begin.ensures.begun in
    let begun = begun_part c.args.self.now x c.args.done step has rest is.st is.setting.part in
    let many = e.many in
    let woken = subst (λ (ws : List Vertex). HasEnlisted All c.core-begun.result.now.numbers m.lines c.enlist_all.new.lines ws (length ws)) c.deref.ensures.value c.enlist_all.ensures.enlisted in
    let pended = subst (λ (ws : List Vertex). HasEnlisted All c.core-begun.result.now.numbers m.asked c.enlist_all-2.new.lines ws (length ws)) c.deref-2.ensures.value c.enlist_all-2.ensures.enlisted in
    let woken_here = subst (λ (n : Core). HasEnlisted All n.numbers m.lines c.enlist_all.new.lines c.args.done.wakes.items (length c.args.done.wakes.items)) before.parts woken in
    let pended_here = subst (λ (n : Core). HasEnlisted All n.numbers m.asked c.enlist_all-2.new.lines c.args.done.pends.items (length c.args.done.pends.items)) before.parts pended in
    kept_on g.P.Program.meaning x (seen_in_steps c.learn.new.self c.enlist_all.new.lines.colours m.colour m.closed) m.lines m.asked c.enlist_all.new.lines c.enlist_all-2.new.lines is
    (same_step x c.learn.new.self c.enlist_all.new.lines.colours e.settings e.places (ap (λ (l : LocalView). l.me) e.local) e.program c.enlist_all.ensures.colours).same e.terms
    (learned_without_locks m.machine.core c.learn.new.self.core m.machine.kept c.learn.new.self.kept _ c.args.done (with_locking is.st) before.orderly before.places is.setting.part.part begun e.learned e.tasks many e.local is.free)
    (learned_in_line m.machine.core c.learn.new.self.core m.machine.kept c.learn.new.self.kept _ c.args.done (with_locking is.st) before.orderly before.places is.setting.part.part begun e.learned e.tasks many e.local m.lines m.asked
    c.enlist_all.new.lines c.enlist_all-2.new.lines is.in_line c.enlist_all.ensures.colours c.enlist_all-2.ensures.colours woken_here pended_here)

pub returns-clause-learned : goal.returns-clause-learned
returns-clause-learned g c =
    let m = c.self.inside in
    let step = subst (λ (y : ColorSnapView g.row.P.Denot). IsInSameStep c.args.self.now y) (sym c.self.view_is) c.begin.ensures.step in
    let has = subst (λ (y : ColorSnapView g.row.P.Denot). HasBegunInStep c.args.self.now y c.args.done.number) (sym c.self.view_is) c.begin.ensures.begun in
    heard_by_colour c.args.self.now (seen_in_steps m.machine m.lines.colours m.colour m.closed) c.args.done step has c.learn.new.self c.enlist_all.new.lines.colours c.learn.ensures.learned

pub returns-clause-step : goal.returns-clause-step
returns-clause-step g c =
    let m = c.self.inside in
    let e = c.learn.ensures in
    let x = seen_in_steps m.machine m.lines.colours m.colour m.closed in
    let step = subst (λ (y : ColorSnapView g.row.P.Denot). IsInSameStep c.args.self.now y) (sym c.self.view_is) c.begin.ensures.step in
    let has = subst (λ (y : ColorSnapView g.row.P.Denot). HasBegunInStep c.args.self.now y c.args.done.number) (sym c.self.view_is) c.begin.ensures.begun in
    step_on c.args.self.now x c.args.done step has (seen_in_steps c.learn.new.self c.enlist_all.new.lines.colours m.colour m.closed)
    (same_step x c.learn.new.self c.enlist_all.new.lines.colours e.settings e.places (ap (λ (l : LocalView). l.me) e.local) e.program c.enlist_all.ensures.colours)
