-- What was made of the work is committed.
use Rattle.std.proofs.Common.{◌≡◌, ℕ, ◌==◌, Some, if◌then◌else◌, sym, ap, ◌∙◌, subst}
use Rattle.gl_base.specs.declared.entries.Entry.TheVariants.{Go}
use Rattle.local_graph.specs.declared.works.Work.{Work}
use Rattle.partition.specs.machine_numbers.Settings.{IsMadeOfWork}
use Rattle.update_api.specs.Updates.{Update}
use Rattle.machine_core.specs.declared.machine_parts.cores.Core.{Core}
use Rattle.machine_core.specs.machine_turns.Turns.{datum_here, is_own, links_at, part_of, place_at, updated}
use Rattle.machine_core.specs.machine_turns.Inner.Taking.{HasItsRow}
use Rattle.machine_core.proofs.machine_turns.MadeLemmas.{made_of_work, marks_kept}
use Rattle.machine_core.proofs.machine_turns.turns.complete.Goals as goal

pub returns-in-Ok-clause-completed : goal.returns-in-Ok-clause-completed
returns-in-Ok-clause-completed g c st setting here row program =
    let m = c.args.core.now in
    let made = c.update.new.self in
    let first = c.in-Ok.ensures in
    let done = c.update.ensures in
    let is : made.work ≡ c.args.work = done.work ∙ first.work in
    let outcome = made_of_work (g.P.Program.meaning c.args.program.now) c.args.work c.in-Ok.outcome made first.work first.value first.edges done.work done.number done.marks done.woken in
    c.commit.ensures.committed st setting here (subst (λ (w : Work). HasItsRow st m w) (sym is) row) (subst (λ (p : Update). IsMadeOfWork p made) (sym program) outcome)
    ∙ ap (λ (w : Work). updated st m.numbers.local.me.0 w.scope w.vertex.0 (Go w.scope.home w.vertex c.args.terms.ticket) (part_of m)) is

pub returns-in-Ok-clause-marks : goal.returns-in-Ok-clause-marks
returns-in-Ok-clause-marks g c = marks_kept c.args.core.now.numbers c.commit.new.core.numbers c.update.new.self _ c.commit.ensures.numbers

pub returns-in-Err-clause-marks : goal.returns-in-Err-clause-marks
returns-in-Err-clause-marks g c x = ap (λ (m : Core). (datum_here m.numbers x).mark) c.put_back.ensures.rest

pub returns-in-Ok-clause-run : goal.returns-in-Ok-clause-run
returns-in-Ok-clause-run g c place at =
    let is : c.update.new.self.work ≡ c.args.work = c.update.ensures.work ∙ c.in-Ok.ensures.work in
    c.commit.ensures.tasks place (ap (λ (w : Work). place_at c.args.core.now.numbers.local w.vertex.0) is ∙ at)

pub returns-in-Ok-clause-part : goal.returns-in-Ok-clause-part
returns-in-Ok-clause-part g c = tt

pub returns-in-Ok-clause-back : goal.returns-in-Ok-clause-back
returns-in-Ok-clause-back g c = tt

pub returns-in-Ok-clause-rows : goal.returns-in-Ok-clause-rows
returns-in-Ok-clause-rows g c =
    subst (λ (w : Work). (x : ℕ) → links_at c.commit.new.core.numbers.local x ≡ (if x == w.vertex.0 then Some w.row.links.items else links_at c.args.core.now.numbers.local x)) (c.update.ensures.work ∙ c.in-Ok.ensures.work) c.commit.ensures.rows

pub returns-in-Ok-clause-local : goal.returns-in-Ok-clause-local
returns-in-Ok-clause-local g c = c.commit.ensures.local

pub returns-in-Ok-clause-own : goal.returns-in-Ok-clause-own
returns-in-Ok-clause-own g c = c.commit.ensures.own

pub returns-in-Ok-clause-orderly : goal.returns-in-Ok-clause-orderly
returns-in-Ok-clause-orderly g c = c.commit.ensures.orderly

pub returns-in-Ok-clause-places : goal.returns-in-Ok-clause-places
returns-in-Ok-clause-places g c = c.commit.ensures.places

pub returns-in-Ok-clause-settings : goal.returns-in-Ok-clause-settings
returns-in-Ok-clause-settings g c = λ st here row. c.commit.ensures.settings st here (subst (HasItsRow st c.args.core.now) (sym (c.update.ensures.work ∙ c.in-Ok.ensures.work)) row)

pub returns-in-Ok-clause-pipe : goal.returns-in-Ok-clause-pipe
returns-in-Ok-clause-pipe g c = c.commit.ensures.pipe

pub returns-in-Err-clause-completed : goal.returns-in-Err-clause-completed
returns-in-Err-clause-completed g c = tt

pub returns-in-Err-clause-run : goal.returns-in-Err-clause-run
returns-in-Err-clause-run g c = tt

pub returns-in-Err-clause-part : goal.returns-in-Err-clause-part
returns-in-Err-clause-part g c = c.put_back.ensures.part

pub returns-in-Err-clause-back : goal.returns-in-Err-clause-back
returns-in-Err-clause-back g c = c.put_back.ensures.rest

pub returns-in-Err-clause-rows : goal.returns-in-Err-clause-rows
returns-in-Err-clause-rows g c =
    subst (λ (w : Work). (x : ℕ) → links_at c.put_back.new.core.numbers.local x ≡ (if x == w.vertex.0 then Some w.row.links.items else links_at c.args.core.now.numbers.local x)) c.in-Err.ensures.back c.put_back.ensures.rows

pub returns-in-Err-clause-own : goal.returns-in-Err-clause-own
returns-in-Err-clause-own g c = λ x. ap (λ (m : Core). is_own m.numbers.local x) c.put_back.ensures.rest

pub returns-in-Err-clause-orderly : goal.returns-in-Err-clause-orderly
returns-in-Err-clause-orderly g c = c.put_back.ensures.orderly

pub returns-in-Err-clause-places : goal.returns-in-Err-clause-places
returns-in-Err-clause-places g c = c.put_back.ensures.places

pub returns-in-Err-clause-settings : goal.returns-in-Err-clause-settings
returns-in-Err-clause-settings g c = λ st here row. c.put_back.ensures.settings st here (subst (HasItsRow st c.args.core.now) (sym c.in-Err.ensures.back) row)
