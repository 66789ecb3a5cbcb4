-- The call goes on, pause behind pause, until it ends.
use Rattle.std.proofs.Common.{Err, ap, ◌∙◌, refl, subst, le_refl, le_trans}
use Rattle.std.specs.Prelude.{IfSome}
use Rattle.store.specs.declared.snap_journal.faults.JournalFault.TheVariants.{BadStore}
use Rattle.engine_runs.specs.Calls.{EndsBy, EndsCall}
use Rattle.engine_runs.proofs.Playing.{by_on, ends_on, keeps_on, same_first, same_on}
use Rattle.engine_runs.proofs.Refusing.{bounds_on, same_fault}
use Rattle.engine_runs.proofs.OnThreads.{can_there, err_always, keeps_there}
use Rattle.engine_runs.proofs.steps.play_to_end.Goals as goal

pub loop-init : goal.loop-init
loop-init g c = record {
  can = c.requires.can;
  keeps = λ told start first st o runs at. at;
  call = same_first c.args.call;
  short = λ low. low;
  header = refl;
  same = g.met.D.Disk.same_refl _;
  later = le_refl _;
}

-- ---- no memory for threads

pub returns-in_err-on-clause-keeps : goal.returns-in_err-on-clause-keeps
returns-in_err-on-clause-keeps g c = err_always c.from_residual.result _ (record { later = c.loop.call; same = c.loop.invariant.call; keeps = c.loop.invariant.keeps })

-- ---- the step behind them

pub step-requires : goal.step-requires
step-requires g c = record { can = can_there c.loop.call c.in_ok-on.on c.in_ok-on.ensures.same c.in_ok-on.ensures.attempt c.args.graph.now c.loop.journal c.loop.invariant.can }

pub loop-preserved : goal.loop-preserved
loop-preserved g c =
    let one = same_on c.args.call c.loop.call c.in_ok-on.on c.loop.invariant.call c.in_ok-on.ensures.attempt in
    record {
      can = c.in-Ok-None.ensures.on c.in-Ok-None.field-0-is;
      keeps = λ told. keeps_on g.P.Program.meaning g.D.Disk.past c.args.graph.now (g.P.Program.meaning c.args.program) c.args.call c.in_ok-on.on c.step.new.call c.args.journal.now c.loop.journal c.step.new.journal one
          (keeps_there c.loop.call c.in_ok-on.on c.in_ok-on.ensures.same c.in_ok-on.ensures.attempt g.P.Program.meaning g.D.Disk.past c.args.graph.now (g.P.Program.meaning c.args.program) c.args.call c.args.journal.now c.loop.journal c.loop.invariant.call
          (c.loop.invariant.keeps told) c.in_ok-on.ensures.known c.loop.invariant.can.well)
          (c.step.ensures.keeps told);
      call = same_on c.args.call c.in_ok-on.on c.step.new.call one c.step.ensures.call;
      short = λ low. c.in-Ok-None.ensures.short c.in-Ok-None.field-0-is (c.loop.invariant.short low);
      header = c.step.ensures.header ∙ c.loop.invariant.header;
      same = g.met.D.Disk.same_trans _ _ _ c.loop.invariant.same c.step.ensures.same;
      later = le_trans c.loop.invariant.later c.step.ensures.later;
    }

-- ---- it has ended

pub returns-in-Ok-Some-clause-ends : goal.returns-in-Ok-Some-clause-ends
returns-in-Ok-Some-clause-ends g c = λ told.
    ends_on g.P.Program.meaning g.D.Disk.past c.args.graph.now (g.P.Program.meaning c.args.program) c.args.call c.in_ok-on.on c.step.new.call c.args.journal.now c.loop.journal c.step.new.journal
    (same_on c.args.call c.loop.call c.in_ok-on.on c.loop.invariant.call c.in_ok-on.ensures.attempt)
    (keeps_there c.loop.call c.in_ok-on.on c.in_ok-on.ensures.same c.in_ok-on.ensures.attempt g.P.Program.meaning g.D.Disk.past c.args.graph.now (g.P.Program.meaning c.args.program) c.args.call c.args.journal.now c.loop.journal c.loop.invariant.call
    (c.loop.invariant.keeps told) c.in_ok-on.ensures.known c.loop.invariant.can.well)
    c.in-Ok-Some.end
    (subst (λ (end : _). IfSome end (EndsCall g.P.Program.meaning g.D.Disk.past c.args.graph.now (g.P.Program.meaning c.args.program) c.in_ok-on.on c.loop.journal c.step.new.call c.step.new.journal)) c.in-Ok-Some.field-0-is (c.in-Ok-Some.ensures.ends told))

pub returns-in-Ok-Some-clause-by : goal.returns-in-Ok-Some-clause-by
returns-in-Ok-Some-clause-by g c =
    by_on c.step.new.journal _ _ _ c.in-Ok-Some.end c.loop.invariant.later
    (subst (λ (end : _). IfSome end (EndsBy c.step.new.journal (g.D.Disk.faults c.loop.journal.disk) (g.D.Disk.faults c.step.new.journal.disk))) c.in-Ok-Some.field-0-is c.in-Ok-Some.ensures.by)

pub returns-in-Ok-Some-clause-call : goal.returns-in-Ok-Some-clause-call
returns-in-Ok-Some-clause-call g c =
    same_on c.args.call c.in_ok-on.on c.step.new.call (same_on c.args.call c.loop.call c.in_ok-on.on c.loop.invariant.call c.in_ok-on.ensures.attempt) c.step.ensures.call

pub returns-in-Ok-Some-clause-header : goal.returns-in-Ok-Some-clause-header
returns-in-Ok-Some-clause-header g c = c.step.ensures.header ∙ c.loop.invariant.header

pub returns-in-Ok-Some-clause-same : goal.returns-in-Ok-Some-clause-same
returns-in-Ok-Some-clause-same g c = g.met.D.Disk.same_trans _ _ _ c.loop.invariant.same c.step.ensures.same

pub returns-in-Ok-Some-clause-later : goal.returns-in-Ok-Some-clause-later
returns-in-Ok-Some-clause-later g c = le_trans c.loop.invariant.later c.step.ensures.later

-- ---- it has stopped

pub returns-in-Err-clause-keeps : goal.returns-in-Err-clause-keeps
returns-in-Err-clause-keeps g c =
    let one = same_on c.args.call c.loop.call c.in_ok-on.on c.loop.invariant.call c.in_ok-on.ensures.attempt in
    record {
      later = c.step.new.call;
      same = same_on c.args.call c.in_ok-on.on c.step.new.call one c.step.ensures.call;
      keeps = λ told. keeps_on g.P.Program.meaning g.D.Disk.past c.args.graph.now (g.P.Program.meaning c.args.program) c.args.call c.in_ok-on.on c.step.new.call c.args.journal.now c.loop.journal c.step.new.journal one
          (keeps_there c.loop.call c.in_ok-on.on c.in_ok-on.ensures.same c.in_ok-on.ensures.attempt g.P.Program.meaning g.D.Disk.past c.args.graph.now (g.P.Program.meaning c.args.program) c.args.call c.args.journal.now c.loop.journal c.loop.invariant.call
          (c.loop.invariant.keeps told) c.in_ok-on.ensures.known c.loop.invariant.can.well)
          (c.step.ensures.keeps told);
    }

pub returns-in-Err-clause-good : goal.returns-in-Err-clause-good
returns-in-Err-clause-good g c = λ told st runs start first o at bounds bad is.
    c.in-Err.ensures.good told st start first o
    (keeps_there c.loop.call c.in_ok-on.on c.in_ok-on.ensures.same c.in_ok-on.ensures.attempt g.P.Program.meaning g.D.Disk.past c.args.graph.now (g.P.Program.meaning c.args.program) c.args.call c.args.journal.now c.loop.journal c.loop.invariant.call
    (c.loop.invariant.keeps told) c.in_ok-on.ensures.known c.loop.invariant.can.well start first st o runs at)
    (bounds_on c.args.call c.in_ok-on.on c.args.journal.now c.loop.journal st o (c.in_ok-on.ensures.attempt.failures ∙ c.loop.invariant.call.failures) (c.loop.invariant.short bounds.bytes) bounds) bad (ap Err (same_fault c.in-Err.why (BadStore bad) is))

pub returns-in-Err-clause-header : goal.returns-in-Err-clause-header
returns-in-Err-clause-header g c = c.step.ensures.header ∙ c.loop.invariant.header

pub returns-in-Err-clause-same : goal.returns-in-Err-clause-same
returns-in-Err-clause-same g c = g.met.D.Disk.same_trans _ _ _ c.loop.invariant.same c.step.ensures.same

pub returns-in-Err-clause-later : goal.returns-in-Err-clause-later
returns-in-Err-clause-later g c = le_trans c.loop.invariant.later c.step.ensures.later
