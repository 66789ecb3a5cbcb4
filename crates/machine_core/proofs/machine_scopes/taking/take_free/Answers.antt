use Rattle.std.proofs.Common.{◌∙◌, refl, ap}
use Rattle.machine_core.specs.declared.machine_parts.cores.Core.{Core}
use Rattle.machine_core.proofs.machine_scopes.TakeLemmas.{nothing_taken, taken_more}
use Rattle.machine_core.proofs.machine_scopes.taking.take_free.Goals as goal

pub loop-init : goal.loop-init
loop-init c = record {
  orderly = c.requires.orderly;
  come = c.requires.come;
  wants = c.requires.wants;
  room = c.requires.room;
  settings = λ st part. part;
  taken = nothing_taken c.args.core.now c.args.scope;
  rest = refl;
}

pub returns-in-None-clause-taken : goal.returns-in-None-clause-taken
returns-in-None-clause-taken c =
    taken_more c.args.core.now c.loop.core c.take_next.new.core c.args.scope (ap (λ (n : Core). n.numbers) c.loop.invariant.rest) c.loop.invariant.settings c.loop.invariant.taken c.take_next.ensures.taken

pub loop-preserved : goal.loop-preserved
loop-preserved c =
    let new = c.take_next.new.core in
    record {
      orderly = c.take_next.ensures.orderly;
      come = c.take_next.ensures.come;
      wants = c.in-Some.ensures.wants;
      room = c.in-Some.ensures.room;
      settings = λ st part. c.take_next.ensures.settings st (c.loop.invariant.settings st part);
      taken = taken_more c.args.core.now c.loop.core new c.args.scope (ap (λ (n : Core). n.numbers) c.loop.invariant.rest) c.loop.invariant.settings c.loop.invariant.taken c.take_next.ensures.taken;
      rest = c.take_next.ensures.rest ∙ ap (λ (n : Core). record n { pipe = new.pipe; locks = new.locks; out = new.out }) c.loop.invariant.rest;
    }
