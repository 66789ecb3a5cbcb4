use Rattle.std.proofs.Common.{suc, ◌-◌, sym, ◌∙◌, arith}
use Rattle.update_api.specs.Scopes.{nears}
use Rattle.graph_programs.proofs.prog_colours.SearchLaws.{first_free_stops, first_free_goes_on}
use Rattle.graph_programs.proofs.prog_colours.colours.least_free_colour.Goals as goal

pub returns-then-not-is_taken : goal.returns-then-not-is_taken
returns-then-not-is_taken c =
    let more = c.degree-end.result - c.loop.counter in
    sym (first_free_stops more c.loop.colour (nears c.args.scope.now) (cc)) ∙ c.loop.invariant.found more (omega arith)

pub overflow_add-colour : goal.overflow_add-colour
overflow_add-colour c = record { fits = omega arith }

pub loop-preserved : goal.loop-preserved
loop-preserved c =
    record {
      next = omega arith;
      whole = c.loop.invariant.whole;
      found = λ more reaches. first_free_goes_on more c.loop.colour (nears c.args.scope.now) (cc) ∙ c.loop.invariant.found (suc more) (omega arith);
    }

pub returns : goal.returns
returns c = c.loop.invariant.found 0 (omega arith)
