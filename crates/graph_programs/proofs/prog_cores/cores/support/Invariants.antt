-- What was counted so far and what is left are as many as all.
use Rattle.std.proofs.Common.{◌≡◌, ◌≤◌, ◌+◌, drop}
use Rattle.update_api.specs.Links.{nears_at}
use Rattle.update_api.specs.Scopes.{nears, numbers}
use Rattle.update_api.specs.Supported.{support}
use Rattle.graph_programs.proofs.prog_cores.cores.support.Given as goal

abbrev pub invariant-loop-i : goal.invariant-loop-i
invariant-loop-i l =
    let s = l.scope in
    record {
      few : l.count ≤ l.i;
      whole : l.count + support l.k (nears_at (numbers s) s.edges.now (drop l.i s.links.now)) ≡ support l.k (nears s);
    }
