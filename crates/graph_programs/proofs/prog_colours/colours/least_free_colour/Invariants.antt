-- The search from this colour on, as far as it still goes, finds what the whole search does.
use Rattle.std.proofs.Common.{◌≡◌, ℕ, ◌+◌, length}
use Rattle.update_api.specs.LeastFree.{first_free, least_free}
use Rattle.update_api.specs.Scopes.{nears}
use Rattle.graph_programs.proofs.prog_colours.colours.least_free_colour.Given as goal

abbrev pub invariant-loop : goal.invariant-loop
invariant-loop l =
    record {
      next : l.colour ≡ l.counter + 1;
      whole : l.end ≡ length l.scope.links.now;
      found : (more : ℕ) → l.counter + more ≡ l.end → first_free more l.colour (nears l.scope) ≡ least_free (nears l.scope);
    }
