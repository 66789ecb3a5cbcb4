-- What contracts see of a machine's lists.
use Rattle.local_graph.specs.declared.graphs.LocalGraph.TheInside.{Inside}
use Rattle.local_graph.specs.Locals.{LocalView}
use Rattle.local_graph.specs.Inner.Ways.{rows_in}

abbrev pub local_view_of : Inside → LocalView
local_view_of g =
    record {
      me = g.me;
      owned = g.owned.items;
      ghosts = g.ghosts.items;
      places = g.places;
      ids = g.ids.items;
      kept = g.kept.items;
      rows = rows_in g.outs.items g.links;
      links = g.links;
      sides = g.sides;
      parts = g.parts;
      part = g.part;
      numbers = g.numbers;
    }
