-- The links of a vertex, which its scope lends.
use Rattle.graph_core.specs.Halves.{DataHalf}
use Rattle.update_api.specs.declared.links.Link.{Link}
use Rattle.update_api.specs.Directions.{leads_out, leads_into}

-- the link as a half-edge
abbrev pub link_half : Link → DataHalf
link_half link =
    record {
      edge = link.edge;
      other = link.near;
      weight = link.weight;
      out = leads_out link.direction;
      into = leads_into link.direction;
    }
