-- The bytes of one edge more.
use Rattle.std.proofs.Common.{◌≡◌, ℕ, ◌+◌, ◌<◌, List, [], ◌∷◌, ◌++◌, length, take, Some, sym, ap, ◌∙◌, append_assoc}
use Rattle.std.specs.Int.{to_be_bytes, w32}
use Rattle.std.specs.List.{flat_map, slice_get}
use Rattle.std.proofs.lemmas.List.{flat_map_more, take_more}
use Rattle.std.proofs.lemmas.Option.{get_or_from_slice_get}
use Rattle.graph_core.specs.DataGraph.{DataEdge}
use Rattle.graph_core.specs.Digest.{edge_bytes}

pub edge_bytes-more : (edges : List DataEdge) (fed : List ℕ) (e : ℕ) (x : DataEdge) → e < length edges → slice_get edges e ≡ Some x
    → (((fed ++ flat_map edge_bytes (take e edges)) ++ to_be_bytes w32 x.from) ++ to_be_bytes w32 x.to) ++ to_be_bytes w32 x.weight ≡ fed ++ flat_map edge_bytes (take (e + 1) edges)
edge_bytes-more edges fed e x inside is =
    let old = fed ++ flat_map edge_bytes (take e edges) in
    append_assoc (old ++ to_be_bytes w32 x.from) (to_be_bytes w32 x.to) (to_be_bytes w32 x.weight)
    ∙ append_assoc old (to_be_bytes w32 x.from) (to_be_bytes w32 x.to ++ to_be_bytes w32 x.weight)
    ∙ flat_map_more edge_bytes fed (take e edges) x
    ∙ ap (λ (y : DataEdge). fed ++ flat_map edge_bytes (take e edges ++ y ∷ [])) (sym (get_or_from_slice_get edges e x x is))
    ∙ ap (λ (es : List DataEdge). fed ++ flat_map edge_bytes es) (sym (take_more edges e x inside))

pub three_parts : (old a b c a' b' c' : List ℕ) → a ≡ a' → b ≡ b' → c ≡ c' → ((old ++ a) ++ b) ++ c ≡ ((old ++ a') ++ b') ++ c'
three_parts old a b c a' b' c' p q r = cc
