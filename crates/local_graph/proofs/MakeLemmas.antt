-- Lists that are made place by place.
use Rattle.std.proofs.Common.{◌≡◌, ℕ, ◌+◌, ◌++◌, List, [], ◌∷◌, get_or, map, sym, ap, ◌∙◌}
use Rattle.std.specs.List.{range_with_len}
use Rattle.std.proofs.lemmas.List.{map_push}
use Rattle.gl_base.specs.declared.numbers.MachineNo.{MachineNo}
use Rattle.gl_base.specs.declared.numbers.Vertex.{Vertex}
use Rattle.graph_core.specs.declared.halves.Half.{Half}
use Rattle.update_api.specs.declared.links.Link.{Link}
use Rattle.local_graph.specs.declared.making.ByPlace.{ByPlace}
use Rattle.local_graph.specs.declared.sides.Side.{Side}
use Rattle.local_graph.specs.Lines.{links_from}
use Rattle.local_graph.specs.Played.{numbers_of}
use Rattle.local_graph.specs.Inner.AtPlaces.{halves_known, links_known, machines_of, scope_numbers, sides_known}
use Rattle.local_graph.specs.Inner.ByPlace.{AreMadeTo}
use Rattle.local_graph.proofs.ListLemmas.{map_range_more}

-- one more row, where the rows so far are those of a range
more : {X : Type 0} (f : ℕ → X) (k : ℕ) (old new : List X) (x : X) → old ≡ map f (range_with_len 0 k) → new ≡ old ++ x ∷ [] → x ≡ f k → new ≡ map f (range_with_len 0 (k + 1))
more {X} f k old new x was is here =
    is ∙ ap (λ (xs : List X). xs ++ x ∷ []) was ∙ ap (λ (y : X). map f (range_with_len 0 k) ++ y ∷ []) here ∙ sym (map_range_more f k)

module _ (side : Half → Side) (many : ℕ) (me : MachineNo) (machines : ℕ) (halves : List (List Half)) (known owned : List Vertex) where
  abbrev vertex : ℕ → ℕ
  vertex k = (get_or known k (record { 0 = 0 })).0

  -- what is made of place k is added
  pub record IsAddedAround (k : ℕ) (old new : ByPlace) (sides : List Side) (scope : List Vertex) : Type 0 where
    pub to_sides : new.sides ≡ old.sides ++ sides ∷ []
    pub to_part : new.part ≡ old.part ++ scope ∷ []
    pub are_sides : sides ≡ sides_known side many halves known k
    pub is_scope : numbers_of scope ≡ scope_numbers owned (vertex k) sides

  more_sides : (n k : ℕ) (old new : ByPlace) (sides : List Side) (scope : List Vertex) → AreMadeTo side many me machines halves known owned n k old → IsAddedAround k old new sides scope
      → new.sides ≡ map (sides_known side many halves known) (range_with_len 0 (k + 1))
  more_sides n k old new sides scope made added = more (sides_known side many halves known) k old.sides new.sides sides made.sides added.to_sides added.are_sides

  more_part : (n k : ℕ) (old new : ByPlace) (sides : List Side) (scope : List Vertex) → AreMadeTo side many me machines halves known owned n k old → IsAddedAround k old new sides scope
      → map numbers_of new.part ≡ map (λ j. scope_numbers owned (vertex j) (sides_known side many halves known j)) (range_with_len 0 (k + 1))
  more_part n k old new sides scope made added =
      more (λ j. scope_numbers owned (vertex j) (sides_known side many halves known j)) k (map numbers_of old.part) (map numbers_of new.part) (numbers_of scope) made.part
      (ap (map numbers_of) added.to_part ∙ map_push numbers_of old.part scope) (added.is_scope ∙ ap (scope_numbers owned (vertex k)) added.are_sides)

  pub made_around : (n k : ℕ) (old new : ByPlace) (sides : List Side) (scope : List Vertex) → AreMadeTo side many me machines halves known owned n k old → IsAddedAround k old new sides scope
      → new.links ≡ old.links → new.parts ≡ old.parts → AreMadeTo side many me machines halves known owned n (k + 1) new
  made_around n k old new sides scope made added links parts =
      record {
        links = links ∙ made.links;
        parts = parts ∙ made.parts;
        sides = more_sides n k old new sides scope made added;
        part = more_part n k old new sides scope made added;
      }

  pub made_own : (k : ℕ) (old new : ByPlace) (sides : List Side) (scope : List Vertex) (row : List Link) (takers : List MachineNo)
      → AreMadeTo side many me machines halves known owned k k old → IsAddedAround k old new sides scope
      → new.links ≡ old.links ++ row ∷ [] → row ≡ links_from 0 (halves_known halves known k)
      → new.parts ≡ old.parts ++ takers ∷ [] → takers ≡ machines_of me machines sides
      → AreMadeTo side many me machines halves known owned (k + 1) (k + 1) new
  made_own k old new sides scope row takers made added links are_links parts are_takers =
      record {
        links = more (links_known halves known) k old.links new.links row made.links links are_links;
        parts = more (λ j. machines_of me machines (sides_known side many halves known j)) k old.parts new.parts takers made.parts parts (are_takers ∙ ap (machines_of me machines) added.are_sides);
        sides = more_sides k k old new sides scope made added;
        part = more_part k k old new sides scope made added;
      }

pub made_none : (side : Half → Side) (many : ℕ) (me : MachineNo) (machines : ℕ) (halves : List (List Half)) (known owned : List Vertex) (b : ByPlace)
    → b.links ≡ [] → b.parts ≡ [] → b.sides ≡ [] → b.part ≡ [] → AreMadeTo side many me machines halves known owned 0 0 b
made_none side many me machines halves known owned b links parts sides part =
    record { links = links; parts = parts; sides = sides; part = ap (map numbers_of) part }
