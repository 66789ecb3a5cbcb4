-- The parts of a cluster as a board is made of them.
use Rattle.std.specs.Prelude.{List, [], false, length, refl, slice_index_or, suc, ℕ, ◌<◌, ◌∷◌, ◌≡◌}
use Rattle.std.proofs.Common.{ap, sym, ◌∙◌}
use mathlib.Core.Option.{some}
use lib.ListN.{get_elem?}
use Rattle.wire_board.specs.Led.{Lead, LinkView, Node, Parts, Seated, Standing, link_between, link_no}
use Rattle.wire_board.specs.Standings.{Nothing}

-- these machines, the first of which has the number a, owe nothing
abbrev pub numbered : {M : Type 0} → ℕ → ℕ → List M → List (Standing M)
numbered peers a [] = []
numbered peers a (x ∷ xs) = record { member = record { number = a; peers = peers; machine = x }; owed = Nothing } ∷ numbered peers (suc a) xs

pub length_numbered : {M : Type 0} (peers a : ℕ) (xs : List M) → length (numbered peers a xs) ≡ length xs
length_numbered peers a [] = refl
length_numbered peers a (x ∷ xs) = ap suc (length_numbered peers (suc a) xs)

abbrev pub standing_parts : {M : Type 0} → ℕ → Parts M → Parts (Standing M)
standing_parts n p =
    record {
      machines = record {
        ptr = p.machines.ptr;
        len = p.machines.len;
        cap = p.machines.cap;
        alloc = p.machines.alloc;
        items = numbered (suc n) 0 p.machines.items;
        ok = (p.machines.ok.0 ∙ sym (length_numbered (suc n) 0 p.machines.items), p.machines.ok.1);
        small = p.machines.small;
      };
      failed = p.failed;
      links = p.links;
      coordinator = p.coordinator;
      next = p.next;
      left = p.left;
      stopped = p.stopped;
    }

abbrev pub nodes : {M : Type 0} → List (Standing M) → List (Seated M)
nodes [] = []
nodes (x ∷ xs) = Node x ∷ nodes xs

-- the coordinator stands first in the seat that has all
abbrev pub first_parts : {M : Type 0} → ℕ → Parts M → List (Seated M)
first_parts n p = Lead (record { number = n; coordinator = p.coordinator }) ∷ nodes (numbered (suc n) 0 p.machines.items)

-- Nobody has failed, the run goes on, and the links stand in this list.
pub record AreOpening {M : Type 0} (n : ℕ) (p : Parts M) (links : List LinkView) : Type 0 where
  pub many : length p.machines.items ≡ n
  pub lines : (i j : ℕ) → i < suc n → j < suc n → get_elem? links (link_no (suc n) i j) ≡ some (link_between p.links i j)
  pub awake : (a : ℕ) → slice_index_or p.failed.items a false ≡ false
  pub runs : p.stopped ≡ false
