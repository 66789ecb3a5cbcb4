-- Lists of what is told, filled one after another.
use Rattle.std.proofs.Common.{◌≡◌, ℕ, ◌+◌, ◌<◌, ◌≤◌, ◌==◌, ◌&&◌, ◌++◌, not, if◌then◌else◌, List, [], ◌∷◌, length, get_or, drop, refl, sym, ap, ◌∙◌, arith}
use Rattle.std.specs.declared.vec.Vec.{Vec}
use Rattle.std.specs.declared.alloc.Global.{Global}
use Rattle.std.specs.Vec.{vec_capacity, vec_len}
use Rattle.std.proofs.lemmas.List.{drop_more, drop_all}
use Rattle.update_api.specs.declared.links.Link.{Link}
use Rattle.update_api.specs.declared.woken.Woken.{Woken}
use Rattle.local_graph.specs.declared.sides.Side.{Side}
use Rattle.partition.specs.machine_numbers.Steps.{told_edges, told_wakes, wakes_there}

-- the list has what is told of the first i sides, and room for all
pub record IsFilling {X : Type 0} (all left : List X) (now : Vec X Global) (i many : ℕ) : Type 0 where
  pub items : now.items ++ left ≡ all
  pub few : vec_len now ≤ i
  pub room : many ≤ vec_capacity now

append_one : {X : Type 0} (xs : List X) (x : X) (ys : List X) → (xs ++ x ∷ []) ++ ys ≡ xs ++ x ∷ ys
append_one [] x ys = refl
append_one (z ∷ xs) x ys = ap (λ zs. z ∷ zs) (append_one xs x ys)

append_none : {X : Type 0} (xs : List X) → xs ++ [] ≡ xs
append_none [] = refl
append_none (z ∷ xs) = ap (λ zs. z ∷ zs) (append_none xs)

pub filled_one : {X : Type 0} (all left later items new : List X) (x : X) → items ++ left ≡ all → left ≡ x ∷ later → new ≡ items ++ x ∷ [] → new ++ later ≡ all
filled_one {X} all left later items new x is step grown = ap (λ ys. ys ++ later) grown ∙ append_one items x later ∙ ap (λ ys. items ++ ys) (sym step) ∙ is

pub filled_all : {X : Type 0} (all left items : List X) → items ++ left ≡ all → left ≡ [] → items ≡ all
filled_all {X} all left items is none = sym (append_none items) ∙ ap (λ ys. items ++ ys) (sym none) ∙ is

pub edges_more : (to : ℕ) (sides : List Side) (xs ys : List ℕ) (i : ℕ) (s : Side) → i < length sides → length xs ≡ length sides → length ys ≡ length sides
    → told_edges to (drop i sides) (drop i xs) (drop i ys)
    ≡ (if (get_or sides i s).owner.0 == to && not (get_or xs i 0 == get_or ys i 0)
    then ((get_or sides i s).edge, get_or ys i 0) ∷ told_edges to (drop (i + 1) sides) (drop (i + 1) xs) (drop (i + 1) ys)
    else told_edges to (drop (i + 1) sides) (drop (i + 1) xs) (drop (i + 1) ys))
edges_more to sides xs ys i s inside as_xs as_ys =
    ap (λ (ss : List Side). told_edges to ss (drop i xs) (drop i ys)) (drop_more sides i s inside)
    ∙ ap (λ (zs : List ℕ). told_edges to (get_or sides i s ∷ drop (i + 1) sides) zs (drop i ys)) (drop_more xs i 0 (omega arith))
    ∙ ap (λ (zs : List ℕ). told_edges to (get_or sides i s ∷ drop (i + 1) sides) (get_or xs i 0 ∷ drop (i + 1) xs) zs) (drop_more ys i 0 (omega arith))

pub edges_none : (to : ℕ) (sides : List Side) (xs ys : List ℕ) (i : ℕ) → length sides ≤ i → told_edges to (drop i sides) (drop i xs) (drop i ys) ≡ []
edges_none to sides xs ys i all = ap (λ (ss : List Side). told_edges to ss (drop i xs) (drop i ys)) (drop_all i sides all)

pub wakes_more : (to : ℕ) (woken : Woken) (sides : List Side) (links : List Link) (i : ℕ) (s : Side) (link : Link) → i < length sides → length links ≡ length sides
    → told_wakes to woken (drop i sides) (drop i links)
    ≡ (if wakes_there to woken (get_or sides i s) (get_or links i link)
    then (get_or sides i s).other ∷ told_wakes to woken (drop (i + 1) sides) (drop (i + 1) links)
    else told_wakes to woken (drop (i + 1) sides) (drop (i + 1) links))
wakes_more to woken sides links i s link inside same =
    ap (λ (ss : List Side). told_wakes to woken ss (drop i links)) (drop_more sides i s inside)
    ∙ ap (λ (ls : List Link). told_wakes to woken (get_or sides i s ∷ drop (i + 1) sides) ls) (drop_more links i link (omega arith))

pub wakes_none : (to : ℕ) (woken : Woken) (sides : List Side) (links : List Link) (i : ℕ) → length sides ≤ i → told_wakes to woken (drop i sides) (drop i links) ≡ []
wakes_none to woken sides links i all = ap (λ (ss : List Side). told_wakes to woken ss (drop i links)) (drop_all i sides all)
