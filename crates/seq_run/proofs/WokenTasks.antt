-- Links are gone over one after another, and those along which an update wakes become tasks.
use Rattle.std.proofs.Common.{◌≡◌, ℕ, ◌+◌, ◌<◌, Bool, true, false, if◌then◌else◌, ◌==◌, ◌&&◌, ◌||◌, List, [], ◌∷◌, length, map, take, slice_index_or, slice_set, refl, sym, ap, ◌∙◌, ⊎_elim, eq-eqb, ne_eqb}
use Rattle.std.specs.List.{list_any}
use Rattle.std.proofs.Math.ListN.{length-set}
use Rattle.std.proofs.lemmas.Bool.{cases_eq}
use Rattle.std.proofs.lemmas.List.{take_more}
use Rattle.std.proofs.lemmas.List.Folds.{list_any-append}
use Rattle.update_api.specs.declared.links.Link.{Link}
use Rattle.update_api.specs.declared.woken.Woken.{Woken}
use Rattle.update_api.specs.declared.woken.Woken.TheVariants.{Nobody, Ahead, Around}
use Rattle.update_api.specs.Directions.{leads_out}
use Rattle.seq_run.specs.Inner.ListedLinks.{link_half}
use Rattle.seq_run.specs.States.{is_woken}
use Rattle.seq_run.specs.Inner.TaskQueues.{flag}
use Rattle.seq_run.specs.Inner.Waking.{is_woken_along}
use Rattle.seq_run.proofs.Queueing.{flag-set}

-- u is the other end of the link, and woken
abbrev pub wakes_to : Woken → ℕ → Link → Bool
wakes_to woken u link = is_woken_along woken (leads_out link.direction) && link.near == u

-- the tasks that these links add
pub record AreAddedBy (woken : Woken) (links : List Link) (old new : List Bool) : Type 0 where
  pub count : length new ≡ length old
  pub tasks : (u : ℕ) → flag new u ≡ (list_any (wakes_to woken u) links || flag old u)

any_more : (test : Link → Bool) (links : List Link) (i : ℕ) (d : Link) → i < length links → list_any test (take (i + 1) links) ≡ (list_any test (take i links) || test (slice_index_or links i d))
any_more test links i d within =
    ap (list_any test) (take_more links i d within) ∙ list_any-append test (take i links) (slice_index_or links i d ∷ []) ∙ ap (λ b. list_any test (take i links) || b) (or_false (test (slice_index_or links i d)))
  where
    or_false : (b : Bool) → (b || false) ≡ b
    or_false true = refl
    or_false false = refl

or_swap : (a b c : Bool) → (b || (a || c)) ≡ ((a || b) || c)
or_swap true true c = refl
or_swap true false c = refl
or_swap false true c = refl
or_swap false false c = refl

or_none : (a c : Bool) → (a || c) ≡ ((a || false) || c)
or_none true c = refl
or_none false c = refl

-- a link along which nobody is woken
pub skipped : (woken : Woken) (links : List Link) (i : ℕ) (d : Link) (old new : List Bool) → i < length links → is_woken_along woken (leads_out (slice_index_or links i d).direction) ≡ false → AreAddedBy woken (take i links) old new → AreAddedBy woken (take (i + 1) links) old new
skipped woken links i d old new within asleep are =
    record {
      count = are.count;
      tasks = λ u.
          let none : wakes_to woken u (slice_index_or links i d) ≡ false = rw asleep refl in
          are.tasks u ∙ or_none (list_any (wakes_to woken u) (take i links)) (flag old u)
          ∙ ap (λ b. b || flag old u) (ap (λ b. list_any (wakes_to woken u) (take i links) || b) (sym none) ∙ sym (any_more (wakes_to woken u) links i d within));
    }

-- a link along which its other end is woken
pub woken_more : (woken : Woken) (links : List Link) (i : ℕ) (d : Link) (old new : List Bool) → i < length links → (slice_index_or links i d).near < length new → is_woken_along woken (leads_out (slice_index_or links i d).direction) ≡ true → AreAddedBy woken (take i links) old new → AreAddedBy woken (take (i + 1) links) old (slice_set new (slice_index_or links i d).near true)
woken_more woken links i d old new within inside awake are =
    let near = (slice_index_or links i d).near in
    record {
      count = length-set new near true ∙ are.count;
      tasks = λ u.
          let here : wakes_to woken u (slice_index_or links i d) ≡ (near == u) = rw awake refl in
          flag-set new near u true inside ∙ raised u near (flag new u) ∙ ap (λ b. (near == u) || b) (are.tasks u)
          ∙ or_swap (list_any (wakes_to woken u) (take i links)) (near == u) (flag old u)
          ∙ ap (λ b. b || flag old u) (ap (λ b. list_any (wakes_to woken u) (take i links) || b) (sym here) ∙ sym (any_more (wakes_to woken u) links i d within));
    }
  where
    raised : (u near : ℕ) (b : Bool) → (if u == near then true else b) ≡ ((near == u) || b)
    raised u near b = ⊎_elim
        (λ (same : u ≡ near). rw (eq-eqb u near same, eq-eqb near u (sym same)) refl)
        (λ (other : u ≡ near → ⊥). rw (ne_eqb u near other, ne_eqb near u (λ same. other (sym same))) refl)
        (cases_eq u near)

-- the links wake whom the half-edges wake
woken_is : (woken : Woken) (links : List Link) (u : ℕ) → list_any (wakes_to woken u) links ≡ is_woken woken (map link_half links) u
woken_is Nobody [] u = refl
woken_is Nobody (link ∷ links) u = woken_is Nobody links u
woken_is Ahead [] u = refl
woken_is Ahead (link ∷ links) u = ap (λ b. (leads_out link.direction && link.near == u) || b) (woken_is Ahead links u)
woken_is Around [] u = refl
woken_is Around (link ∷ links) u = ap (λ b. (link.near == u) || b) (woken_is Around links u)

pub added_all : (woken : Woken) (links : List Link) (old new : List Bool) → AreAddedBy woken links old new → (u : ℕ) → flag new u ≡ (is_woken woken (map link_half links) u || flag old u)
added_all woken links old new are u = are.tasks u ∙ ap (λ b. b || flag old u) (woken_is woken links u)
