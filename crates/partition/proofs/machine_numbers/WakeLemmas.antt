-- Vertices that are made tasks, one after another.
use Rattle.std.proofs.Common.{◌≡◌, ℕ, ◌+◌, ◌<◌, ◌≤◌, ◌==◌, ◌&&◌, ◌||◌, Bool, true, false, if◌then◌else◌, Some, List, ◌∷◌, length, get_or, drop, refl, sym, ap, ◌∙◌, arith, inl, inr}
use Rattle.std.specs.Prelude.{slice_set}
use Rattle.std.proofs.lemmas.Bool.{cases_eq, eq-eqb, ne_eqb, ltb-true}
use Rattle.std.proofs.lemmas.List.{drop_more, drop_all}
use Rattle.gl_base.specs.declared.numbers.Vertex.{Vertex}
use Rattle.update_api.specs.declared.links.Link.{Link}
use Rattle.update_api.specs.declared.woken.Woken.{Woken}
use Rattle.local_graph.specs.declared.sides.Side.{Side}
use Rattle.local_graph.proofs.PlaceLemmas.{at_written}
use Rattle.partition.specs.machine_numbers.Views.{LocalView, TasksView, AreTasksOf, is_own, place_at, flag_there, is_in_update}
use Rattle.partition.specs.machine_numbers.Steps.{IsSideHere, wakes_there, wakes_of, wakes_along, woken_flags}

pub own_inside : (l : LocalView) (t : TasksView) (v k : ℕ) → AreTasksOf l t → is_own l v ≡ true → place_at l v ≡ Some k → k < length t.task
own_inside l t v k are own at = ltb-true k (length t.task) (sym (are.own v k at) ∙ own)

turned : (u v : ℕ) (b : Bool) → (if u == v then true else b) ≡ ((v == u) || b)
turned u v b = elim (cases_eq v u) [
  | inl same ↦ ap (λ c. if c then true else b) (eq-eqb u v (sym same)) ∙ sym (ap (λ c. c || b) (eq-eqb v u same))
  | inr other ↦ ap (λ c. if c then true else b) (ne_eqb u v (λ e. other (sym e))) ∙ sym (ap (λ c. c || b) (ne_eqb v u other))
]

-- the flag at the place of v is set
pub woken_at : (l : LocalView) (old new : TasksView) (v k : ℕ) → AreTasksOf l old → place_at l v ≡ Some k → k < length old.task → new ≡ record old { task = slice_set old.task k true }
    → (u : ℕ) → flag_there new.task (place_at l u) ≡ ((v == u) || flag_there old.task (place_at l u))
woken_at l old new v k are at inside is u =
    ap (λ (t : TasksView). flag_there t.task (place_at l u)) is ∙ at_written l.places old.task v k true false are.apart at inside u
    ∙ turned u v (flag_there old.task (place_at l u))

pub left_holds : (a b : Bool) → (a && b) ≡ true → a ≡ true
left_holds true b both = refl
left_holds false b both = both

-- the end of a side that is woken here is an own vertex
pub end_inside : (l : LocalView) (t : TasksView) (woken : Woken) (s : Side) (link : Link) → IsSideHere l s → AreTasksOf l t → wakes_there l.me.0 woken s link ≡ true → s.place < length t.task
end_inside l t woken s link here are wakes =
    own_inside l t s.other.0 s.place are (here.own (left_holds (s.owner.0 == l.me.0) (wakes_along woken link) wakes)) here.place

pub end_woken : (l : LocalView) (old new : TasksView) (woken : Woken) (s : Side) (link : Link) → IsSideHere l s → AreTasksOf l old → wakes_there l.me.0 woken s link ≡ true
    → new ≡ record old { task = slice_set old.task s.place true }
    → (u : ℕ) → flag_there new.task (place_at l u) ≡ ((wakes_there l.me.0 woken s link && s.other.0 == u) || flag_there old.task (place_at l u))
end_woken l old new woken s link here are wakes is u =
    woken_at l old new s.other.0 s.place are here.place (end_inside l old woken s link here are wakes) is u
    ∙ sym (ap (λ b. (b && s.other.0 == u) || flag_there old.task (place_at l u)) wakes)

-- those of the first test are tasks or still to come
pub record IsWaking (l : LocalView) (all left : ℕ → Bool) (old now : TasksView) : Type 0 where
  pub each : (u : ℕ) → (all u || flag_there old.task (place_at l u)) ≡ (left u || flag_there now.task (place_at l u))
  pub rest : now ≡ record old { task = now.task }
  pub many : length now.task ≡ length old.task
  pub tasks : AreTasksOf l now

or_swap : (a b c : Bool) → ((a || b) || c) ≡ (b || (a || c))
or_swap true true c = refl
or_swap true false c = refl
or_swap false b c = refl

pub waking_more : (l : LocalView) (all left left_then one : ℕ → Bool) (old now new : TasksView) → IsWaking l all left old now → ((u : ℕ) → left u ≡ (one u || left_then u))
    → ((u : ℕ) → flag_there new.task (place_at l u) ≡ (one u || flag_there now.task (place_at l u))) → new ≡ record now { task = new.task } → length new.task ≡ length now.task → AreTasksOf l new
    → IsWaking l all left_then old new
waking_more l all left left_then one old now new is step each rest many tasks =
    record {
      each = λ u.
          is.each u ∙ ap (λ b. b || flag_there now.task (place_at l u)) (step u) ∙ or_swap (one u) (left_then u) (flag_there now.task (place_at l u))
          ∙ sym (ap (λ b. left_then u || b) (each u));
      rest = rest ∙ ap (λ (t : TasksView). record t { task = new.task }) is.rest;
      many = many ∙ is.many;
      tasks = tasks;
    }

pub waking_all : (l : LocalView) (all left : ℕ → Bool) (old now : TasksView) → IsWaking l all left old now → ((u : ℕ) → left u ≡ false)
    → (u : ℕ) → flag_there now.task (place_at l u) ≡ (all u || flag_there old.task (place_at l u))
waking_all l all left old now is none u = sym (is.each u ∙ ap (λ b. b || flag_there now.task (place_at l u)) (none u))

pub named_more : (wakes : List Vertex) (i : ℕ) (d : Vertex) (u : ℕ) → i < length wakes → is_in_update (drop i wakes) u ≡ (((get_or wakes i d).0 == u) || is_in_update (drop (i + 1) wakes) u)
named_more wakes i d u inside = ap (λ (vs : List Vertex). is_in_update vs u) (drop_more wakes i d inside)

pub named_none : (wakes : List Vertex) (i u : ℕ) → length wakes ≤ i → is_in_update (drop i wakes) u ≡ false
named_none wakes i u all = ap (λ (vs : List Vertex). is_in_update vs u) (drop_all i wakes all)

pub along_more : (to : ℕ) (woken : Woken) (sides : List Side) (links : List Link) (i : ℕ) (s : Side) (link : Link) (u : ℕ) → i < length sides → length links ≡ length sides
    → wakes_of to woken (drop i sides) (drop i links) u
    ≡ ((wakes_there to woken (get_or sides i s) (get_or links i link) && (get_or sides i s).other.0 == u) || wakes_of to woken (drop (i + 1) sides) (drop (i + 1) links) u)
along_more to woken sides links i s link u inside same =
    ap (λ (ss : List Side). wakes_of to woken ss (drop i links) u) (drop_more sides i s inside)
    ∙ ap (λ (ls : List Link). wakes_of to woken (get_or sides i s ∷ drop (i + 1) sides) ls u) (drop_more links i link (omega arith))

pub along_none : (to : ℕ) (woken : Woken) (sides : List Side) (links : List Link) (i u : ℕ) → length sides ≤ i → wakes_of to woken (drop i sides) (drop i links) u ≡ false
along_none to woken sides links i u all = ap (λ (ss : List Side). wakes_of to woken ss (drop i links) u) (drop_all i sides all)

-- the flags when one more side is gone through
pub flags_more : (to : ℕ) (woken : Woken) (sides : List Side) (links : List Link) (i : ℕ) (s : Side) (link : Link) (flags : List Bool) → i < length sides → length links ≡ length sides
    → woken_flags to woken (drop i sides) (drop i links) flags
    ≡ woken_flags to woken (drop (i + 1) sides) (drop (i + 1) links) (if wakes_there to woken (get_or sides i s) (get_or links i link) then slice_set flags (get_or sides i s).place true else flags)
flags_more to woken sides links i s link flags inside same =
    ap (λ (ss : List Side). woken_flags to woken ss (drop i links) flags) (drop_more sides i s inside)
    ∙ ap (λ (ls : List Link). woken_flags to woken (get_or sides i s ∷ drop (i + 1) sides) ls flags) (drop_more links i link (omega arith))

pub flags_all : (to : ℕ) (woken : Woken) (sides : List Side) (links : List Link) (i : ℕ) (flags : List Bool) → length sides ≤ i → woken_flags to woken (drop i sides) (drop i links) flags ≡ flags
flags_all to woken sides links i flags all = ap (λ (ss : List Side). woken_flags to woken ss (drop i links) flags) (drop_all i sides all)
