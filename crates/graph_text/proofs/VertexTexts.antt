-- Vertex texts: what is found in them, and the list that is made of it.
use Rattle.std.proofs.Common.{◌≡◌, ◌⊎◌, inl, inr, option_and_then, ℕ, ◌≤◌, ◌==◌, Bool, true, false, nat_le, List, [], ◌∷◌, ◌++◌, length, refl, sym, ◌∙◌, ap, subst, cond, arith, Option, None, Some, Result, Ok, Err, All}
use Rattle.std.specs.List.{list_any}
use Rattle.std.specs.Option.{option_or}
use Rattle.std.specs.List.Sorted.{IsPermutation}
use Rattle.std.proofs.lemmas.Bool.{leb-true}
use Rattle.std.proofs.lemmas.List.Sorted.{All-permutation, length_permutation}
use Rattle.gl_base.specs.declared.limits.TheConstants.{MAX_ID, MAX_VERTICES}
use Rattle.gl_base.specs.declared.text_faults.TextFault.{TextFault}
use Rattle.gl_base.specs.declared.text_faults.TextKind.{TextKind}
use Rattle.gl_base.specs.declared.text_faults.TextKind.TheVariants.{TooLarge, Double}
use Rattle.gl_base.specs.Lists.{Ascends}
use Rattle.graph_core.specs.declared.graph_lists.GraphFault.{GraphFault}
use Rattle.graph_core.specs.declared.graph_lists.GraphFault.TheVariants.{DoubleVertex}
use Rattle.graph_core.specs.GraphLists.{first_fault, vertex_fault, NamesFirstFault}
use Rattle.graph_text.specs.declared.lines.said.Row.{Row}
use Rattle.graph_text.specs.declared.lines.said.Row.TheVariants.{Nothing, One, Two, Three}
use Rattle.graph_text.specs.declared.lines.said.Said.TheVariants.{Wrong, Item}
use Rattle.graph_text.specs.lines.Says.{id_said, vertex_said}
use Rattle.graph_text.specs.lines.Found.{Found, FindsIn, found_in}
use Rattle.graph_text.specs.declared.lists.VertexList.{VertexList}
use Rattle.graph_text.specs.declared.lists.Reading.{Reading}
use Rattle.graph_text.specs.declared.lists.Reading.TheVariants.{Text, ReadFault, NoMemory}
use Rattle.graph_text.specs.Ids.{AreIds}
use Rattle.graph_text.specs.Vertices.{vertex_fault_after, vertex_rules, vertices_of}
use Rattle.graph_text.specs.Inner.Settled.{bad_or, first_bad, ended, settled_by, settled, place_of, IsPlacedIn, refused_at}
use Rattle.graph_text.specs.Answers.{ReadsVertices}
use Rattle.graph_text.specs.Inner.FoundVertices.{AreFound, Lists}
use Rattle.gl_base.specs.declared.text_faults.TextFile.TheVariants.{Vertices}
use Rattle.graph_text.proofs.FirstFaults.{items_settled}
use Rattle.graph_text.proofs.FirstPlaces.{placed_in, named_place}
use Rattle.graph_text.proofs.Limits.{SaidIs, within_limits}

-- the first double, as the lists of a graph say it and as texts do
double_by : (n : ℕ) (t : Bool) (later : Option GraphFault) (bad : Option (ℕ × TextKind)) → bad ≡ option_and_then place_of later
    → bad_or n (cond t (Some Double) None) bad ≡ option_and_then place_of (option_or (cond t (Some (DoubleVertex n)) None) later)
double_by n true later bad h = refl
double_by n false later bad h = h

double_found : (before xs : List ℕ) → first_bad vertex_fault_after before xs ≡ option_and_then place_of (first_fault vertex_fault before xs)
double_found before [] = refl
double_found before (x ∷ xs) =
    double_by (length before) (list_any (λ other. other == x) before) (first_fault vertex_fault (before ++ x ∷ []) xs) (first_bad vertex_fault_after (before ++ x ∷ []) xs) (double_found (before ++ x ∷ []) xs)

double_named : (ids : List ℕ) (fault : GraphFault) → NamesFirstFault (first_fault vertex_fault [] ids) fault → (place_of fault ≡ None) ⊎ (first_bad vertex_fault_after [] ids ≡ place_of fault)
double_named ids fault h = named_place (first_fault vertex_fault [] ids) fault (first_bad vertex_fault_after [] ids) (double_found [] ids) h

-- where identifiers cannot be sorted
pub unsorted_is : (ids : List ℕ) (fault : GraphFault) (many : ℕ) → length ids ≡ many → NamesFirstFault (first_fault vertex_fault [] ids) fault → IsPlacedIn many fault
unsorted_is ids fault many long h = placed_in vertex_fault_after ids many fault long (double_named ids fault h)

id_small : (id : Option ℕ) → SaidIs (λ id. id ≤ MAX_ID) (id_said id)
id_small None = tt
id_small (Some id) = within (nat_le id MAX_ID) refl
  where
    within : (t : Bool) → nat_le id MAX_ID ≡ t → SaidIs (λ id. id ≤ MAX_ID) (cond t (Item id) (Wrong TooLarge))
    within true h = leb-true id MAX_ID h
    within false h = tt

vertex_small : (row : Row) → SaidIs (λ id. id ≤ MAX_ID) (vertex_said row)
vertex_small Nothing = tt
vertex_small (One id) = id_small id
vertex_small (Two from to) = tt
vertex_small (Three from to weight) = tt

-- what the reader finds is within the limits
pub reader_finds : (found : Found ℕ) (text : Option (List ℕ)) → FindsIn MAX_VERTICES vertex_said found text → AreFound found
reader_finds found text finds = subst AreFound finds.1 (within_limits (λ id. id ≤ MAX_ID) MAX_VERTICES vertex_said vertex_small finds.0)

text_settled : (bytes : List ℕ) (found : Found ℕ) → found_in MAX_VERTICES vertex_said bytes ≡ found → vertices_of bytes ≡ settled vertex_rules found
text_settled bytes found is = items_settled vertex_rules bytes ∙ ap (settled vertex_rules) is

-- the list that is made of what is found is that of the text
pub vertices_answered : (found : Found ℕ) (result : Result VertexList Reading) (text : Option (List ℕ)) (before now : ℕ) → FindsIn MAX_VERTICES vertex_said found text
    → Lists found result → ReadsVertices result text before now
vertices_answered found (Ok list) None before now finds lists = (list.are_ids, tt)
vertices_answered found (Ok list) (Some told) before now finds lists =
    (list.are_ids, (lists.0, ap vertices_of finds.2 ∙ text_settled finds.0 found finds.1 ∙ lists.1, lists.2))
vertices_answered found (Err (Text fault)) None before now finds lists = tt
vertices_answered found (Err (Text fault)) (Some told) before now finds lists = ap vertices_of finds.2 ∙ text_settled finds.0 found finds.1 ∙ lists
vertices_answered found (Err ReadFault) text before now finds lists = absurd lists
vertices_answered found (Err NoMemory) text before now finds lists = tt

-- the list of what was found, in the cases of its sorting
pub list_unsorted : (found : Found ℕ) (fault : GraphFault) → NamesFirstFault (first_fault vertex_fault [] found.items) fault → Lists found (Err (refused_at Vertices found.places (place_of fault)))
list_unsorted found fault h = go (place_of fault) (double_named found.items fault h)
  where
    go : (o : Option (ℕ × TextKind)) → (o ≡ None) ⊎ (first_bad vertex_fault_after [] found.items ≡ o) → Lists found (Err (refused_at Vertices found.places o))
    go None h = tt
    go (Some at) (inl e) = absurd cc
    go (Some at) (inr e) = ap (settled_by vertex_rules found) e

pub list_ended : (found : Found ℕ) (end : Result (List ℕ) TextFault) → first_fault vertex_fault [] found.items ≡ None → ended vertex_rules found.items found.ending ≡ end
    → settled vertex_rules found ≡ end
list_ended found end clean is = ap (settled_by vertex_rules found) (double_found [] found.items ∙ ap (option_and_then place_of) clean) ∙ is

pub list_whole : (found : Found ℕ) → first_fault vertex_fault [] found.items ≡ None → found.ending ≡ None → settled vertex_rules found ≡ Ok found.items
list_whole found clean well = list_ended found (Ok found.items) clean (ap (ended vertex_rules found.items) well)

pub sorted_are : (ids sorted : List ℕ) (found : Found ℕ) → ids ≡ found.items → AreFound found → IsPermutation ids sorted → Ascends sorted → AreIds sorted
sorted_are ids sorted found same are permuted ascends = record {
  ascending = ascends;
  small = All-permutation (λ id. id ≤ MAX_ID) ids sorted permuted (subst (All (λ id. id ≤ MAX_ID)) (sym same) are.all);
  few = (let few = are.few in let long = ap length same in omega (arith, length_permutation ids sorted permuted));
}
