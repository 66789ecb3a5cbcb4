-- Edge texts: what is found in them, and the graph that is built of it.
use Rattle.std.proofs.Common.{◌≡◌, ◌⊎◌, inl, inr, ℕ, ◌<◌, ◌==◌, ◌&&◌, Bool, true, false, List, [], ◌∷◌, ◌++◌, length, get_or, refl, sym, ◌∙◌, ap, subst, cond, arith, append_assoc, Option, None, Some, option_and_then, Result, Ok, Err, length-append}
use Rattle.std.specs.List.{list_any}
use Rattle.std.specs.Option.{option_or}
use Rattle.std.proofs.Math.ListN.{get_or-append}
use Rattle.std.proofs.Math.Seq.{get_or-append_seam}
use Rattle.std.proofs.lemmas.Bool.Decides.{nat_tests}
use Rattle.std.proofs.lemmas.List.Elements.{All-from_get_or}
use Rattle.std.proofs.lemmas.List.Folds.{list_any_none}
use Rattle.gl_base.specs.declared.limits.TheConstants.{MAX_EDGES}
use Rattle.gl_base.specs.declared.text_faults.TextFault.{TextFault}
use Rattle.gl_base.specs.declared.text_faults.TextKind.{TextKind}
use Rattle.gl_base.specs.declared.text_faults.TextKind.TheVariants.{Unknown, SelfLoop as SelfLoopKind, Double}
use Rattle.gl_base.specs.Lists.{Ascends}
use Rattle.graph_core.specs.declared.graph_lists.EdgeIn.{EdgeIn}
use Rattle.graph_core.specs.declared.graph_lists.GraphFault.{GraphFault}
use Rattle.graph_core.specs.declared.graph_lists.GraphFault.TheVariants.{DoubleVertex, UnknownVertex, SelfLoop, DoubleEdge}
use Rattle.graph_core.specs.DataGraph.{DataGraph}
use Rattle.graph_core.specs.GraphLists.{first_fault, vertex_fault, edge_fault, same_ends, graph_fault, NamesFirstFault}
use Rattle.graph_text.specs.declared.lines.said.Said.{Said}
use Rattle.graph_text.specs.declared.lines.said.Said.TheVariants.{Passed, Wrong, Late, Item}
use Rattle.graph_text.specs.lines.Says.{edge_said}
use Rattle.graph_text.specs.lines.Found.{Found, FindsIn, found_in}
use Rattle.graph_text.specs.declared.lists.Reading.{Reading}
use Rattle.graph_text.specs.declared.lists.Reading.TheVariants.{Text, ReadFault, NoMemory}
use Rattle.graph_text.specs.Firsts.{Rules}
use Rattle.graph_text.specs.Edges.{edge_fault_after, edge_rules, edges_of}
use Rattle.graph_text.specs.Inner.Settled.{bad_or, first_bad, ended, settled_by, settled, place_of, IsPlacedIn, refused_at}
use Rattle.graph_text.specs.Answers.{ReadsGraph}
use Rattle.graph_text.specs.Inner.FoundEdges.{AreFoundEdges, Builds}
use Rattle.gl_base.specs.declared.text_faults.TextFile.TheVariants.{Edges}
use Rattle.graph_text.proofs.FirstFaults.{items_settled}
use Rattle.graph_text.proofs.FirstPlaces.{placed_in, named_place}
use Rattle.graph_text.proofs.Limits.{SaidIs, within_limits}

-- identifiers that ascend have no double
none_before : (before : List ℕ) (x : ℕ) (xs : List ℕ) → Ascends (before ++ x ∷ xs) → list_any (λ other. other == x) before ≡ false
none_before before x xs ascends =
    list_any_none (λ other. other == x) before (All-from_get_or (λ other. (other == x) ≡ false) before 0 (λ i inside.
    let less = ascends i (length before) inside (omega (arith, length-append before (x ∷ xs))) in
    let lower : get_or before i 0 < x = rw (get_or-append_seam before x xs 0, get_or-append before (x ∷ xs) 0 i inside) at less in
    apart (get_or before i 0) x lower))
  where
    apart : (a b : ℕ) → a < b → (a == b) ≡ false
    apart a b h = grind (arith, nat_tests)

no_double : (before xs : List ℕ) → Ascends (before ++ xs) → first_fault vertex_fault before xs ≡ None
no_double before [] ascends = refl
no_double before (x ∷ xs) ascends =
    ap (λ t. option_or (cond t (Some (DoubleVertex (length before))) None) (first_fault vertex_fault (before ++ x ∷ []) xs)) (none_before before x xs ascends)
    ∙ no_double (before ++ x ∷ []) xs (subst Ascends (sym (append_assoc before (x ∷ []) xs)) ascends)

abbrev fault_by : Bool → Bool → Bool → ℕ → Option GraphFault
fault_by known loop again n =
    option_or (cond known (cond loop (Some (SelfLoop n)) None) (Some (UnknownVertex n))) (cond again (Some (DoubleEdge n)) None)

abbrev kind_by : Bool → Bool → Bool → Option TextKind
kind_by known loop again = option_or (cond known (cond loop (Some SelfLoopKind) None) (Some Unknown)) (cond again (Some Double) None)

bad_by : (known loop again : Bool) (n : ℕ) (later : Option GraphFault) (bad : Option (ℕ × TextKind)) → bad ≡ option_and_then place_of later
    → bad_or n (kind_by known loop again) bad ≡ option_and_then place_of (option_or (fault_by known loop again n) later)
bad_by false loop again n later bad h = refl
bad_by true true again n later bad h = refl
bad_by true false true n later bad h = refl
bad_by true false false n later bad h = h

module _ (ids : List ℕ) (directed : Bool) where
  abbrev known : EdgeIn → Bool
  known e = list_any (λ id. id == e.from) ids && list_any (λ id. id == e.to) ids

  bad_found : (before xs : List EdgeIn) → first_bad (edge_fault_after ids directed) before xs ≡ option_and_then place_of (first_fault (edge_fault ids directed) before xs)
  bad_found before [] = refl
  bad_found before (e ∷ xs) =
      bad_by (known e) (e.from == e.to) (list_any (same_ends directed e) before) (length before) (first_fault (edge_fault ids directed) (before ++ e ∷ []) xs)
      (first_bad (edge_fault_after ids directed) (before ++ e ∷ []) xs) (bad_found (before ++ e ∷ []) xs)

  edges_only : (edges : List EdgeIn) → Ascends ids → graph_fault ids edges directed ≡ first_fault (edge_fault ids directed) [] edges
  edges_only edges ascends = ap (λ o. option_or o (first_fault (edge_fault ids directed) [] edges)) (no_double [] ids ascends)

  bad_named : (edges : List EdgeIn) (fault : GraphFault) → Ascends ids → NamesFirstFault (graph_fault ids edges directed) fault
      → (place_of fault ≡ None) ⊎ (first_bad (edge_fault_after ids directed) [] edges ≡ place_of fault)
  bad_named edges fault ascends h =
      named_place (graph_fault ids edges directed) fault (first_bad (edge_fault_after ids directed) [] edges) (bad_found [] edges ∙ ap (option_and_then place_of) (sym (edges_only edges ascends))) h

  -- where edges make no graph
  pub refused_is : (edges : List EdgeIn) (fault : GraphFault) (many : ℕ) → Ascends ids → length edges ≡ many → NamesFirstFault (graph_fault ids edges directed) fault → IsPlacedIn many fault
  refused_is edges fault many ascends long h = placed_in (edge_fault_after ids directed) edges many fault long (bad_named edges fault ascends h)

  pub graph_refused : (found : Found EdgeIn) (fault : GraphFault) → Ascends ids → NamesFirstFault (graph_fault ids found.items directed) fault
      → Builds ids directed found (Err (refused_at Edges found.places (place_of fault)))
  graph_refused found fault ascends h = go (place_of fault) (bad_named found.items fault ascends h)
    where
      go : (o : Option (ℕ × TextKind)) → (o ≡ None) ⊎ (first_bad (edge_fault_after ids directed) [] found.items ≡ o) → Builds ids directed found (Err (refused_at Edges found.places o))
      go None h = tt
      go (Some at) (inl e) = absurd cc
      go (Some at) (inr e) = λ weighted. ap (settled_by (edge_rules ids directed weighted) found) e

  -- edges that make a graph
  pub graph_ended : (found : Found EdgeIn) (end : Result (List EdgeIn) TextFault) (weighted : Bool) → Ascends ids → graph_fault ids found.items directed ≡ None
      → ended (edge_rules ids directed weighted) found.items found.ending ≡ end → settled (edge_rules ids directed weighted) found ≡ end
  graph_ended found end weighted ascends clean is =
      ap (settled_by (edge_rules ids directed weighted) found)
      (bad_found [] found.items ∙ ap (option_and_then place_of) (sym (edges_only found.items ascends) ∙ clean)) ∙ is

any_said : (said : Said EdgeIn) → SaidIs (λ e. Unit {0}) said
any_said Passed = tt
any_said (Wrong kind) = tt
any_said (Late e kind) = tt
any_said (Item e) = tt

module _ (ids : List ℕ) (directed weighted : Bool) where
  abbrev r : Rules EdgeIn
  r = edge_rules ids directed weighted

  -- what the reader finds is within the limit
  pub reader_finds_edges : (found : Found EdgeIn) (text : Option (List ℕ)) → FindsIn MAX_EDGES (edge_said weighted) found text → AreFoundEdges found
  reader_finds_edges found text finds =
      subst AreFoundEdges finds.1 (within_limits (λ e. Unit {0}) MAX_EDGES (edge_said weighted) (λ row. any_said (edge_said weighted row)) finds.0)

  edges_settled : (bytes : List ℕ) (found : Found EdgeIn) → found_in MAX_EDGES (edge_said weighted) bytes ≡ found → edges_of ids directed weighted bytes ≡ settled r found
  edges_settled bytes found is = items_settled r bytes ∙ ap (settled r) is

  -- the graph that is built of what is found is that of the text
  pub edges_answered : (found : Found EdgeIn) (result : Result DataGraph Reading) (text : Option (List ℕ)) (before now : ℕ) → FindsIn MAX_EDGES (edge_said weighted) found text
      → Builds ids directed found result → ReadsGraph ids directed weighted result text before now
  edges_answered found (Ok g) None before now finds builds = (builds.1.graph, builds.1.direction, tt)
  edges_answered found (Ok g) (Some told) before now finds builds =
      (builds.1.graph, builds.1.direction, (found.items, ap (edges_of ids directed weighted) finds.2 ∙ edges_settled finds.0 found finds.1 ∙ builds.0 weighted, builds.1))
  edges_answered found (Err (Text fault)) None before now finds builds = tt
  edges_answered found (Err (Text fault)) (Some told) before now finds builds = ap (edges_of ids directed weighted) finds.2 ∙ edges_settled finds.0 found finds.1 ∙ builds weighted
  edges_answered found (Err ReadFault) text before now finds builds = absurd builds
  edges_answered found (Err NoMemory) text before now finds builds = tt
