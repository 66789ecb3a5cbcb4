-- The edge text of a made graph tells its edges.
use Rattle.std.proofs.Common.{◌≡◌, inl, inr, ℕ, zero, suc, ◌+◌, ◌*◌, ◌^◌, ◌<◌, ◌≤◌, ◌==◌, ◌&&◌, ◌||◌, Bool, true, false, nat_le, nat_lt, List, [], ◌∷◌, ◌++◌, length, decimal, refl, sym, ap, ◌∙◌, cond, arith, append_assoc, append-nil, length-append, Option, None, Some, Ok, Err}
use Rattle.std.specs.Prelude.{IfSome}
use Rattle.std.specs.Option.{option_or}
use Rattle.std.specs.List.{list_any}
use Rattle.std.proofs.lemmas.List.Folds.{list_any-append}
use Rattle.std.proofs.lemmas.Bool.{cases_eq}
use Rattle.std.proofs.lemmas.Bool.Decides.{nat_tests}
use Rattle.std.proofs.lemmas.Fmt.{length-decimal-le}
use Rattle.gl_base.specs.declared.jobs.MakePlan.{MakePlan}
use Rattle.gl_base.specs.declared.limits.TheConstants.{MAX_ID, MAX_EDGES}
use Rattle.gl_base.specs.declared.text_faults.TextKind.TheVariants.{Double, TooMany, TooLarge, SelfLoop, Unknown}
use Rattle.graph_core.specs.declared.graph_lists.EdgeIn.{EdgeIn}
use Rattle.graph_core.specs.GraphLists.{same_ends}
use Rattle.graph_text.specs.declared.lines.said.Row.TheVariants.{Nothing}
use Rattle.graph_text.specs.declared.lines.said.Said.TheVariants.{Wrong, Item}
use Rattle.graph_text.specs.lines.Lines.{lines, fields, fields_after}
use Rattle.graph_text.specs.lines.Rows.{field_number, row_third, row_of}
use Rattle.graph_text.specs.lines.Says.{row_weight, weighed, row_ends, edge_said}
use Rattle.graph_text.specs.lines.Found.{run}
use Rattle.gl_base.specs.Results.{and_then}
use Rattle.graph_text.specs.Firsts.{Judged, judge, judge_line, put, text_fault}
use Rattle.graph_text.specs.Edges.{edge_rules, edge_fault_alone, edge_fault_after, edges_of}
use Rattle.graph_text.specs.generate.Making.{IsPlanInRange, IsStride, HasWeights, edge_from, edge_to, edge_line, edge_weight, offset_count, lines_from, made_edge, made_ids, made_list, weight_field, weight_read}
use Rattle.graph_text.proofs.generate.MadeLines.{Digits-comment, InLine, InLine-append, apart_test, decimal-InLine, decimal_digits, decimal_field, decimal_number, decimal_weight, id_test, fields-last, fields-next, lines-next, without_cr-same}
use Rattle.graph_text.proofs.generate.MadeVertices.{items-of_judged}
use Rattle.graph_text.proofs.generate.Strides.{no_double, no_loop}

-- the fields of an edge's line
end_of_line : ℕ → Option ℕ → ℕ → List (List ℕ)
end_of_line number None i = []
end_of_line number (Some most) i = decimal (edge_weight number most i) ∷ []

last_field : (n : ℕ) → n < 2 ^ 64 → fields_after [] (decimal n) ≡ decimal n ∷ []
last_field n small = fields-last [] (decimal n) (decimal_digits n small) ∙ decimal_field n [] small

next_field : (n : ℕ) (rest : List ℕ) → n < 2 ^ 64 → fields_after [] (decimal n ++ 32 ∷ rest) ≡ decimal n ∷ fields_after [] rest
next_field n rest small = fields-next [] (decimal n) rest (decimal_digits n small) ∙ decimal_field n (fields_after [] rest) small

blank_InLine : (f : List ℕ) → InLine f → InLine (32 ∷ f)
blank_InLine f l = ((omega arith, omega arith), l)

pub weight_small : (number most i : ℕ) → most < 2 ^ 32 → edge_weight number most i ≤ 4294967295
weight_small number most i small = omega (arith, small)

-- the line of two ends and a weight, without LF
body_InLine : (from to number : ℕ) (weight : Option ℕ) (i : ℕ) → from < 2 ^ 64 → to < 2 ^ 64 → IfSome weight (λ most. most < 2 ^ 32) → InLine (decimal from ++ 32 ∷ decimal to ++ weight_field number weight i)
body_InLine from to number None i a b w =
    InLine-append (decimal from ++ 32 ∷ decimal to) [] (InLine-append (decimal from) (32 ∷ decimal to) (decimal-InLine from a) (blank_InLine (decimal to) (decimal-InLine to b))) tt
body_InLine from to number (Some most) i a b w =
    let small = weight_small number most i w in
    InLine-append (decimal from ++ 32 ∷ decimal to) (32 ∷ decimal (edge_weight number most i))
    (InLine-append (decimal from) (32 ∷ decimal to) (decimal-InLine from a) (blank_InLine (decimal to) (decimal-InLine to b)))
    (blank_InLine (decimal (edge_weight number most i)) (decimal-InLine (edge_weight number most i) (omega (arith, small))))

body_fields : (from to number : ℕ) (weight : Option ℕ) (i : ℕ) → from < 2 ^ 64 → to < 2 ^ 64 → IfSome weight (λ most. most < 2 ^ 32)
    → fields_after [] (decimal from ++ 32 ∷ decimal to ++ weight_field number weight i) ≡ decimal from ∷ decimal to ∷ end_of_line number weight i
unfolding end_of_line
body_fields from to number None i a b w =
    ap (fields_after []) (append-nil (decimal from ++ 32 ∷ decimal to))
    ∙ next_field from (decimal to) a
    ∙ ap (λ (fs : List (List ℕ)). decimal from ∷ fs) (last_field to b)
body_fields from to number (Some most) i a b w =
    let small = weight_small number most i w in
    let x = edge_weight number most i in
    ap (fields_after []) (append_assoc (decimal from) (32 ∷ decimal to) (32 ∷ decimal x))
    ∙ next_field from (decimal to ++ 32 ∷ decimal x) a
    ∙ ap (λ (fs : List (List ℕ)). decimal from ∷ fs) (next_field to (decimal x) b)
    ∙ ap (λ (fs : List (List ℕ)). decimal from ∷ decimal to ∷ fs) (last_field x (omega (arith, small)))

weight_is_read : (weighted : Bool) (from to : Option ℕ) (number : ℕ) (weight : Option ℕ) (i : ℕ) → HasWeights weighted weight → IfSome weight (λ most. most < 2 ^ 32)
    → edge_said weighted (row_third from to (end_of_line number weight i)) ≡ row_ends from to (Ok (weight_read weighted number weight i))
unfolding end_of_line
weight_is_read false from to number None i has w = refl
weight_is_read false from to number (Some most) i has w = refl
weight_is_read true from to number None i has w = absurd has
weight_is_read true from to number (Some most) i has w =
    let x = edge_weight number most i in
    let small = weight_small number most i w in
    let fits : nat_le x 4294967295 ≡ true = grind (arith, nat_tests) in
    ap (λ n. row_ends from to (row_weight true (Some n))) (decimal_weight x small) ∙ ap (λ t. row_ends from to (cond t (Ok x) (Err TooLarge))) fits

-- what such a line says
ends_read : (from to weight : ℕ) → from ≤ MAX_ID → to ≤ MAX_ID → row_ends (Some from) (Some to) (Ok weight) ≡ Item (record { from = from; to = to; weight = weight })
ends_read from to weight a b =
    ap (λ t. cond (t && nat_le to MAX_ID) (weighed from to (Ok weight)) (Wrong TooLarge)) (id_test from a)
    ∙ ap (λ t. cond t (weighed from to (Ok weight)) (Wrong TooLarge)) (id_test to b)

body_said : (weighted : Bool) (from to number : ℕ) (weight : Option ℕ) (i : ℕ) → from ≤ MAX_ID → to ≤ MAX_ID → IfSome weight (λ most. most < 2 ^ 32) → HasWeights weighted weight
    → edge_said weighted (row_of (fields (decimal from ++ 32 ∷ decimal to ++ weight_field number weight i))) ≡ Item (record { from = from; to = to; weight = weight_read weighted number weight i })
body_said weighted from to number weight i a b w has =
    let a_wide : from < 2 ^ 64 = omega (arith, a) in
    let b_wide : to < 2 ^ 64 = omega (arith, b) in
    let line = decimal from ++ 32 ∷ decimal to ++ weight_field number weight i in
    let fs = end_of_line number weight i in
    ap (λ (l : List ℕ). edge_said weighted (row_of (fields_after [] l))) (without_cr-same line (body_InLine from to number weight i a_wide b_wide w))
    ∙ ap (λ fs. edge_said weighted (row_of fs)) (body_fields from to number weight i a_wide b_wide w)
    ∙ ap (λ t. edge_said weighted (cond t Nothing (row_third (field_number (decimal from)) (field_number (decimal to)) fs))) (Digits-comment (decimal from) (decimal_digits from a_wide))
    ∙ ap (λ n. edge_said weighted (row_third n (field_number (decimal to)) fs)) (decimal_number from a)
    ∙ ap (λ n. edge_said weighted (row_third (Some from) n fs)) (decimal_number to b)
    ∙ weight_is_read weighted (Some from) (Some to) number weight i has w
    ∙ ends_read from to (weight_read weighted number weight i) a b

-- each identifier is one of the vertices'
or_true : (t : Bool) → (t || true) ≡ true
or_true true = refl
or_true false = refl

and_false : (t : Bool) → (t && false) ≡ false
and_false true = refl
and_false false = refl

same_test : (a b : ℕ) → a ≡ b → (a == b) ≡ true
same_test a b e = grind (arith, nat_tests)

known : (n k : ℕ) → 1 ≤ k → k ≤ n → list_any (λ id. id == k) (made_ids n) ≡ true
known zero k low high = absurd (omega (arith, low, high))
known (suc n) k low high = list_any-append (λ id. id == k) (made_ids n) (suc n ∷ []) ∙ elim (cases_eq (suc n) k) [
  | inl e ↦ ap (λ t. list_any (λ id. id == k) (made_ids n) || (t || false)) (same_test (suc n) k e) ∙ or_true (list_any (λ id. id == k) (made_ids n))
  | inr apart ↦ ap (λ t. t || list_any (λ id. id == k) (suc n ∷ [])) (known n k low (omega (arith, high, apart)))
]

-- edges with other ends aren't the same
pair_false : (a b c d : ℕ) → (a ≡ b → c ≡ d → ⊥) → ((a == b) && (c == d)) ≡ false
pair_false a b c d differ = elim (cases_eq a b) [
  | inl e ↦ ap (λ t. (a == b) && t) (apart_test c d (differ e)) ∙ and_false (a == b)
  | inr ne ↦ ap (λ t. t && (c == d)) (apart_test a b ne)
]

differ_by : (t u : Bool) (e f : EdgeIn) → (e.from ≡ f.from → e.to ≡ f.to → ⊥) → (e.from ≡ f.to → e.to ≡ f.from → ⊥)
    → (((cond t e (record { from = e.to; to = e.from; weight = e.weight })).from == (cond u f (record { from = f.to; to = f.from; weight = f.weight })).from)
    && ((cond t e (record { from = e.to; to = e.from; weight = e.weight })).to == (cond u f (record { from = f.to; to = f.from; weight = f.weight })).to)) ≡ false
differ_by true true e f same back = pair_false e.from f.from e.to f.to same
differ_by true false e f same back = pair_false e.from f.to e.to f.from back
differ_by false true e f same back = pair_false e.to f.from e.from f.to (λ p q. back q p)
differ_by false false e f same back = pair_false e.to f.to e.from f.from (λ p q. same q p)

differ : (directed : Bool) (e f : EdgeIn) → (e.from ≡ f.from → e.to ≡ f.to → ⊥) → (e.from ≡ f.to → e.to ≡ f.from → ⊥) → same_ends directed e f ≡ false
differ directed e f same back = differ_by (directed || nat_lt e.from e.to) (directed || nat_lt f.from f.to) e f same back

less_one : (a b : ℕ) → a + 1 ≡ b + 1 → a ≡ b
less_one a b e = omega (arith, e)

-- a made edge isn't one of those before it
is_new : (weighted directed : Bool) (plan : MakePlan) (stride count i : ℕ) → IsPlanInRange plan → IsStride (offset_count plan.vertices) stride → i < plan.edges → count ≤ i
    → list_any (same_ends directed (made_edge weighted plan stride i)) (made_list weighted plan stride count) ≡ false
is_new weighted directed plan stride zero i ranges is inside before = refl
is_new weighted directed plan stride (suc count) i ranges is inside before =
    let e = made_edge weighted plan stride i in
    let f = made_edge weighted plan stride count in
    let clash = no_double plan stride i count ranges is inside (omega (arith, inside, before)) (λ same. omega (arith, same, before)) in
    let other = differ directed e f
    (λ p q. clash (inl (less_one (edge_from plan i) (edge_from plan count) p, less_one (edge_to plan stride i) (edge_to plan stride count) q)))
    (λ p q. clash (inr (less_one (edge_from plan i) (edge_to plan stride count) p, less_one (edge_to plan stride i) (edge_from plan count) q))) in
    list_any-append (same_ends directed e) (made_list weighted plan stride count) (f ∷ [])
    ∙ ap (λ t. t || list_any (same_ends directed e) (f ∷ [])) (is_new weighted directed plan stride count i ranges is inside (omega (arith, before)))
    ∙ ap (λ t. t || false) other

pub length-made_list : (weighted : Bool) (plan : MakePlan) (stride count : ℕ) → length (made_list weighted plan stride count) ≡ count
length-made_list weighted plan stride zero = refl
length-made_list weighted plan stride (suc count) =
    omega (arith, length-append (made_list weighted plan stride count) (made_edge weighted plan stride count ∷ []), length-made_list weighted plan stride count)

-- nothing is wrong with it
module _ (plan : MakePlan) (stride : ℕ) (directed weighted : Bool) (ranges : IsPlanInRange plan) (is : IsStride (offset_count plan.vertices) stride) (has : HasWeights weighted plan.weight) where
  some_vertices : (i : ℕ) → i < plan.edges → 0 < plan.vertices
  some_vertices i inside = go plan.vertices refl
    where
      go : (n : ℕ) → n ≡ plan.vertices → 0 < plan.vertices
      go zero e = absurd (let none : 0 * offset_count plan.vertices ≡ 0 = omega arith in let few = ranges.offsets in let same : plan.vertices * offset_count plan.vertices ≡ 0 * offset_count plan.vertices = ap (λ (k : ℕ). k * offset_count plan.vertices) (sym e) in omega (arith, none, few, same, inside))
      go (suc n) e = omega (arith, e)

  pub ends_in : (i : ℕ) → i < plan.edges → (edge_from plan i < plan.vertices) × (edge_to plan stride i < plan.vertices)
  ends_in i inside = let some = some_vertices i inside in (omega (arith, some), omega (arith, some))

  alone : (i : ℕ) → i < plan.edges → edge_fault_alone (made_ids plan.vertices) (made_edge weighted plan stride i) ≡ None
  alone i inside =
      let ids = made_ids plan.vertices in
      let a = edge_from plan i + 1 in
      let b = edge_to plan stride i + 1 in
      let ends = ends_in i inside in
      let loop = no_loop plan stride i ranges inside in
      ap (λ t. cond (t && list_any (λ id. id == b) ids) (cond (a == b) (Some SelfLoop) None) (Some Unknown)) (known plan.vertices a (omega arith) (omega (arith, ends.0)))
      ∙ ap (λ t. cond t (cond (a == b) (Some SelfLoop) None) (Some Unknown)) (known plan.vertices b (omega arith) (omega (arith, ends.1)))
      ∙ ap (λ t. cond t (Some SelfLoop) None) (apart_test a b (λ e. loop (less_one (edge_from plan i) (edge_to plan stride i) e)))

  behind : (i : ℕ) → i < plan.edges → edge_fault_after (made_ids plan.vertices) directed (made_list weighted plan stride i) (made_edge weighted plan stride i) ≡ None
  behind i inside =
      let e = made_edge weighted plan stride i in
      ap (λ o. option_or o (cond (list_any (same_ends directed e) (made_list weighted plan stride i)) (Some Double) None)) (alone i inside)
      ∙ ap (λ t. cond t (Some Double) None) (is_new weighted directed plan stride i i ranges is inside (omega arith))

  abbrev after : ℕ → ℕ → Judged EdgeIn
  after line i = record { line = line; items = made_list weighted plan stride i }

  edge-judged : (line i : ℕ) → i < plan.edges
      → judge_line (edge_rules (made_ids plan.vertices) directed weighted) (after line i) (decimal (edge_from plan i + 1) ++ 32 ∷ decimal (edge_to plan stride i + 1) ++ weight_field plan.number plan.weight i) ≡ Ok (after (line + 1) (i + 1))
  edge-judged line i inside =
      let r = edge_rules (made_ids plan.vertices) directed weighted in
      let s = after line i in
      let e = made_edge weighted plan stride i in
      let ends = ends_in i inside in
      let vertices = ranges.vertices in
      let said = body_said weighted (edge_from plan i + 1) (edge_to plan stride i + 1) plan.number plan.weight i (omega (arith, ends.0, vertices)) (omega (arith, ends.1, vertices)) ranges.weight has in
      let fits : nat_lt (length (made_list weighted plan stride i)) MAX_EDGES ≡ true = room i (omega (arith, inside, ranges.edges)) in
      let next : suc i ≡ i + 1 = omega arith in
      let grown : made_list weighted plan stride i ++ e ∷ [] ≡ made_list weighted plan stride (i + 1) = ap (made_list weighted plan stride) next in
      ap (judge r s) said
      ∙ ap (put r s e) (behind i inside)
      ∙ ap (λ t. cond t (Ok (record { line = line + 1; items = made_list weighted plan stride i ++ e ∷ [] })) (Err (text_fault r line TooMany))) fits
      ∙ ap (λ (items : List EdgeIn). Ok (record { line = line + 1; items = items })) grown
    where
      room : (i : ℕ) → i < MAX_EDGES → nat_lt (length (made_list weighted plan stride i)) MAX_EDGES ≡ true
      room i small = let long = length-made_list weighted plan stride i in grind (arith, nat_tests)

  first_edge : (i : ℕ) (rest : List ℕ) → i < plan.edges
      → lines (edge_line plan stride i ++ rest) ≡ (decimal (edge_from plan i + 1) ++ 32 ∷ decimal (edge_to plan stride i + 1) ++ weight_field plan.number plan.weight i) ∷ lines rest
  first_edge i rest inside =
      let ends = ends_in i inside in
      let vertices = ranges.vertices in
      let line = decimal (edge_from plan i + 1) ++ 32 ∷ decimal (edge_to plan stride i + 1) ++ weight_field plan.number plan.weight i in
      ap lines (append_assoc line (10 ∷ []) rest)
      ∙ lines-next [] line rest (body_InLine (edge_from plan i + 1) (edge_to plan stride i + 1) plan.number plan.weight i (omega (arith, ends.0, vertices)) (omega (arith, ends.1, vertices)) ranges.weight)

  edges-judged : (line i count : ℕ) → i + count ≤ plan.edges
      → run (judge_line (edge_rules (made_ids plan.vertices) directed weighted)) (after line i) (lines (lines_from (edge_line plan stride) i count)) ≡ Ok (after (line + count) (i + count))
  edges-judged line i zero few =
      let a : line ≡ line + 0 = omega arith in
      let b : i ≡ i + 0 = omega arith in
      ap (λ l. Ok (after l i)) a ∙ ap (λ k. Ok (after (line + 0) k)) b
  edges-judged line i (suc count) few =
      let step = judge_line (edge_rules (made_ids plan.vertices) directed weighted) in
      let rest = lines_from (edge_line plan stride) (i + 1) count in
      let a : line + 1 + count ≡ line + suc count = omega arith in
      let b : i + 1 + count ≡ i + suc count = omega arith in
      ap (run step (after line i)) (first_edge i rest (omega (arith, few)))
      ∙ ap (λ r. and_then r (λ t. run step t (lines rest))) (edge-judged line i (omega (arith, few)))
      ∙ edges-judged (line + 1) (i + 1) count (omega (arith, few))
      ∙ ap (λ l. Ok (after l (i + 1 + count))) a ∙ ap (λ k. Ok (after (line + suc count) k)) b

  weight_length : (weight : Option ℕ) (i : ℕ) → IfSome weight (λ most. most < 2 ^ 32) → length (weight_field plan.number weight i) ≤ 21
  weight_length None i w = omega arith
  weight_length (Some most) i w =
      let small = weight_small plan.number most i w in
      let number = length-decimal-le 20 (edge_weight plan.number most i) (omega arith) (omega (arith, small)) (omega (arith, small)) in
      omega (arith, number)

  edge-length : (i : ℕ) → i < plan.edges → length (edge_line plan stride i) ≤ 63
  edge-length i inside =
      let ends = ends_in i inside in
      let vertices = ranges.vertices in
      let a = edge_from plan i + 1 in
      let b = edge_to plan stride i + 1 in
      let w = weight_field plan.number plan.weight i in
      let p = length-decimal-le 20 a (omega arith) (omega (arith, ends.0, vertices)) (omega (arith, ends.0, vertices)) in
      let q = length-decimal-le 20 b (omega arith) (omega (arith, ends.1, vertices)) (omega (arith, ends.1, vertices)) in
      omega (arith, p, q, weight_length plan.weight i ranges.weight, length-append (decimal a ++ 32 ∷ decimal b ++ w) (10 ∷ []), length-append (decimal a ++ 32 ∷ decimal b) w, length-append (decimal a) (32 ∷ decimal b))

  edges-length : (i count : ℕ) → i + count ≤ plan.edges → length (lines_from (edge_line plan stride) i count) ≤ 63 * count
  edges-length i zero few = omega arith
  edges-length i (suc count) few =
      let rest = lines_from (edge_line plan stride) (i + 1) count in
      omega (arith, edge-length i (omega (arith, few)), edges-length (i + 1) count (omega (arith, few)), length-append (edge_line plan stride i) rest)

  pub made_edges-read : edges_of (made_ids plan.vertices) directed weighted (lines_from (edge_line plan stride) 0 plan.edges) ≡ Ok (made_list weighted plan stride plan.edges)
  made_edges-read =
      let start : 0 + plan.edges ≡ plan.edges = omega arith in
      items-of_judged (edge_rules (made_ids plan.vertices) directed weighted) (lines_from (edge_line plan stride) 0 plan.edges) (record { line = 1 + plan.edges; items = made_list weighted plan stride (0 + plan.edges) })
      (omega (arith, ranges.edges, edges-length 0 plan.edges (omega arith))) (edges-judged 1 0 plan.edges (omega arith))
      ∙ ap (λ k. Ok (made_list weighted plan stride k)) start
