-- One update more: what it makes of the lists of a run.
use Rattle.std.proofs.Common.{◌≡◌, ◌≢◌, ℕ, suc, ◌+◌, ◌<◌, Bool, true, false, not, if◌then◌else◌, ◌==◌, ◌&&◌, ◌||◌, List, [], ◌∷◌, ◌++◌, length, map, take, drop, slice_index, slice_index_or, slice_set, refl, sym, ap, ◌∙◌, subst, ⊎_elim, true≢false, arith, eq-eqb, ne_eqb, append_assoc, length-append}
use Rattle.std.specs.List.{AllByRecursion, All}
use Rattle.std.proofs.Math.ListN.{length-set}
use Rattle.std.proofs.Math.Seq.{take-append_seam}
use Rattle.std.proofs.lemmas.Bool.{cases_eq}
use Rattle.std.proofs.lemmas.List.{get_or-set_same, get_or-set_other, get_or_append_left, get_or_push, append-nil}
use Rattle.gl_base.specs.declared.entries.Entry.{Entry}
use Rattle.gl_base.specs.declared.entries.Entry.TheVariants.{Go}
use Rattle.gl_base.specs.declared.numbers.Vertex.{Vertex}
use Rattle.graph_core.specs.DataGraph.{DataGraph, size}
use Rattle.graph_core.specs.Halves.{halves_of}
use Rattle.update_api.specs.declared.links.Link.{Link}
use Rattle.update_api.specs.declared.woken.Woken.{Woken}
use Rattle.update_api.specs.Links.{AreLinks, near_at, nears_at}
use Rattle.update_api.specs.Marks.{AreMarked}
use Rattle.update_api.specs.Updates.{Update}
use Rattle.seq_run.specs.Inner.ListedLinks.{link_half}
use Rattle.seq_run.specs.States.{GraphState, start_state, near_of, new_number, with_number, with_marks, after_update, is_woken, wakes}
use Rattle.seq_run.specs.Orders.{replay, all_tasks, tasks_after, tasks_after_entry}
use Rattle.seq_run.specs.Runs.{RunView, HasTask, HasNoTask, updates_in_turn, with_updates, WentOn, AreNumbers}
use Rattle.seq_run.specs.Inner.Played.{IsStateAfter}
use Rattle.seq_run.specs.Inner.TaskQueues.{flag}
use Rattle.seq_run.proofs.EachOf.{each_is, all_is}
use Rattle.seq_run.proofs.GoingOn.{replay_from-append, tasks_from-append, valid_append, tasks_within}
use Rattle.seq_run.proofs.LinkLemmas.{links_fit}
use Rattle.seq_run.proofs.Queueing.{flag-set}
use Rattle.seq_run.proofs.Waking.{with_number-same, with_number-other}

-- a list that was lent and written as a whole
pub written_back : {T : Type 0} (n : ℕ) (new old : List T) → length new ≡ n → length old ≡ n → take n (new ++ drop (length new) old) ≡ new
written_back n new old long there = subst (λ k. take k (new ++ drop (length new) old) ≡ new) long (take-append_seam new (drop (length new) old))

pub length_written : (new old : List ℕ) (v x : ℕ) → new ≡ slice_set old v x → length new ≡ length old
length_written new old v x written = ap length written ∙ length-set old v x

-- one number more
pub numbers_more : (k x : ℕ) (f : ℕ → ℕ) (xs : List ℕ) → AreNumbers k f xs → x ≡ f k → AreNumbers (k + 1) f (xs ++ x ∷ [])
numbers_more k x f xs are is =
    let count = are.count in
    record {
      count = let more = length-append xs (x ∷ []) in omega arith;
      each = λ j low. ⊎_elim
          (λ (same : j ≡ k). get_or_push xs x 0 j (count ∙ sym same) ∙ is ∙ ap f (sym same))
          (λ (other : j ≡ k → ⊥). get_or_append_left xs (x ∷ []) 0 j (omega arith) ∙ are.each j (omega arith))
          (cases_eq j k);
    }

-- ---- orders of updates

pub length-updates : (ticket : ℕ) (vertices : List ℕ) → length (updates_in_turn ticket vertices) ≡ length vertices
length-updates ticket [] = refl
length-updates ticket (v ∷ vertices) = let rest = length-updates (suc ticket) vertices in omega arith

pub updates_more : (ticket next : ℕ) (vertices : List ℕ) (v : ℕ) → ticket + length vertices ≡ next → updates_in_turn ticket vertices ++ Go (record { 0 = 0 }) (record { 0 = v }) next ∷ [] ≡ updates_in_turn ticket (vertices ++ v ∷ [])
updates_more ticket next [] v after = let same : next ≡ ticket = omega arith in rw same
updates_more ticket next (u ∷ vertices) v after =
    ap (λ order. Go (record { 0 = 0 }) (record { 0 = u }) ticket ∷ order) (updates_more (suc ticket) next vertices v (omega arith))

-- one step more
pub went_on_more : {P : Type 0} (old mid new : RunView P) (steps v : ℕ) → WentOn old mid steps → new ≡ with_updates mid (v ∷ []) → WentOn old new (steps + 1)
went_on_more {P} old mid new steps v went more =
    let vertices = went.0 in
    let many = went.1 in
    let longer = length-append vertices (v ∷ []) in
    let order : mid.order ≡ old.order ++ updates_in_turn (length old.order) vertices = ap (λ (run : RunView P). run.order) went.2 in
    let long : length old.order + length vertices ≡ length mid.order = let counts = length-updates (length old.order) vertices in let both = length-append old.order (updates_in_turn (length old.order) vertices) in let whole = ap length order in omega arith in
    let push : mid.order ++ updates_in_turn (length mid.order) (v ∷ []) ≡ old.order ++ updates_in_turn (length old.order) (vertices ++ v ∷ []) =
    ap (λ xs. xs ++ updates_in_turn (length mid.order) (v ∷ [])) order ∙ append_assoc old.order (updates_in_turn (length old.order) vertices) (updates_in_turn (length mid.order) (v ∷ []))
    ∙ ap (λ xs. old.order ++ xs) (updates_more (length old.order) (length mid.order) vertices v long) in
    let graph : mid.graph ≡ old.graph = ap (λ (run : RunView P). run.graph) went.2 in
    let program : mid.program ≡ old.program = ap (λ (run : RunView P). run.program) went.2 in
    (vertices ++ v ∷ [], omega arith, more ∙ (rw (push, graph, program) refl))

-- a run went on by one number of steps only
pub steps_are_one : {P : Type 0} (old new : RunView P) (j k : ℕ) → WentOn old new j → WentOn old new k → j ≡ k
steps_are_one {P} old new j k one other =
    let first = steps_long old new j one in let second = steps_long old new k other in omega (arith, first, second)
  where
    steps_long : {P : Type 0} (old new : RunView P) (steps : ℕ) → WentOn old new steps → length new.order ≡ length old.order + steps
    steps_long {P} old new steps went =
        let order : new.order ≡ old.order ++ updates_in_turn (length old.order) went.0 = ap (λ (run : RunView P). run.order) went.2 in
        let whole = ap length order in
        let both = length-append old.order (updates_in_turn (length old.order) went.0) in
        let counts = length-updates (length old.order) went.0 in
        let many = went.1 in
        omega (arith, whole, both, counts, many)

pub no_task_left : {P : Type 0} (meaning : P → Update) (run : RunView P) → HasNoTask meaning run → HasTask meaning run → ⊥
no_task_left meaning run finished some = true≢false (sym some.2 ∙ finished some.0 some.1)

pub went_nowhere : {P : Type 0} (run : RunView P) → WentOn run run 0
went_nowhere {P} run = ([], refl, rw append-nil refl)

-- ---- numbers

near_same : (s : GraphState) (values edges : List ℕ) (link : Link) → slice_index values link.near ≡ s.vertex link.near → slice_index edges link.edge ≡ s.edge link.edge → near_at values edges link ≡ near_of s (link_half link)
near_same s values edges link number mark = rw (number, mark) refl

nears_same : (n m : ℕ) (s : GraphState) (values edges : List ℕ) (links : List Link) → AreNumbers n s.vertex values → AreNumbers m s.edge edges → AllByRecursion (λ link. link.near < n) links → AllByRecursion (λ link. link.edge < m) links → nears_at values edges links ≡ map (near_of s) (map link_half links)
nears_same n m s values edges [] numbers marks near edge = refl
nears_same n m s values edges (link ∷ links) numbers marks near edge =
    let head = near_same s values edges link (numbers.each link.near near.0) (marks.each link.edge edge.0) in
    let rest = nears_same n m s values edges links numbers marks near.1 edge.1 in
    cc (head, rest)

-- the marks as they are defined link by link are those that the definition of an update has
marks_same : (p : Update) (s : GraphState) (own : ℕ) (new : List ℕ) (e : ℕ) (links : List Link) → AllByRecursion (λ link. slice_index new link.edge ≡ p.mark own (near_of s (link_half link))) links → (AllByRecursion (λ link. link.edge ≢ e) links → slice_index new e ≡ s.edge e) → slice_index new e ≡ with_marks p s own (map link_half links) e
marks_same p s own new e [] marks others = others tt
marks_same p s own new e (link ∷ links) marks others = ⊎_elim
    (λ (same : e ≡ link.edge). rw (eq-eqb e link.edge same) (ap (slice_index new) same ∙ marks.0))
    (λ (other : e ≡ link.edge → ⊥). rw (ne_eqb e link.edge other) (marks_same p s own new e links marks.1 (λ rest. others (λ same. other (sym same), rest))))
    (cases_eq e link.edge)

unless : (b c : Bool) → (if c then false else b) ≡ (b && not c)
unless true true = refl
unless true false = refl
unless false true = refl
unless false false = refl

module _ (g : DataGraph) (p : Update) (order : List Entry) (values edges : List ℕ) (flags : List Bool) (is : IsStateAfter g p order values edges flags) (v : Vertex) (task : tasks_after g p order v.0 ≡ true) (links : List Link) (row : map link_half links ≡ halves_of g v.0) where
  pub task_within : v.0 < size g
  task_within = tasks_within g p is.graph order v.0 task

  pub its_links_fit : AreLinks links v.0 (length values) (length edges)
  its_links_fit = rw (is.values.count, is.edges.count) (links_fit g is.graph v.0 links row)

  abbrev old : GraphState
  old = replay g p order

  fit : AreLinks links v.0 (size g) (length g.edges)
  fit = links_fit g is.graph v.0 links row

  number_is : p.number (slice_index values v.0) (nears_at values edges links) ≡ new_number g p old v.0
  number_is =
      let own : slice_index values v.0 ≡ old.vertex v.0 = is.values.each v.0 task_within in
      let nears : nears_at values edges links ≡ map (near_of old) (map link_half links) =
      nears_same (size g) (length g.edges) old values edges links is.values is.edges (all_is (λ link. link.near < size g) links fit.near) (all_is (λ link. link.edge < length g.edges) links fit.edge) in
      let same : nears_at values edges links ≡ map (near_of old) (halves_of g v.0) = nears ∙ ap (map (near_of old)) row in
      rw (own, same) refl

  module _ (new_values : List ℕ) (written : new_values ≡ slice_set values v.0 (p.number (slice_index values v.0) (nears_at values edges links))) where
    own_is : slice_index new_values v.0 ≡ new_number g p old v.0
    own_is =
        let long = is.values.count in let within = task_within in
        ap (λ xs. slice_index xs v.0) written ∙ get_or-set_same values v.0 (p.number (slice_index values v.0) (nears_at values edges links)) 0 (omega arith) ∙ number_is

    values_after : AreNumbers (size g) (after_update g p old v.0).vertex new_values
    values_after =
        record {
          count = ap length written ∙ length-set values v.0 (p.number (slice_index values v.0) (nears_at values edges links)) ∙ is.values.count;
          each = λ k within. ⊎_elim
              (λ (same : k ≡ v.0). ap (slice_index new_values) same ∙ own_is ∙ sym (with_number-same old.vertex v.0 (new_number g p old v.0)) ∙ ap (with_number old.vertex v.0 (new_number g p old v.0)) (sym same))
              (λ (other : k ≡ v.0 → ⊥). ap (λ xs. slice_index xs k) written ∙ get_or-set_other values v.0 k (p.number (slice_index values v.0) (nears_at values edges links)) 0 other ∙ is.values.each k within ∙ sym (with_number-other old.vertex v.0 (new_number g p old v.0) k other))
              (cases_eq k v.0);
        }

    edges_after : (new_edges : List ℕ) → AreMarked (p.mark (slice_index new_values v.0)) values edges links new_edges → AreNumbers (length g.edges) (after_update g p old v.0).edge new_edges
    edges_after new_edges marked =
        let own = new_number g p old v.0 in
        let marks : All (λ (link : Link). slice_index new_edges link.edge ≡ p.mark own (near_of old (link_half link))) links = λ k d inside.
        let link = slice_index_or links k d in
        let near = near_same old values edges link (is.values.each link.near (fit.near k d inside)) (is.edges.each link.edge (fit.edge k d inside)) in
        let mark = marked.marks k d inside in cc (own_is, near, mark) in
        record {
          count = marked.as_many ∙ is.edges.count;
          each = λ e within.
              marks_same p old own new_edges e links (all_is (λ link. slice_index new_edges link.edge ≡ p.mark own (near_of old (link_half link))) links marks)
              (λ apart. marked.others e (each_is (λ link. link.edge ≢ e) links apart) ∙ is.edges.each e within)
              ∙ ap (λ halves. with_marks p old own halves e) row;
        }

    tasks_then : (woken : Woken) → woken ≡ p.woken (slice_index values v.0) (slice_index new_values v.0) → (new_flags : List Bool) → ((u : ℕ) → flag new_flags u ≡ (is_woken woken (map link_half links) u || flag (slice_set flags v.0 false) u)) →
        (u : ℕ) → flag new_flags u ≡ (wakes g p old v.0 u || (tasks_after g p order u && not (u == v.0)))
    tasks_then woken answer new_flags are u =
        let within = task_within in let long = is.tasks.count in
        let whom : woken ≡ p.woken (old.vertex v.0) (new_number g p old v.0) = let own = is.values.each v.0 task_within in cc (answer, own, own_is) in
        let others : flag (slice_set flags v.0 false) u ≡ (tasks_after g p order u && not (u == v.0)) =
        flag-set flags v.0 u false (omega arith) ∙ unless (flag flags u) (u == v.0) ∙ ap (λ b. b && not (u == v.0)) (is.tasks.each u) in
        are u ∙ ap (λ b. is_woken woken (map link_half links) u || b) others
        ∙ ap (λ b. b || (tasks_after g p order u && not (u == v.0))) (ap (λ w. is_woken w (map link_half links) u) whom ∙ ap (λ halves. is_woken (p.woken (old.vertex v.0) (new_number g p old v.0)) halves u) row)

    pub played_after : (new_order : List Entry) → new_order ≡ order ++ Go (record { 0 = 0 }) v (length order) ∷ [] →
        (new_edges : List ℕ) → AreMarked (p.mark (slice_index new_values v.0)) values edges links new_edges →
        (woken : Woken) → woken ≡ p.woken (slice_index values v.0) (slice_index new_values v.0) →
        (new_flags : List Bool) → length new_flags ≡ length flags → ((u : ℕ) → flag new_flags u ≡ (is_woken woken (map link_half links) u || flag (slice_set flags v.0 false) u)) →
        IsStateAfter g p new_order new_values new_edges new_flags
    played_after new_order grown new_edges marked woken answer new_flags long are =
        let entry = Go (record { 0 = 0 }) v (length order) in
        let state : replay g p (order ++ entry ∷ []) ≡ after_update g p old v.0 = replay_from-append g p (start_state g p) order (entry ∷ []) in
        let tasks : tasks_after g p (order ++ entry ∷ []) ≡ tasks_after_entry g p old (tasks_after g p order) entry = tasks_from-append g p (start_state g p) (all_tasks g) order (entry ∷ []) in
        let vertices = is.alone.0 in
        let ticket : 0 + length vertices ≡ length order = let counts = length-updates 0 vertices in let whole = ap length is.alone.1 in omega arith in
        subst (λ xs. IsStateAfter g p xs new_values new_edges new_flags) (sym grown)
        (record {
          graph = is.graph;
          valid = valid_append g p (start_state g p) (all_tasks g) order (entry ∷ []) is.valid (task, tt);
          alone = (vertices ++ v.0 ∷ [], ap (λ xs. xs ++ entry ∷ []) is.alone.1 ∙ updates_more 0 (length order) vertices v.0 ticket);
          values = subst (λ (s : GraphState). AreNumbers (size g) s.vertex new_values) (sym state) values_after;
          edges = subst (λ (s : GraphState). AreNumbers (length g.edges) s.edge new_edges) (sym state) (edges_after new_edges marked);
          tasks = record {
            count = long ∙ is.tasks.count;
            each = λ u. tasks_then woken answer new_flags are u ∙ ap (λ (f : ℕ → Bool). f u) (sym tasks);
          };
        })
