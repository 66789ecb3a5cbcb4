-- The same updates from the same numbers on give the same numbers.
use Rattle.std.proofs.Common.{◌≡◌, ℕ, zero, suc, ◌==◌, ◌&&◌, ◌||◌, not, Bool, true, false, if◌then◌else◌, ⊎_elim, List, [], ◌∷◌, ◌++◌, refl, sym, ◌∙◌, ap₂, subst, ◌<◌, arith}
use Rattle.std.specs.List.{AllByRecursion}
use Rattle.std.proofs.lemmas.Bool.{cases_Bool, lt-ltb}
use Rattle.gl_base.specs.declared.entries.Entry.{Entry}
use Rattle.gl_base.specs.declared.entries.Entry.TheVariants.{Go, Restart}
use Rattle.graph_core.proofs.HalvesLaws.{IsHalfAt, each-weaker, halves_are}
use Rattle.graph_core.specs.DataGraph.{DataGraph, size}
use Rattle.graph_core.specs.Halves.{halves_of}
use Rattle.update_api.specs.Updates.{Update}
use Rattle.seq_run.specs.Orders.{IsValidFrom, MayCome, after_entry, replay_from, tasks_after_entry, tasks_from}
use Rattle.seq_run.specs.States.{GraphState, near_of}
use Rattle.cluster_laws.specs.cluster_core.Settings.{IsSetting, Setting}
use Rattle.cluster_laws.specs.cluster_model.ByTicket.{restarts}
use Rattle.cluster_laws.proofs.cluster_numbers.EdgeEnds.{edge_after-same, ends_within, half_between, new_number-same, wakes-same}
use Rattle.whole_laws.specs.cluster_whole.Logged.{Logged, all_entries}
use Rattle.whole_laws.specs.cluster_records.Recorded.{HaveSameNumbers, IsOwnUpdate, IsSinceBase}
use Rattle.whole_laws.proofs.cluster_records.Filtering.{passing, passing-cons_in, passing-cons_out}

pub same_numbers : (g : DataGraph) (s : GraphState) → HaveSameNumbers g s s
same_numbers g s = record { vertices = λ v low. refl; edges = λ e low. refl }

pub same_then : (g : DataGraph) (a b c : GraphState) → HaveSameNumbers g a b → HaveSameNumbers g b c → HaveSameNumbers g a c
same_then g a b c one other = record { vertices = λ v low. one.vertices v low ∙ other.vertices v low; edges = λ e low. one.edges e low ∙ other.edges e low }

pub replay-append : (g : DataGraph) (p : Update) (s : GraphState) (one other : List Entry) → replay_from g p s (one ++ other) ≡ replay_from g p (replay_from g p s one) other
replay-append g p s [] other = refl
replay-append g p s (entry ∷ one) other = replay-append g p (after_entry g p s entry) one other

-- restarts change no number
pub replay-restarts : (g : DataGraph) (p : Update) (s : GraphState) (n ticket : ℕ) → replay_from g p s (restarts n ticket) ≡ s
replay-restarts g p s zero ticket = refl
replay-restarts g p s (suc n) ticket = replay-restarts g p s n ticket

module _ (st : Setting) (is : IsSetting st) where
  -- near a vertex of the graph
  near_same : (one other : GraphState) → HaveSameNumbers st.graph one other → (v : ℕ) → AllByRecursion (λ h. near_of one h ≡ near_of other h) (halves_of st.graph v)
  near_same one other same v =
      each-weaker (IsHalfAt st.graph is.graph v) (λ h. near_of one h ≡ near_of other h)
      (λ h half.
      let between = half_between st is v h half in
      let far : one.vertex h.other ≡ other.vertex h.other = same.vertices h.other (ends_within st is h.edge v h.other between.0 between.1).1 in
      let mark : one.edge h.edge ≡ other.edge h.edge = same.edges h.edge between.0 in
      λ i. record { number = far i; mark = mark i; weight = h.weight; out = h.out; into = h.into })
      (halves_of st.graph v) (halves_are st.graph is.graph v)

  one_same : (one other : GraphState) (entry : Entry) → IsOwnUpdate st entry → HaveSameNumbers st.graph one other → HaveSameNumbers st.graph (after_entry st.graph st.program one entry) (after_entry st.graph st.program other entry)
  one_same one other (Go machine vertex ticket) own same =
      let v : ℕ = vertex.0 in
      let here : one.vertex v ≡ other.vertex v = same.vertices v own.0 in
      let near = near_same one other same v in
      record {
        vertices = λ u low. ap₂ (λ (x y : ℕ). if u == v then x else y) (new_number-same st.graph st.program one other v here near) (same.vertices u low);
        edges = λ e low. edge_after-same st.graph st.program one other v e here near (same.edges e low);
      }
  one_same one other (Restart ticket) own same = absurd own

  pub all_same : (one other : GraphState) (order : List Entry) → AllByRecursion (IsOwnUpdate st) order → HaveSameNumbers st.graph one other → HaveSameNumbers st.graph (replay_from st.graph st.program one order) (replay_from st.graph st.program other order)
  all_same one other [] own same = same
  all_same one other (entry ∷ order) own same =
      all_same (after_entry st.graph st.program one entry) (after_entry st.graph st.program other entry) order own.1 (one_same one other entry own.0 same)

  pub passing_own : (test : Logged → Bool) (logged : List Logged) → AllByRecursion (IsSinceBase st) logged → AllByRecursion (IsOwnUpdate st) (passing test logged)
  passing_own test [] all = tt
  passing_own test (l ∷ logged) all =
      ⊎_elim
      (λ (yes_in : test l ≡ true). subst (AllByRecursion (IsOwnUpdate st)) (sym (passing-cons_in test l logged yes_in)) (all.0.1, passing_own test logged all.1))
      (λ (out : test l ≡ false). subst (AllByRecursion (IsOwnUpdate st)) (sym (passing-cons_out test l logged out)) (passing_own test logged all.1))
      (cases_Bool (test l))

  pub all_own : (logged : List Logged) → AllByRecursion (IsSinceBase st) logged → AllByRecursion (IsOwnUpdate st) (all_entries logged)
  all_own [] all = tt
  all_own (l ∷ logged) all = (all.0.1, all_own logged all.1)

  -- the logged updates that pass a test, from the same numbers on
  pub replayed_same : (one other : GraphState) (test : Logged → Bool) (logged : List Logged) → AllByRecursion (IsSinceBase st) logged → HaveSameNumbers st.graph one other →
      HaveSameNumbers st.graph (replay_from st.graph st.program one (passing test logged)) (replay_from st.graph st.program other (passing test logged))
  replayed_same one other test logged all same = all_same one other (passing test logged) (passing_own test logged all) same

  -- ---- and the same tasks

  -- the same tasks of the graph
  abbrev pub SameTasks : (ℕ → Bool) → (ℕ → Bool) → Type 0
  SameTasks one other = (u : ℕ) → u < size st.graph → one u ≡ other u

  tasks_same : (one other : GraphState) (some more : ℕ → Bool) (entry : Entry) → IsOwnUpdate st entry → HaveSameNumbers st.graph one other → SameTasks some more →
      SameTasks (tasks_after_entry st.graph st.program one some entry) (tasks_after_entry st.graph st.program other more entry)
  tasks_same one other some more (Go machine vertex ticket) own same tasks = λ u low.
      ap₂ (λ (x y : Bool). x || (y && not (u == vertex.0)))
      (wakes-same st.graph st.program one other vertex.0 (same.vertices vertex.0 own.0) (near_same one other same vertex.0) u) (tasks u low)
  tasks_same one other some more (Restart ticket) own same tasks = absurd own

  may_same : (some more : ℕ → Bool) (entry : Entry) → IsOwnUpdate st entry → SameTasks some more → MayCome some entry → MayCome more entry
  may_same some more (Go machine vertex ticket) own tasks may = sym (tasks vertex.0 own.0) ∙ may
  may_same some more (Restart ticket) own tasks may = absurd own

  -- updates are as valid from the same numbers and tasks on, and leave the same tasks
  pub valid_same : (one other : GraphState) (some more : ℕ → Bool) (order : List Entry) → AllByRecursion (IsOwnUpdate st) order → HaveSameNumbers st.graph one other → SameTasks some more →
      IsValidFrom st.graph st.program one some order → IsValidFrom st.graph st.program other more order
  valid_same one other some more [] own same tasks valid = tt
  valid_same one other some more (entry ∷ order) own same tasks valid = (
    may_same some more entry own.0 tasks valid.0,
    valid_same (after_entry st.graph st.program one entry) (after_entry st.graph st.program other entry) (tasks_after_entry st.graph st.program one some entry) (tasks_after_entry st.graph st.program other more entry) order own.1
        (one_same one other entry own.0 same) (tasks_same one other some more entry own.0 same tasks) valid.1,
  )

  pub left_same : (one other : GraphState) (some more : ℕ → Bool) (order : List Entry) → AllByRecursion (IsOwnUpdate st) order → HaveSameNumbers st.graph one other → SameTasks some more →
      SameTasks (tasks_from st.graph st.program one some order) (tasks_from st.graph st.program other more order)
  left_same one other some more [] own same tasks = tasks
  left_same one other some more (entry ∷ order) own same tasks =
      left_same (after_entry st.graph st.program one entry) (after_entry st.graph st.program other entry) (tasks_after_entry st.graph st.program one some entry) (tasks_after_entry st.graph st.program other more entry) order own.1
      (one_same one other entry own.0 same) (tasks_same one other some more entry own.0 same tasks)

-- ---- orders in two parts

pub valid-append : (g : DataGraph) (p : Update) (s : GraphState) (tasks : ℕ → Bool) (one other : List Entry) → IsValidFrom g p s tasks one → IsValidFrom g p (replay_from g p s one) (tasks_from g p s tasks one) other → IsValidFrom g p s tasks (one ++ other)
valid-append g p s tasks [] other first later = later
valid-append g p s tasks (entry ∷ one) other first later = (first.0, valid-append g p (after_entry g p s entry) (tasks_after_entry g p s tasks entry) one other first.1 later)

pub tasks-append : (g : DataGraph) (p : Update) (s : GraphState) (tasks : ℕ → Bool) (one other : List Entry) → tasks_from g p s tasks (one ++ other) ≡ tasks_from g p (replay_from g p s one) (tasks_from g p s tasks one) other
tasks-append g p s tasks [] other = refl
tasks-append g p s tasks (entry ∷ one) other = tasks-append g p (after_entry g p s entry) (tasks_after_entry g p s tasks entry) one other

pub restarts_valid : (g : DataGraph) (p : Update) (s : GraphState) (tasks : ℕ → Bool) (n ticket : ℕ) → IsValidFrom g p s tasks (restarts n ticket)
restarts_valid g p s tasks zero ticket = tt
restarts_valid g p s tasks (suc n) ticket = (tt, restarts_valid g p s (tasks_after_entry g p s tasks (Restart ticket)) n ticket)

-- behind a restart every vertex is a task
restarts_all : (g : DataGraph) (p : Update) (s : GraphState) (tasks : ℕ → Bool) → ((u : ℕ) → u < size g → tasks u ≡ true) → (n ticket : ℕ) → (u : ℕ) → u < size g → tasks_from g p s tasks (restarts n ticket) u ≡ true
restarts_all g p s tasks all zero ticket = all
restarts_all g p s tasks all (suc n) ticket = restarts_all g p s (tasks_after_entry g p s tasks (Restart ticket)) (λ u low. lt-ltb u (size g) low) n ticket

none_less : 0 < 0 → ⊥
none_less is = omega arith

pub restarts_tasks : (g : DataGraph) (p : Update) (s : GraphState) (tasks : ℕ → Bool) (n ticket : ℕ) → 0 < n → (u : ℕ) → u < size g → tasks_from g p s tasks (restarts n ticket) u ≡ true
restarts_tasks g p s tasks zero ticket some = absurd (none_less some)
restarts_tasks g p s tasks (suc n) ticket some = restarts_all g p s (tasks_after_entry g p s tasks (Restart ticket)) (λ u low. lt-ltb u (size g) low) n ticket
