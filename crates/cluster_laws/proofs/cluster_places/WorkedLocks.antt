-- The worked example of locks, action by action.
use Rattle.std.proofs.Common.{◌≡◌, ℕ, zero, suc, length, ◌==◌, nat_lt, ◌<◌, ◌≤◌, AllPairs, slice_index, Bool, true, false, if◌then◌else◌, None, Some, List, [], ◌∷◌, refl, ◌∙◌, ap, inl, inr, arith}
use Rattle.std.proofs.lemmas.Bool.{and_from, eq-eqb, lt-ltb}
use Rattle.std.proofs.lemmas.List.Elements.{All-cons, All-nil}
use Rattle.std.proofs.lemmas.List.Kept.{AllPairs-cons}
use Rattle.gl_base.specs.declared.limits.TheConstants.{MAX_ID}
use Rattle.graph_core.specs.DataGraph.{DataEdge, IsEdge, IsBefore}
use Rattle.seq_run.specs.Examples.{edge}
use Rattle.gl_base.specs.declared.scopes.Claim.{Claim}
use Rattle.gl_base.specs.declared.scopes.Mode.{Mode}
use Rattle.gl_base.specs.declared.scopes.Mode.TheVariants.{Reader, Writer}
use Rattle.cluster_laws.specs.cluster_core.Ranges.{first_passing, all_passing}
use Rattle.cluster_laws.specs.cluster_core.Runs.{IsStart, IsActionRun}
use Rattle.cluster_laws.specs.cluster_core.Actions.{MayGrant, GoTogether}
use Rattle.cluster_laws.specs.cluster_core.Scopes.{is_scope}
use Rattle.cluster_laws.specs.cluster_core.Settings.{IsSetting}
use Rattle.cluster_laws.specs.cluster_places.FourVertices.{four_vertices, at_last, first_world, fourth, fourth_asks, fourth_updates, on_four_machines, second, second_updates, while_fourth_waits, while_second_flies}

pub labels_then : (((while_fourth_waits.part 1).datum 1).value ≡ 1) × (((while_fourth_waits.part 3).datum 1).value ≡ 2) × (((while_fourth_waits.part 3).datum 3).value ≡ 4)
unfolding first_passing all_passing
labels_then = (refl, refl, refl)

pub held_then : ((while_fourth_waits.part 3).holder 3 second ≡ Some Reader) × ((while_fourth_waits.part 3).queue 3 ≡ record { scope = fourth; mode = Writer } ∷ [])
unfolding first_passing all_passing
held_then = (refl, refl)

heads_same : {X : Type 0} (x y : X) (xs ys : List X) → x ∷ xs ≡ y ∷ ys → x ≡ y
heads_same x y xs ys is = cc

reader_alone : Writer ≡ Reader → ⊥
reader_alone is = cc

-- the second scope reads the lock that the first in the queue would write
pub not_now : MayGrant on_four_machines 3 3 (while_fourth_waits.part 3) → ⊥
unfolding first_passing all_passing
not_now may =
    let its : Claim = record { scope = fourth; mode = Writer } in
    let first : its ∷ [] ≡ may.claim ∷ may.behind = may.first in
    let same : its ≡ may.claim = heads_same its may.claim [] may.behind first in
    let both : GoTogether Reader may.claim.mode = may.together second Reader refl in
    reader_alone (ap (λ (claim : Claim). claim.mode) same ∙ both.1)

none_flies : (v : ℕ) → None ≡ Some v → ⊥
none_flies v is = cc

none_holds : (mode : Mode) → None ≡ Some mode → ⊥
none_holds mode is = cc

-- the scope that held the lock has released it
none_held : (test : Bool) (mine mode : Mode) → (if test then None else (if test then Some mine else None)) ≡ Some mode → ⊥
none_held true mine mode is = cc
none_held false mine mode is = cc

pub second_may : IsActionRun on_four_machines first_world second_updates while_second_flies
unfolding first_passing all_passing
second_may = (
  record { vertex = omega arith; owned = refl; due = inr refl; fresh = λ s is. none_flies 1 is; turn = omega arith },
  (
    record { message = _; behind = _; first = refl },
    (
      record { message = _; behind = _; first = refl },
      (
        record { vertex = omega arith; owned = refl; claim = _; behind = _; first = refl; together = λ s mode is. absurd (none_holds mode is) },
        (
          record { message = _; behind = _; first = refl },
          (
            record { message = _; behind = _; first = refl },
            (
              record { vertex = omega arith; owned = refl; claim = _; behind = _; first = refl; together = λ s mode is. absurd (none_holds mode is) },
              (
                record { message = _; behind = _; first = refl },
                (
                  record { message = _; behind = _; first = refl },
                  (
                    record { vertex = omega arith; owned = refl; claim = _; behind = _; first = refl; together = λ s mode is. absurd (none_holds mode is) },
                    (
                      record { message = _; behind = _; first = refl },
                      (
                        record { message = _; behind = _; first = refl },
                        (
                          record { vertex = _; flight = refl; ready = refl; not_pending = refl; task = refl; ticket = omega arith },
                          (
                            record { message = _; behind = _; first = refl },
                            refl,
                          ),
                        ),
                      ),
                    ),
                  ),
                ),
              ),
            ),
          ),
        ),
      ),
    ),
  ),
)

pub fourth_may : IsActionRun on_four_machines while_second_flies fourth_asks while_fourth_waits
unfolding first_passing all_passing
fourth_may = (
  record { vertex = omega arith; owned = refl; due = inr refl; fresh = λ s is. none_flies 3 is; turn = omega arith },
  (
    record { message = _; behind = _; first = refl },
    (
      record { message = _; behind = _; first = refl },
      (
        record { vertex = omega arith; owned = refl; claim = _; behind = _; first = refl; together = λ s mode is. absurd (none_held (is_scope s second) Writer mode is) },
        (
          record { message = _; behind = _; first = refl },
          (
            record { message = _; behind = _; first = refl },
            (
              record { vertex = omega arith; owned = refl; claim = _; behind = _; first = refl; together = λ s mode is. absurd (none_holds mode is) },
              (
                record { message = _; behind = _; first = refl },
                (
                  record { message = _; behind = _; first = refl },
                  refl,
                ),
              ),
            ),
          ),
        ),
      ),
    ),
  ),
)

pub at_last_may : IsActionRun on_four_machines while_fourth_waits fourth_updates at_last
unfolding first_passing all_passing
at_last_may = (
  record { message = _; behind = _; first = refl },
  (
    record { vertex = omega arith; owned = refl; claim = _; behind = _; first = refl; together = λ s mode is. absurd (none_held (is_scope s second) Reader mode is) },
    (
      record { vertex = _; flight = refl; ready = refl; not_pending = refl; task = refl; ticket = omega arith },
      refl,
    ),
  ),
)

pub labels_at_last : (((at_last.part 3).datum 1).value ≡ 1) × (((at_last.part 3).datum 3).value ≡ 1) × (length (at_last.part 3).log ≡ 1) × (at_last.next ≡ 2)
unfolding first_passing all_passing
labels_at_last = (refl, refl, refl, refl)

identifier : (k : ℕ) → k < 4 → slice_index four_vertices.ids k ≡ suc k
identifier zero low = refl
identifier (suc zero) low = refl
identifier (suc (suc zero)) low = refl
identifier (suc (suc (suc zero))) low = refl
identifier (suc (suc (suc (suc k)))) low = absurd (omega arith)

abbrev link : ℕ → ℕ → DataEdge
link from to = edge from to 1

joins_two : (a b : ℕ) → a < b → b < 4 → IsEdge 4 false (link a b)
joins_two a b rises low =
    record { from = omega arith; to = low; apart = λ same. omega arith; lower = λ undirected. rises; weight = omega arith }

edges_rise : AllPairs IsBefore four_vertices.edges
edges_rise =
    AllPairs-cons IsBefore (link 0 1) (link 1 3 ∷ link 2 3 ∷ [])
    (All-cons (IsBefore (link 0 1)) (link 1 3) (link 2 3 ∷ []) (inl (omega arith)) (All-cons (IsBefore (link 0 1)) (link 2 3) [] (inl (omega arith)) (All-nil (IsBefore (link 0 1)))))
    (AllPairs-cons IsBefore (link 1 3) (link 2 3 ∷ [])
    (All-cons (IsBefore (link 1 3)) (link 2 3) [] (inl (omega arith)) (All-nil (IsBefore (link 1 3))))
    (AllPairs-cons IsBefore (link 2 3) [] (All-nil (IsBefore (link 2 3))) (λ i j d rises within. absurd (omega arith))))

pub setting : IsSetting on_four_machines
setting =
    let low : ℕ → Type 0 = λ id. id ≤ MAX_ID in
    let joins : DataEdge → Type 0 = IsEdge 4 false in
    record {
      graph = record {
        few = omega arith;
        few_edges = omega arith;
        ascending = λ i j rises within. omega (arith, identifier i (omega arith), identifier j within);
        ids = All-cons low 1 (2 ∷ 3 ∷ 4 ∷ []) (omega arith) (All-cons low 2 (3 ∷ 4 ∷ []) (omega arith) (All-cons low 3 (4 ∷ []) (omega arith) (All-cons low 4 [] (omega arith) (All-nil low))));
        edges = All-cons joins (link 0 1) (link 1 3 ∷ link 2 3 ∷ []) (joins_two 0 1 (omega arith) (omega arith)) (All-cons joins (link 1 3) (link 2 3 ∷ []) (joins_two 1 3 (omega arith) (omega arith)) (All-cons joins (link 2 3) [] (joins_two 2 3 (omega arith) (omega arith)) (All-nil joins)));
        edges_ascending = edges_rise;
      };
      owner = λ v within. within;
    }

pub start : IsStart on_four_machines first_world
start =
    record {
      vertices = λ v a within part. refl;
      edges = λ e a within at. refl;
      tasks = λ u within. and_from (u == u) (nat_lt u 4) (eq-eqb u u refl) (lt-ltb u 4 within);
      logs = λ a. refl;
      flying = λ a. refl;
      flights = λ a s. refl;
      stands = λ a s. refl;
      ready = λ a s. refl;
      holders = λ a x s. refl;
      queues = λ a x. refl;
      outboxes = λ a q. refl;
      links = λ p q. refl;
    }
