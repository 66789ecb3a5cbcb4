-- What is merged, and the merge in the end.
use Rattle.std.proofs.Common.{◌≡◌, ◌≤◌, List, [], true, Bool, length, count_by, ap, refl, ◌∷◌, arith}
use Rattle.gl_base.specs.declared.entries.Entry.{Entry}
use Rattle.cluster_laws.specs.declared.merged_logs.fronts.Front.{Front}
use Rattle.cluster_laws.specs.merged_logs.Merges.{IsMerge, all_logged}
use Rattle.cluster_laws.proofs.merged_logs.FrontLemmas.{IsMerging, left_in}
use Rattle.cluster_laws.proofs.merged_logs.SameLemmas.{count_all, permutation_from}

pub is_short : (logs : List (List Entry)) (order : List Entry) (fronts : List Front) → IsMerging logs order fronts → length order ≤ length (all_logged logs)
is_short logs order fronts merging =
    let all = merging.left (λ x. true) in
    let one : count_by (λ (x : Entry). true) order ≡ length order = count_all order in
    let other : count_by (λ (x : Entry). true) (all_logged logs) ≡ length (all_logged logs) = count_all (all_logged logs) in
    omega (arith, all, one, other)

-- no front is left
pub is_merged : (logs : List (List Entry)) (order : List Entry) (fronts : List Front) → IsMerging logs order fronts → length fronts ≡ 0 → IsMerge (all_logged logs) order
is_merged logs order fronts merging few =
    let same : (p : Entry → Bool) → count_by p (all_logged logs) ≡ count_by p order = λ p.
    let left : left_in logs p fronts ≡ 0 = ap (left_in logs p) (none fronts few) in
    omega (arith, merging.left p, left) in
    record {
      same = permutation_from (all_logged logs) order same;
      by_ticket = merging.by_ticket;
    }
  where
    none : (fronts : List Front) → length fronts ≡ 0 → fronts ≡ []
    none [] e = refl
    none (x ∷ xs) e = absurd (omega arith)
