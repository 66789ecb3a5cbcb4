-- The first message of a queue, and what comes with it.
use Rattle.std.proofs.Common.{◌≡◌, ◌⊎◌, ℕ, suc, ◌==◌, true, false, Some, List, [], ◌∷◌, slice_get, slice_index_or, ◌<◌, refl, sym, ◌∙◌, subst, ⊎_elim, inl, inr, arith}
use Rattle.std.specs.List.{All}
use Rattle.std.proofs.lemmas.Bool.{cases_Bool}
use Rattle.std.proofs.lemmas.Option.{slice_get_within}
use Rattle.gl_base.specs.declared.numbers.MachineNo.{MachineNo}
use Rattle.gl_base.specs.declared.numbers.Vertex.{Vertex}
use Rattle.cluster_laws.specs.cluster_core.Settings.{Setting}
use Rattle.full_laws.specs.FullActions.{HasFirstFull}
use Rattle.full_laws.specs.FullMessages as model
use Rattle.full_cluster.specs.declared.messages.FullMessage.{FullMessage}
use Rattle.full_cluster.specs.declared.queues.FullQueue.{FullQueue}
use Rattle.full_cluster.specs.FullMachines.{IsFirstBelow}
use Rattle.full_cluster.specs.FullQueues.{AreQueuesOf, IsFirstIn}
use Rattle.full_cluster.specs.Given.{vertex_after}
use Rattle.full_cluster.specs.WholeLocks.{has_vertex}
use Rattle.full_cluster.proofs.QueueLemmas.{first_waits}

-- a queue has one first message
pub first_one : (queues : List FullQueue) (q : ℕ) (c d : FullMessage) → IsFirstIn queues q c → IsFirstIn queues q d → c ≡ d
first_one [] q c d one other = let inside = one.inside in absurd (omega (arith, inside))
first_one (x ∷ queues) q c d one other = let same : Some c ≡ Some d = sym (one.first x) ∙ other.first x in cc

pub front_waits : (st : Setting) (queues : List FullQueue) (q : ℕ) (c : FullMessage) (out : ℕ → List model.FullMessage) → AreQueuesOf st queues out → IsFirstIn queues q c → HasFirstFull (out q)
front_waits st [] q c out are one = let inside = one.inside in absurd (omega (arith, inside))
front_waits st (x ∷ queues) q c out are one =
    let items : List FullMessage = (slice_index_or (x ∷ queues) q x).messages.items in
    first_waits st items (out q) (are.each q x one.inside) (slice_get_within items 0 c (one.first x))

none_there : (b : MachineNo) → slice_get [] 0 ≡ Some b → ⊥
none_there b is = cc

listed_or : (pairs : List (Vertex × ℕ)) (x here : ℕ) → (has_vertex pairs x ≡ true) ⊎ (vertex_after pairs x here ≡ here)
listed_or [] x here = inr refl
listed_or (pair ∷ pairs) x here = ⊎_elim
    (λ (yes : (pair.0.0 == x) ≡ true). inl (rw yes refl))
    (λ (off : (pair.0.0 == x) ≡ false). rw off (listed_or pairs x here))
    (cases_Bool (pair.0.0 == x))

-- a vertex that gets a number is listed
pub given_listed : (pairs : List (Vertex × ℕ)) (x n : ℕ) → vertex_after pairs x (suc n) ≡ n → has_vertex pairs x ≡ true
given_listed pairs x n is = ⊎_elim
    (λ (yes : has_vertex pairs x ≡ true). yes)
    (λ (left : vertex_after pairs x (suc n) ≡ suc n). let wrong : suc n ≡ n = sym left ∙ is in absurd (omega (arith, wrong)))
    (listed_or pairs x (suc n))

-- the second of these machines is one of so many, as all are
pub second_below : (first : MachineNo) (rest : List MachineNo) (many : ℕ) → All (λ m. m.0 < many) (first ∷ rest) → IsFirstBelow rest many
second_below first [] many all b at = absurd (none_there b at)
second_below first (x ∷ rest) many all b at = let same : x ≡ b = cc in subst (λ (m : MachineNo). m.0 < many) same (all 1 x (omega arith))
