-- What an idle machine has not.
use Rattle.std.proofs.Common.{◌≡◌, ℕ, ◌+◌, ◌<◌, ◌≤◌, ◌&&◌, ◌==◌, Bool, true, false, is_none, Option, None, Some, List, [], ◌∷◌, refl, arith}
use Rattle.std.proofs.lemmas.Bool.{and_parts, both_ways, eqb-true}
use Rattle.gl_base.specs.declared.scopes.Claim.{Claim}
use Rattle.graph_core.specs.DataGraph.{size}
use Rattle.cluster_laws.specs.cluster_core.Parts.{Part}
use Rattle.cluster_laws.specs.cluster_core.Ranges.{first_passing}
use Rattle.cluster_laws.specs.cluster_core.Settings.{Setting}
use Rattle.cluster_laws.proofs.cluster_core.Basics.{first_passing-none}
use Rattle.cluster_laws.specs.cluster_model.Machines.{is_idle, waits}
use Rattle.whole_laws.specs.cluster_ending.Watched.{HoldsNoTask}

no_first : (o : Option ℕ) → is_none o ≡ true → o ≡ None
no_first None is = refl
no_first (Some x) is = absurd (both_ways false refl is)

zero_low : (n : ℕ) → 0 ≤ n
zero_low n = omega arith

from_zero : (v n : ℕ) → v < n → v < 0 + n
from_zero v n low = omega arith

none_passes : (test : ℕ → Bool) (n : ℕ) → is_none (first_passing test 0 n) ≡ true → (v : ℕ) → v < n → test v ≡ false
none_passes test n is v low = first_passing-none test 0 n (no_first (first_passing test 0 n) is) v (zero_low v) (from_zero v n low)

no_wait : (claims : List Claim) → waits claims ≡ false → claims ≡ []
no_wait [] is = refl
no_wait (claim ∷ claims) is = absurd (both_ways true is refl)

module _ (st : Setting) (part : Part) (idle : is_idle st part ≡ true) where
  abbrev no_tasks : Bool
  no_tasks = is_none (first_passing part.task 0 (size st.graph))

  abbrev no_pending : Bool
  no_pending = is_none (first_passing part.pending 0 (size st.graph))

  abbrev no_waits : Bool
  no_waits = is_none (first_passing (λ x. waits (part.queue x)) 0 (size st.graph))

  first : ((no_tasks && no_pending && part.flying == 0) ≡ true) × (no_waits ≡ true)
  first = and_parts (no_tasks && no_pending && part.flying == 0) no_waits idle

  second : ((no_tasks && no_pending) ≡ true) × ((part.flying == 0) ≡ true)
  second = and_parts (no_tasks && no_pending) (part.flying == 0) first.0

  third : (no_tasks ≡ true) × (no_pending ≡ true)
  third = and_parts no_tasks no_pending second.0

  pub idle_tasks : HoldsNoTask st part
  idle_tasks v within = none_passes part.task (size st.graph) third.0 v within

  pub idle_pending : (v : ℕ) → v < size st.graph → part.pending v ≡ false
  idle_pending v within = none_passes part.pending (size st.graph) third.1 v within

  pub idle_flying : part.flying ≡ 0
  idle_flying = eqb-true part.flying 0 second.1

  pub idle_queues : (x : ℕ) → x < size st.graph → part.queue x ≡ []
  idle_queues x within = no_wait (part.queue x) (none_passes (λ y. waits (part.queue y)) (size st.graph) first.1 x within)
