-- A cluster where no message is on its way.
use Rattle.std.proofs.Common.{◌≡◌, ℕ, ◌<◌, ◌≤◌, List, [], ◌∷◌, ◌++◌, length, refl, sym, ap, subst, ⊎_elim, arith}
use Rattle.std.proofs.lemmas.Bool.{cases_lt}
use Rattle.cluster_laws.specs.cluster_core.Settings.{Setting}
use Rattle.full_scope.specs.FullUpdates.{FullUpdate}
use Rattle.full_laws.specs.FullActions.{HasFirstFull}
use Rattle.full_laws.specs.FullMessages.{FullMessage, gifts_of}
use Rattle.full_laws.specs.FullRuns.{IsAllGiven}
use Rattle.full_laws.specs.FullWorlds.{FullWorld, full_way}
use Rattle.full_cluster.specs.declared.clusters.FullCluster.{FullCluster}
use Rattle.full_cluster.specs.declared.machines.FullMachine.{FullMachine}
use Rattle.full_cluster.specs.declared.queues.FullQueues.{FullQueues}
use Rattle.full_cluster.specs.FullClusters.{IsClusterOf}

-- a queue without a first message is empty
pub none_waits : (ms : List FullMessage) → (HasFirstFull ms → ⊥) → ms ≡ []
none_waits [] none = refl
none_waits (m ∷ ms) none = absurd (none (record { message = m; behind = ms; first = refl }))

pub both_none : (xs ys : List FullMessage) → xs ≡ [] → ys ≡ [] → xs ++ ys ≡ []
both_none xs ys none nor = rw (none, nor) refl

some_machine : (machines : List FullMachine) (a : ℕ) → a < length machines → FullMachine
some_machine [] a low = absurd (omega (arith, low))
some_machine (m ∷ machines) a low = m

some_links : (links : List FullQueues) (a : ℕ) → a < length links → FullQueues
some_links [] a low = absurd (omega (arith, low))
some_links (x ∷ links) a low = x

module _ (st : Setting) (p : FullUpdate) (w : FullWorld) (c : FullCluster) (are : IsClusterOf st p w c) where
  -- nothing goes to a machine that isn't there
  none_beyond : (a q : ℕ) → a < st.machines → st.machines ≤ q → full_way w a q ≡ []
  none_beyond a q low past =
      let here : a < length c.machines.items = subst (λ (n : ℕ). a < n) (sym are.count) low in
      let there : a < length c.links.items = subst (λ (n : ℕ). a < n) (sym are.link_count) low in
      let seat = are.seats a (some_machine c.machines.items a here) here in
      let link = are.links_are a (some_links c.links.items a there) there in
      both_none (w.link a q) ((w.part a).out q)
      (link.are.beyond q (subst (λ (n : ℕ). n ≤ q) (sym link.count) past))
      (seat.is.out.beyond q (subst (λ (n : ℕ). n ≤ q) (sym seat.queues) past))

  none_from : ((a q : ℕ) → a < st.machines → q < st.machines → full_way w a q ≡ []) → (a q : ℕ) → full_way w a q ≡ []
  none_from near a q = ⊎_elim
      (λ (low : a < st.machines). ⊎_elim
      (λ (inside : q < st.machines). near a q low inside)
      (λ (past : st.machines ≤ q). none_beyond a q low past)
      (cases_lt q st.machines))
      (λ (far : st.machines ≤ a). both_none (w.link a q) ((w.part a).out q) ((are.beyond a far).link q) ((are.beyond a far).out q))
      (cases_lt a st.machines)

  -- so nothing given is on its way
  pub all_given : ((a q : ℕ) → a < st.machines → q < st.machines → full_way w a q ≡ []) → IsAllGiven w
  all_given near = λ a q. ap gifts_of (none_from near a q)
