-- What each machine is given is told one after another.
use Rattle.std.proofs.Common.{◌≡◌, ◌≢◌, ℕ, ◌+◌, ◌<◌, ◌≤◌, Bool, true, false, Option, None, Some, List, [], ◌∷◌, ◌++◌, refl, sym, ◌∙◌, ap, subst, ⊎_elim, eq-eqb, ne_eqb, true≢false, arith}
use Rattle.std.proofs.lemmas.Bool.{cases_Bool, cases_eq, cases_lt}
use Rattle.gl_base.specs.declared.scopes.ScopeId.{ScopeId}
use Rattle.gl_base.specs.scope_lists.Scopes.{set_at}
use Rattle.graph_core.specs.DataGraph.{size}
use Rattle.cluster_laws.specs.cluster_core.Scopes.{is_found, own_from, takes_part}
use Rattle.cluster_laws.specs.cluster_core.Settings.{IsSetting, Setting}
use Rattle.cluster_laws.proofs.cluster_core.Nearness.{is_own}
use Rattle.full_laws.specs.FullEffects.{gives}
use Rattle.full_laws.specs.FullMessages as model
use Rattle.full_laws.specs.FullMessages.{Gift, Give}
use Rattle.full_cluster.specs.declared.giving.FullGift.{FullGift}
use Rattle.full_cluster.specs.declared.messages.FullMessage.TheVariants as told
use Rattle.full_cluster.specs.declared.queues.FullQueue.{FullQueue}
use Rattle.full_cluster.specs.FullQueues.{AreQueuesOf, IsMessage}
use Rattle.full_cluster.specs.Inner.Gifts.{IsToldBelow}
use Rattle.full_cluster.specs.Updating.{HasGift, is_other}
use Rattle.full_cluster.proofs.QueueLemmas.{queues_alike}

-- ---- one place

-- where there is a gift, there is to be one
pub gift_there : (st : Setting) (b : Bool) (given : Gift) (gift : FullGift) → HasGift st b given (Some gift) → b ≡ true
gift_there st true given gift has = refl
gift_there st false given gift has = absurd has

pub no_gift_there : (st : Setting) (b : Bool) (given : Gift) → HasGift st b given None → b ≡ false
no_gift_there st true given has = absurd has
no_gift_there st false given has = refl

pub gift_told : (st : Setting) (b : Bool) (s : ScopeId) (given : Gift) (gift : FullGift) → HasGift st b given (Some gift) → IsMessage st (told.Give s gift) (Give s given)
gift_told st true s given gift has = (given, refl, has.0, has.1)
gift_told st false s given gift has = absurd has

-- ---- the machines of the cluster

found_is : (o : Option ℕ) → is_found o ≡ true → (x : ℕ) × (o ≡ Some x)
found_is None is = absurd (true≢false (sym is))
found_is (Some x) is = (x, refl)

-- a machine beyond those of the cluster owns nothing
beyond_all : (st : Setting) → IsSetting st → (v q : ℕ) → st.machines ≤ q → takes_part st v q ≡ false
beyond_all st is v q past = ⊎_elim
    (λ (yes : takes_part st v q ≡ true).
    let found = found_is (own_from st v q 0) yes in
    let own = is_own st v q 0 found.0 found.1 in
    let inside : found.0 < size st.graph = own.1 in
    let low = is.owner found.0 inside in
    let owned : st.owner found.0 ≡ q = own.3 in
    absurd (omega (arith, low, owned, past)))
    (λ (no : takes_part st v q ≡ false). no)
    (cases_Bool (takes_part st v q))

-- ---- one after another

module _ (st : Setting) (v a : ℕ) (s : ScopeId) (given : ℕ → Gift) (waits : ℕ → List model.FullMessage) where
  gives_other : (q : ℕ) → is_other st v a q ≡ true → gives st a v s given waits q ≡ waits q ++ Give s (given q) ∷ []
  gives_other q holds = rw holds refl

  gives_none : (q : ℕ) → is_other st v a q ≡ false → gives st a v s given waits q ≡ waits q
  gives_none q fails = rw fails refl

  set_here : (now : ℕ → List model.FullMessage) (q : ℕ) (ms : List model.FullMessage) → set_at now q ms q ≡ ms
  set_here now q ms = rw (eq-eqb q q refl) refl

  set_there : (now : ℕ → List model.FullMessage) (q k : ℕ) (ms : List model.FullMessage) → k ≢ q → set_at now q ms k ≡ now k
  set_there now q k ms off = rw (ne_eqb k q off) refl

  pub told_first : (queues : List FullQueue) → AreQueuesOf st queues waits → IsToldBelow st v a s given waits queues 0
  told_first queues are = record { now = waits; queues_are = are; told = λ k low. absurd (omega (arith, low)); still = λ k low. refl }

  pub told_one : (old new : List FullQueue) (q : ℕ) → is_other st v a q ≡ true → (so_far : IsToldBelow st v a s given waits old q) →
      AreQueuesOf st new (set_at so_far.now q (so_far.now q ++ Give s (given q) ∷ [])) → IsToldBelow st v a s given waits new (q + 1)
  told_one old new q holds so_far are =
      let more : List model.FullMessage = so_far.now q ++ Give s (given q) ∷ [] in
      record {
        now = set_at so_far.now q more;
        queues_are = are;
        told = λ k low. ⊎_elim
            (λ (at : k ≡ q).
            subst (λ j. set_at so_far.now q more j ≡ gives st a v s given waits j) (sym at)
            (set_here so_far.now q more ∙ ap (λ (ms : List model.FullMessage). ms ++ Give s (given q) ∷ []) (so_far.still q (omega arith)) ∙ sym (gives_other q holds)))
            (λ (off : k ≢ q). set_there so_far.now q k more off ∙ so_far.told k (omega (arith, low, off)))
            (cases_eq k q);
        still = λ k past.
            let off : k ≢ q = omega (arith, past) in
            set_there so_far.now q k more off ∙ so_far.still k (omega (arith, past));
      }

  pub told_none : (queues : List FullQueue) (q : ℕ) → is_other st v a q ≡ false → IsToldBelow st v a s given waits queues q → IsToldBelow st v a s given waits queues (q + 1)
  told_none queues q fails so_far =
      record {
        now = so_far.now;
        queues_are = so_far.queues_are;
        told = λ k low. ⊎_elim
            (λ (at : k ≡ q). subst (λ j. so_far.now j ≡ gives st a v s given waits j) (sym at) (so_far.still q (omega arith) ∙ sym (gives_none q fails)))
            (λ (off : k ≢ q). so_far.told k (omega (arith, low, off)))
            (cases_eq k q);
        still = λ k past. so_far.still k (omega (arith, past));
      }

  pub told_all : IsSetting st → (queues : List FullQueue) (q : ℕ) → st.machines ≤ q → IsToldBelow st v a s given waits queues q → AreQueuesOf st queues (gives st a v s given waits)
  told_all is queues q all so_far = queues_alike st queues so_far.now (gives st a v s given waits) same so_far.queues_are
    where
      away : (k : ℕ) → takes_part st v k ≡ false → is_other st v a k ≡ false
      away k fails = rw fails refl

      same : (k : ℕ) → so_far.now k ≡ gives st a v s given waits k
      same k = ⊎_elim
          (λ (low : k < q). so_far.told k low)
          (λ (past : q ≤ k). so_far.still k past ∙ sym (gives_none k (away k (beyond_all st is v k (omega (arith, all, past))))))
          (cases_lt k q)
