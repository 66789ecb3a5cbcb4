-- The front of each link may be received.
use Rattle.std.proofs.Common.{◌≡◌, ◌≢◌, ℕ, ◌<◌, Bool, false, List, ◌∷◌, sym, ◌∙◌, ap, subst, ⊎_elim, inl, inr, arith}
use Rattle.std.specs.List.{AllByRecursion}
use Rattle.std.proofs.lemmas.Bool.{cases_eq, and_parts, and_from, false_from_ne_true}
use Rattle.gl_base.specs.declared.scopes.ScopeId.{ScopeId}
use Rattle.cluster_laws.specs.cluster_core.Messages.{Message, Ask, Ready, Done}
use Rattle.cluster_laws.specs.cluster_core.Settings.{Setting, IsSetting, is_in_scope}
use Rattle.cluster_laws.specs.cluster_core.Scopes.{mode_at, is_before}
use Rattle.cluster_laws.specs.cluster_core.Worlds.{World, way}
use Rattle.cluster_laws.specs.cluster_core.Stages.{IsAsked, IsReady, IsDone, Stage, Asks, Returns, Ends, some_if, tokens_of}
use Rattle.cluster_laws.specs.cluster_core.Places.{ArePlaces}
use Rattle.cluster_laws.specs.cluster_core.Ways.{IsToldTo}
use Rattle.cluster_laws.specs.cluster_core.Receiving.{MayReceive}
use Rattle.cluster_laws.proofs.cluster_core.Taking.{taken, taken-here}
use Rattle.cluster_laws.proofs.cluster_places.Reaching.{below, before_is}
use Rattle.cluster_laws.proofs.cluster_places.Going.{asked_here, ready_here}
use Rattle.cluster_laws.proofs.cluster_places.Seen.{asked_stage, ready_stage, done_stage}
use Rattle.cluster_laws.proofs.cluster_places.Standing.{shows_as, stage_as}
use Rattle.cluster_laws.proofs.cluster_places.Delivering.{done_here, told}

module _ (st : Setting) (is : IsSetting st) (w : World) (stage : ScopeId → Stage) (places : ArePlaces st w stage) (p q : ℕ) (concerns : AllByRecursion (IsToldTo st p q) (way w p q)) where
  -- no lock at machine q comes before its first
  none_here : (v x : ℕ) → st.owner x ≡ q → below st v q 0 x ≡ false
  none_here v x owned =
      false_from_ne_true (below st v q 0 x) (λ has. ⊎_elim
      (λ (lower : st.owner x < q). omega arith)
      (λ (here : (st.owner x ≡ q) × (x < 0)). omega (arith, here.1))
      (before_is st x q 0 (and_parts (is_in_scope st v x) (is_before st x q 0) has).1))

  -- the first message concerns machine q
  first_concerns : (m : Message) (behind : List Message) → w.link p q ≡ m ∷ behind → IsToldTo st p q m
  first_concerns m behind first =
      let whole : AllByRecursion (IsToldTo st p q) (m ∷ way (taken w p q m behind first) p q) = subst (AllByRecursion (IsToldTo st p q)) (taken-here w p q m behind first) concerns in
      whole.0

  pub front : (m : Message) (behind : List Message) → w.link p q ≡ m ∷ behind → MayReceive st p q (w.part q) m
  front (Ask s v rest) behind first =
      let h = asked_stage st s (stage s) p q v rest (tokens_of s (way (taken w p q (Ask s v rest) behind first) p q)) (told st is w stage places p q (Ask s v rest) behind first s (IsAsked v rest) (asked_here s v rest)) in
      let seen = shows_as st w stage places s (Asks v p q) h.0 in
      let stands = stage_as st w stage places s (Asks v p q) h.0 in
      record {
        stand = seen.stand q;
        holder = λ x owned. ap (λ (a : ℕ). (w.part a).holder x s) (sym owned) ∙ seen.holder x ∙ ap (λ (test : Bool). some_if test (mode_at v x)) (none_here v x owned);
        flight = ⊎_elim
            (λ (home : s.home.0 ≡ q). inr (ap (λ (a : ℕ). (w.part a).flight s) (sym home) ∙ seen.flight))
            (λ (off : s.home.0 ≢ q). inl off)
            (cases_eq s.home.0 q);
        part_of = stands.1;
        rest_of = h.1;
      }
  front (Ready s) behind first =
      let h = ready_stage st s (stage s) p q (tokens_of s (way (taken w p q (Ready s) behind first) p q)) (told st is w stage places p q (Ready s) behind first s IsReady (ready_here s)) in
      let seen = shows_as st w stage places s (Returns h.0 p) h.1 in
      record {
        home = sym h.2;
        vertex = h.0;
        flight = ap (λ (a : ℕ). (w.part a).flight s) h.2 ∙ seen.flight;
        ready = ap (λ (a : ℕ). (w.part a).ready s) h.2 ∙ seen.ready;
      }
  front (Done s news) behind first =
      let c : ℕ = news.centre in
      let h = done_stage st s (stage s) p q c (tokens_of s (way (taken w p q (Done s news) behind first) p q)) (told st is w stage places p q (Done s news) behind first s (IsDone c) (done_here s news)) in
      let seen = shows_as st w stage places s (Ends c h.0) h.1 in
      let stands = stage_as st w stage places s (Ends c h.0) h.1 in
      let about = first_concerns (Done s news) behind first in
      record {
        owner = about.centre;
        copy = about.apart;
        part_of = stands.2 q h.3;
        edges = about.edges;
        wakes = λ u woken. (about.wakes u woken).1;
        locks = λ x scoped owned.
            ap (λ (a : ℕ). (w.part a).holder x s) (sym owned) ∙ seen.holder x
            ∙ ap (λ (test : Bool). some_if test (mode_at c x)) (and_from (is_in_scope st c x) (h.0 (st.owner x)) scoped (ap h.0 owned ∙ h.3));
      }
