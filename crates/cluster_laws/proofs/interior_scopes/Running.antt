-- Admission, the grants in turn and the update are a run, which leads to the update made at once.
use Rattle.std.proofs.Common.{◌≡◌, ℕ, zero, suc, ◌+◌, ◌-◌, ◌<◌, ◌==◌, Bool, true, false, if◌then◌else◌, Option, None, Some, [], ◌∷◌, ◌++◌, map, refl, sym, ◌∙◌, ap, subst, arith}
use Rattle.std.proofs.lemmas.Bool.{eqb-true, and_parts}
use Rattle.std.proofs.lemmas.Option.{none-some}
use Rattle.gl_base.specs.declared.scopes.Mode.{Mode}
use Rattle.gl_base.specs.declared.scopes.ScopeId.{ScopeId}
use Rattle.graph_core.specs.DataGraph.{size}
use Rattle.cluster_laws.specs.cluster_core.Actions.{Admit, Grant, Update, MayGrant, MayUpdate, after, draws, updates}
use Rattle.cluster_laws.specs.cluster_core.Effects.{granted, released, updated}
use Rattle.cluster_laws.specs.cluster_core.Parts.{Part}
use Rattle.cluster_laws.specs.cluster_core.Ranges.{all_passing, first_passing}
use Rattle.cluster_laws.specs.cluster_core.Runs.{IsActionRun}
use Rattle.cluster_laws.specs.cluster_core.Settings.{Chromatic, Engine, Locking, Setting, IsSetting, is_in_scope}
use Rattle.cluster_laws.specs.cluster_core.Worlds.{World, with_part}
use Rattle.cluster_laws.proofs.cluster_core.Basics.{set_at-same, set_for-same}
use Rattle.cluster_laws.specs.interior_scopes.AtOnce.{MayUpdateAtOnce, actions_at_once, after_at_once, entry_at_once, locks_by, own_vertices}
use Rattle.cluster_laws.proofs.interior_scopes.Walking.{set_at-twice, its, is_its, held_below, claim_for, walks, admitted_flies, admitted_walks, not_yet, held_past, granted_walks, released_all, released_none, updated_alone}

-- ---- a machine's part inside a world

pub part_again : (w : World) (a : ℕ) (one other : Part) → with_part (with_part w a one) a other ≡ with_part w a other
part_again w a one other = λ i. record w { part = λ b. set_at-twice w.part a one other b i }

pub part_there : (w : World) (a : ℕ) (one : Part) → (with_part w a one).part a ≡ one
part_there w a one = set_at-same w.part a one

pub granted_there : (st : Setting) (w : World) (a k : ℕ) (one : Part) → after st (with_part w a one) (Grant a k) ≡ with_part w a (granted st a k one)
granted_there st w a k one = part_again w a one (granted st a k ((with_part w a one).part a)) ∙ ap (λ (p : Part). with_part w a (granted st a k p)) (part_there w a one)

-- ---- the update, whatever locks are held

module _ (st : Setting) (is : IsSetting st) (w : World) (a v : ℕ) (may : MayUpdateAtOnce st a v (w.part a) w.left) (holder : ℕ → ScopeId → Option Mode) where
  abbrev old : Part
  old = w.part a

  abbrev scope : ScopeId
  scope = its st a v old

  abbrev ready : Part
  ready = walks st a v old holder None

  may_update : MayUpdate scope ready w.left
  may_update =
      record {
        vertex = v;
        flight = set_for-same old.flight scope (Some v);
        ready = set_for-same old.ready scope true;
        not_pending = may.not_pending;
        task = may.task;
        ticket = may.ticket;
      }

  ends : ((x : ℕ) (t : ScopeId) → released scope holder x t ≡ old.holder x t) → after_at_once st w a v ≡ after st (with_part w a ready) (Update scope)
  ends free =
      let here : World = with_part w a ready in
      let there : here.part a ≡ ready = part_there w a ready in
      let flies : (here.part a).flight scope ≡ Some v = ap (λ (p : Part). p.flight scope) there ∙ set_for-same old.flight scope (Some v) in
      sym (
      ap (updates st here scope) flies
      ∙ ap (λ (p : Part). draws (with_part here a (updated st a scope v (entry_at_once a v w.next) p))) there
      ∙ ap draws (part_again w a ready (updated st a scope v (entry_at_once a v w.next) ready))
      ∙ ap (λ (p : Part). draws (with_part w a p)) (updated_alone st is a v old may.admit.vertex may.interior may.is_new holder free (entry_at_once a v w.next))
      )

  -- it is the end of a run
  pub update_runs : ((x : ℕ) (t : ScopeId) → released scope holder x t ≡ old.holder x t) → IsActionRun st (with_part w a ready) (Update scope ∷ []) (after_at_once st w a v)
  update_runs free = (subst (λ (p : Part). MayUpdate scope p w.left) (sym (part_there w a ready)) may_update, ends free)

-- ---- lock after lock

module _ (st : Setting) (is : IsSetting st) (locking : st.engine ≡ Locking) (w : World) (a v : ℕ) (may : MayUpdateAtOnce st a v (w.part a) w.left) where
  abbrev part : Part
  part = w.part a

  abbrev s : ScopeId
  s = its st a v part

  abbrev own : ℕ → Bool
  own = is_its st a v part

  abbrev at : ℕ → Option ℕ → Part
  at k first = walks st a v part (held_below st a v part k) first

  abbrev new : World
  new = after_at_once st w a v

  -- the first lock for which it waits may be granted
  may_grant : (k : ℕ) → own k ≡ true → k < size st.graph → MayGrant st a k (at k (Some k))
  may_grant k is_own low =
      let both = and_parts (is_in_scope st v k) (st.owner k == a) is_own in
      record {
        vertex = low;
        owned = eqb-true (st.owner k) a both.1;
        claim = claim_for st a v part k;
        behind = [];
        first = set_at-same part.queue k (claim_for st a v part k ∷ []);
        together = λ t mode holds. absurd (none-some mode (sym ((may.unclaimed locking k both.0).holder t) ∙ (sym (ap (λ (f : ScopeId → Option Mode). f t) (not_yet st is locking a v part w.left may k)) ∙ holds)));
      }

  runs : (many k : ℕ) → k + many ≡ size st.graph →
      IsActionRun st (with_part w a (at k (first_passing own k many))) (map (Grant a) (all_passing own k many) ++ Update s ∷ []) new
  unfolding first_passing all_passing
  runs zero k all = update_runs st is w a v may (held_below st a v part k) (released_all st is locking a v part w.left may k)
  runs (suc many) k all = choose (runs many (suc k) (omega arith)) (own k) refl
    where
      choose : IsActionRun st (with_part w a (at (suc k) (first_passing own (suc k) many))) (map (Grant a) (all_passing own (suc k) many) ++ Update s ∷ []) new →
          (b : Bool) → own k ≡ b →
          IsActionRun st (with_part w a (at k (if b then Some k else first_passing own (suc k) many)))
          (map (Grant a) (if b then k ∷ all_passing own (suc k) many else all_passing own (suc k) many) ++ Update s ∷ []) new
      choose later true is_own =
          let rest : many ≡ size st.graph - suc k = omega arith in
          let step : after st (with_part w a (at k (Some k))) (Grant a k) ≡ with_part w a (at (suc k) (first_passing own (suc k) many)) =
          granted_there st w a k (at k (Some k))
          ∙ ap (with_part w a) (granted_walks st is locking a v part w.left may k is_own ∙ ap (λ (n : ℕ). at (suc k) (first_passing own (suc k) n)) (sym rest)) in (
            subst (MayGrant st a k) (sym (part_there w a (at k (Some k)))) (may_grant k is_own (omega arith)),
            subst (λ (x : World). IsActionRun st x (map (Grant a) (all_passing own (suc k) many) ++ Update s ∷ []) new) (sym step) later,
          )
      choose later false not_own =
          subst (λ (holder : ℕ → ScopeId → Option Mode). IsActionRun st (with_part w a (walks st a v part holder (first_passing own (suc k) many))) (map (Grant a) (all_passing own (suc k) many) ++ Update s ∷ []) new)
          (sym (held_past st is locking a v part w.left may k not_own))
          later

  locked_runs : IsActionRun st w (Admit a v ∷ map (Grant a) (own_vertices st v a) ++ Update s ∷ []) new
  locked_runs = (
    may.admit,
    subst (λ (p : Part). IsActionRun st (with_part w a p) (map (Grant a) (all_passing own 0 (size st.graph)) ++ Update s ∷ []) new)
        (sym (admitted_walks st is locking a v part w.left may))
        (runs (size st.graph) 0 (omega arith)),
  )

-- ---- with either engine

module _ (st : Setting) (is : IsSetting st) (w : World) (a v : ℕ) (may : MayUpdateAtOnce st a v (w.part a) w.left) where
  abbrev old_part : Part
  old_part = w.part a

  abbrev next : ScopeId
  next = its st a v old_part

  stepped_runs : (colour : ℕ → ℕ) (colours : ℕ) → st.engine ≡ Chromatic colour colours → IsActionRun st w (Admit a v ∷ Update next ∷ []) (after_at_once st w a v)
  stepped_runs colour colours steps = (
    may.admit,
    subst (λ (p : Part). IsActionRun st (with_part w a p) (Update next ∷ []) (after_at_once st w a v))
        (sym (admitted_flies st colour colours steps a v old_part))
        (update_runs st is w a v may old_part.holder (released_none st is a v old_part may.admit.vertex may.interior may.is_new)),
  )

  pub at_once_runs : IsActionRun st w (actions_at_once st a v (w.part a)) (after_at_once st w a v)
  at_once_runs = by st.engine refl
    where
      by : (e : Engine) → st.engine ≡ e → IsActionRun st w (actions_at_once st a v (w.part a)) (after_at_once st w a v)
      by Locking locking =
          subst (λ (e : Engine). IsActionRun st w (Admit a v ∷ map (Grant a) (locks_by e st v a) ++ Update next ∷ []) (after_at_once st w a v)) (sym locking) (locked_runs st is locking w a v may)
      by (Chromatic colour colours) steps =
          subst (λ (e : Engine). IsActionRun st w (Admit a v ∷ map (Grant a) (locks_by e st v a) ++ Update next ∷ []) (after_at_once st w a v)) (sym steps) (stepped_runs colour colours steps)
