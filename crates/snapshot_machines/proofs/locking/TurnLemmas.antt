-- What a machine of the law makes of an update at once, as it does one thing after another.
use Rattle.std.proofs.Common.{◌≡◌, ℕ, zero, suc, pred, ◌+◌, ◌-◌, ◌<◌, ◌==◌, ◌++◌, Bool, true, false, if◌then◌else◌, not, Option, None, Some, List, [], ◌∷◌, length, map, refl, sym, ap, ◌∙◌, subst, inr, arith}
use Rattle.std.specs.Prelude.{nat_lt}
use Rattle.std.proofs.lemmas.Bool.{eqb-true, and_parts}
use Rattle.std.proofs.lemmas.Option.{none-some}
use Rattle.gl_base.specs.declared.entries.Entry.{Entry}
use Rattle.gl_base.specs.declared.scopes.Mode.{Mode}
use Rattle.gl_base.specs.declared.scopes.ScopeId.{ScopeId}
use Rattle.graph_core.specs.DataGraph.{size}
use Rattle.cluster_laws.specs.cluster_core.Actions.{MayGrant, MayUpdate}
use Rattle.cluster_laws.specs.cluster_core.Effects.{admitted, granted, updated}
use Rattle.cluster_laws.specs.cluster_core.Messages.{Message}
use Rattle.cluster_laws.specs.cluster_core.Parts.{Part}
use Rattle.cluster_laws.specs.cluster_core.Ranges.{all_passing, first_passing}
use Rattle.cluster_laws.specs.cluster_core.Scopes.{set_for}
use Rattle.cluster_laws.specs.cluster_core.Settings.{Engine, IsSetting, Locking, Setting, is_in_scope}
use Rattle.cluster_laws.proofs.cluster_core.Basics.{set_at-same, set_for-same}
use Rattle.cluster_laws.specs.cluster_model.Machines.{Machine, gained}
use Rattle.cluster_laws.specs.cluster_model.Working.{asks, prompt, works_on}
use Rattle.whole_laws.proofs.cluster_whole.Flows.{total_from-none}
use Rattle.cluster_laws.specs.interior_scopes.AtOnce.{MayUpdateAtOnce, at_once, entry_at_once, locks_by}
use Rattle.cluster_laws.proofs.interior_scopes.Walking.{admitted_walks, claim_for, granted_walks, held_below, held_past, is_its, its, not_yet, updated_walks, walks}
use Rattle.coordinator.specs.machine_api.AtOnce.{AreDone, MayUpdateWithin, deeds_at_once}
use Rattle.coordinator.specs.machine_api.Deeds.{Admit, Grant, Update, does, updates_centre}
use Rattle.snapshot_machines.proofs.locking.StandLemmas.{prompt_still}

-- where nothing is put out, as many messages were
pub none_gained : (st : Setting) (old new : Part) (sent : ℕ) → new.out ≡ old.out → sent + gained st old new ≡ sent
none_gained st old new sent same =
    let none : gained st old new ≡ 0 =
    total_from-none 0 st.machines (λ q. length (new.out q) - length (old.out q)) (λ q. ap (λ (out : ℕ → List Message). length (out q) - length (old.out q)) same ∙ nothing_left (length (old.out q))) in
    omega arith
  where
    nothing_left : (n : ℕ) → n - n ≡ 0
    nothing_left n = omega arith

module _ (st : Setting) (a v ticket : ℕ) (m : Machine) where
  abbrev pub scope : ScopeId
  scope = its st a v m.part

  abbrev pub entry : Entry
  entry = entry_at_once a v ticket

  abbrev is_unmarked : Bool
  is_unmarked = nat_lt (m.part.datum v).mark m.part.known

  -- the update is made, and nothing is asked for yet
  abbrev pub worked_at_once : Machine
  worked_at_once =
      record m {
        part = at_once st a v entry m.part;
        planned = set_for m.planned scope true;
        before = if is_unmarked then m.before ++ entry ∷ [] else m.before;
        behind = if is_unmarked then m.behind else m.behind ++ entry ∷ [];
      }

  -- it holds its locks below k, and waits for this one, or is ready
  abbrev going : ℕ → Option ℕ → Machine
  going k first = record m { part = walks st a v m.part (held_below st a v m.part k) first; planned = set_for m.planned scope true; plans = suc m.plans }

  walks_out : (holder : ℕ → ScopeId → Option Mode) (first : Option ℕ) → (walks st a v m.part holder first).out ≡ m.part.out
  walks_out holder (Some x) = refl
  walks_out holder None = refl

  walks_closed : (holder : ℕ → ScopeId → Option Mode) (first : Option ℕ) → (walks st a v m.part holder first).closed ≡ m.part.closed
  walks_closed holder (Some x) = refl
  walks_closed holder None = refl

  module _ (is : IsSetting st) (locking : st.engine ≡ Locking) (may : MayUpdateAtOnce st a v m.part 1) (none_held : m.held ≡ None) (closed : m.part.closed ≡ true) where
    abbrev own : ℕ → Bool
    own = is_its st a v m.part

    still : (k : ℕ) (first : Option ℕ) → prompt st a (going k first) ≡ going k first
    still k first = prompt_still st a (going k first) none_held (walks_closed (held_below st a v m.part k) first ∙ closed)

    -- ---- it is admitted

    admits_is : does st a (Admit v) m ≡ going 0 (first_passing own 0 (size st.graph))
    admits_is =
        let first = first_passing own 0 (size st.graph) in
        let part : admitted st a v m.part ≡ walks st a v m.part (held_below st a v m.part 0) first = admitted_walks st is locking a v m.part 1 may in
        (λ i. prompt st a (record m {
          part = part i;
          sent = m.sent + gained st m.part (part i);
          planned = set_for m.planned scope (not (may.not_pending i));
          plans = if may.not_pending i then m.plans else suc m.plans;
        }))
        ∙ ap (λ (sent : ℕ). prompt st a (record (going 0 first) { sent = sent })) (none_gained st m.part (walks st a v m.part (held_below st a v m.part 0) first) m.sent (walks_out (held_below st a v m.part 0) first))
        ∙ still 0 first

    -- ---- a lock is granted

    grants_is : (k : ℕ) → own k ≡ true → does st a (Grant k) (going k (Some k)) ≡ going (suc k) (first_passing own (suc k) (size st.graph - suc k))
    grants_is k is_own =
        let first = first_passing own (suc k) (size st.graph - suc k) in
        let part : granted st a k (going k (Some k)).part ≡ walks st a v m.part (held_below st a v m.part (suc k)) first = granted_walks st is locking a v m.part 1 may k is_own in
        (λ i. prompt st a (record (going k (Some k)) { part = part i; sent = m.sent + gained st (going k (Some k)).part (part i) }))
        ∙ ap (λ (sent : ℕ). prompt st a (record (going (suc k) first) { sent = sent }))
        (none_gained st (going k (Some k)).part (walks st a v m.part (held_below st a v m.part (suc k)) first) m.sent (walks_out (held_below st a v m.part (suc k)) first))
        ∙ still (suc k) first

    may_grant : (k : ℕ) → own k ≡ true → k < size st.graph → MayGrant st a k (going k (Some k)).part
    may_grant k is_own low =
        let both = and_parts (is_in_scope st v k) (st.owner k == a) is_own in
        record {
          vertex = low;
          owned = eqb-true (st.owner k) a both.1;
          claim = claim_for st a v m.part k;
          behind = [];
          first = set_at-same m.part.queue k (claim_for st a v m.part k ∷ []);
          together = λ t mode holds. absurd (none-some mode (sym ((may.unclaimed locking k both.0).holder t) ∙ (sym (ap (λ (f : ScopeId → Option Mode). f t) (not_yet st is locking a v m.part 1 may k)) ∙ holds)));
        }

    -- ---- its update is made

    may_update : (k : ℕ) → MayUpdate scope (going k None).part 1
    may_update k =
        record {
          vertex = v;
          flight = set_for-same m.part.flight scope (Some v);
          ready = set_for-same m.part.ready scope true;
          not_pending = may.not_pending;
          task = may.task;
          ticket = omega arith;
        }

    works_is : (k : ℕ) → works_on st a scope v entry (going k None) ≡ worked_at_once
    works_is k =
        let part : updated st a scope v entry (going k None).part ≡ at_once st a v entry m.part = updated_walks st is locking a v m.part 1 may k entry in
        let planned : set_for m.planned scope true scope ≡ true = set_for-same m.planned scope true in
        (λ i. record (going k None) {
          part = part i;
          sent = m.sent + gained st (going k None).part (part i);
          plans = if planned i then pred (suc m.plans) else suc m.plans;
          before = if is_unmarked then m.before ++ entry ∷ [] else m.before;
          behind = if is_unmarked then m.behind else m.behind ++ entry ∷ [];
        })
        ∙ ap (λ (sent : ℕ). record worked_at_once { sent = sent }) (none_gained st (going k None).part (at_once st a v entry m.part) m.sent refl)

    updates_is : (k : ℕ) → does st a (Update scope ticket) (going k None) ≡ asks st worked_at_once
    updates_is k =
        ap (λ (o : Option ℕ). prompt st a (updates_centre st a scope ticket o (going k None))) (set_for-same m.part.flight scope (Some v))
        ∙ ap (λ (n : Machine). prompt st a (asks st n)) (works_is k)
        ∙ prompt_still st a (asks st worked_at_once) none_held closed

    -- ---- one after another

    goes : (many k : ℕ) → k + many ≡ size st.graph → AreDone st a (map Grant (all_passing own k many) ++ Update scope ticket ∷ []) (going k (first_passing own k many)) (asks st worked_at_once)
    unfolding first_passing all_passing
    goes zero k all = ((refl, may_update k), sym (updates_is k))
    goes (suc many) k all = choose (goes many (suc k) (omega arith)) (own k) refl
      where
        choose : AreDone st a (map Grant (all_passing own (suc k) many) ++ Update scope ticket ∷ []) (going (suc k) (first_passing own (suc k) many)) (asks st worked_at_once) →
            (b : Bool) → own k ≡ b →
            AreDone st a (map Grant (if b then k ∷ all_passing own (suc k) many else all_passing own (suc k) many) ++ Update scope ticket ∷ [])
            (going k (if b then Some k else first_passing own (suc k) many)) (asks st worked_at_once)
        choose later true is_own =
            let rest : many ≡ size st.graph - suc k = omega arith in
            let step : does st a (Grant k) (going k (Some k)) ≡ going (suc k) (first_passing own (suc k) many) =
            grants_is k is_own ∙ ap (λ (n : ℕ). going (suc k) (first_passing own (suc k) n)) (sym rest) in (
              may_grant k is_own (omega arith),
              subst (λ (n : Machine). AreDone st a (map Grant (all_passing own (suc k) many) ++ Update scope ticket ∷ []) n (asks st worked_at_once)) (sym step) later,
            )
        choose later false not_own =
            subst (λ (holder : ℕ → ScopeId → Option Mode). AreDone st a (map Grant (all_passing own (suc k) many) ++ Update scope ticket ∷ [])
            (record (going k None) { part = walks st a v m.part holder (first_passing own (suc k) many) }) (asks st worked_at_once))
            (sym (held_past st is locking a v m.part 1 may k not_own))
            later

    pub done_at_once : MayUpdateWithin st a v m → AreDone st a (deeds_at_once st a v ticket m) m (asks st worked_at_once)
    done_at_once within =
        subst (λ (e : Engine). AreDone st a (Admit v ∷ map Grant (locks_by e st v a) ++ Update scope ticket ∷ []) m (asks st worked_at_once)) (sym locking) (
          record { may = may.admit; room = inr within.room },
          subst (λ (n : Machine). AreDone st a (map Grant (all_passing own 0 (size st.graph)) ++ Update scope ticket ∷ []) n (asks st worked_at_once))
              (sym admits_is)
              (goes (size st.graph) 0 (omega arith)),
        )
