-- Each event of a machine keeps the number of its scopes in flight, and its window.
use Rattle.std.proofs.Common.{◌≡◌, ◌≢◌, ◌⊎◌, ℕ, zero, suc, pred, ◌+◌, ◌<◌, ◌≤◌, ◌==◌, ◌&&◌, ◌||◌, not, nat_lt, Bool, true, false, if◌then◌else◌, None, Option, Some, List, [], ◌∷◌, ◌++◌, length, sum_by, refl, sym, ◌∙◌, ap, subst, ⊎_elim, inl, inr, le_trans, le_refl, lt-suc_self, lt_trans, ne_of_lt, length-append, arith}
use Rattle.std.proofs.lemmas.List.Sums.{sum_by-append}
use Rattle.std.proofs.lemmas.Bool.{and_from, both_ways, cases_Bool, false_from_ne_true, ltb-true, ne_eqb, or_right}
use Rattle.gl_base.specs.declared.entries.Entry.{Entry}
use Rattle.gl_base.specs.declared.scopes.Claim.{Claim}
use Rattle.gl_base.specs.declared.scopes.ScopeId.{ScopeId}
use Rattle.cluster_laws.specs.cluster_core.Effects.{admitted_by, first_pending, first_unmarked, is_at, knows, pends_for, seed_if, asks_for, begins, first_granted, goes_away, goes_on, in_flight, moves_on, next_scope, posts, received, sets_out, takes_lock}
use Rattle.cluster_laws.specs.cluster_core.Messages.{Ask, Done, Message, Ready}
use Rattle.cluster_laws.specs.cluster_core.Parts.{Part, Stand}
use Rattle.cluster_laws.specs.cluster_core.Scopes.{is_scope, machines_from, own_from, set_for}
use Rattle.cluster_laws.specs.cluster_core.Settings.{Chromatic, Engine, Locking, Setting}
use Rattle.cluster_laws.proofs.cluster_core.Basics.{apart_turned, scope_cases, scopes_apart, scopes_same, set_for-holds, set_for-other, set_for-same}
use Rattle.cluster_laws.specs.cluster_model.Calls.{Begin, Call, Committed, Report, Step, Wave}
use Rattle.cluster_laws.specs.cluster_model.Events.{MayAdmitNow}
use Rattle.cluster_laws.specs.cluster_model.Machines.{Machine, outside}
use Rattle.cluster_laws.specs.cluster_model.Working.{admits, asks_if, asks_more, before_at, behind_at, commits, ends_plan, fails, goes_back, grants, hands, hands_report, has_room, makes_mark, makes_update, prompt, receives, rest_of, sections, snapshot_in, takes_call, works_on}
use Rattle.seq_run.specs.States.{GraphState}
use Rattle.whole_laws.specs.cluster_whole.Windows.{StaysWithin, one_where, plan_where, scope_at, sum_below}
use Rattle.whole_laws.proofs.cluster_whole.Counting.{sum_below-changed, sum_below-same, sum_below-term}

-- ---- arithmetic

suc_not : (n : ℕ) → suc n ≡ 0 → ⊥
suc_not n is = omega arith

no_more : (was now plans more window : ℕ) → now ≤ was → more ≡ plans → was + plans ≤ window → now + more ≤ window
no_more was now plans more window less same low = omega arith

one_more : (n : ℕ) → suc n ≡ 1 + n
one_more n = omega arith

one_fits : (out plans window : ℕ) → out + plans < window → out + suc plans ≤ window
one_fits out plans window low = omega arith

not_both : (term sum : ℕ) → term ≡ 1 → 0 ≡ sum → term ≤ sum → ⊥
not_both term sum one is low = omega arith

some_counted : (plans term sum : ℕ) → term ≡ 1 → plans ≡ sum → term ≤ sum → suc (pred plans) ≡ plans
some_counted zero term sum one is low = absurd (not_both term sum one is low)
some_counted (suc plans) term sum one is low = refl

less_one : (plans rest term : ℕ) → term ≡ 1 → rest + term ≡ plans → pred plans ≡ rest
less_one zero rest term is sum = omega arith
less_one (suc plans) rest term is sum = omega arith

no_less : (plans rest term : ℕ) → term ≡ 0 → rest + term ≡ plans → plans ≡ rest
no_less plans rest term is sum = omega arith

none_more : (n : ℕ) → n + 0 ≡ n
none_more n = omega arith

one_less : (sum rest term here : ℕ) → rest + term ≡ sum + here → term ≡ 1 → here ≡ 0 → pred sum ≡ rest
one_less sum rest term here is one none = less_one sum rest term one (is ∙ ap (λ (n : ℕ). sum + n) none ∙ none_more sum)

zero_more : (n : ℕ) → n ≡ 0 + n
zero_more n = omega arith

one_left : (m n : ℕ) → m + 1 + n ≡ suc (m + n)
one_left m n = omega arith

one_right : (m n : ℕ) → m + (n + 1) ≡ suc (m + n)
one_right m n = omega arith

one_kept : (unsure before behind more after plans now window : ℕ) → more + after ≡ suc (before + behind) → suc now ≡ plans → unsure + before + behind + plans ≤ window → unsure + more + after + now ≤ window
one_kept unsure before behind more after plans now window longer counted low = omega arith

one_for_one : (unsure before behind more after plans now window : ℕ) → more + after ≡ suc (before + behind) → now ≡ pred plans → suc (pred plans) ≡ plans → unsure + before + behind + plans ≤ window → unsure + more + after + now ≤ window
one_for_one unsure before behind more after plans now window longer fewer counted low =
    one_kept unsure before behind more after plans now window longer (ap suc fewer ∙ counted) low

zero_low : (n : ℕ) → 0 ≤ n
zero_low n = omega arith

suc_low : (n : ℕ) → n ≤ suc n
suc_low n = omega arith

pred_low : (n : ℕ) → pred n ≤ n
pred_low zero = zero_low 0
pred_low (suc n) = suc_low n

more_plans : (out few many : ℕ) → few ≤ many → out + few ≤ out + many
more_plans out few many low = omega arith

same_sum : (unsure before behind more after : ℕ) → more + after ≡ before + behind → unsure + more + after ≤ unsure + before + behind
same_sum unsure before behind more after is = omega arith

more_sum : (n m : ℕ) → n ≤ m + n
more_sum n m = omega arith

less_unsure : (few many before behind : ℕ) → few ≤ many → few + before + behind ≤ many + before + behind
less_unsure few many before behind low = omega arith

moved_unsure : (new unsure one before behind : ℕ) → new ≡ unsure + one → one ≡ before → new + 0 + behind ≤ unsure + before + behind
moved_unsure new unsure one before behind is same = omega arith

some_same : (v u : ℕ) → Some v ≡ Some u → v ≡ u
some_same v u is = cc

none_some : (v : ℕ) → None ≡ Some v → ⊥
none_some v is = cc

one_none : (flight : Option ℕ) → one_where flight ≡ 0 → flight ≡ None
one_none None is = refl
one_none (Some v) is = absurd (suc_not 0 is)

some_of : (flight : Option ℕ) → (flight ≡ None) ⊎ ((v : ℕ) × (flight ≡ Some v))
some_of None = inl refl
some_of (Some v) = inr (v, refl)

none_left : (n sum : ℕ) → n ≤ sum → sum ≡ 0 → n ≡ 0
none_left n sum low is = omega arith

-- a scope of this home by its number
scope_of : (s : ScopeId) (a : ℕ) → s.home.0 ≡ a → scope_at a s.serial ≡ s
scope_of s a home = λ i. record { home = record { 0 = sym home i }; serial = s.serial }

-- where the machine counts no scope in flight there is none
pub is_free : (st : Setting) (a : ℕ) (m : Machine) → StaysWithin st a m → m.part.flying ≡ 0 → (s : ScopeId) → m.part.flight s ≡ None
is_free st a m within none s =
    ⊎_elim
    (λ (free : m.part.flight s ≡ None). free)
    (λ (flies : (v : ℕ) × (m.part.flight s ≡ Some v)).
    let own = within.own s flies.0 flies.1 in
    let low = sum_below-term (λ n. one_where (m.part.flight (scope_at a n))) m.part.serial s.serial own.1 in
    let is : one_where (m.part.flight (scope_at a s.serial)) ≡ 0 = none_left (one_where (m.part.flight (scope_at a s.serial))) (sum_below (λ n. one_where (m.part.flight (scope_at a n))) m.part.serial) low (sym within.flying ∙ none) in
    one_none (m.part.flight s) (ap (λ (t : ScopeId). one_where (m.part.flight t)) (sym (scope_of s a own.0)) ∙ is))
    (some_of (m.part.flight s))

-- ---- no scope begins or ends

pub record IsSteady (old new : Part) : Type 0 where
  pub flight : new.flight ≡ old.flight
  pub flying : new.flying ≡ old.flying
  pub serial : new.serial ≡ old.serial
  pub pending : (v : ℕ) → old.pending v ≡ true → new.pending v ≡ true

pub steady_then : (a b c : Part) → IsSteady a b → IsSteady b c → IsSteady a c
steady_then a b c one other =
    record { flight = other.flight ∙ one.flight; flying = other.flying ∙ one.flying; serial = other.serial ∙ one.serial; pending = λ v was. other.pending v (one.pending v was) }

pub steady_again : (part : Part) → IsSteady part part
steady_again part = record { flight = refl; flying = refl; serial = refl; pending = λ v was. was }

put_steady : (b : ℕ) (m : Message) (part : Part) → IsSteady part (posts b m part)
put_steady b m part = record { flight = refl; flying = refl; serial = refl; pending = λ v was. was }

module _ (st : Setting) (a : ℕ) (s : ScopeId) (v : ℕ) where
  home_steady : (test : Bool) (part : Part) → IsSteady part (if test then record part { ready = set_for part.ready s true } else posts s.home.0 (Ready s) part)
  home_steady true part = record { flight = refl; flying = refl; serial = refl; pending = λ u was. was }
  home_steady false part = put_steady s.home.0 (Ready s) part

  asks_for_steady : (rest : List ℕ) (first : Option ℕ) (part : Part) → IsSteady part (asks_for a s v rest first part)
  asks_for_steady rest (Some x) part = record { flight = refl; flying = refl; serial = refl; pending = λ u was. was }
  asks_for_steady (b ∷ rest) None part = record { flight = refl; flying = refl; serial = refl; pending = λ u was. was }
  asks_for_steady [] None part =
      let gone : Part = record part { stand = set_for part.stand s None } in
      steady_then part gone (goes_away a s v [] gone) (record { flight = refl; flying = refl; serial = refl; pending = λ u was. was }) (home_steady (s.home.0 == a) gone)

  goes_on_steady : (k : ℕ) (rest : List ℕ) (part : Part) → IsSteady part (goes_on st a s v k rest part)
  goes_on_steady k rest part = asks_for_steady rest (own_from st v a k) part

  away_steady : (b : ℕ) (rest : List ℕ) (test : Bool) (part : Part) → IsSteady part (if test then goes_on st a s v 0 rest part else posts b (Ask s v rest) part)
  away_steady b rest true part = goes_on_steady 0 rest part
  away_steady b rest false part = put_steady b (Ask s v rest) part

  sets_out_steady : (machines : List ℕ) (part : Part) → IsSteady part (sets_out st a s v machines part)
  sets_out_steady [] part = steady_again part
  sets_out_steady (b ∷ rest) part = away_steady b rest (b == a) part

module _ (st : Setting) (a : ℕ) where
  moves_on_steady : (x : ℕ) (c : Claim) (stand : Option Stand) (part : Part) → IsSteady part (moves_on st a x c stand part)
  moves_on_steady x c None part = steady_again part
  moves_on_steady x c (Some stand) part = goes_on_steady st a c.scope stand.centre (suc x) stand.rest part

  granted_steady : (x : ℕ) (claims : List Claim) (part : Part) → IsSteady part (first_granted st a x claims part)
  granted_steady x [] part = steady_again part
  granted_steady x (c ∷ claims) part =
      let locked : Part = takes_lock x c claims part in
      steady_then part locked (moves_on st a x c (part.stand c.scope) locked) (record { flight = refl; flying = refl; serial = refl; pending = λ u was. was }) (moves_on_steady x c (part.stand c.scope) locked)

  begins_steady : (k : ℕ) (part : Part) → IsSteady part (begins st a k part)
  begins_steady k part = record { flight = refl; flying = refl; serial = refl; pending = λ v was. or_right (is_at (seed_if (first_pending st (knows k part)) (first_unmarked st a (knows k part))) v) (part.pending v) was }

  received_steady : (m : Message) (part : Part) → IsSteady part (received st a m part)
  received_steady (Ask s v rest) part = goes_on_steady st a s v 0 rest part
  received_steady (Ready s) part = record { flight = refl; flying = refl; serial = refl; pending = λ u was. was }
  received_steady (Done s news) part =
      let begun : Part = begins st a news.number part in
      steady_then part begun (received st a (Done s news) part) (begins_steady news.number part)
      (record { flight = refl; flying = refl; serial = refl; pending = λ u was. or_right (news.pends u) (begun.pending u) was })

  admitted_steady : (engine : Engine) (v : ℕ) (part : Part) → IsSteady (in_flight a v part) (admitted_by engine st a v part)
  admitted_steady Locking v part = sets_out_steady st a (next_scope a part) v (machines_from st v 0) (in_flight a v part)
  admitted_steady (Chromatic colour colours) v part = record { flight = refl; flying = refl; serial = refl; pending = λ u was. was }

  -- so the machine stays within its window, where nothing more is outside
  pub steady_within : (m new : Machine) → StaysWithin st a m → IsSteady m.part new.part → new.planned ≡ m.planned → new.plans ≡ m.plans → outside new ≤ outside m → StaysWithin st a new
  steady_within m new within steady planned plans less =
      let flies : (s : ScopeId) → new.part.flight s ≡ m.part.flight s = λ s. ap (λ (f : ScopeId → Option ℕ). f s) steady.flight in
      record {
        own = λ s v is. let own = within.own s v (sym (flies s) ∙ is) in (own.0, subst (λ (n : ℕ). s.serial < n) (sym steady.serial) own.1);
        flying = steady.flying ∙ within.flying ∙ λ i. sum_below (λ n. one_where (sym steady.flight i (scope_at a n))) (sym steady.serial i);
        single = λ s t v one other. within.single s t v (sym (flies s) ∙ one) (sym (flies t) ∙ other);
        plans = plans ∙ within.plans ∙ λ i. sum_below (λ n. plan_where (sym steady.flight i (scope_at a n)) (sym planned i (scope_at a n))) (sym steady.serial i);
        pending = λ s v is un. steady.pending v (within.pending s v (sym (flies s) ∙ is) (sym (ap (λ (f : ScopeId → Bool). f s) planned) ∙ un));
        window = λ stored. no_more (outside m) (outside new) m.plans new.plans st.window less plans (within.window stored);
      }

-- ---- a scope is admitted

module _ (st : Setting) (a v : ℕ) (m : Machine) (within : StaysWithin st a m) (may : MayAdmitNow st a v m) where
  abbrev id : ScopeId
  id = next_scope a m.part

  -- the machine that has it in flight, before it sets out
  abbrev flown : Machine
  flown =
      record m {
        part = in_flight a v m.part;
        planned = set_for m.planned id (not (m.part.pending v));
        plans = if m.part.pending v then m.plans else suc m.plans;
      }

  older : (n : ℕ) → n < m.part.serial → is_scope (scope_at a n) id ≡ false
  older n low = false_from_ne_true (is_scope (scope_at a n) id) (λ same. ne_of_lt low (ap (λ (s : ScopeId). s.serial) (scopes_same (scope_at a n) id same)))

  plan_of_new : (plans : ℕ) (pending : Bool) → (if pending then plans else suc plans) ≡ plan_where (Some v) (not pending) + plans
  plan_of_new plans true = zero_more plans
  plan_of_new plans false = one_more plans

  flights_there : (n : ℕ) → n < m.part.serial → flown.part.flight (scope_at a n) ≡ m.part.flight (scope_at a n)
  flights_there n low = set_for-other m.part.flight id (Some v) (scope_at a n) (older n low)

  not_false : (x : Bool) → not x ≡ false → x ≡ true
  not_false true is = refl
  not_false false is = absurd (both_ways false refl (sym is))

  room_for : (pending : Bool) → m.part.pending v ≡ pending → st.stored ≡ true → outside m + (if pending then m.plans else suc m.plans) ≤ st.window
  room_for true is stored = within.window stored
  room_for false is stored =
      ⊎_elim
      (λ (pends : m.part.pending v ≡ true). absurd (both_ways (m.part.pending v) is pends))
      (λ (room : has_room st m ≡ true).
      one_fits (outside m) m.plans st.window
      (ltb-true (outside m + m.plans) st.window (subst (λ (b : Bool). (not b || nat_lt (outside m + m.plans) st.window) ≡ true) stored room)))
      may.room

  flown_within : StaysWithin st a flown
  flown_within =
      record {
        own = set_for-holds (λ (s : ScopeId) (flight : Option ℕ). (u : ℕ) → flight ≡ Some u → (s.home.0 ≡ a) × (s.serial < suc m.part.serial)) m.part.flight id (Some v)
            (λ u is. (refl, lt-suc_self m.part.serial))
            (λ s apart u is. let own = within.own s u is in (own.0, lt_trans own.1 (lt-suc_self m.part.serial)));
        flying = ap suc within.flying
            ∙ one_more (sum_below (λ n. one_where (m.part.flight (scope_at a n))) m.part.serial)
            ∙ (λ i. one_where (sym (set_for-same m.part.flight id (Some v)) i) + sum_below (λ n. one_where (m.part.flight (scope_at a n))) m.part.serial)
            ∙ ap (λ (x : ℕ). one_where (flown.part.flight id) + x)
            (sym (sum_below-same (λ n. one_where (m.part.flight (scope_at a n))) (λ n. one_where (flown.part.flight (scope_at a n))) m.part.serial (λ n low. ap one_where (flights_there n low))));
        single = set_for-holds (λ (s : ScopeId) (flight : Option ℕ). (t : ScopeId) (u : ℕ) → flight ≡ Some u → flown.part.flight t ≡ Some u → s ≡ t) m.part.flight id (Some v)
            (set_for-holds (λ (t : ScopeId) (flight : Option ℕ). (u : ℕ) → Some v ≡ Some u → flight ≡ Some u → id ≡ t) m.part.flight id (Some v)
            (λ u one other. refl)
            (λ t apart u one other. absurd (may.may.fresh t (other ∙ sym one))))
            (λ s apart. set_for-holds (λ (t : ScopeId) (flight : Option ℕ). (u : ℕ) → m.part.flight s ≡ Some u → flight ≡ Some u → s ≡ t) m.part.flight id (Some v)
            (λ u one other. absurd (may.may.fresh s (one ∙ sym other)))
            (λ t apart u one other. within.single s t u one other));
        plans = plan_of_new m.plans (m.part.pending v)
            ∙ ap (λ (x : ℕ). plan_where (Some v) (not (m.part.pending v)) + x) within.plans
            ∙ (λ i. plan_where (sym (set_for-same m.part.flight id (Some v)) i) (sym (set_for-same m.planned id (not (m.part.pending v))) i) + sum_below (λ n. plan_where (m.part.flight (scope_at a n)) (m.planned (scope_at a n))) m.part.serial)
            ∙ ap (λ (x : ℕ). plan_where (flown.part.flight id) (flown.planned id) + x)
            (sym (sum_below-same (λ n. plan_where (m.part.flight (scope_at a n)) (m.planned (scope_at a n))) (λ n. plan_where (flown.part.flight (scope_at a n)) (flown.planned (scope_at a n))) m.part.serial
            (λ n low. λ i. plan_where (flights_there n low i) (set_for-other m.planned id (not (m.part.pending v)) (scope_at a n) (older n low) i))));
        pending = λ s. ⊎_elim
            (λ (same : id ≡ s). subst (λ (t : ScopeId). (u : ℕ) → flown.part.flight t ≡ Some u → flown.planned t ≡ false → m.part.pending u ≡ true) same
            (λ u flies un. subst (λ (x : ℕ). m.part.pending x ≡ true) (some_same v u (sym (set_for-same m.part.flight id (Some v)) ∙ flies))
            (not_false (m.part.pending v) (sym (set_for-same m.planned id (not (m.part.pending v))) ∙ un))))
            (λ (apart : is_scope id s ≡ false) u flies un.
            let off = apart_turned id s apart in
            within.pending s u (sym (set_for-other m.part.flight id (Some v) s off) ∙ flies) (sym (set_for-other m.planned id (not (m.part.pending v)) s off) ∙ un))
            (scope_cases id s);
        window = room_for (m.part.pending v) refl;
      }

  pub admitted_within : StaysWithin st a (admits st a v m)
  admitted_within = steady_within st a flown (admits st a v m) flown_within (admitted_steady st a st.engine v m.part) refl refl (le_refl (outside m))

-- ---- a scope ends

module _ (st : Setting) (a : ℕ) (m new : Machine) (within : StaysWithin st a m) (s : ScopeId) (v : ℕ) (flies : m.part.flight s ≡ Some v) where
  at_own : (s.home.0 ≡ a) × (s.serial < m.part.serial)
  at_own = within.own s v flies

  abbrev one_term : ℕ → ℕ
  one_term n = one_where (m.part.flight (scope_at a n))

  abbrev plan_term : ℕ → ℕ
  plan_term n = plan_where (m.part.flight (scope_at a n)) (m.planned (scope_at a n))

  other_scope : (n : ℕ) → n ≢ s.serial → is_scope (scope_at a n) s ≡ false
  other_scope n off = false_from_ne_true (is_scope (scope_at a n) s) (λ same. off (ap (λ (t : ScopeId). t.serial) (scopes_same (scope_at a n) s same)))

  -- it was planned where it isn't pending, and counted then
  pub plan_counted : m.planned s ≡ true → suc (pred m.plans) ≡ m.plans
  plan_counted planned =
      let at : plan_term s.serial ≡ 1 = ap (λ (t : ScopeId). plan_where (m.part.flight t) (m.planned t)) (scope_of s a at_own.0) ∙ (λ i. plan_where (flies i) (planned i)) in
      some_counted m.plans (plan_term s.serial) (sum_below plan_term m.part.serial) at within.plans (sum_below-term plan_term m.part.serial s.serial at_own.1)

  plan_of_end : (plans rest term : ℕ) (planned : Bool) → term ≡ plan_where (Some v) planned → rest + term ≡ plans → (if planned then pred plans else plans) ≡ rest
  plan_of_end plans rest term true is sum = less_one plans rest term is sum
  plan_of_end plans rest term false is sum = no_less plans rest term is sum

  pub ended_within : new.part.flight ≡ set_for m.part.flight s None → new.part.flying ≡ pred m.part.flying → new.part.serial ≡ m.part.serial →
      ((u : ℕ) → u ≢ v → m.part.pending u ≡ true → new.part.pending u ≡ true) → new.planned ≡ m.planned → new.plans ≡ ends_plan s m →
      (st.stored ≡ true → outside new + new.plans ≤ st.window) → StaysWithin st a new
  ended_within flight flying serial pending planned plans window =
      let gone : ScopeId → Option ℕ = set_for m.part.flight s None in
      let here : gone (scope_at a s.serial) ≡ None = ap gone (scope_of s a at_own.0) ∙ set_for-same m.part.flight s None in
      let was : (t : ScopeId) (u : ℕ) → gone t ≡ Some u → (m.part.flight t ≡ Some u) × (is_scope t s ≡ false) =
      set_for-holds (λ (t : ScopeId) (f : Option ℕ). (u : ℕ) → f ≡ Some u → (m.part.flight t ≡ Some u) × (is_scope t s ≡ false)) m.part.flight s None
      (λ u is. absurd (none_some u is)) (λ t apart u is. (is, apart)) in
      let now : (t : ScopeId) (u : ℕ) → new.part.flight t ≡ Some u → gone t ≡ Some u = λ t u is. sym (ap (λ (f : ScopeId → Option ℕ). f t) flight) ∙ is in
      let sums : sum_below (λ n. one_where (gone (scope_at a n))) m.part.serial + one_term s.serial ≡ sum_below one_term m.part.serial + one_where (gone (scope_at a s.serial)) =
      sum_below-changed one_term (λ n. one_where (gone (scope_at a n))) m.part.serial s.serial at_own.1
      (λ n low off. ap one_where (set_for-other m.part.flight s None (scope_at a n) (other_scope n off))) in
      let one_here : one_term s.serial ≡ 1 = ap (λ (t : ScopeId). one_where (m.part.flight t)) (scope_of s a at_own.0) ∙ ap one_where flies in
      let plan_sums : sum_below (λ n. plan_where (gone (scope_at a n)) (m.planned (scope_at a n))) m.part.serial + plan_term s.serial ≡ sum_below plan_term m.part.serial + plan_where (gone (scope_at a s.serial)) (m.planned (scope_at a s.serial)) =
      sum_below-changed plan_term (λ n. plan_where (gone (scope_at a n)) (m.planned (scope_at a n))) m.part.serial s.serial at_own.1
      (λ n low off. ap (λ (f : Option ℕ). plan_where f (m.planned (scope_at a n))) (set_for-other m.part.flight s None (scope_at a n) (other_scope n off))) in
      let plan_here : plan_term s.serial ≡ plan_where (Some v) (m.planned s) = ap (λ (t : ScopeId). plan_where (m.part.flight t) (m.planned t)) (scope_of s a at_own.0) ∙ ap (λ (f : Option ℕ). plan_where f (m.planned s)) flies in
      record {
        own = λ t u is. let own = within.own t u (was t u (now t u is)).0 in (own.0, subst (λ (n : ℕ). t.serial < n) (sym serial) own.1);
        flying = flying ∙ ap pred within.flying
            ∙ one_less (sum_below one_term m.part.serial) (sum_below (λ n. one_where (gone (scope_at a n))) m.part.serial) (one_term s.serial) (one_where (gone (scope_at a s.serial))) sums one_here (ap one_where here)
            ∙ λ i. sum_below (λ n. one_where (sym flight i (scope_at a n))) (sym serial i);
        single = λ t r u one other. within.single t r u (was t u (now t u one)).0 (was r u (now r u other)).0;
        plans = plans
            ∙ plan_of_end m.plans (sum_below (λ n. plan_where (gone (scope_at a n)) (m.planned (scope_at a n))) m.part.serial) (plan_term s.serial) (m.planned s) plan_here
            (plan_sums ∙ ap (λ (f : Option ℕ). sum_below plan_term m.part.serial + plan_where f (m.planned (scope_at a s.serial))) here ∙ none_more (sum_below plan_term m.part.serial) ∙ sym within.plans)
            ∙ λ i. sum_below (λ n. plan_where (sym flight i (scope_at a n)) (sym planned i (scope_at a n))) (sym serial i);
        pending = λ t u is un.
            let flew = was t u (now t u is) in
            pending u
            (λ same. scopes_apart t s flew.1 (within.single t s v (subst (λ (x : ℕ). m.part.flight t ≡ Some x) same flew.0) flies))
            (within.pending t u flew.0 (sym (ap (λ (f : ScopeId → Bool). f t) planned) ∙ un));
        window = window;
      }

-- ---- an update and a mark

sum_one : (n : ℕ) → sum_by (λ n. n) (n ∷ []) ≡ n
sum_one n = sym (zero_more n)

lists_longer : (test : Bool) (before behind : List Entry) (entry : Entry) →
    length (if test then before ++ entry ∷ [] else before) + length (if test then behind else behind ++ entry ∷ []) ≡ suc (length before + length behind)
lists_longer true before behind entry = ap (λ (n : ℕ). n + length behind) (length-append before (entry ∷ [])) ∙ one_left (length before) (length behind)
lists_longer false before behind entry = ap (λ (n : ℕ). length before + n) (length-append behind (entry ∷ [])) ∙ one_right (length before) (length behind)

module _ (st : Setting) (a : ℕ) (m : Machine) (within : StaysWithin st a m) where
  pub asked_within : (test : Bool) (x : Machine) → StaysWithin st a x → StaysWithin st a (asks_if test x)
  asked_within test x is = steady_within st a x (asks_if test x) is (steady_again x.part) refl refl (le_refl (outside x))

  pub worked_within : (s : ScopeId) (v : ℕ) (entry : Entry) → m.part.flight s ≡ Some v → m.part.pending v ≡ false → StaysWithin st a (works_on st a s v entry m)
  worked_within s v entry flies not_pending =
      let new : Machine = works_on st a s v entry m in
      let planned : m.planned s ≡ true = ⊎_elim (λ (is : m.planned s ≡ true). is) (λ (un : m.planned s ≡ false). absurd (both_ways (m.part.pending v) not_pending (within.pending s v flies un))) (cases_Bool (m.planned s)) in
      let plans : new.plans ≡ pred m.plans = ap (λ (b : Bool). if b then pred m.plans else m.plans) planned in
      let more : length new.before + length new.behind ≡ suc (length m.before + length m.behind) = lists_longer (nat_lt (m.part.datum v).mark m.part.known) m.before m.behind entry in
      ended_within st a m new within s v flies refl refl refl (λ u off was. was) refl refl
      (λ stored. one_for_one (sum_by (λ n. n) m.unsure) (length m.before) (length m.behind) (length new.before) (length new.behind) m.plans new.plans st.window more plans (plan_counted st a m new within s v flies planned) (within.window stored))

  pub made_within : (s : ScopeId) (v : ℕ) (entry : Entry) → m.part.flight s ≡ Some v → m.part.pending v ≡ false → StaysWithin st a (makes_update st a s v entry m)
  made_within s v entry flies not_pending =
      asked_within (asks_more st (works_on st a s v entry m)) (works_on st a s v entry m) (worked_within s v entry flies not_pending)

  plans_fall : (planned : Bool) (plans : ℕ) → (if planned then pred plans else plans) ≤ plans
  plans_fall true plans = pred_low plans
  plans_fall false plans = le_refl plans

  pub marked_within : (s : ScopeId) (v : ℕ) → m.part.flight s ≡ Some v → StaysWithin st a (makes_mark st a s v m)
  marked_within s v flies =
      let new : Machine = makes_mark st a s v m in
      ended_within st a m new within s v flies refl refl refl
      (λ u off was. or_right _ _ (or_right (pends_for st m.part v a u) (m.part.pending u && not (u == v)) (and_from (m.part.pending u) (not (u == v)) was (ap not (ne_eqb u v off)))))
      refl refl
      (λ stored. le_trans (more_plans (outside m) (ends_plan s m) m.plans (plans_fall (m.planned s) m.plans)) (within.window stored))

  -- ---- the rest of a machine's events

  pub prompted_within : (x : Machine) → StaysWithin st a x → StaysWithin st a (prompt st a x)
  prompted_within x is = steady_within st a x (prompt st a x) is (record { flight = refl; flying = refl; serial = refl; pending = λ v was. was }) refl refl (le_refl (outside x))

  pub granted_within : (x : ℕ) → StaysWithin st a (grants st a x m)
  granted_within x = steady_within st a m (grants st a x m) within (granted_steady st a x (m.part.queue x) m.part) refl refl (le_refl (outside m))

  -- entries that stand behind the marks come before them where a snapshot begins
  same_lists : (test : Bool) (before behind : List Entry) → length (if test then before ++ behind else before) + length (if test then [] else behind) ≡ length before + length behind
  same_lists true before behind = none_more (length (before ++ behind)) ∙ length-append before behind
  same_lists false before behind = refl

  moved_lists : (k : ℕ) → sum_by (λ n. n) m.unsure + length (before_at k m) + length (behind_at k m) ≤ outside m
  moved_lists k = same_sum (sum_by (λ n. n) m.unsure) (length m.before) (length m.behind) (length (before_at k m)) (length (behind_at k m)) (same_lists (nat_lt m.part.known k) m.before m.behind)

  pub received_within : (message : Message) → StaysWithin st a (receives st a message m)
  received_within message = steady_within st a m (receives st a message m) within (received_steady st a message m.part) refl refl (moved_lists (snapshot_in message))

  shorter_sum : (unsure : List ℕ) → sum_by (λ n. n) (rest_of unsure) ≤ sum_by (λ n. n) unsure
  shorter_sum [] = le_refl 0
  shorter_sum (n ∷ unsure) = subst (λ (x : ℕ). sum_by (λ n. n) unsure ≤ x) (sym (sum_by-append (λ n. n) (n ∷ []) unsure)) (more_sum (sum_by (λ n. n) unsure) (sum_by (λ n. n) (n ∷ [])))

  committed_within : (k : ℕ) → StaysWithin st a (commits k m)
  committed_within k =
      steady_within st a m (commits k m) within (steady_again m.part) refl refl
      (less_unsure (sum_by (λ n. n) (rest_of m.unsure)) (sum_by (λ n. n) m.unsure) (length m.before) (length m.behind) (shorter_sum m.unsure))

  pub called_within : (call : Call) → StaysWithin st a (takes_call st a call m)
  called_within (Begin k) = steady_within st a m (takes_call st a (Begin k) m) within (begins_steady st a k m.part) refl refl (moved_lists k)
  called_within (Committed k) = asked_within (asks_more st (commits k m)) (commits k m) (committed_within k)
  called_within (Wave k) = steady_within st a m (takes_call st a (Wave k) m) within (steady_again m.part) refl refl (le_refl (outside m))
  called_within (Step colour) = steady_within st a m (takes_call st a (Step colour) m) within (record { flight = refl; flying = refl; serial = refl; pending = λ v was. was }) refl refl (le_refl (outside m))

  pub sectioned_within : StaysWithin st a (sections m)
  sectioned_within =
      steady_within st a m (sections m) within (record { flight = refl; flying = refl; serial = refl; pending = λ v was. was }) refl refl
      (moved_unsure (sum_by (λ n. n) (m.unsure ++ length m.before ∷ [])) (sum_by (λ n. n) m.unsure) (sum_by (λ n. n) (length m.before ∷ [])) (length m.before) (length m.behind) (sum_by-append (λ n. n) m.unsure (length m.before ∷ [])) (sum_one (length m.before)))

  pub handed_within : (q : ℕ) (behind : List Message) → StaysWithin st a (hands q behind m)
  handed_within q behind = steady_within st a m (hands q behind m) within (record { flight = refl; flying = refl; serial = refl; pending = λ v was. was }) refl refl (le_refl (outside m))

  pub reported_within : (behind : List Report) → StaysWithin st a (hands_report behind m)
  reported_within behind = steady_within st a m (hands_report behind m) within (steady_again m.part) refl refl (le_refl (outside m))

  pub failed_within : StaysWithin st a (fails m)
  failed_within = steady_within st a m (fails m) within (steady_again m.part) refl refl (le_refl (outside m))

nothing_sums : (n : ℕ) → 0 ≡ sum_below (λ k. 0) n
nothing_sums zero = refl
nothing_sums (suc n) = nothing_sums n ∙ zero_more (sum_below (λ k. 0) n)

pub back_within : (st : Setting) (numbers : GraphState) (k a : ℕ) (m : Machine) → StaysWithin st a (goes_back st numbers k a m)
back_within st numbers k a m =
    record {
      own = λ s v is. absurd (none_some v is);
      flying = nothing_sums m.part.serial;
      single = λ s t v one other. absurd (none_some v one);
      plans = nothing_sums m.part.serial;
      pending = λ s v is un. absurd (none_some v is);
      window = λ stored. zero_low st.window;
    }
