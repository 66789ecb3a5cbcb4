-- What is to be seen of a scope that goes on from where it is.
use Rattle.std.proofs.Common.{◌≡◌, ◌≢◌, ℕ, suc, ◌<◌, ◌==◌, ◌&&◌, Bool, true, false, if◌then◌else◌, Option, None, Some, List, [], ◌∷◌, ◌++◌, refl, sym, ◌∙◌, ap, subst, ⊎_elim}
use Rattle.std.proofs.lemmas.Bool.{cases_eq, eq-eqb, eqb-true, ne_eqb}
use Rattle.gl_base.specs.declared.scopes.Claim.{Claim}
use Rattle.gl_base.specs.declared.scopes.Mode.{Mode}
use Rattle.gl_base.specs.declared.scopes.ScopeId.{ScopeId}
use Rattle.graph_core.specs.DataGraph.{size}
use Rattle.cluster_laws.specs.cluster_core.Messages.{Message, Ask, Ready}
use Rattle.cluster_laws.specs.cluster_core.Parts.{Part}
use Rattle.cluster_laws.specs.cluster_core.Ranges.{set_at}
use Rattle.cluster_laws.specs.cluster_core.Settings.{Setting, IsSetting}
use Rattle.cluster_laws.specs.cluster_core.Scopes.{set_for, mode_at, own_from, machines_from}
use Rattle.cluster_laws.specs.cluster_core.Effects.{posts, asks_for, goes_on}
use Rattle.cluster_laws.specs.cluster_core.Worlds.{World, with_part}
use Rattle.cluster_laws.specs.cluster_core.Stages.{Token, IsAsked, IsReady, Stage, Asks, Waits, Returns, Stays, Shows, sight_of, has_lock, held, some_if, one_if, token_of, tokens_of, claims_of}
use Rattle.cluster_laws.proofs.cluster_core.Basics.{set_at-same, set_at-other, set_at-cases, set_at-both, set_at-here, set_at-there, set_for-same, same_scope}
use Rattle.cluster_laws.proofs.cluster_core.Nearness.{is_own, next_machine}
use Rattle.cluster_laws.proofs.cluster_places.Reaching.{reached_by, reached, below, reached_by-locks}
use Rattle.cluster_laws.proofs.cluster_places.Frames.{claims_of-append, put-tokens}

-- machine a has this part, and scope s of centre v is there with its locks below k, as it neither waits nor is told of
pub record InHand (st : Setting) (w : World) (a : ℕ) (part : Part) (s : ScopeId) (v k : ℕ) : Type 0 where
  pub flight : (set_at w.part a part s.home.0).flight s ≡ Some v
  pub ready : (set_at w.part a part s.home.0).ready s ≡ false
  pub stand : (b : ℕ) → b ≢ a → (w.part b).stand s ≡ None
  pub holder : (x : ℕ) → (set_at w.part a part (st.owner x)).holder x s ≡ held v (below st v a k) x
  pub queue : (x : ℕ) → claims_of s ((set_at w.part a part (st.owner x)).queue x) ≡ []
  pub tokens : (p q : ℕ) → tokens_of s (w.link p q ++ (set_at w.part a part p).out q) ≡ []

pub held-same : (v : ℕ) (one other : ℕ → Bool) (x : ℕ) → one x ≡ other x → held v one x ≡ held v other x
held-same v one other x same = ap (λ (test : Bool). some_if test (mode_at v x)) same

pub asked_here : (s : ScopeId) (v : ℕ) (rest : List ℕ) → token_of s (Ask s v rest) ≡ IsAsked v rest ∷ []
asked_here s v rest = rw (same_scope s) refl

pub ready_here : (s : ScopeId) → token_of s (Ready s) ≡ IsReady ∷ []
ready_here s = rw (same_scope s) refl

pub claimed_here : (s : ScopeId) (mode : Mode) → claims_of s (record { scope = s; mode = mode } ∷ []) ≡ record { scope = s; mode = mode } ∷ []
claimed_here s mode = rw (same_scope s) refl

module _ (st : Setting) (is : IsSetting st) (w : World) (a : ℕ) (part : Part) (s : ScopeId) (v k : ℕ) (within : v < size st.graph) (hand : InHand st w a part s v k) where
  -- the part with no stand of the scope
  abbrev gone : Part
  gone = record part { stand = set_for part.stand s None }

  gone_stand : gone.stand s ≡ None
  gone_stand = set_for-same part.stand s None

  -- at the other machines, and here, where the scope stands nowhere
  no_stand_left : (new : Part) → new.stand s ≡ None → (b : ℕ) → (set_at w.part a new b).stand s ≡ None
  no_stand_left new none b = set_at-cases (λ (p : Part). p.stand s ≡ None) w.part a new b (λ at. none) (λ off. hand.stand b off)

  -- the locks of the stage that is reached
  locks_of : (first : Option ℕ) (rest : List ℕ) → own_from st v a k ≡ first → machines_from st v (suc a) ≡ rest → (x : ℕ) → held v (below st v a k) x ≡ held v (has_lock st (reached_by s v a first rest)) x
  locks_of first rest at next x =
      held-same v (below st v a k) (has_lock st (reached_by s v a first rest)) x (sym (reached_by-locks st is s v a k within first rest at next x))

  waits_here : (rest : List ℕ) (x : ℕ) → own_from st v a k ≡ Some x → machines_from st v (suc a) ≡ rest → Shows st (with_part w a (asks_for a s v rest (Some x) part)) s (sight_of st s (Waits v x))
  waits_here rest x at next =
      let new : Part = asks_for a s v rest (Some x) part in
      let claim : Claim = record { scope = s; mode = mode_at v x } in
      let owned : st.owner x ≡ a = (is_own st v a k x at).3 in
      let stood : new.stand s ≡ Some (record { centre = v; lock = x; rest = machines_from st v (suc (st.owner x)) }) =
      set_for-same part.stand s (Some (record { centre = v; lock = x; rest = rest })) ∙ (λ i. Some (record { centre = v; lock = x; rest = (sym next ∙ ap (λ (b : ℕ). machines_from st v (suc b)) (sym owned)) i })) in
      let queued : claims_of s ((set_at w.part a new (st.owner x)).queue x) ≡ claim ∷ [] =
      set_at-here (λ (p : Part). claims_of s (p.queue x)) w.part a new (st.owner x) owned
      ∙ ap (claims_of s) (set_at-same part.queue x (part.queue x ++ claim ∷ []))
      ∙ claims_of-append s (part.queue x) (claim ∷ [])
      ∙ (λ i. (sym (set_at-here (λ (p : Part). claims_of s (p.queue x)) w.part a part (st.owner x) owned) ∙ hand.queue x) i ++ claimed_here s (mode_at v x) i) in
      record {
        flight = set_at-both (λ (p : Part). p.flight s) w.part a new part refl s.home.0 ∙ hand.flight;
        ready = set_at-both (λ (p : Part). p.ready s) w.part a new part refl s.home.0 ∙ hand.ready;
        stand = λ b. ⊎_elim
            (λ (here : b ≡ a). rw (eq-eqb b (st.owner x) (here ∙ sym owned)) (set_at-here (λ (p : Part). p.stand s) w.part a new b here ∙ stood))
            (λ (off : b ≢ a). rw (ne_eqb b (st.owner x) (λ same. off (same ∙ owned))) (set_at-there (λ (p : Part). p.stand s) w.part a new b off ∙ hand.stand b off))
            (cases_eq b a);
        holder = λ y. set_at-both (λ (p : Part). p.holder y s) w.part a new part refl (st.owner y) ∙ hand.holder y ∙ locks_of (Some x) rest at next y;
        queue = λ y. ⊎_elim
            (λ (here : y ≡ x). rw (eq-eqb y x here) (subst (λ (z : ℕ). claims_of s ((set_at w.part a new (st.owner z)).queue z) ≡ claim ∷ []) (sym here) queued))
            (λ (off : y ≢ x). rw (ne_eqb y x off) (set_at-both (λ (p : Part). claims_of s (p.queue y)) w.part a new part (ap (claims_of s) (set_at-other part.queue x (part.queue x ++ claim ∷ []) y off)) (st.owner y) ∙ hand.queue y))
            (cases_eq y x);
        tokens = λ p q. set_at-both (λ (r : Part). tokens_of s (w.link p q ++ r.out q)) w.part a new part refl p ∙ hand.tokens p q;
      }

  -- a message of the scope is all that is told of it
  tells : (b : ℕ) (m : Message) (token : Token) → token_of s m ≡ token ∷ [] → (p q : ℕ) → tokens_of s (w.link p q ++ (set_at w.part a (posts b m gone) p).out q) ≡ one_if (p == a && q == b) token
  tells b m token is_token p q =
      let new : Part = posts b m gone in
      let read : Part → List Token = λ (r : Part). tokens_of s (w.link p q ++ r.out q) in
      ⊎_elim
      (λ (here : p ≡ a).
      let before : read part ≡ [] = sym (set_at-here read w.part a part p here) ∙ hand.tokens p q in
      let now : read (set_at w.part a new p) ≡ read part ++ (if q == b then token_of s m else []) =
      set_at-here read w.part a new p here ∙ put-tokens s (w.link p q) part.out b m q in
      ⊎_elim
      (λ (to : q ≡ b).
      let some : (if q == b then token_of s m else []) ≡ token ∷ [] = rw (eq-eqb q b to) is_token in
      let told : one_if (p == a && q == b) token ≡ token ∷ [] = rw (eq-eqb p a here, eq-eqb q b to) refl in
      now ∙ (λ i. before i ++ some i) ∙ sym told)
      (λ (off : q ≢ b).
      let none : (if q == b then token_of s m else []) ≡ [] = rw (ne_eqb q b off) refl in
      let told : one_if (p == a && q == b) token ≡ [] = rw (eq-eqb p a here, ne_eqb q b off) refl in
      now ∙ (λ i. before i ++ none i) ∙ sym told)
      (cases_eq q b))
      (λ (off : p ≢ a).
      let told : one_if (p == a && q == b) token ≡ [] = rw (ne_eqb p a off) refl in
      set_at-there read w.part a new p off ∙ sym (set_at-there read w.part a part p off) ∙ hand.tokens p q ∙ sym told)
      (cases_eq p a)

  -- what is seen where nothing is told, and where a message is
  asks_next : (b : ℕ) (rest : List ℕ) → own_from st v a k ≡ None → machines_from st v (suc a) ≡ b ∷ rest → rest ≡ machines_from st v (suc b) → Shows st (with_part w a (posts b (Ask s v rest) gone)) s (sight_of st s (Asks v a b))
  asks_next b rest none next more =
      let new : Part = posts b (Ask s v rest) gone in
      record {
        flight = set_at-both (λ (p : Part). p.flight s) w.part a new part refl s.home.0 ∙ hand.flight;
        ready = set_at-both (λ (p : Part). p.ready s) w.part a new part refl s.home.0 ∙ hand.ready;
        stand = no_stand_left new gone_stand;
        holder = λ y. set_at-both (λ (p : Part). p.holder y s) w.part a new part refl (st.owner y) ∙ hand.holder y ∙ locks_of None (b ∷ rest) none next y;
        queue = λ y. set_at-both (λ (p : Part). claims_of s (p.queue y)) w.part a new part refl (st.owner y) ∙ hand.queue y;
        tokens = λ p q. tells b (Ask s v rest) (IsAsked v rest) (asked_here s v rest) p q ∙ ap (λ (ms : List ℕ). one_if (p == a && q == b) (IsAsked v ms)) more;
      }

  goes_home : own_from st v a k ≡ None → machines_from st v (suc a) ≡ [] → (test : Bool) → (s.home.0 == a) ≡ test → Shows st (with_part w a (if test then record gone { ready = set_for gone.ready s true } else posts s.home.0 (Ready s) gone)) s (sight_of st s (if test then Stays v else Returns v a))
  goes_home none end true at =
      let new : Part = record gone { ready = set_for gone.ready s true } in
      let here : s.home.0 ≡ a = eqb-true s.home.0 a at in
      let stays : reached_by s v a None [] ≡ Stays v = rw at refl in
      record {
        flight = set_at-both (λ (p : Part). p.flight s) w.part a new part refl s.home.0 ∙ hand.flight;
        ready = set_at-here (λ (p : Part). p.ready s) w.part a new s.home.0 here ∙ set_for-same part.ready s true;
        stand = no_stand_left new gone_stand;
        holder = λ y. set_at-both (λ (p : Part). p.holder y s) w.part a new part refl (st.owner y) ∙ hand.holder y ∙ locks_of None [] none end y ∙ ap (λ (x : Stage). held v (has_lock st x) y) stays;
        queue = λ y. set_at-both (λ (p : Part). claims_of s (p.queue y)) w.part a new part refl (st.owner y) ∙ hand.queue y;
        tokens = λ p q. set_at-both (λ (r : Part). tokens_of s (w.link p q ++ r.out q)) w.part a new part refl p ∙ hand.tokens p q;
      }
  goes_home none end false at =
      let new : Part = posts s.home.0 (Ready s) gone in
      let returns : reached_by s v a None [] ≡ Returns v a = rw at refl in
      record {
        flight = set_at-both (λ (p : Part). p.flight s) w.part a new part refl s.home.0 ∙ hand.flight;
        ready = set_at-both (λ (p : Part). p.ready s) w.part a new part refl s.home.0 ∙ hand.ready;
        stand = no_stand_left new gone_stand;
        holder = λ y. set_at-both (λ (p : Part). p.holder y s) w.part a new part refl (st.owner y) ∙ hand.holder y ∙ locks_of None [] none end y ∙ ap (λ (x : Stage). held v (has_lock st x) y) returns;
        queue = λ y. set_at-both (λ (p : Part). claims_of s (p.queue y)) w.part a new part refl (st.owner y) ∙ hand.queue y;
        tokens = tells s.home.0 (Ready s) IsReady (ready_here s);
      }

  asks_for-shows : (first : Option ℕ) (rest : List ℕ) → own_from st v a k ≡ first → machines_from st v (suc a) ≡ rest → Shows st (with_part w a (asks_for a s v rest first part)) s (sight_of st s (reached_by s v a first rest))
  asks_for-shows (Some x) rest at next = waits_here rest x at next
  asks_for-shows None (b ∷ rest) at next = asks_next b rest at next (next_machine st v (suc a) b rest next).3
  asks_for-shows None [] at next = goes_home at next (s.home.0 == a) refl

  pub goes_on-shows : Shows st (with_part w a (goes_on st a s v k (machines_from st v (suc a)) part)) s (sight_of st s (reached st s v a k))
  goes_on-shows = asks_for-shows (own_from st v a k) (machines_from st v (suc a)) refl refl
