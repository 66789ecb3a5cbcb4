-- The scope of a vertex takes its locks one after another, where all its vertices are one machine's and nobody claims their locks.
use Rattle.std.proofs.Common.{◌≡◌, ◌≢◌, ℕ, zero, suc, ◌+◌, ◌-◌, ◌<◌, ◌≤◌, ◌==◌, ◌&&◌, not, nat_lt, Bool, true, false, if◌then◌else◌, Option, None, Some, List, [], ◌∷◌, ◌++◌, refl, sym, ◌∙◌, ap, subst, ⊎_elim, arith}
use Rattle.std.proofs.lemmas.Bool.{cases_eq, cases_lt, eq-eqb, and_parts, and_right, both_ways, false_from_ne_true, lt-ltb, le-ltb}
use Rattle.gl_base.specs.declared.entries.Entry.{Entry}
use Rattle.gl_base.specs.declared.scopes.Claim.{Claim}
use Rattle.gl_base.specs.declared.scopes.Mode.{Mode}
use Rattle.gl_base.specs.declared.scopes.ScopeId.{ScopeId}
use Rattle.graph_core.specs.DataGraph.{size}
use Rattle.cluster_laws.specs.cluster_core.Parts.{Part, Stand}
use Rattle.cluster_laws.specs.cluster_core.Ranges.{all_passing, first_passing, set_at}
use Rattle.cluster_laws.specs.cluster_core.Settings.{Chromatic, Engine, Locking, Setting, IsSetting, is_in_scope}
use Rattle.cluster_laws.specs.cluster_core.Scopes.{is_scope, set_for, mode_at, own_from, is_found, takes_part, machines_from}
use Rattle.cluster_laws.specs.cluster_core.Effects.{next_scope, in_flight, admitted, admitted_by, sets_out, asks_for, moves_on, takes_lock, first_granted, granted, released, tell, news_for, updated}
use Rattle.cluster_laws.specs.cluster_core.Messages.{Done, News}
use Rattle.cluster_laws.proofs.cluster_core.Basics.{set_at-same, set_at-other, set_for-same, set_for-other, scope_cases, first_passing-some}
use Rattle.cluster_laws.proofs.cluster_core.Nearness.{is_own, owner_takes_part, part_low, scoped_itself}
use Rattle.cluster_laws.specs.interior_scopes.AtOnce.{IsInterior, IsUnseen, MayUpdateAtOnce, at_once}

-- ---- functions that are changed twice at one place, or back

twice : {X : Type 0} (b : Bool) (x y z : X) → (if b then y else (if b then x else z)) ≡ (if b then y else z)
twice true x y z = refl
twice false x y z = refl

pub set_for-twice : {X : Type 0} (f : ScopeId → X) (s : ScopeId) (x y : X) (t : ScopeId) → set_for (set_for f s x) s y t ≡ set_for f s y t
set_for-twice f s x y t = twice (is_scope t s) x y (f t)

pub set_for-back : {X : Type 0} (f : ScopeId → X) (s : ScopeId) (x : X) → f s ≡ x → (t : ScopeId) → set_for f s x t ≡ f t
set_for-back f s x is t =
    ⊎_elim
    (λ (same : t ≡ s). subst (λ (r : ScopeId). set_for f s x r ≡ f r) (sym same) (set_for-same f s x ∙ sym is))
    (λ (apart : is_scope t s ≡ false). set_for-other f s x t apart)
    (scope_cases t s)

pub set_at-twice : {X : Type 0} (f : ℕ → X) (k : ℕ) (x y : X) (i : ℕ) → set_at (set_at f k x) k y i ≡ set_at f k y i
set_at-twice f k x y i = twice (i == k) x y (f i)

pub set_at-back : {X : Type 0} (f : ℕ → X) (k : ℕ) (x : X) → f k ≡ x → (i : ℕ) → set_at f k x i ≡ f i
set_at-back f k x is i =
    ⊎_elim
    (λ (same : i ≡ k). subst (λ (j : ℕ). set_at f k x j ≡ f j) (sym same) (set_at-same f k x ∙ sym is))
    (λ (off : i ≢ k). set_at-other f k x i off)
    (cases_eq i k)

-- ---- one machine alone

none_pass : (test : ℕ → Bool) (k n : ℕ) → ((b : ℕ) → k ≤ b → test b ≡ false) → all_passing test k n ≡ []
unfolding all_passing
none_pass test k zero none = refl
none_pass test k (suc n) none =
    let here : test k ≡ false = none k (omega arith) in
    rw here (none_pass test (suc k) n (λ b low. none b (omega arith)))

only_one : (test : ℕ → Bool) (k n a : ℕ) → k ≤ a → a < k + n → test a ≡ true → ((b : ℕ) → b ≢ a → test b ≡ false) → all_passing test k n ≡ a ∷ []
unfolding all_passing
only_one test k zero a low high is others = absurd (omega arith)
only_one test k (suc n) a low high is others =
    ⊎_elim
    (λ (at : k ≡ a).
    let here : test k ≡ true = ap test at ∙ is in
    let rest : all_passing test (suc k) n ≡ [] = none_pass test (suc k) n (λ b above. others b (λ same. omega arith)) in
    rw here (λ i. at i ∷ rest i))
    (λ (off : k ≢ a).
    let passed : test k ≡ false = others k off in
    rw passed (only_one test (suc k) n a (omega arith) (omega arith) is others))
    (cases_eq k a)

module _ (st : Setting) (is : IsSetting st) (a v : ℕ) (within : v < size st.graph) (interior : IsInterior st a v) where
  -- only its machine takes part in the scope
  pub takes_alone : (b : ℕ) → b ≢ a → takes_part st v b ≡ false
  takes_alone b off = false_from_ne_true (takes_part st v b) (λ part. found (own_from st v b 0) refl part)
    where
      found : (first : Option ℕ) → own_from st v b 0 ≡ first → is_found first ≡ true → ⊥
      found (Some x) eq part = let h = is_own st v b 0 x eq in off (sym h.3 ∙ interior x h.2)
      found None eq part = both_ways false refl part

  takes : takes_part st v a ≡ true
  takes = subst (λ (b : ℕ). takes_part st v b ≡ true) (interior v (scoped_itself st is v)) (owner_takes_part st is v v within (scoped_itself st is v))

  pub machines_alone : machines_from st v 0 ≡ a ∷ []
  machines_alone =
      let low = part_low st is v a takes in
      only_one (takes_part st v) 0 (st.machines - 0) a (omega arith) (omega arith) takes takes_alone

  pub none_told : (q : ℕ) → (takes_part st v q && not (q == a)) ≡ false
  none_told q =
      ⊎_elim
      (λ (same : q ≡ a). and_right (takes_part st v q) (not (q == a)) (ap not (eq-eqb q a same)))
      (λ (off : q ≢ a). ap (λ (b : Bool). b && not (q == a)) (takes_alone q off))
      (cases_eq q a)

-- ---- the scope on its way

module _ (st : Setting) (a v : ℕ) (part : Part) where
  abbrev pub its : ScopeId
  its = next_scope a part

  -- the vertices of the scope that are machine a's
  abbrev pub is_its : ℕ → Bool
  is_its x = is_in_scope st v x && st.owner x == a

  -- it holds its locks below k
  abbrev pub held_below : ℕ → ℕ → ScopeId → Option Mode
  held_below k x = if is_its x && nat_lt x k then set_for (part.holder x) its (Some (mode_at v x)) else part.holder x

  abbrev pub claim_for : ℕ → Claim
  claim_for x = record { scope = its; mode = mode_at v x }

  abbrev pub stand_for : ℕ → Stand
  stand_for x = record { centre = v; lock = x; rest = [] }

  -- it was admitted, these locks are held, and it waits for this one, or is ready
  abbrev pub walks : (ℕ → ScopeId → Option Mode) → Option ℕ → Part
  walks holder (Some x) =
      record (in_flight a v part) {
        holder = holder;
        stand = set_for part.stand its (Some (stand_for x));
        queue = set_at part.queue x (claim_for x ∷ []);
      }
  walks holder None = record (in_flight a v part) { holder = holder; ready = set_for part.ready its true }

  -- so it stands and waits before it asks for the next lock
  abbrev pub between : (ℕ → ScopeId → Option Mode) → (ScopeId → Option Stand) → (ℕ → List Claim) → Part
  between holder stand queue = record (in_flight a v part) { holder = holder; stand = stand; queue = queue }

-- ---- its update is made

module _ (st : Setting) (is : IsSetting st) (a v : ℕ) (part : Part) (within : v < size st.graph) (interior : IsInterior st a v) (is_new : IsUnseen part (its st a v part)) where
  none_sent : (news : ℕ → News) (q : ℕ) → tell st a v (its st a v part) news part.out q ≡ part.out q
  none_sent news q = ap (λ (b : Bool). if b then part.out q ++ Done (its st a v part) (news q) ∷ [] else part.out q) (none_told st is a v within interior q)

  -- whatever locks it holds, where nobody else's are let go with them
  pub updated_alone : (holder : ℕ → ScopeId → Option Mode) → ((x : ℕ) (t : ScopeId) → released (its st a v part) holder x t ≡ part.holder x t) → (entry : Entry) →
      updated st a (its st a v part) v entry (walks st a v part holder None) ≡ at_once st a v entry part
  updated_alone holder free entry =
      let s = its st a v part in
      let flown : (t : ScopeId) → set_for (set_for part.flight s (Some v)) s None t ≡ part.flight t = λ t. set_for-twice part.flight s (Some v) None t ∙ set_for-back part.flight s None is_new.flight t in
      let was_ready : (t : ScopeId) → set_for (set_for part.ready s true) s false t ≡ part.ready t = λ t. set_for-twice part.ready s true false t ∙ set_for-back part.ready s false is_new.ready t in
      λ i. record (at_once st a v entry part) {
        flight = λ t. flown t i;
        ready = λ t. was_ready t i;
        holder = λ x t. free x t i;
        out = λ q. none_sent (news_for st (walks st a v part holder None) v) q i;
      }

  -- it holds none
  pub released_none : (x : ℕ) (t : ScopeId) → released (its st a v part) part.holder x t ≡ part.holder x t
  released_none x t = set_for-back (part.holder x) (its st a v part) None (is_new.holder x) t

-- ---- where scopes take no locks

pub admitted_flies : (st : Setting) (colour : ℕ → ℕ) (colours : ℕ) → st.engine ≡ Chromatic colour colours → (a v : ℕ) (part : Part) → admitted st a v part ≡ walks st a v part part.holder None
admitted_flies st colour colours steps a v part = ap (λ (e : Engine). admitted_by e st a v part) steps

-- ---- where they take locks

module _ (st : Setting) (is : IsSetting st) (locking : st.engine ≡ Locking) (a v : ℕ) (part : Part) (left : ℕ) (may : MayUpdateAtOnce st a v part left) where
  abbrev s : ScopeId
  s = its st a v part

  abbrev own : ℕ → Bool
  own = is_its st a v part

  abbrev held : ℕ → ℕ → ScopeId → Option Mode
  held = held_below st a v part

  abbrev within : v < size st.graph
  within = may.admit.vertex

  pub its_queue : (x : ℕ) → own x ≡ true → part.queue x ≡ []
  its_queue x is_own = (may.unclaimed locking x (and_parts (is_in_scope st v x) (st.owner x == a) is_own).0).queue

  asks : (old new : ℕ → ScopeId → Option Mode) (stand : ScopeId → Option Stand) (queue : ℕ → List Claim) (first : Option ℕ) →
      ((x : ℕ) → old x ≡ new x) → ((o : Option Stand) (t : ScopeId) → set_for stand s o t ≡ set_for part.stand s o t) → ((x : ℕ) → queue x ≡ part.queue x) →
      ((x : ℕ) → first ≡ Some x → part.queue x ≡ []) →
      asks_for a s v [] first (between st a v part old stand queue) ≡ walks st a v part new first
  asks old new stand queue (Some x) holders stands queues none =
      let empty : queue x ++ claim_for st a v part x ∷ [] ≡ claim_for st a v part x ∷ [] = ap (λ (q : List Claim). q ++ claim_for st a v part x ∷ []) (queues x ∙ none x refl) in
      λ i. record (in_flight a v part) {
        holder = λ y. holders y i;
        stand = λ t. stands (Some (stand_for st a v part x)) t i;
        queue = λ y. if y == x then empty i else queues y i;
      }
  asks old new stand queue None holders stands queues none =
      let gone : (t : ScopeId) → set_for stand s None t ≡ part.stand t = λ t. stands None t ∙ set_for-back part.stand s None may.is_new.stand t in
      rw (eq-eqb a a refl) (λ i. record (in_flight a v part) { holder = λ y. holders y i; stand = λ t. gone t i; queue = λ y. queues y i; ready = set_for part.ready s true })

  first_queue : (k many x : ℕ) → first_passing own k many ≡ Some x → part.queue x ≡ []
  first_queue k many x found = its_queue x (first_passing-some own k many x found).2

  -- ---- it is admitted

  none_held : (x : ℕ) → part.holder x ≡ held 0 x
  none_held x = sym (ap (λ (b : Bool). if b then set_for (part.holder x) s (Some (mode_at v x)) else part.holder x) (and_right (own x) (nat_lt x 0) (le-ltb x 0 (omega arith))))

  pub admitted_walks : admitted st a v part ≡ walks st a v part (held 0) (first_passing own 0 (size st.graph))
  admitted_walks =
      let whole : size st.graph ≡ size st.graph - 0 = omega arith in
      ap (λ (e : Engine). admitted_by e st a v part) locking
      ∙ ap (λ (machines : List ℕ). sets_out st a s v machines (in_flight a v part)) (machines_alone st is a v within may.interior)
      ∙ rw (eq-eqb a a refl) (ap (λ (n : ℕ). asks_for a s v [] (first_passing own 0 n) (in_flight a v part)) (sym whole))
      ∙ asks part.holder (held 0) part.stand part.queue (first_passing own 0 (size st.graph)) none_held (λ o t. refl) (λ x. refl) (λ x found. first_queue 0 (size st.graph) x found)

  -- ---- a lock is granted

  pub not_yet : (k : ℕ) → held k k ≡ part.holder k
  not_yet k = ap (λ (b : Bool). if b then set_for (part.holder k) s (Some (mode_at v k)) else part.holder k) (and_right (own k) (nat_lt k k) (le-ltb k k (omega arith)))

  now : (k : ℕ) → own k ≡ true → held (suc k) k ≡ set_for (part.holder k) s (Some (mode_at v k))
  now k is_own = ap (λ (b : Bool). if b then set_for (part.holder k) s (Some (mode_at v k)) else part.holder k) ((λ i. is_own i && lt-ltb k (suc k) (omega arith) i))

  same_below : (x k : ℕ) → x ≢ k → nat_lt x k ≡ nat_lt x (suc k)
  same_below x k off =
      ⊎_elim
      (λ (low : x < k). lt-ltb x k low ∙ sym (lt-ltb x (suc k) (omega arith)))
      (λ (high : k ≤ x). le-ltb x k high ∙ sym (le-ltb x (suc k) (omega arith)))
      (cases_lt x k)

  elsewhere : (k x : ℕ) → x ≢ k → held k x ≡ held (suc k) x
  elsewhere k x off = ap (λ (b : Bool). if own x && b then set_for (part.holder x) s (Some (mode_at v x)) else part.holder x) (same_below x k off)

  held_more : (k : ℕ) → own k ≡ true → (x : ℕ) → set_at (held k) k (set_for (held k k) s (Some (mode_at v k))) x ≡ held (suc k) x
  held_more k is_own x =
      ⊎_elim
      (λ (at : x ≡ k).
      let there : set_at (held k) k (set_for (held k k) s (Some (mode_at v k))) k ≡ held (suc k) k =
      set_at-same (held k) k (set_for (held k k) s (Some (mode_at v k)))
      ∙ ap (λ (f : ScopeId → Option Mode). set_for f s (Some (mode_at v k))) (not_yet k)
      ∙ sym (now k is_own) in
      subst (λ (y : ℕ). set_at (held k) k (set_for (held k k) s (Some (mode_at v k))) y ≡ held (suc k) y) (sym at) there)
      (λ (off : x ≢ k). set_at-other (held k) k (set_for (held k k) s (Some (mode_at v k))) x off ∙ elsewhere k x off)
      (cases_eq x k)

  -- a vertex that is not one of its own changes nothing
  pub held_past : (k : ℕ) → own k ≡ false → held k ≡ held (suc k)
  held_past k not_own = λ i x. past x i
    where
      past : (x : ℕ) → held k x ≡ held (suc k) x
      past x =
          ⊎_elim
          (λ (at : x ≡ k).
          let other : own x ≡ false = ap own at ∙ not_own in
          ap (λ (b : Bool). if b && nat_lt x k then set_for (part.holder x) s (Some (mode_at v x)) else part.holder x) other
          ∙ sym (ap (λ (b : Bool). if b && nat_lt x (suc k) then set_for (part.holder x) s (Some (mode_at v x)) else part.holder x) other))
          (λ (off : x ≢ k). elsewhere k x off)
          (cases_eq x k)

  abbrev at : ℕ → Option ℕ → Part
  at k first = walks st a v part (held k) first

  pub granted_walks : (k : ℕ) → own k ≡ true → granted st a k (at k (Some k)) ≡ at (suc k) (first_passing own (suc k) (size st.graph - suc k))
  granted_walks k is_own =
      let waited : set_at part.queue k (claim_for st a v part k ∷ []) k ≡ claim_for st a v part k ∷ [] = set_at-same part.queue k (claim_for st a v part k ∷ []) in
      let stood : set_for part.stand s (Some (stand_for st a v part k)) s ≡ Some (stand_for st a v part k) = set_for-same part.stand s (Some (stand_for st a v part k)) in
      ap (λ (claims : List Claim). first_granted st a k claims (at k (Some k))) waited
      ∙ ap (λ (o : Option Stand). moves_on st a k (claim_for st a v part k) o (takes_lock k (claim_for st a v part k) [] (at k (Some k)))) stood
      ∙ asks
      (set_at (held k) k (set_for (held k k) s (Some (mode_at v k))))
      (held (suc k))
      (set_for part.stand s (Some (stand_for st a v part k)))
      (set_at (set_at part.queue k (claim_for st a v part k ∷ [])) k [])
      (first_passing own (suc k) (size st.graph - suc k))
      (held_more k is_own)
      (λ o t. set_for-twice part.stand s (Some (stand_for st a v part k)) o t)
      (λ x. set_at-twice part.queue k (claim_for st a v part k ∷ []) [] x ∙ set_at-back part.queue k [] (its_queue k is_own) x)
      (λ x found. first_queue (suc k) (size st.graph - suc k) x found)

  -- ---- its locks are free again

  pub released_all : (k x : ℕ) (t : ScopeId) → released s (held k) x t ≡ part.holder x t
  released_all k x t = by_test (own x && nat_lt x k)
    where
      by_test : (b : Bool) → set_for (if b then set_for (part.holder x) s (Some (mode_at v x)) else part.holder x) s None t ≡ part.holder x t
      by_test true = set_for-twice (part.holder x) s (Some (mode_at v x)) None t ∙ set_for-back (part.holder x) s None (may.is_new.holder x) t
      by_test false = set_for-back (part.holder x) s None (may.is_new.holder x) t

  pub updated_walks : (k : ℕ) (entry : Entry) → updated st a s v entry (at k None) ≡ at_once st a v entry part
  updated_walks k entry = updated_alone st is a v part within may.interior may.is_new (held k) (released_all k) entry
