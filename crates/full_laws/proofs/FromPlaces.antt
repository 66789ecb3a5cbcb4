-- What the places of scopes say of messages, stands and locks.
use Rattle.std.proofs.Common.{◌≡◌, ◌≢◌, ℕ, ◌==◌, ◌&&◌, Bool, true, false, if◌then◌else◌, Option, None, Some, is_some, List, [], ◌∷◌, ◌++◌, map, length, suc, refl, sym, ◌∙◌, ap, subst, eq-eqb, ne_eqb}
use Rattle.std.specs.Prelude.{⊤}
use Rattle.std.specs.List.{AllByRecursion}
use Rattle.std.proofs.lemmas.Bool.{and_from, and_parts}
use Rattle.gl_base.specs.declared.scopes.Claim.{Claim}
use Rattle.gl_base.specs.declared.scopes.ScopeId.{ScopeId}
use Rattle.cluster_laws.specs.cluster_core.Messages.{Done, Message}
use Rattle.cluster_laws.specs.cluster_core.Parts.{Stand}
use Rattle.cluster_laws.specs.cluster_core.Places.{IsStageOf}
use Rattle.cluster_laws.specs.cluster_core.Scopes.{is_scope, machines_from, mode_at}
use Rattle.cluster_laws.specs.cluster_core.Settings.{Setting, is_in_scope}
use Rattle.cluster_laws.specs.cluster_core.Stages.{Asks, Ends, Idle, IsAsked, IsDone, IsReady, Returns, Sight, Stage, Stays, Token, Waits, claims_of, one_if, sight_of, some_if, tokens_of}
use Rattle.cluster_laws.specs.cluster_core.Worlds.{World, way}
use Rattle.cluster_laws.proofs.cluster_core.Basics.{same_scope}
use Rattle.cluster_laws.proofs.cluster_places.Seen.{done_stage, staying_stage, waiting_stage}
use Rattle.full_laws.specs.FullActions.{MayGrantFull}
use Rattle.full_laws.specs.FullMessages.{FullMessage, Gather, Gift, Give, Home}
use Rattle.full_laws.specs.FullParts.{FullStand}
use Rattle.full_laws.specs.FullPlaces.{FullToken, GiveTheirLocks, GivesItsLocks, HoldTheirOwn, IsGathering, IsGiven, IsGoingHome, ShowsFull, as_token, bare_stand, full_tokens_of, times_among}
use Rattle.full_laws.specs.FullWorlds.{FullWorld, full_way}
use Rattle.full_laws.specs.Items.{AVertex}
use Rattle.full_laws.proofs.Mirrors.{IsGiftOf, SameMessage, SameWay, claimant, claims_front, way_append}
use Rattle.full_laws.proofs.MirrorSteps.{ArePlaced, locking}

-- ---- tokens

token_as : (test : Bool) (x : Token) (y : FullToken) (xs : List Token) (ys : List FullToken) → y ≡ as_token x → ys ≡ map as_token xs → (if test then y ∷ [] else []) ++ ys ≡ map as_token ((if test then x ∷ [] else []) ++ xs)
token_as true x y xs ys here rest = λ i. here i ∷ rest i
token_as false x y xs ys here rest = rest

pub tokens_same : (st : Setting) (q : ℕ) (s : ScopeId) (cs : List Message) (fs : List FullMessage) → SameWay st q cs fs → full_tokens_of s fs ≡ map as_token (tokens_of s cs)
tokens_same st q s cs [] same = ap (λ l. map as_token (tokens_of s l)) (sym same)
tokens_same st q s cs (Gather t v more seen ∷ fs) same =
    let (m, rest, is, one, others) = same in
    token_as (is_scope t s) (IsAsked v more) (IsGathering v more) (tokens_of s rest) (full_tokens_of s fs) refl (tokens_same st q s rest fs others)
    ∙ ap (λ l. map as_token (tokens_of s l)) (sym (is ∙ ap (λ n. n ∷ rest) one))
tokens_same st q s cs (Home t seen ∷ fs) same =
    let (m, rest, is, one, others) = same in
    token_as (is_scope t s) IsReady IsGoingHome (tokens_of s rest) (full_tokens_of s fs) refl (tokens_same st q s rest fs others)
    ∙ ap (λ l. map as_token (tokens_of s l)) (sym (is ∙ ap (λ n. n ∷ rest) one))
tokens_same st q s cs (Give t gift ∷ fs) same =
    let (m, rest, is, one, others) = same in
    token_as (is_scope t s) (IsDone one.0.centre) IsGiven (tokens_of s rest) (full_tokens_of s fs) refl (tokens_same st q s rest fs others)
    ∙ ap (λ l. map as_token (tokens_of s l)) (sym (is ∙ ap (λ n. n ∷ rest) one.1))

times_one : (test : Bool) (n : ℕ) (c : Claim) (claims : List Claim) → n ≡ length claims → (if test then suc n else n) ≡ length (if test then c ∷ claims else claims)
times_one true n c claims is = ap suc is
times_one false n c claims is = is

times_same : (s : ScopeId) (claims : List Claim) → times_among s (map claimant claims) ≡ length (claims_of s claims)
times_same s [] = refl
times_same s (c ∷ claims) = times_one (is_scope c.scope s) (times_among s (map claimant claims)) c (claims_of s claims) (times_same s claims)

-- ---- the setting of the locking engine shows and says the same

pub sight_same : (st : Setting) (s : ScopeId) (x : Stage) → sight_of (locking st) s x ≡ sight_of st s x
sight_same st s Idle = refl
sight_same st s (Asks v from to) = refl
sight_same st s (Waits v lock) = refl
sight_same st s (Returns v from) = refl
sight_same st s (Stays v) = refl
sight_same st s (Ends v to) = refl

pub stage_same : (st : Setting) (s : ScopeId) (x : Stage) → IsStageOf (locking st) s x → IsStageOf st s x
stage_same st s Idle is = tt
stage_same st s (Asks v from to) is = (record { vertex = is.0.vertex; owned = is.0.owned }, is.1, is.2)
stage_same st s (Waits v lock) is = (record { vertex = is.0.vertex; owned = is.0.owned }, is.1)
stage_same st s (Returns v from) is = (record { vertex = is.0.vertex; owned = is.0.owned }, is.1)
stage_same st s (Stays v) is = record { vertex = is.vertex; owned = is.owned }
stage_same st s (Ends v to) is = (record { vertex = is.0.vertex; owned = is.0.owned }, is.1, is.2)

-- ---- no message but gifts

-- it is no message of scope s but a gift
abbrev pub IsNoRequest : ScopeId → FullMessage → Type 0
IsNoRequest s (Gather t v rest seen) = is_scope t s ≡ false
IsNoRequest s (Home t seen) = is_scope t s ≡ false
IsNoRequest s (Give t gift) = ⊤

-- of scope s only gifts are told
abbrev pub IsGiftToken : FullToken → Type 0
IsGiftToken (IsGathering v rest) = ⊥
IsGiftToken IsGoingHome = ⊥
IsGiftToken IsGiven = ⊤

apart_if : (test : Bool) (y : FullToken) (ys : List FullToken) → (IsGiftToken y → ⊥) → AllByRecursion IsGiftToken ((if test then y ∷ [] else []) ++ ys) → (test ≡ false) × AllByRecursion IsGiftToken ys
apart_if true y ys none all = absurd (none all.0)
apart_if false y ys none all = (refl, all)

rest_if : (test : Bool) (y : FullToken) (ys : List FullToken) → AllByRecursion IsGiftToken ((if test then y ∷ [] else []) ++ ys) → AllByRecursion IsGiftToken ys
rest_if true y ys all = all.1
rest_if false y ys all = all

pub no_requests : (s : ScopeId) (ms : List FullMessage) → AllByRecursion IsGiftToken (full_tokens_of s ms) → AllByRecursion (IsNoRequest s) ms
no_requests s [] all = tt
no_requests s (Gather t v rest seen ∷ ms) all =
    let h = apart_if (is_scope t s) (IsGathering v rest) (full_tokens_of s ms) (λ no. no) all in
    (h.0, no_requests s ms h.1)
no_requests s (Home t seen ∷ ms) all =
    let h = apart_if (is_scope t s) IsGoingHome (full_tokens_of s ms) (λ no. no) all in
    (h.0, no_requests s ms h.1)
no_requests s (Give t gift ∷ ms) all = (tt, no_requests s ms (rest_if (is_scope t s) IsGiven (full_tokens_of s ms) all))

-- Scope s stands nowhere but maybe at machine a, isn't ready, and no message asks for it.
pub record IsCarriedNowhere (w : FullWorld) (s : ScopeId) (a : ℕ) : Type 0 where
  pub messages : (p q : ℕ) → AllByRecursion (IsNoRequest s) (full_way w p q)
  pub stands : (b : ℕ) → b ≢ a → (w.part b).stand s ≡ None

-- ---- what a gift is of

-- x is among these
abbrev Has : Token → List Token → Type 0
Has x ts = (front : List Token) × (back : List Token) × (ts ≡ front ++ x ∷ back)

has_later : (x : Token) (more ts : List Token) → Has x ts → Has x (more ++ ts)
has_later x [] ts has = has
has_later x (m ∷ more) ts has =
    let h = has_later x more ts has in
    (m ∷ h.0, h.1, ap (λ l. m ∷ l) h.2)

has_one : (test : Bool) (x y : Token) → Has x (one_if test y) → one_if test y ≡ x ∷ []
has_one true x y ([], back, is) = cc
has_one true x y (f ∷ [], back, is) = cc
has_one true x y (f ∷ g ∷ front, back, is) = cc
has_one false x y ([], back, is) = cc
has_one false x y (f ∷ front, back, is) = cc

has_none : (x : Token) → Has x [] → ⊥
has_none x ([], back, is) = cc
has_none x (f ∷ front, back, is) = cc

alone : (st : Setting) (s : ScopeId) (stage : Stage) (p q : ℕ) (x : Token) → Has x ((sight_of st s stage).tokens p q) → (sight_of st s stage).tokens p q ≡ x ∷ []
alone st s Idle p q x has = absurd (has_none x has)
alone st s (Asks v from to) p q x has = has_one (p == from && q == to) x (IsAsked v (machines_from st v (suc to))) has
alone st s (Waits v lock) p q x has = absurd (has_none x has)
alone st s (Returns v from) p q x has = has_one (p == from && q == s.home.0) x IsReady has
alone st s (Stays v) p q x has = absurd (has_none x has)
alone st s (Ends v to) p q x has = has_one (p == s.home.0 && to q) x (IsDone v) has

-- a gift is of an update of some vertex, of which its scope's word is on the way
abbrev IsGiftAmong : Setting → ℕ → List Message → FullMessage → Type 0
IsGiftAmong st q cs (Gather s v rest seen) = ⊤
IsGiftAmong st q cs (Home s seen) = ⊤
IsGiftAmong st q cs (Give s gift) = (v : ℕ) × IsGiftOf st v q gift × Has (IsDone v) (tokens_of s cs)

among_later : (st : Setting) (q : ℕ) (m : Message) (cs : List Message) (f : FullMessage) → IsGiftAmong st q cs f → IsGiftAmong st q (m ∷ cs) f
among_later st q m cs (Gather s v rest seen) is = tt
among_later st q m cs (Home s seen) is = tt
among_later st q m cs (Give s gift) is = (is.0, is.1, has_later (IsDone is.0) _ (tokens_of s cs) is.2)

all_among : (st : Setting) (q : ℕ) (m : Message) (cs : List Message) (fs : List FullMessage) → AllByRecursion (IsGiftAmong st q cs) fs → AllByRecursion (IsGiftAmong st q (m ∷ cs)) fs
all_among st q m cs [] all = tt
all_among st q m cs (f ∷ fs) all = (among_later st q m cs f all.0, all_among st q m cs fs all.1)

first_among : (st : Setting) (q : ℕ) (m : Message) (cs : List Message) (f : FullMessage) → SameMessage st q m f → IsGiftAmong st q (m ∷ cs) f
first_among st q m cs (Gather s v rest seen) same = tt
first_among st q m cs (Home s seen) same = tt
first_among st q m cs (Give s gift) same =
    let (news, is, of) = same in
    let here : tokens_of s (Done s news ∷ cs) ≡ IsDone news.centre ∷ tokens_of s cs = rw (same_scope s) refl in
    (news.centre, of, ([], tokens_of s cs, ap (λ n. tokens_of s (n ∷ cs)) is ∙ here))

pub gifts_among : (st : Setting) (q : ℕ) (cs : List Message) (fs : List FullMessage) → SameWay st q cs fs → AllByRecursion (IsGiftAmong st q cs) fs
gifts_among st q cs [] same = tt
gifts_among st q cs (f ∷ fs) same =
    let (m, rest, is, one, others) = same in
    subst (λ l. AllByRecursion (IsGiftAmong st q l) (f ∷ fs)) (sym is) (first_among st q m rest f one, all_among st q m rest fs (gifts_among st q rest fs others))

pub some_if-is : {X : Type 0} (test : Bool) (x : X) → is_some (some_if test x) ≡ test
some_if-is true x = refl
some_if-is false x = refl

bare_none : (o : Option FullStand) → bare_stand o ≡ None → o ≡ None
bare_none None is = refl
bare_none (Some stand) is = cc

pub not_some : {X : Type 0} (o : Option X) → is_some o ≡ false → o ≡ None
not_some None is = refl
not_some (Some x) is = cc

one_given : (test : Bool) (v : ℕ) → AllByRecursion IsGiftToken (map as_token (one_if test (IsDone v)))
one_given true v = (tt, tt)
one_given false v = tt

module _ (st : Setting) (w : FullWorld) (placed : ArePlaced st w) where
  abbrev c : World
  c = placed.core

  abbrev stage : ScopeId → Stage
  stage = placed.stage

  same_ways : (p q : ℕ) → SameWay st q (way c p q) (full_way w p q)
  same_ways p q = way_append st q (c.link p q) ((c.part p).out q) (w.link p q) ((w.part p).out q) (placed.mirrors.links p q) ((placed.mirrors.parts p).out q)

  -- what is seen of a scope in its stage
  pub shows_as : (s : ScopeId) (x : Stage) → stage s ≡ x → ShowsFull st w s (sight_of st s x)
  shows_as s x is =
      let h = placed.places.shows s in
      let sight : sight_of (locking st) s (stage s) ≡ sight_of st s x = sight_same st s (stage s) ∙ ap (sight_of st s) is in
      record {
        flight = sym ((placed.mirrors.parts s.home.0).flight s) ∙ h.flight ∙ ap (λ (seen : Sight). seen.flight) sight;
        ready = sym ((placed.mirrors.parts s.home.0).ready s) ∙ h.ready ∙ ap (λ (seen : Sight). seen.ready) sight;
        stand = λ a. sym ((placed.mirrors.parts a).stand s) ∙ h.stand a ∙ ap (λ (seen : Sight). seen.stand a) sight;
        holds = λ x. sym ((placed.mirrors.parts (st.owner x)).holder x s) ∙ ap is_some (h.holder x ∙ ap (λ (seen : Sight). seen.holder x) sight);
        queue = λ x.
            ap (times_among s) (sym ((placed.mirrors.parts (st.owner x)).queue x)) ∙ times_same s ((c.part (st.owner x)).queue x)
            ∙ ap length (h.queue x ∙ ap (λ (seen : Sight). seen.queue x) sight);
        tokens = λ p q. tokens_same st q s (way c p q) (full_way w p q) (same_ways p q) ∙ ap (map as_token) (h.tokens p q ∙ ap (λ (seen : Sight). seen.tokens p q) sight);
      }

  pub stages_are : (s : ScopeId) → IsStageOf st s (stage s)
  stages_are s = stage_same st s (stage s) (placed.places.stages s)

  pub stage_as : (s : ScopeId) (x : Stage) → stage s ≡ x → IsStageOf st s x
  stage_as s x is = subst (IsStageOf st s) is (stages_are s)

  -- ---- a scope that is ready

  pub ready_stage : (s : ScopeId) (v : ℕ) (seen : ℕ → Option ℕ) → (w.part s.home.0).flight s ≡ Some v → (w.part s.home.0).ready s ≡ Some seen → stage s ≡ Stays v
  ready_stage s v seen flight ready =
      let h = shows_as s (stage s) refl in
      staying_stage st s (stage s) v (sym h.flight ∙ flight) (sym h.ready ∙ ap is_some ready)

  pub ready_holds : (s : ScopeId) (v : ℕ) → stage s ≡ Stays v → (x : ℕ) → (w.part (st.owner x)).holds x s ≡ is_in_scope st v x
  ready_holds s v is x = (shows_as s (Stays v) is).holds x ∙ some_if-is (is_in_scope st v x) (mode_at v x)

  silent : (s : ScopeId) (p q : ℕ) → full_tokens_of s (full_way w p q) ≡ [] → AllByRecursion (IsNoRequest s) (full_way w p q)
  silent s p q none = no_requests s (full_way w p q) (subst (AllByRecursion IsGiftToken) (sym none) tt)

  pub ready_nowhere : (s : ScopeId) (v : ℕ) (a : ℕ) → stage s ≡ Stays v → IsCarriedNowhere w s a
  ready_nowhere s v a is =
      let h = shows_as s (Stays v) is in
      record { messages = λ p q. silent s p q (h.tokens p q); stands = λ b off. bare_none ((w.part b).stand s) (h.stand b) }

  -- ---- a scope that was given

  pub given_nowhere : (s : ScopeId) (v : ℕ) (to : ℕ → Bool) (a : ℕ) → stage s ≡ Ends v to → IsCarriedNowhere w s a
  given_nowhere s v to a is =
      let h = shows_as s (Ends v to) is in
      record {
        messages = λ p q. no_requests s (full_way w p q) (subst (AllByRecursion IsGiftToken) (sym (h.tokens p q)) (one_given (p == s.home.0 && to q) v));
        stands = λ b off. bare_none ((w.part b).stand s) (h.stand b);
      }

  pub given_not_ready : (s : ScopeId) (v : ℕ) (to : ℕ → Bool) → stage s ≡ Ends v to → (w.part s.home.0).ready s ≡ None
  given_not_ready s v to is = not_some ((w.part s.home.0).ready s) (shows_as s (Ends v to) is).ready

  pub given_holds : (s : ScopeId) (v : ℕ) (to : ℕ → Bool) → stage s ≡ Ends v to → (x : ℕ) → is_in_scope st v x ≡ true → to (st.owner x) ≡ true → (w.part (st.owner x)).holds x s ≡ true
  given_holds s v to is x scoped told =
      (shows_as s (Ends v to) is).holds x ∙ some_if-is (is_in_scope st v x && to (st.owner x)) (mode_at v x) ∙ and_from (is_in_scope st v x) (to (st.owner x)) scoped told

  -- where a scope is given that holds the lock of x, x is in the scope
  given_inside : (s : ScopeId) (v : ℕ) (to : ℕ → Bool) → stage s ≡ Ends v to → (x : ℕ) → (w.part (st.owner x)).holds x s ≡ true → is_in_scope st v x ≡ true
  given_inside s v to is x holds =
      let shown : is_some (some_if (is_in_scope st v x && to (st.owner x)) (mode_at v x)) ≡ true = sym ((shows_as s (Ends v to) is).holds x) ∙ holds in
      (and_parts (is_in_scope st v x) (to (st.owner x)) (sym (some_if-is (is_in_scope st v x && to (st.owner x)) (mode_at v x)) ∙ shown)).0

  -- What is given on the way to machine q is of an update of some vertex, whose scope holds its locks there.
  pub record IsGivenBy (q : ℕ) (s : ScopeId) (gift : Gift) : Type 0 where
    pub centre : ℕ
    pub to : ℕ → Bool
    pub of : IsGiftOf st centre q gift
    pub stage_is : stage s ≡ Ends centre to
    pub locks : (x : ℕ) → st.owner x ≡ q → is_in_scope st centre x ≡ true → (w.part (st.owner x)).holds x s ≡ true

  abbrev pub IsGivenMessage : ℕ → FullMessage → Type 0
  IsGivenMessage q (Gather s v rest seen) = ⊤
  IsGivenMessage q (Home s seen) = ⊤
  IsGivenMessage q (Give s gift) = IsGivenBy q s gift

  given_one : (p q : ℕ) (f : FullMessage) → IsGiftAmong st q (way c p q) f → IsGivenMessage q f
  given_one p q (Gather s v rest seen) is = tt
  given_one p q (Home s seen) is = tt
  given_one p q (Give s gift) (v, of, has) =
      let sight : (sight_of (locking st) s (stage s)).tokens p q ≡ (sight_of st s (stage s)).tokens p q = ap (λ (seen : Sight). seen.tokens p q) (sight_same st s (stage s)) in
      let tokens : tokens_of s (way c p q) ≡ (sight_of st s (stage s)).tokens p q = (placed.places.shows s).tokens p q ∙ sight in
      let h = done_stage st s (stage s) p q v [] (alone st s (stage s) p q (IsDone v) (subst (Has (IsDone v)) tokens has)) in
      record {
        centre = v;
        to = h.0;
        of = of;
        stage_is = h.1;
        locks = λ x owned scoped. given_holds s v h.0 h.1 x scoped (ap h.0 owned ∙ h.3);
      }

  given_each : (p q : ℕ) (fs : List FullMessage) → AllByRecursion (IsGiftAmong st q (way c p q)) fs → AllByRecursion (IsGivenMessage q) fs
  given_each p q [] all = tt
  given_each p q (f ∷ fs) all = (given_one p q f all.0, given_each p q fs all.1)

  pub givens : (p q : ℕ) → AllByRecursion (IsGivenMessage q) (full_way w p q)
  givens p q = given_each p q (full_way w p q) (gifts_among st q (way c p q) (full_way w p q) (same_ways p q))

  -- what is given has a number of each vertex whose lock the scope holds there, where each machine holds locks of its own vertices
  gives_locks : HoldTheirOwn st w → (q : ℕ) (f : FullMessage) → IsGivenMessage q f → GivesItsLocks (w.part q) f
  gives_locks own q (Gather s v rest seen) is = tt
  gives_locks own q (Home s seen) is = tt
  gives_locks own q (Give s gift) is = λ x holds.
      let owned : st.owner x ≡ q = own q x s holds in
      let here : (w.part (st.owner x)).holds x s ≡ true = subst (λ (b : ℕ). (w.part b).holds x s ≡ true) (sym owned) holds in
      is.of.whole (AVertex x) (eq-eqb (st.owner x) q owned) (given_inside s is.centre is.to is.stage_is x here)

  all_give_locks : HoldTheirOwn st w → (q : ℕ) (fs : List FullMessage) → AllByRecursion (IsGivenMessage q) fs → AllByRecursion (GivesItsLocks (w.part q)) fs
  all_give_locks own q [] all = tt
  all_give_locks own q (f ∷ fs) all = (gives_locks own q f all.0, all_give_locks own q fs all.1)

  pub locks_given : HoldTheirOwn st w → GiveTheirLocks w
  locks_given own p q = all_give_locks own q (full_way w p q) (givens p q)

  -- ---- a scope that waits

  -- Scope s waits for the lock of x at machine a, and is nowhere else.
  pub record IsWaiting (s : ScopeId) (a x : ℕ) : Type 0 where
    pub stand : FullStand
    pub stands : (w.part a).stand s ≡ Some stand
    pub elsewhere : IsCarriedNowhere w s a
    pub not_ready : (w.part s.home.0).ready s ≡ None

  stood : (o : Option FullStand) (bare : Stand) → bare_stand o ≡ Some bare → (stand : FullStand) × (o ≡ Some stand)
  stood None bare is = cc
  stood (Some stand) bare is = (stand, refl)

  pub first_waits : (a x : ℕ) (may : MayGrantFull st a x (w.part a)) → IsWaiting may.scope a x
  first_waits a x may =
      let s : ScopeId = may.scope in
      let (claim, rest, front, scope, behind) = claims_front ((c.part a).queue x) s may.behind ((placed.mirrors.parts a).queue x ∙ may.first) in
      let here : claims_of s (claim ∷ rest) ≡ claim ∷ claims_of s rest = rw (ap (λ (t : ScopeId). is_scope t s) scope ∙ same_scope s) refl in
      let sight : (sight_of (locking st) s (stage s)).queue x ≡ (sight_of st s (stage s)).queue x = ap (λ (seen : Sight). seen.queue x) (sight_same st s (stage s)) in
      let core_queue : claims_of s ((c.part (st.owner x)).queue x) ≡ claim ∷ claims_of s rest =
      (λ k. claims_of s ((c.part (may.owned k)).queue x)) ∙ ap (claims_of s) front ∙ here in
      let seen_queue : (sight_of st s (stage s)).queue x ≡ claims_of s ((c.part (st.owner x)).queue x) =
      sym sight ∙ sym ((placed.places.shows s).queue x) in
      let queue : (sight_of st s (stage s)).queue x ≡ claim ∷ claims_of s rest = seen_queue ∙ core_queue in
      let waits = waiting_stage st s (stage s) x claim (claims_of s rest) queue in
      let h = shows_as s (Waits waits.0 x) waits.1 in
      let bare : Stand = record { centre = waits.0; lock = x; rest = machines_from st waits.0 (suc (st.owner x)) } in
      let stand = stood ((w.part a).stand s) bare (h.stand a ∙ ap (λ test. some_if test bare) (eq-eqb a (st.owner x) (sym may.owned))) in
      record {
        stand = stand.0;
        stands = stand.1;
        elsewhere = record {
          messages = λ p q. silent s p q (h.tokens p q);
          stands = λ b off. bare_none ((w.part b).stand s) (h.stand b ∙ ap (λ test. some_if test bare) (ne_eqb b (st.owner x) (λ same. off (same ∙ may.owned))));
        };
        not_ready = not_some ((w.part s.home.0).ready s) h.ready;
      }

  -- ---- a scope that was not admitted yet

  pub idle_holds : (s : ScopeId) → stage s ≡ Idle → (x : ℕ) → (w.part (st.owner x)).holds x s ≡ false
  idle_holds s is x = (shows_as s Idle is).holds x
