-- In its places a cluster whose updates write their scopes is one of the locking engine: what each part and each message shows.
use Rattle.std.proofs.Common.{◌≡◌, ◌≢◌, ℕ, ◌==◌, ◌&&◌, Bool, true, false, if◌then◌else◌, not, pred, suc, Option, None, Some, is_some, List, [], ◌∷◌, ◌++◌, map, refl, sym, ◌∙◌, ap, subst, ⊎_elim, eq-eqb, ne_eqb, eqb-true}
use Rattle.std.proofs.lemmas.Bool.{cases_eq, cases_Bool, and_parts}
use Rattle.gl_base.specs.declared.entries.Entry.{Entry}
use Rattle.gl_base.specs.declared.scopes.Claim.{Claim}
use Rattle.gl_base.specs.declared.scopes.ScopeId.{ScopeId}
use Rattle.seq_run.specs.States.{GraphState}
use Rattle.cluster_laws.specs.cluster_core.Effects.{admitted_by, asks_for, first_granted, goes_away, goes_on, moves_on, posts, received, sets_out, takes_lock, updated}
use Rattle.cluster_laws.specs.cluster_core.Messages.{Ask, Done, Message, News, Ready}
use Rattle.cluster_laws.specs.cluster_core.Parts.{Part}
use Rattle.cluster_laws.specs.cluster_core.Ranges.{set_at}
use Rattle.cluster_laws.specs.cluster_core.Scopes.{is_scope, machines_from, mode_at, own_from, set_for, takes_part}
use Rattle.cluster_laws.specs.cluster_core.Settings.{IsSetting, Locking, Setting, is_in_scope}
use Rattle.cluster_laws.proofs.cluster_core.Nearness.{scoped_near}
use Rattle.cluster_laws.proofs.cluster_numbers.EdgeEnds.{woken_near}
use Rattle.full_scope.specs.FullStates.{after_full, seen_around}
use Rattle.full_scope.specs.FullUpdates.{FullUpdate}
use Rattle.full_laws.specs.FullEffects.{admitted_full, flies_full, gift_for, granted_first, gathers, leaves_full, locks_full, moves_full, no_numbers, passes_full, posts_full, received_full, scope_of, seeks_full, sets_out_full, updated_full}
use Rattle.full_laws.specs.FullMessages.{FullMessage, Gather, Gift, Give, Home}
use Rattle.full_laws.specs.FullParts.{FullPart, FullStand}
use Rattle.full_laws.specs.FullPlaces.{bare_stand}
use Rattle.full_laws.specs.Items.{AVertex, Item, is_written, keeps, number_in}

-- what a gift to machine q of an update of v says, and what it may say
pub record IsGiftOf (st : Setting) (v q : ℕ) (gift : Gift) : Type 0 where
  pub whole : (i : Item) → keeps st q i ≡ true → is_written st v i ≡ true → (n : ℕ) × (gift.numbers i ≡ Some n)
  pub numbers : (i : Item) (n : ℕ) → gift.numbers i ≡ Some n → (keeps st q i ≡ true) × (is_written st v i ≡ true)
  pub wakes : (u : ℕ) → gift.wakes u ≡ true → (is_in_scope st v u ≡ true) × (st.owner u ≡ q)

-- the two say the same of a scope's place
abbrev pub SameMessage : Setting → ℕ → Message → FullMessage → Type 0
SameMessage st q m (Gather s v rest seen) = m ≡ Ask s v rest
SameMessage st q m (Home s seen) = m ≡ Ready s
SameMessage st q m (Give s gift) = (news : News) × (m ≡ Done s news) × IsGiftOf st news.centre q gift

-- so do all of them, one by one
abbrev pub SameWay : Setting → ℕ → List Message → List FullMessage → Type 0
SameWay st q messages [] = messages ≡ []
SameWay st q messages (f ∷ fs) =
    (m : Message) × (rest : List Message) × (messages ≡ m ∷ rest) × SameMessage st q m f × SameWay st q rest fs

-- the scope of a claim
abbrev pub claimant : Claim → ScopeId
claimant claim = claim.scope

-- the two parts show the same of each scope's place
pub record IsMirror (st : Setting) (f : FullPart) (c : Part) : Type 0 where
  pub flight : (s : ScopeId) → c.flight s ≡ f.flight s
  pub ready : (s : ScopeId) → c.ready s ≡ is_some (f.ready s)
  pub stand : (s : ScopeId) → c.stand s ≡ bare_stand (f.stand s)
  pub holder : (x : ℕ) (s : ScopeId) → is_some (c.holder x s) ≡ f.holds x s
  pub queue : (x : ℕ) → map claimant (c.queue x) ≡ f.queue x
  pub out : (q : ℕ) → SameWay st q (c.out q) (f.out q)
  pub serial : c.serial ≡ f.serial
  pub flying : c.flying ≡ f.flying

-- ---- lists

module _ (st : Setting) (q : ℕ) where
  pub way_append : (cs ds : List Message) (fs gs : List FullMessage) → SameWay st q cs fs → SameWay st q ds gs → SameWay st q (cs ++ ds) (fs ++ gs)
  way_append cs ds [] gs one other = subst (λ l. SameWay st q (l ++ ds) gs) (sym one) other
  way_append cs ds (f ∷ fs) gs one other =
      let (m, rest, is, same, more) = one in
      (m, rest ++ ds, ap (λ l. l ++ ds) is, same, way_append rest ds fs gs more other)

  pub way_push : (cs : List Message) (fs : List FullMessage) (m : Message) (f : FullMessage) → SameWay st q cs fs → SameMessage st q m f → SameWay st q (cs ++ m ∷ []) (fs ++ f ∷ [])
  way_push cs fs m f same one = way_append cs (m ∷ []) fs (f ∷ []) same (m, [], refl, one, refl)

pub claims_front : (claims : List Claim) (s : ScopeId) (behind : List ScopeId) → map claimant claims ≡ s ∷ behind → (claim : Claim) × (rest : List Claim) × (claims ≡ claim ∷ rest) × (claim.scope ≡ s) × (map claimant rest ≡ behind)
claims_front [] s behind is = cc
claims_front (claim ∷ rest) s behind is = (claim, rest, refl, cc, cc)

claims_push : (claims : List Claim) (claim : Claim) → map claimant (claims ++ claim ∷ []) ≡ map claimant claims ++ claim.scope ∷ []
claims_push [] claim = refl
claims_push (c ∷ claims) claim = ap (λ l. c.scope ∷ l) (claims_push claims claim)

-- ---- two functions that are changed at one place

pub both_set : {X Y : Type 0} (R : ℕ → X → Y → Type 0) (f : ℕ → X) (g : ℕ → Y) (k : ℕ) (x : X) (y : Y) → R k x y → ((i : ℕ) → R i (f i) (g i)) → (i : ℕ) → R i (set_at f k x i) (set_at g k y i)
both_set R f g k x y here there i = ⊎_elim
    (λ (at : i ≡ k). rw (eq-eqb i k at) (subst (λ j. R j x y) (sym at) here))
    (λ (off : i ≢ k). rw (ne_eqb i k off) (there i))
    (cases_eq i k)

pub both_for : {X Y : Type 0} (R : X → Y → Type 0) (f : ScopeId → X) (g : ScopeId → Y) (s : ScopeId) (x : X) (y : Y) → R x y → ((t : ScopeId) → R (f t) (g t)) → (t : ScopeId) → R (set_for f s x t) (set_for g s y t)
both_for R f g s x y here there t = ⊎_elim
    (λ (at : is_scope t s ≡ true). rw at here)
    (λ (off : is_scope t s ≡ false). rw off (there t))
    (cases_Bool (is_scope t s))

-- ---- what each step of a scope makes of the two

module _ (st : Setting) where
  abbrev M : FullPart → Part → Type 0
  M f c = IsMirror st f c

  posts_mirror : (f : FullPart) (c : Part) (q : ℕ) (fm : FullMessage) (cm : Message) → M f c → SameMessage st q cm fm → M (posts_full q fm f) (posts q cm c)
  posts_mirror f c q fm cm m same =
      record {
        flight = m.flight;
        ready = m.ready;
        stand = m.stand;
        holder = m.holder;
        queue = m.queue;
        out = both_set (λ r cs fs. SameWay st r cs fs) c.out f.out q (c.out q ++ cm ∷ []) (f.out q ++ fm ∷ []) (way_push st q (c.out q) (f.out q) cm fm (m.out q) same) m.out;
        serial = m.serial;
        flying = m.flying;
      }

  ready_mirror : (f : FullPart) (c : Part) (s : ScopeId) (seen : ℕ → Option ℕ) → M f c → M (record f { ready = set_for f.ready s (Some seen) }) (record c { ready = set_for c.ready s true })
  ready_mirror f c s seen m =
      record {
        flight = m.flight;
        ready = both_for (λ o b. b ≡ is_some o) f.ready c.ready s (Some seen) true refl m.ready;
        stand = m.stand;
        holder = m.holder;
        queue = m.queue;
        out = m.out;
        serial = m.serial;
        flying = m.flying;
      }

  home_mirror : (test : Bool) (f : FullPart) (c : Part) (s : ScopeId) (seen : ℕ → Option ℕ) → M f c → M (if test then record f { ready = set_for f.ready s (Some seen) } else posts_full s.home.0 (Home s seen) f) (if test then record c { ready = set_for c.ready s true } else posts s.home.0 (Ready s) c)
  home_mirror true f c s seen m = ready_mirror f c s seen m
  home_mirror false f c s seen m = posts_mirror f c s.home.0 (Home s seen) (Ready s) m refl

  leaves_mirror : (a : ℕ) (s : ScopeId) (v : ℕ) (rest : List ℕ) (seen : ℕ → Option ℕ) (f : FullPart) (c : Part) → M f c → M (leaves_full a s v rest seen f) (goes_away a s v rest c)
  leaves_mirror a s v (b ∷ rest) seen f c m = posts_mirror f c b (Gather s v rest seen) (Ask s v rest) m refl
  leaves_mirror a s v [] seen f c m = home_mirror (s.home.0 == a) f c s seen m

  stood_mirror : (s : ScopeId) (stand : Option FullStand) (f : FullPart) (c : Part) → M f c → M (record f { stand = set_for f.stand s stand }) (record c { stand = set_for c.stand s (bare_stand stand) })
  stood_mirror s stand f c m =
      record {
        flight = m.flight;
        ready = m.ready;
        stand = both_for (λ o b. b ≡ bare_stand o) f.stand c.stand s stand (bare_stand stand) refl m.stand;
        holder = m.holder;
        queue = m.queue;
        out = m.out;
        serial = m.serial;
        flying = m.flying;
      }

  asked_mirror : (x : ℕ) (claim : Claim) (f : FullPart) (c : Part) → M f c → M (record f { queue = set_at f.queue x (f.queue x ++ claim.scope ∷ []) }) (record c { queue = set_at c.queue x (c.queue x ++ claim ∷ []) })
  asked_mirror x claim f c m =
      record {
        flight = m.flight;
        ready = m.ready;
        stand = m.stand;
        holder = m.holder;
        queue = both_set (λ y cs fs. map claimant cs ≡ fs) c.queue f.queue x (c.queue x ++ claim ∷ []) (f.queue x ++ claim.scope ∷ []) (claims_push (c.queue x) claim ∙ ap (λ l. l ++ claim.scope ∷ []) (m.queue x)) m.queue;
        out = m.out;
        serial = m.serial;
        flying = m.flying;
      }

  seeks_mirror : (a : ℕ) (s : ScopeId) (v : ℕ) (rest : List ℕ) (seen : ℕ → Option ℕ) (first : Option ℕ) (f : FullPart) (c : Part) → M f c → M (seeks_full a s v rest seen first f) (asks_for a s v rest first c)
  seeks_mirror a s v rest seen (Some x) f c m =
      let stand : FullStand = record { centre = v; lock = x; rest = rest; seen = seen } in
      let claim : Claim = record { scope = s; mode = mode_at v x } in
      asked_mirror x claim (record f { stand = set_for f.stand s (Some stand) }) (record c { stand = set_for c.stand s (bare_stand (Some stand)) }) (stood_mirror s (Some stand) f c m)
  seeks_mirror a s v rest seen None f c m =
      leaves_mirror a s v rest seen (record f { stand = set_for f.stand s None }) (record c { stand = set_for c.stand s None }) (stood_mirror s None f c m)

  passes_mirror : (a : ℕ) (s : ScopeId) (v k : ℕ) (rest : List ℕ) (seen : ℕ → Option ℕ) (f : FullPart) (c : Part) → M f c → M (passes_full st a s v k rest seen f) (goes_on st a s v k rest c)
  passes_mirror a s v k rest seen f c m = seeks_mirror a s v rest seen (own_from st v a k) f c m

  first_mirror : (test : Bool) (a : ℕ) (s : ScopeId) (v b : ℕ) (rest : List ℕ) (f : FullPart) (c : Part) → M f c → M (if test then passes_full st a s v 0 rest no_numbers f else posts_full b (Gather s v rest no_numbers) f) (if test then goes_on st a s v 0 rest c else posts b (Ask s v rest) c)
  first_mirror true a s v b rest f c m = passes_mirror a s v 0 rest no_numbers f c m
  first_mirror false a s v b rest f c m = posts_mirror f c b (Gather s v rest no_numbers) (Ask s v rest) m refl

  sets_out_mirror : (a : ℕ) (s : ScopeId) (v : ℕ) (machines : List ℕ) (f : FullPart) (c : Part) → M f c → M (sets_out_full st a s v machines f) (sets_out st a s v machines c)
  sets_out_mirror a s v [] f c m = m
  sets_out_mirror a s v (b ∷ rest) f c m = first_mirror (b == a) a s v b rest f c m

  abbrev flies : ScopeId → ℕ → Part → Part
  flies s v c = record c { serial = suc c.serial; flying = suc c.flying; flight = set_for c.flight s (Some v) }

  flies_mirror : (s : ScopeId) (v : ℕ) (f : FullPart) (c : Part) → M f c → M (flies_full s v f) (flies s v c)
  flies_mirror s v f c m =
      record {
        flight = both_for (λ o b. b ≡ o) f.flight c.flight s (Some v) (Some v) refl m.flight;
        ready = m.ready;
        stand = m.stand;
        holder = m.holder;
        queue = m.queue;
        out = m.out;
        serial = ap suc m.serial;
        flying = ap suc m.flying;
      }

  pub admitted_mirror : (a v : ℕ) (f : FullPart) (c : Part) → M f c → M (admitted_full st a v f) (admitted_by Locking st a v c)
  admitted_mirror a v f c m =
      let s : ScopeId = scope_of a f.serial in
      subst (λ n. M (admitted_full st a v f) (sets_out st a (scope_of a n) v (machines_from st v 0) (flies (scope_of a n) v c))) (sym m.serial)
      (sets_out_mirror a s v (machines_from st v 0) (flies_full s v f) (flies s v c) (flies_mirror s v f c m))

  locks_mirror : (x : ℕ) (claim : Claim) (rest : List Claim) (f : FullPart) (c : Part) → M f c → M (locks_full x claim.scope (map claimant rest) f) (takes_lock x claim rest c)
  locks_mirror x claim rest f c m =
      record {
        flight = m.flight;
        ready = m.ready;
        stand = m.stand;
        holder = both_set (λ y g h. (t : ScopeId) → is_some (g t) ≡ h t) c.holder f.holds x (set_for (c.holder x) claim.scope (Some claim.mode)) (set_for (f.holds x) claim.scope true)
            (both_for (λ o b. is_some o ≡ b) (c.holder x) (f.holds x) claim.scope (Some claim.mode) true refl (m.holder x)) m.holder;
        queue = both_set (λ y cs fs. map claimant cs ≡ fs) c.queue f.queue x rest (map claimant rest) refl m.queue;
        out = m.out;
        serial = m.serial;
        flying = m.flying;
      }

  moves_mirror : (a x : ℕ) (claim : Claim) (stand : Option FullStand) (f : FullPart) (c : Part) → M f c → M (moves_full st a x claim.scope stand f) (moves_on st a x claim (bare_stand stand) c)
  moves_mirror a x claim None f c m = m
  moves_mirror a x claim (Some stand) f c m = passes_mirror a claim.scope stand.centre (suc x) stand.rest (gathers x (f.number (AVertex x)) stand.seen) f c m

  pub granted_mirror : (a x : ℕ) (claim : Claim) (rest : List Claim) (f : FullPart) (c : Part) → M f c → M (granted_first st a x (claim.scope ∷ map claimant rest) f) (first_granted st a x (claim ∷ rest) c)
  granted_mirror a x claim rest f c m =
      subst (λ stand. M (granted_first st a x (claim.scope ∷ map claimant rest) f) (moves_on st a x claim stand (takes_lock x claim rest c))) (sym (m.stand claim.scope))
      (moves_mirror a x claim (f.stand claim.scope) (locks_full x claim.scope (map claimant rest) f) (takes_lock x claim rest c) (locks_mirror x claim rest f c m))

  taken_mirror : (a : ℕ) (s : ScopeId) (gift : Gift) (news : News) (f : FullPart) (c : Part) → M f c → M (received_full st a (Give s gift) f) (received st a (Done s news) c)
  taken_mirror a s gift news f c m =
      record {
        flight = m.flight;
        ready = m.ready;
        stand = m.stand;
        holder = λ x. both_for (λ o b. is_some o ≡ b) (c.holder x) (f.holds x) s None false refl (m.holder x);
        queue = m.queue;
        out = m.out;
        serial = m.serial;
        flying = m.flying;
      }

  pub received_mirror : (a : ℕ) (fm : FullMessage) (cm : Message) (f : FullPart) (c : Part) → SameMessage st a cm fm → M f c → M (received_full st a fm f) (received st a cm c)
  received_mirror a (Gather s v rest seen) cm f c same m =
      subst (λ n. M (received_full st a (Gather s v rest seen) f) (received st a n c)) (sym same) (passes_mirror a s v 0 rest seen f c m)
  received_mirror a (Home s seen) cm f c same m =
      subst (λ n. M (received_full st a (Home s seen) f) (received st a n c)) (sym same) (ready_mirror f c s seen m)
  received_mirror a (Give s gift) cm f c same m =
      subst (λ n. M (received_full st a (Give s gift) f) (received st a n c)) (sym same.1) (taken_mirror a s gift same.0 f c m)

  given_way : (test : Bool) (q : ℕ) (s : ScopeId) (gift : Gift) (news : News) (cs : List Message) (fs : List FullMessage) → SameWay st q cs fs → IsGiftOf st news.centre q gift → SameWay st q (if test then cs ++ Done s news ∷ [] else cs) (if test then fs ++ Give s gift ∷ [] else fs)
  given_way true q s gift news cs fs same of = way_push st q cs fs (Done s news) (Give s gift) same (news, refl, of)
  given_way false q s gift news cs fs same of = same

  some_is : (test : Bool) (m n : ℕ) → (if test then Some m else None) ≡ Some n → test ≡ true
  some_is true m n is = refl
  some_is false m n is = cc

  some_if_both : (one other : Bool) (n : ℕ) → one ≡ true → other ≡ true → (m : ℕ) × ((if one && other then Some n else None) ≡ Some m)
  some_if_both true true n is also = (n, refl)
  some_if_both true false n is also = cc
  some_if_both false other n is also = cc

  pub gift_is : IsSetting st → (p : FullUpdate) (lent : GraphState) (v q : ℕ) → IsGiftOf st v q (gift_for st p lent v q)
  gift_is is p lent v q =
      record {
        whole = λ i keep written. some_if_both (keeps st q i) (is_written st v i) (number_in (after_full st.graph p lent v) i) keep written;
        numbers = λ i n gives. and_parts (keeps st q i) (is_written st v i) (some_is (keeps st q i && is_written st v i) (number_in (after_full st.graph p lent v) i) n gives);
        wakes = λ u woken.
            let both = and_parts (st.owner u == q) _ woken in
            (scoped_near st is v u (woken_near st is (p.woken (seen_around st.graph lent v)) v u both.1), eqb-true (st.owner u) q both.0);
      }

  pub updated_mirror : IsSetting st → (p : FullUpdate) (a : ℕ) (s : ScopeId) (v : ℕ) (lent : GraphState) (entry other : Entry) (f : FullPart) (c : Part) → M f c → M (updated_full st p a s v lent entry f) (updated st a s v other c)
  updated_mirror is p a s v lent entry other f c m =
      record {
        flight = both_for (λ o b. b ≡ o) f.flight c.flight s None None refl m.flight;
        ready = both_for (λ o b. b ≡ is_some o) f.ready c.ready s None false refl m.ready;
        stand = m.stand;
        holder = λ x. both_for (λ o b. is_some o ≡ b) (c.holder x) (f.holds x) s None false refl (m.holder x);
        queue = m.queue;
        out = λ q. given_way (takes_part st v q && not (q == a)) q s (gift_for st p lent v q) _ (c.out q) (f.out q) (m.out q) (gift_is is p lent v q);
        serial = m.serial;
        flying = ap pred m.flying;
      }
