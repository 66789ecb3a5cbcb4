-- What was gathered for a scope stays what it is to have gathered.
use Rattle.std.proofs.Common.{◌≡◌, ℕ, ◌==◌, Bool, true, false, if◌then◌else◌, Option, None, Some, List, [], ◌∷◌, ◌++◌, refl, sym, ◌∙◌, ap, subst, ⊎_elim}
use Rattle.std.specs.List.{AllByRecursion}
use Rattle.gl_base.specs.declared.scopes.ScopeId.{ScopeId}
use Rattle.graph_core.proofs.HalvesLaws.{each-append, each-back, each-front}
use Rattle.cluster_laws.specs.cluster_core.Ranges.{set_at}
use Rattle.cluster_laws.specs.cluster_core.Scopes.{is_scope, own_from, set_for}
use Rattle.cluster_laws.specs.cluster_core.Settings.{Setting}
use Rattle.cluster_laws.proofs.cluster_core.Basics.{scope_cases, set_at-holds, set_for-holds}
use Rattle.cluster_laws.proofs.cluster_numbers.Passing.{none_not_some, some_same}
use Rattle.full_laws.specs.FullActions.{delivers_full, sends_full}
use Rattle.full_laws.specs.FullEffects.{leaves_full, no_numbers, passes_full, posts_full, received_full, seeks_full, sets_out_full}
use Rattle.full_laws.specs.FullMessages.{FullMessage, Gather, Gift, Give, Home}
use Rattle.full_laws.specs.FullParts.{FullPart, FullStand}
use Rattle.full_laws.specs.FullPlaces.{AreGathered, IsSeen, IsTrueMessage}
use Rattle.full_laws.specs.FullWorlds.{FullWorld, with_full_part}
use Rattle.full_laws.proofs.FullWays.{set_two}
use Rattle.full_laws.proofs.FromPlaces.{IsCarriedNowhere, IsNoRequest}

-- ---- one part

module _ (what : ScopeId → ℕ → Option ℕ) where
  -- what was gathered is true at machine a, but maybe where scope s stands
  pub record IsTrueBut (s : ScopeId) (a : ℕ) (f : FullPart) : Type 0 where
    pub out : (q : ℕ) → AllByRecursion (IsTrueMessage what) (f.out q)
    pub stands : (t : ScopeId) → is_scope t s ≡ false → (stand : FullStand) → f.stand t ≡ Some stand → IsSeen what t stand.seen
    pub ready : (t : ScopeId) (seen : ℕ → Option ℕ) → t.home.0 ≡ a → f.ready t ≡ Some seen → IsSeen what t seen

  -- the same with no exception
  pub record IsTruePart (a : ℕ) (f : FullPart) : Type 0 where
    pub out : (q : ℕ) → AllByRecursion (IsTrueMessage what) (f.out q)
    pub stands : (t : ScopeId) (stand : FullStand) → f.stand t ≡ Some stand → IsSeen what t stand.seen
    pub ready : (t : ScopeId) (seen : ℕ → Option ℕ) → t.home.0 ≡ a → f.ready t ≡ Some seen → IsSeen what t seen

  pub true_but : (s : ScopeId) (a : ℕ) (f : FullPart) → IsTruePart a f → IsTrueBut s a f
  true_but s a f all = record { out = all.out; stands = λ t apart stand is. all.stands t stand is; ready = all.ready }

  -- what was gathered for scopes other than s is true at machine a
  pub record IsTrueOthers (s : ScopeId) (a : ℕ) (f : FullPart) : Type 0 where
    pub out : (q : ℕ) → AllByRecursion (IsTrueMessage what) (f.out q)
    pub stands : (t : ScopeId) → is_scope t s ≡ false → (stand : FullStand) → f.stand t ≡ Some stand → IsSeen what t stand.seen
    pub ready : (t : ScopeId) → is_scope t s ≡ false → (seen : ℕ → Option ℕ) → t.home.0 ≡ a → f.ready t ≡ Some seen → IsSeen what t seen

  -- and s isn't ready
  pub but_from : (s : ScopeId) (a : ℕ) (f : FullPart) → IsTrueOthers s a f → (s.home.0 ≡ a → f.ready s ≡ None) → IsTrueBut s a f
  but_from s a f others none =
      record {
        out = others.out;
        stands = others.stands;
        ready = λ t seen home is. ⊎_elim
            (λ (same : t ≡ s). absurd (none_not_some seen (sym (none (ap (λ (r : ScopeId). r.home.0) (sym same) ∙ home)) ∙ subst (λ (r : ScopeId). f.ready r ≡ Some seen) same is)))
            (λ (apart : is_scope t s ≡ false). others.ready t apart seen home is)
            (scope_cases t s);
      }

  -- nor does it stand there
  pub part_from : (s : ScopeId) (a : ℕ) (f : FullPart) → IsTrueOthers s a f → f.stand s ≡ None → (s.home.0 ≡ a → f.ready s ≡ None) → IsTruePart a f
  part_from s a f others no_stand none =
      record {
        out = others.out;
        stands = λ t stand is. ⊎_elim
            (λ (same : t ≡ s). absurd (none_not_some stand (sym no_stand ∙ subst (λ (r : ScopeId). f.stand r ≡ Some stand) same is)))
            (λ (apart : is_scope t s ≡ false). others.stands t apart stand is)
            (scope_cases t s);
        ready = (but_from s a f others none).ready;
      }

  seen_in : (t : ScopeId) (one other : ℕ → Option ℕ) → Some one ≡ Some other → IsSeen what t one → IsSeen what t other
  seen_in t one other same seen = subst (IsSeen what t) (some_same one other same) seen

  posts_true : (a : ℕ) (f : FullPart) (q : ℕ) (m : FullMessage) → IsTruePart a f → IsTrueMessage what m → IsTruePart a (posts_full q m f)
  posts_true a f q m all one =
      record {
        out = λ r. set_at-holds (λ r ms. AllByRecursion (IsTrueMessage what) ms) f.out q (f.out q ++ m ∷ []) r (each-append (IsTrueMessage what) (f.out q) (m ∷ []) (all.out q) (one, tt)) (λ off. all.out r);
        stands = all.stands;
        ready = all.ready;
      }

  ready_true : (a : ℕ) (f : FullPart) (s : ScopeId) (seen : ℕ → Option ℕ) → IsTruePart a f → IsSeen what s seen → IsTruePart a (record f { ready = set_for f.ready s (Some seen) })
  ready_true a f s seen all one =
      record {
        out = all.out;
        stands = all.stands;
        ready = λ t. set_for-holds (λ t o. (other : ℕ → Option ℕ) → t.home.0 ≡ a → o ≡ Some other → IsSeen what t other) f.ready s (Some seen)
            (λ other home is. seen_in s seen other is one) (λ t apart. all.ready t) t;
      }

  home_true : (test : Bool) (a : ℕ) (f : FullPart) (s : ScopeId) (seen : ℕ → Option ℕ) → IsTruePart a f → IsSeen what s seen → IsTruePart a (if test then record f { ready = set_for f.ready s (Some seen) } else posts_full s.home.0 (Home s seen) f)
  home_true true a f s seen all one = ready_true a f s seen all one
  home_true false a f s seen all one = posts_true a f s.home.0 (Home s seen) all one

  leaves_true : (a : ℕ) (s : ScopeId) (v : ℕ) (rest : List ℕ) (seen : ℕ → Option ℕ) (f : FullPart) → IsTruePart a f → IsSeen what s seen → IsTruePart a (leaves_full a s v rest seen f)
  leaves_true a s v (b ∷ rest) seen f all one = posts_true a f b (Gather s v rest seen) all one
  leaves_true a s v [] seen f all one = home_true (s.home.0 == a) a f s seen all one

  -- where the scope stands, or it stands nowhere
  stood_true : (a : ℕ) (s : ScopeId) (o : Option FullStand) (f : FullPart) → IsTrueBut s a f → ((stand : FullStand) → o ≡ Some stand → IsSeen what s stand.seen) → IsTruePart a (record f { stand = set_for f.stand s o })
  stood_true a s o f but one =
      record {
        out = but.out;
        stands = λ t. set_for-holds (λ t o. (stand : FullStand) → o ≡ Some stand → IsSeen what t stand.seen) f.stand s o one (λ t apart. but.stands t apart) t;
        ready = but.ready;
      }

  seeks_true : (a : ℕ) (s : ScopeId) (v : ℕ) (rest : List ℕ) (seen : ℕ → Option ℕ) (first : Option ℕ) (f : FullPart) → IsTrueBut s a f → IsSeen what s seen → IsTruePart a (seeks_full a s v rest seen first f)
  seeks_true a s v rest seen (Some x) f but one =
      let stand : FullStand = record { centre = v; lock = x; rest = rest; seen = seen } in
      let h = stood_true a s (Some stand) f but (λ other is. subst (λ (r : FullStand). IsSeen what s r.seen) (some_same stand other is) one) in
      record { out = h.out; stands = h.stands; ready = h.ready }
  seeks_true a s v rest seen None f but one =
      leaves_true a s v rest seen (record f { stand = set_for f.stand s None }) (stood_true a s None f but (λ stand is. absurd (none_not_some stand is))) one

  pub passes_true : (st : Setting) (a : ℕ) (s : ScopeId) (v k : ℕ) (rest : List ℕ) (seen : ℕ → Option ℕ) (f : FullPart) → IsTrueBut s a f → IsSeen what s seen → IsTruePart a (passes_full st a s v k rest seen f)
  passes_true st a s v k rest seen f but one = seeks_true a s v rest seen (own_from st v a k) f but one

  first_true : (test : Bool) (st : Setting) (a : ℕ) (s : ScopeId) (v b : ℕ) (rest : List ℕ) (f : FullPart) → IsTruePart a f → IsSeen what s no_numbers → IsTruePart a (if test then passes_full st a s v 0 rest no_numbers f else posts_full b (Gather s v rest no_numbers) f)
  first_true true st a s v b rest f all one = passes_true st a s v 0 rest no_numbers f (true_but s a f all) one
  first_true false st a s v b rest f all one = posts_true a f b (Gather s v rest no_numbers) all one

  pub sets_out_true : (st : Setting) (a : ℕ) (s : ScopeId) (v : ℕ) (machines : List ℕ) (f : FullPart) → IsTruePart a f → IsSeen what s no_numbers → IsTruePart a (sets_out_full st a s v machines f)
  sets_out_true st a s v [] f all one = all
  sets_out_true st a s v (b ∷ rest) f all one = first_true (b == a) st a s v b rest f all one

  pub received_true : (st : Setting) (a : ℕ) (m : FullMessage) (f : FullPart) → IsTruePart a f → IsTrueMessage what m → IsTruePart a (received_full st a m f)
  received_true st a (Gather s v rest seen) f all one = passes_true st a s v 0 rest seen f (true_but s a f all) one
  received_true st a (Home s seen) f all one = ready_true a f s seen all one
  received_true st a (Give s gift) f all one = record { out = all.out; stands = all.stands; ready = all.ready }

  -- gifts have nothing that was gathered
  pub given_out : (test : Bool) (s : ScopeId) (gift : Gift) (ms : List FullMessage) → AllByRecursion (IsTrueMessage what) ms → AllByRecursion (IsTrueMessage what) (if test then ms ++ Give s gift ∷ [] else ms)
  given_out true s gift ms all = each-append (IsTrueMessage what) ms (Give s gift ∷ []) all (tt, tt)
  given_out false s gift ms all = all

  -- ---- all parts and links

  pub record AreTrue (w : FullWorld) : Type 0 where
    pub parts : (a : ℕ) → IsTruePart a (w.part a)
    pub links : (p q : ℕ) → AllByRecursion (IsTrueMessage what) (w.link p q)

  pub gathered_is : (w : FullWorld) → AreTrue w → AreGathered w what
  gathered_is w true_all =
      record {
        messages = λ p q. each-append (IsTrueMessage what) (w.link p q) ((w.part p).out q) (true_all.links p q) ((true_all.parts p).out q);
        stands = λ a. (true_all.parts a).stands;
        ready = λ s seen is. (true_all.parts s.home.0).ready s seen refl is;
      }

  pub part_true : (w : FullWorld) (a : ℕ) (f : FullPart) → AreTrue w → IsTruePart a f → AreTrue (with_full_part w a f)
  part_true w a f all one = record { parts = λ b. set_at-holds (λ b g. IsTruePart b g) w.part a f b one (λ off. all.parts b); links = all.links }

  pub sends_true : (w : FullWorld) (p q : ℕ) (m : FullMessage) (behind : List FullMessage) → (w.part p).out q ≡ m ∷ behind → AreTrue w → AreTrue (sends_full w p q (m ∷ behind))
  sends_true w p q m behind first all =
      let h = all.parts p in
      let front = subst (AllByRecursion (IsTrueMessage what)) first (h.out q) in
      let f : FullPart = record (w.part p) { out = set_at (w.part p).out q behind } in
      let one : IsTruePart p f = record {
        out = λ r. set_at-holds (λ r ms. AllByRecursion (IsTrueMessage what) ms) (w.part p).out q behind r front.1 (λ off. h.out r);
        stands = h.stands;
        ready = h.ready;
      } in
      record {
        parts = λ b. set_at-holds (λ b g. IsTruePart b g) w.part p f b one (λ off. all.parts b);
        links = λ i j. set_two (AllByRecursion (IsTrueMessage what)) w.link p q (w.link p q ++ m ∷ []) i j
            (λ at to. each-append (IsTrueMessage what) (w.link p q) (m ∷ []) (all.links p q) (front.0, tt)) (λ off. all.links i j);
      }

  pub delivers_true : (st : Setting) (w : FullWorld) (p q : ℕ) (m : FullMessage) (behind : List FullMessage) → w.link p q ≡ m ∷ behind → AreTrue w → AreTrue (delivers_full st w p q (m ∷ behind))
  delivers_true st w p q m behind first all =
      let front = subst (AllByRecursion (IsTrueMessage what)) first (all.links p q) in
      let f : FullPart = received_full st q m (w.part q) in
      let one : IsTruePart q f = received_true st q m (w.part q) (all.parts q) front.0 in
      record {
        parts = λ b. set_at-holds (λ b g. IsTruePart b g) w.part q f b one (λ off. all.parts b);
        links = λ i j. set_two (AllByRecursion (IsTrueMessage what)) w.link p q behind i j (λ at to. front.1) (λ off. all.links i j);
      }

-- ---- another scope's numbers change

module _ (what new : ScopeId → ℕ → Option ℕ) (s : ScopeId) (others : (t : ScopeId) → is_scope t s ≡ false → (x : ℕ) → new t x ≡ what t x) where
  seen_other : (t : ScopeId) (seen : ℕ → Option ℕ) → is_scope t s ≡ false → IsSeen what t seen → IsSeen new t seen
  seen_other t seen apart one x = one x ∙ sym (others t apart x)

  messages_other : (ms : List FullMessage) → AllByRecursion (IsNoRequest s) ms → AllByRecursion (IsTrueMessage what) ms → AllByRecursion (IsTrueMessage new) ms
  messages_other [] none all = tt
  messages_other (Gather t v rest seen ∷ ms) none all = (seen_other t seen none.0 all.0, messages_other ms none.1 all.1)
  messages_other (Home t seen ∷ ms) none all = (seen_other t seen none.0 all.0, messages_other ms none.1 all.1)
  messages_other (Give t gift ∷ ms) none all = (tt, messages_other ms none.1 all.1)

  module _ (w : FullWorld) (a : ℕ) (nowhere : IsCarriedNowhere w s a) (all : AreTrue what w) where
    pub links_other : (p q : ℕ) → AllByRecursion (IsTrueMessage new) (w.link p q)
    links_other p q = messages_other (w.link p q) (each-front (IsNoRequest s) (w.link p q) ((w.part p).out q) (nowhere.messages p q)) (all.links p q)

    pub others_other : (b : ℕ) → IsTrueOthers new s b (w.part b)
    others_other b =
        let h = all.parts b in
        record {
          out = λ q. messages_other ((w.part b).out q) (each-back (IsNoRequest s) (w.link b q) ((w.part b).out q) (nowhere.messages b q)) (h.out q);
          stands = λ t apart stand is. seen_other t stand.seen apart (h.stands t stand is);
          ready = λ t apart seen home is. seen_other t seen apart (h.ready t seen home is);
        }
