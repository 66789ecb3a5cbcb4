-- Each action keeps the cluster coherent.
use Rattle.std.proofs.Common.{◌≡◌, ◌≢◌, ℕ, ◌<◌, ◌==◌, ◌&&◌, not, suc, Bool, true, false, if◌then◌else◌, Option, None, Some, unwrap_or, List, ◌∷◌, ◌++◌, refl, sym, ◌∙◌, ap, subst, ⊎_elim, eq-eqb, ne_eqb, arith}
use Rattle.std.proofs.lemmas.Bool.{cases_eq, and_from, both_ways, cond-false, and_right, or_right, false_from_ne_true, not_from_false}
use Rattle.std.specs.List.{AllByRecursion}
use Rattle.gl_base.specs.declared.entries.Entry.{Entry}
use Rattle.gl_base.specs.declared.scopes.ScopeId.{ScopeId}
use Rattle.cluster_laws.specs.cluster_core.Ranges.{set_at}
use Rattle.cluster_laws.specs.cluster_core.Scopes.{is_scope, machines_from, set_for}
use Rattle.cluster_laws.specs.cluster_core.Settings.{IsSetting, Setting, is_in_scope}
use Rattle.cluster_laws.specs.cluster_core.Stages.{Idle, Stays, flying}
use Rattle.cluster_laws.proofs.cluster_core.Basics.{same_scope, scope_cases, set_at-cases, set_at-here, set_at-holds, set_at-kept, set_at-there, set_for-holds, set_for-other, set_for-same}
use Rattle.cluster_laws.proofs.cluster_numbers.Passing.{none_not_some, some_same}
use Rattle.cluster_laws.proofs.cluster_places.Seen.{flying_seen, idle_or_busy}
use Rattle.full_scope.specs.FullStates.{after_full}
use Rattle.full_scope.specs.FullUpdates.{FullUpdate}
use Rattle.full_laws.specs.FullActions.{Admits, Delivers, FullAction, Grants, MayHappenFull, Sends, Updates, after_action, delivers_full, sends_full, updates_full}
use Rattle.full_laws.specs.FullEffects.{admitted_full, flies_full, gathers, granted_first, granted_full, lent_full, locks_full, moves_full, no_numbers, received_full, released_full, scope_of, takes_gift}
use Rattle.full_laws.specs.FullMessages.{FullMessage, Gather, Gift, Give, Home, gifts_of}
use Rattle.full_laws.specs.FullParts.{FullPart, FullStand}
use Rattle.full_laws.specs.FullPlaces.{HaveOneHolder, HoldTheirOwn, IsSeen, to_gather}
use Rattle.full_laws.specs.FullReplays.{IsFullReplay}
use Rattle.full_laws.specs.FullWorlds.{FullWorld, number_at, with_full_part}
use Rattle.full_laws.specs.Items.{AVertex, keeps, number_in}
use Rattle.full_laws.proofs.FromPlaces.{IsCarriedNowhere, IsGivenBy, IsGivenMessage, IsWaiting, first_waits, given_not_ready, given_nowhere, givens, idle_holds, ready_nowhere, shows_as}
use Rattle.full_laws.proofs.FullMaking.{its_holds, longer, made, replay_now, stays}
use Rattle.full_laws.proofs.FullQuiet.{IsQuietPart, admitted_quiet, delivers_quiet, moves_quiet, part_quiet, passes_quiet, replay_still, sends_quiet}
use Rattle.full_laws.proofs.FullTaking.{replay_taken}
use Rattle.full_laws.proofs.Gathering.{AreTrue, IsTrueOthers, IsTruePart, but_from, delivers_true, given_out, links_other, others_other, part_from, part_true, passes_true, sends_true, sets_out_true}
use Rattle.full_laws.proofs.FullWays.{set_two}
use Rattle.full_laws.proofs.MirrorSteps.{ArePlaced, action_places}

-- each scope in flight has a task
abbrev pub FlightsAreTasks : FullWorld → Type 0
FlightsAreTasks w = (s : ScopeId) (v : ℕ) → (w.part s.home.0).flight s ≡ Some v → (w.part s.home.0).task v ≡ true

-- What is kept from action to action.
pub record IsKept (st : Setting) (p : FullUpdate) (w : FullWorld) : Type 0 where
  pub placed : ArePlaced st w
  pub order : List Entry
  pub holders : HaveOneHolder w
  pub own : HoldTheirOwn st w
  pub flights : FlightsAreTasks w
  pub gathered : AreTrue (to_gather st w) w
  pub replay : IsFullReplay st p w order

-- ---- locks and flights

-- each lock that is held then was held before
fewer_holders : (w new : FullWorld) → ((b y : ℕ) (t : ScopeId) → (new.part b).holds y t ≡ true → (w.part b).holds y t ≡ true) → HaveOneHolder w → HaveOneHolder new
fewer_holders w new back one b y s t its also = one b y s t (back b y s its) (back b y t also)

same_holders : (w new : FullWorld) → ((b : ℕ) → (new.part b).holds ≡ (w.part b).holds) → HaveOneHolder w → HaveOneHolder new
same_holders w new same one = fewer_holders w new (λ b y t its. (λ k. sym (same b) k y t) ∙ its) one

-- and each is of one of the machine's vertices, as it was
fewer_own : (st : Setting) (w new : FullWorld) → ((b y : ℕ) (t : ScopeId) → (new.part b).holds y t ≡ true → (w.part b).holds y t ≡ true) → HoldTheirOwn st w → HoldTheirOwn st new
fewer_own st w new back own b y t its = own b y t (back b y t its)

same_own : (st : Setting) (w new : FullWorld) → ((b : ℕ) → (new.part b).holds ≡ (w.part b).holds) → HoldTheirOwn st w → HoldTheirOwn st new
same_own st w new same own = fewer_own st w new (λ b y t its. (λ k. sym (same b) k y t) ∙ its) own

released_less : (holds : ℕ → ScopeId → Bool) (s : ScopeId) (y : ℕ) (t : ScopeId) → released_full s holds y t ≡ true → holds y t ≡ true
released_less holds s y t = set_for-holds (λ t b. b ≡ true → holds y t ≡ true) (holds y) s false (λ its. absurd (both_ways false refl its)) (λ t apart its. its) t

same_flights : (w new : FullWorld) → ((b : ℕ) → (new.part b).flight ≡ (w.part b).flight) → ((b u : ℕ) → (w.part b).task u ≡ true → (new.part b).task u ≡ true) → FlightsAreTasks w → FlightsAreTasks new
same_flights w new same more flights s v flies = more s.home.0 v (flights s v ((λ k. sym (same s.home.0) k s) ∙ flies))

-- ---- what is to be gathered

gather_same : (h now : Bool) (n m : ℕ) → now ≡ h → (h ≡ true → m ≡ n) → (if now then Some m else None) ≡ (if h then Some n else None)
gather_same true now n m same number = ap (λ b. if b then Some m else None) same ∙ ap Some (number refl)
gather_same false now n m same number = ap (λ b. if b then Some m else None) same

to_gather-same : (st : Setting) (w new : FullWorld) (t : ScopeId) (x : ℕ) → (new.part (st.owner x)).holds x t ≡ (w.part (st.owner x)).holds x t → ((w.part (st.owner x)).holds x t ≡ true → number_at st new x ≡ number_at st w x) → to_gather st new t x ≡ to_gather st w t x
to_gather-same st w new t x holds number = gather_same ((w.part (st.owner x)).holds x t) ((new.part (st.owner x)).holds x t) (number_at st w x) (number_at st new x) holds number

-- locks and numbers are the same
still_true : (st : Setting) (w new : FullWorld) → ((b : ℕ) → (new.part b).holds ≡ (w.part b).holds) → ((b : ℕ) → (new.part b).number ≡ (w.part b).number) → AreTrue (to_gather st w) new → AreTrue (to_gather st new) new
still_true st w new holds number all =
    subst (λ what. AreTrue what new) (λ k t x. sym (to_gather-same st w new t x (λ j. holds (st.owner x) j x t) (λ its j. number (st.owner x) j (AVertex x))) k) all

module _ (st : Setting) (is : IsSetting st) (p : FullUpdate) (w : FullWorld) (kept : IsKept st p w) where
  abbrev what : ScopeId → ℕ → Option ℕ
  what = to_gather st w

  -- the vertex of a scope in flight is that of its stage
  flight_flies : (s : ScopeId) (v : ℕ) → (w.part s.home.0).flight s ≡ Some v → flying (kept.placed.stage s) ≡ Some v
  flight_flies s v flies = sym (flying_seen st s (kept.placed.stage s)) ∙ sym (shows_as st w kept.placed s (kept.placed.stage s) refl).flight ∙ flies

  -- ---- an admission

  next_idle : (a : ℕ) → kept.placed.stage (scope_of a (w.part a).serial) ≡ Idle
  next_idle a =
      let s : ScopeId = scope_of a (w.part a).serial in
      ⊎_elim
      (λ idle. idle)
      (λ busy.
      let low : s.serial < (kept.placed.core.part a).serial = kept.placed.places.admitted s busy in
      absurd (omega (arith, low, (kept.placed.mirrors.parts a).serial)))
      (idle_or_busy st s (kept.placed.stage s))

  admits_keep : (a v : ℕ) → MayHappenFull st w (Admits a v) → IsKept st p (after_action st p w (Admits a v))
  admits_keep a v may =
      let f : FullPart = w.part a in
      let s : ScopeId = scope_of a f.serial in
      let g : FullPart = admitted_full st a v f in
      let quiet : IsQuietPart (flies_full s v f) g = admitted_quiet st a v f in
      let after : FullWorld = with_full_part w a g in
      let holds : (b : ℕ) → (after.part b).holds ≡ (w.part b).holds = set_at-kept (λ (part : FullPart). part.holds) w.part a g quiet.holds in
      let number : (b : ℕ) → (after.part b).number ≡ (w.part b).number = set_at-kept (λ (part : FullPart). part.number) w.part a g quiet.number in
      let h = kept.gathered.parts a in
      let flying_true : IsTruePart what a (flies_full s v f) = record { out = h.out; stands = h.stands; ready = h.ready } in
      let nothing : IsSeen what s no_numbers = λ x. sym (ap (λ test. if test then Some (number_at st w x) else None) (idle_holds st w kept.placed s (next_idle a) x)) in
      record {
        placed = action_places st is p w kept.placed (Admits a v) may;
        order = kept.order;
        holders = same_holders w after holds kept.holders;
        own = same_own st w after holds kept.own;
        flights = λ t u. set_at-cases (λ (part : FullPart). part.flight t ≡ Some u → part.task u ≡ true) w.part a g t.home.0
            (λ at flies. (λ k. quiet.task k u) ∙
            set_for-holds (λ r o. r.home.0 ≡ a → o ≡ Some u → f.task u ≡ true) f.flight s (Some v)
            (λ home same. subst (λ x. f.task x ≡ true) (some_same v u same) may.task)
            (λ r apart home was. subst (λ b. (w.part b).task u ≡ true) home (kept.flights r u (subst (λ b. (w.part b).flight r ≡ Some u) (sym home) was)))
            t at ((λ k. sym quiet.flight k t) ∙ flies))
            (λ off. kept.flights t u);
        gathered = still_true st w after holds number (part_true what w a g kept.gathered (sets_out_true what st a s v (machines_from st v 0) (flies_full s v f) flying_true nothing));
        replay = replay_still st p w after (part_quiet w a g quiet.number quiet.task quiet.log quiet.gifts) kept.order kept.replay;
      }

  -- ---- a message goes to its link

  sends_keep : (from to : ℕ) → MayHappenFull st w (Sends from to) → IsKept st p (after_action st p w (Sends from to))
  sends_keep from to may =
      let f : FullPart = record (w.part from) { out = set_at (w.part from).out to may.behind } in
      let after : FullWorld = sends_full w from to (may.message ∷ may.behind) in
      let holds : (b : ℕ) → (after.part b).holds ≡ (w.part b).holds = set_at-kept (λ (part : FullPart). part.holds) w.part from f refl in
      let number : (b : ℕ) → (after.part b).number ≡ (w.part b).number = set_at-kept (λ (part : FullPart). part.number) w.part from f refl in
      let flight : (b : ℕ) → (after.part b).flight ≡ (w.part b).flight = set_at-kept (λ (part : FullPart). part.flight) w.part from f refl in
      let task : (b : ℕ) → (after.part b).task ≡ (w.part b).task = set_at-kept (λ (part : FullPart). part.task) w.part from f refl in
      let places = action_places st is p w kept.placed (Sends from to) may in
      subst (λ ms. ArePlaced st (sends_full w from to ms) → IsKept st p (sends_full w from to ms)) (sym may.first)
      (λ placed. record {
        placed = placed;
        order = kept.order;
        holders = same_holders w after holds kept.holders;
        own = same_own st w after holds kept.own;
        flights = same_flights w after flight (λ b u its. (λ k. task b k u) ∙ its) kept.flights;
        gathered = still_true st w after holds number (sends_true what w from to may.message may.behind may.first kept.gathered);
        replay = replay_still st p w after (sends_quiet w from to may.message may.behind may.first) kept.order kept.replay;
      }) places

  -- ---- a message that is no gift comes

  quiet_comes : (from to : ℕ) (m : FullMessage) (behind : List FullMessage) → w.link from to ≡ m ∷ behind → gifts_of (m ∷ behind) ≡ gifts_of behind → IsQuietPart (w.part to) (received_full st to m (w.part to)) → ArePlaced st (delivers_full st w from to (m ∷ behind)) → IsKept st p (delivers_full st w from to (m ∷ behind))
  quiet_comes from to m behind first none quiet placed =
      let g : FullPart = received_full st to m (w.part to) in
      let after : FullWorld = delivers_full st w from to (m ∷ behind) in
      let holds : (b : ℕ) → (after.part b).holds ≡ (w.part b).holds = set_at-kept (λ (part : FullPart). part.holds) w.part to g quiet.holds in
      let number : (b : ℕ) → (after.part b).number ≡ (w.part b).number = set_at-kept (λ (part : FullPart). part.number) w.part to g quiet.number in
      let flight : (b : ℕ) → (after.part b).flight ≡ (w.part b).flight = set_at-kept (λ (part : FullPart). part.flight) w.part to g quiet.flight in
      let task : (b : ℕ) → (after.part b).task ≡ (w.part b).task = set_at-kept (λ (part : FullPart). part.task) w.part to g quiet.task in
      record {
        placed = placed;
        order = kept.order;
        holders = same_holders w after holds kept.holders;
        own = same_own st w after holds kept.own;
        flights = same_flights w after flight (λ b u its. (λ k. task b k u) ∙ its) kept.flights;
        gathered = still_true st w after holds number (delivers_true what st w from to m behind first kept.gathered);
        replay = replay_still st p w after (delivers_quiet st w from to m behind first none quiet) kept.order kept.replay;
      }

  -- ---- a gift comes

  -- what a gift leaves of a number that its scope holds no lock of
  not_in_gift : (o : Option ℕ) (here : ℕ) → ((n : ℕ) → o ≡ Some n → ⊥) → unwrap_or o here ≡ here
  not_in_gift None here never = refl
  not_in_gift (Some n) here never = absurd (never n refl)

  gift_comes : (from to : ℕ) (s : ScopeId) (gift : Gift) (behind : List FullMessage) → w.link from to ≡ Give s gift ∷ behind → ArePlaced st (delivers_full st w from to (Give s gift ∷ behind)) → IsKept st p (delivers_full st w from to (Give s gift ∷ behind))
  gift_comes from to s gift behind first placed =
      let f : FullPart = w.part to in
      let g : FullPart = takes_gift s gift f in
      let after : FullWorld = delivers_full st w from to (Give s gift ∷ behind) in
      let given : IsGivenBy st w kept.placed to s gift = given_first from to s gift behind first in
      let flight : (b : ℕ) → (after.part b).flight ≡ (w.part b).flight = set_at-kept (λ (part : FullPart). part.flight) w.part to g refl in
      let others : (t : ScopeId) → is_scope t s ≡ false → (x : ℕ) → to_gather st after t x ≡ what t x = λ t apart x.
      to_gather-same st w after t x
      (set_at-kept (λ (part : FullPart). part.holds x t) w.part to g (set_for-other (f.holds x) s false t apart) (st.owner x))
      (λ its. set_at-cases (λ (part : FullPart). part.number (AVertex x) ≡ number_at st w x) w.part to g (st.owner x)
      (λ at. not_in_gift (gift.numbers (AVertex x)) (f.number (AVertex x)) (λ n gives.
      let same : t ≡ s = kept.holders (st.owner x) x t s its (given.locks x at (given.of.numbers (AVertex x) n gives).1) in
      both_ways (is_scope t s) apart (subst (λ (r : ScopeId). is_scope t r ≡ true) same (same_scope t)))
      ∙ ap (λ b. (w.part b).number (AVertex x)) (sym at))
      (λ off. refl)) in
      let less : (b y : ℕ) (t : ScopeId) → (after.part b).holds y t ≡ true → (w.part b).holds y t ≡ true = λ b y t.
      set_at-cases (λ (part : FullPart). part.holds y t ≡ true → (w.part b).holds y t ≡ true) w.part to g b
      (λ at its. subst (λ c. (w.part c).holds y t ≡ true) (sym at) (released_less f.holds s y t its)) (λ off its. its) in
      let nowhere : (b : ℕ) → IsCarriedNowhere w s b = λ b. given_nowhere st w kept.placed s given.centre given.to b given.stage_is in
      let not_ready = given_not_ready st w kept.placed s given.centre given.to given.stage_is in
      let part_now : (b : ℕ) → IsTruePart (to_gather st after) b (w.part b) = λ b.
      part_from (to_gather st after) s b (w.part b) (others_other what (to_gather st after) s others w b (nowhere b) kept.gathered b)
      ((nowhere (suc b)).stands b (omega arith)) (λ home. ap (λ c. (w.part c).ready s) (sym home) ∙ not_ready) in
      let link_now : (i j : ℕ) → AllByRecursion _ (w.link i j) = links_other what (to_gather st after) s others w to (nowhere to) kept.gathered in
      let front = subst (AllByRecursion _) first (link_now from to) in
      let here = part_now to in
      record {
        placed = placed;
        order = kept.order;
        holders = fewer_holders w after less kept.holders;
        own = fewer_own st w after less kept.own;
        flights = same_flights w after flight (λ b u its. set_at-cases (λ (part : FullPart). part.task u ≡ true) w.part to g b
            (λ at. or_right (gift.wakes u) (f.task u) (subst (λ c. (w.part c).task u ≡ true) at its)) (λ off. its)) kept.flights;
        gathered = record {
          parts = λ b. set_at-holds (λ c part. IsTruePart (to_gather st after) c part) w.part to g b (record { out = here.out; stands = here.stands; ready = here.ready }) (λ off. part_now b);
          links = λ i j. set_two (AllByRecursion _) w.link from to behind i j (λ at onto. front.1) (λ off. link_now i j);
        };
        replay = replay_taken st p w from to s gift behind first kept.order kept.replay;
      }
    where
      given_first : (from to : ℕ) (s : ScopeId) (gift : Gift) (behind : List FullMessage) → w.link from to ≡ Give s gift ∷ behind → IsGivenBy st w kept.placed to s gift
      given_first from to s gift behind first =
          (subst (λ l. AllByRecursion (IsGivenMessage st w kept.placed to) (l ++ (w.part from).out to)) first (givens st w kept.placed from to)).0

  comes_keeps : (from to : ℕ) (m : FullMessage) (behind : List FullMessage) → w.link from to ≡ m ∷ behind → ArePlaced st (delivers_full st w from to (m ∷ behind)) → IsKept st p (delivers_full st w from to (m ∷ behind))
  comes_keeps from to (Gather s v rest seen) behind first placed = quiet_comes from to (Gather s v rest seen) behind first refl (passes_quiet st to s v 0 rest seen (w.part to)) placed
  comes_keeps from to (Home s seen) behind first placed =
      quiet_comes from to (Home s seen) behind first refl (record { number = refl; task = refl; log = refl; flight = refl; holds = refl; gifts = λ q. refl }) placed
  comes_keeps from to (Give s gift) behind first placed = gift_comes from to s gift behind first placed

  delivers_keep : (from to : ℕ) → MayHappenFull st w (Delivers from to) → IsKept st p (after_action st p w (Delivers from to))
  delivers_keep from to may =
      subst (λ ms. ArePlaced st (delivers_full st w from to ms) → IsKept st p (delivers_full st w from to ms)) (sym may.first)
      (comes_keeps from to may.message may.behind may.first) (action_places st is p w kept.placed (Delivers from to) may)

  -- ---- a lock is granted

  grants_keep : (a x : ℕ) → MayHappenFull st w (Grants a x) → IsKept st p (after_action st p w (Grants a x))
  grants_keep a x may =
      let f : FullPart = w.part a in
      let s : ScopeId = may.scope in
      let waits : IsWaiting st w kept.placed s a x = first_waits st w kept.placed a x may in
      let stand : FullStand = waits.stand in
      let locked : FullPart = locks_full x s may.behind f in
      let g : FullPart = moves_full st a x s (Some stand) locked in
      let is_g : granted_full st a x f ≡ g = ap (λ q. granted_first st a x q f) may.first ∙ ap (λ o. moves_full st a x s o locked) waits.stands in
      let quiet : IsQuietPart locked g = moves_quiet st a x s (Some stand) locked in
      let after : FullWorld = with_full_part w a g in
      let number : (b : ℕ) → (after.part b).number ≡ (w.part b).number = set_at-kept (λ (part : FullPart). part.number) w.part a g quiet.number in
      let flight : (b : ℕ) → (after.part b).flight ≡ (w.part b).flight = set_at-kept (λ (part : FullPart). part.flight) w.part a g quiet.flight in
      let task : (b : ℕ) → (after.part b).task ≡ (w.part b).task = set_at-kept (λ (part : FullPart). part.task) w.part a g quiet.task in
      let holds_g : (y : ℕ) (t : ScopeId) → g.holds y t ≡ locked.holds y t = λ y t k. quiet.holds k y t in
      let others_hold : (y : ℕ) (t : ScopeId) → is_scope t s ≡ false → g.holds y t ≡ f.holds y t = λ y t apart.
      holds_g y t ∙ set_at-kept (λ (row : ScopeId → Bool). row t) f.holds x (set_for (f.holds x) s true) (set_for-other (f.holds x) s true t apart) y in
      let others : (t : ScopeId) → is_scope t s ≡ false → (y : ℕ) → to_gather st after t y ≡ what t y = λ t apart y.
      to_gather-same st w after t y
      (set_at-kept (λ (part : FullPart). part.holds y t) w.part a g (others_hold y t apart) (st.owner y))
      (λ its k. number (st.owner y) k (AVertex y)) in
      let nowhere = waits.elsewhere in
      let others_true : (b : ℕ) → IsTrueOthers (to_gather st after) s b (w.part b) = others_other what (to_gather st after) s others w a nowhere kept.gathered in
      let not_ready : (b : ℕ) → s.home.0 ≡ b → (w.part b).ready s ≡ None = λ b home. ap (λ c. (w.part c).ready s) (sym home) ∙ waits.not_ready in
      let h = but_from (to_gather st after) s a f (others_true a) (not_ready a) in
      let holds_x : (after.part (st.owner x)).holds x s ≡ true =
      set_at-here (λ (part : FullPart). part.holds x s) w.part a g (st.owner x) may.owned
      ∙ holds_g x s ∙ set_at-here (λ (row : ScopeId → Bool). row s) f.holds x (set_for (f.holds x) s true) x refl ∙ set_for-same (f.holds x) s true in
      let seen : IsSeen (to_gather st after) s (gathers x (f.number (AVertex x)) stand.seen) = λ y. ⊎_elim
      (λ (at : y ≡ x).
      subst (λ z. gathers x (f.number (AVertex x)) stand.seen z ≡ to_gather st after s z) (sym at)
      (ap (λ test. if test then Some (f.number (AVertex x)) else stand.seen x) (eq-eqb x x refl)
      ∙ ap Some ((λ k. (w.part (sym may.owned k)).number (AVertex x)) ∙ (λ k. sym (number (st.owner x)) k (AVertex x)))
      ∙ sym (ap (λ test. if test then Some (number_at st after x) else None) holds_x)))
      (λ (off : y ≢ x).
      let holds_y : (after.part (st.owner y)).holds y s ≡ (w.part (st.owner y)).holds y s =
      set_at-kept (λ (part : FullPart). part.holds y s) w.part a g (holds_g y s ∙ set_at-there (λ (row : ScopeId → Bool). row s) f.holds x (set_for (f.holds x) s true) y off) (st.owner y) in
      ap (λ test. if test then Some (f.number (AVertex x)) else stand.seen y) (ne_eqb y x off)
      ∙ (kept.gathered.parts a).stands s stand waits.stands y
      ∙ sym (to_gather-same st w after s y holds_y (λ its k. number (st.owner y) k (AVertex y))))
      (cases_eq y x) in
      let part_g : IsTruePart (to_gather st after) a g =
      passes_true (to_gather st after) st a s stand.centre (suc x) stand.rest (gathers x (f.number (AVertex x)) stand.seen) locked (record { out = h.out; stands = h.stands; ready = h.ready }) seen in
      let now : ArePlaced st after → IsKept st p after = λ placed. record {
        placed = placed;
        order = kept.order;
        holders = λ b y t u. set_at-cases (λ (part : FullPart). part.holds y t ≡ true → part.holds y u ≡ true → t ≡ u) w.part a g b
            (λ at its also. one_holder f x s may.free (λ z one other. kept.holders a z one other) y t u (sym (holds_g y t) ∙ its) (sym (holds_g y u) ∙ also))
            (λ off its also. kept.holders b y t u its also);
        own = λ b y t. set_at-cases (λ (part : FullPart). part.holds y t ≡ true → st.owner y ≡ b) w.part a g b
            (λ at its. own_here f x s a may.owned (λ z r one. kept.own a z r one) y t (sym (holds_g y t) ∙ its) ∙ sym at)
            (λ off its. kept.own b y t its);
        flights = same_flights w after flight (λ b u its. (λ k. task b k u) ∙ its) kept.flights;
        gathered = record {
          parts = λ b. set_at-holds (λ c part. IsTruePart (to_gather st after) c part) w.part a g b part_g
              (λ off. part_from (to_gather st after) s b (w.part b) (others_true b) (nowhere.stands b off) (not_ready b));
          links = links_other what (to_gather st after) s others w a nowhere kept.gathered;
        };
        replay = replay_still st p w after (part_quiet w a g quiet.number quiet.task quiet.log quiet.gifts) kept.order kept.replay;
      } in
      subst (λ part. ArePlaced st (with_full_part w a part) → IsKept st p (with_full_part w a part)) (sym is_g) now (action_places st is p w kept.placed (Grants a x) may)
    where
      -- the lock that is held now is of one of the machine's vertices too
      own_here : (f : FullPart) (x : ℕ) (s : ScopeId) (a : ℕ) → st.owner x ≡ a → ((z : ℕ) (r : ScopeId) → f.holds z r ≡ true → st.owner z ≡ a) → (y : ℕ) (t : ScopeId) → set_at f.holds x (set_for (f.holds x) s true) y t ≡ true → st.owner y ≡ a
      own_here f x s a owned own y t = set_at-cases (λ (row : ScopeId → Bool). row t ≡ true → st.owner y ≡ a) f.holds x (set_for (f.holds x) s true) y
          (λ at its. ap st.owner at ∙ owned)
          (λ off its. own y t its)

      -- where nobody held the lock it has one holder
      one_holder : (f : FullPart) (x : ℕ) (s : ScopeId) → ((t : ScopeId) → f.holds x t ≡ false) → ((z : ℕ) (t u : ScopeId) → f.holds z t ≡ true → f.holds z u ≡ true → t ≡ u) →
          (y : ℕ) (t u : ScopeId) → set_at f.holds x (set_for (f.holds x) s true) y t ≡ true → set_at f.holds x (set_for (f.holds x) s true) y u ≡ true → t ≡ u
      one_holder f x s free one y t u = set_at-holds (λ z row. row t ≡ true → row u ≡ true → t ≡ u) f.holds x (set_for (f.holds x) s true) y
          (λ its also. just t its ∙ sym (just u also))
          (λ off. one y t u)
        where
          just : (r : ScopeId) → set_for (f.holds x) s true r ≡ true → r ≡ s
          just r = ⊎_elim
              (λ (same : r ≡ s) its. same)
              (λ (apart : is_scope r s ≡ false) its. absurd (both_ways (f.holds x r) (free r) (sym (set_for-other (f.holds x) s true r apart) ∙ its)))
              (scope_cases r s)

  -- ---- an update

  updates_keep : (s : ScopeId) → MayHappenFull st w (Updates s) → IsKept st p (after_action st p w (Updates s))
  updates_keep s may =
      let v : ℕ = may.vertex in
      let a : ℕ = s.home.0 in
      let f : FullPart = w.part a in
      let g : FullPart = made st is p w kept.placed kept.holders kept.gathered kept.order kept.replay s v may.seen may.flight may.ready in
      let after : FullWorld = updates_full st p w s (Some v) (Some may.seen) in
      let staying : kept.placed.stage s ≡ Stays v = stays st is p w kept.placed kept.holders kept.gathered kept.order kept.replay s v may.seen may.flight may.ready in
      let mine : (x : ℕ) → is_in_scope st v x ≡ true → (w.part (st.owner x)).holds x s ≡ true = its_holds st is p w kept.placed kept.holders kept.gathered kept.order kept.replay s v may.seen may.flight may.ready in
      let others : (t : ScopeId) → is_scope t s ≡ false → (x : ℕ) → to_gather st after t x ≡ what t x = λ t apart x.
      to_gather-same st w after t x
      (set_at-kept (λ (part : FullPart). part.holds x t) w.part a g (set_for-other (f.holds x) s false t apart) (st.owner x))
      (λ its. set_at-cases (λ (part : FullPart). part.number (AVertex x) ≡ number_at st w x) w.part a g (st.owner x)
      (λ at.
      let away : is_in_scope st v x ≡ false = false_from_ne_true (is_in_scope st v x) (λ scoped.
      both_ways (is_scope t s) apart (subst (λ (r : ScopeId). is_scope t r ≡ true) (kept.holders (st.owner x) x t s its (mine x scoped)) (same_scope t))) in
      ap (λ o. unwrap_or o (f.number (AVertex x))) (cond-false (keeps st a (AVertex x) && is_in_scope st v x) (Some (number_in (after_full st.graph p (lent_full may.seen f) v) (AVertex x))) None (and_right (keeps st a (AVertex x)) (is_in_scope st v x) away))
      ∙ ap (λ b. (w.part b).number (AVertex x)) (sym at))
      (λ off. refl)) in
      let less : (b y : ℕ) (t : ScopeId) → (after.part b).holds y t ≡ true → (w.part b).holds y t ≡ true = λ b y t.
      set_at-cases (λ (part : FullPart). part.holds y t ≡ true → (w.part b).holds y t ≡ true) w.part a g b
      (λ at its. subst (λ c. (w.part c).holds y t ≡ true) (sym at) (released_less f.holds s y t its)) (λ off its. its) in
      let nowhere : (b : ℕ) → IsCarriedNowhere w s b = λ b. ready_nowhere st w kept.placed s v b staying in
      let others_true : (b : ℕ) → IsTrueOthers (to_gather st after) s b (w.part b) = λ b. others_other what (to_gather st after) s others w b (nowhere b) kept.gathered b in
      let h = others_true a in
      let stood : (b : ℕ) → (w.part b).stand s ≡ None = λ b. (nowhere (suc b)).stands b (omega arith) in
      let others_g : IsTrueOthers (to_gather st after) s a g = record {
        out = λ q. given_out (to_gather st after) _ s _ (f.out q) (h.out q);
        stands = h.stands;
        ready = λ t apart seen home is_ready. h.ready t apart seen home (sym (set_for-other f.ready s None t apart) ∙ is_ready);
      } in
      let now : ArePlaced st after → IsKept st p after = λ placed. record {
        placed = placed;
        order = longer st is p w kept.placed kept.holders kept.gathered kept.order kept.replay s v may.seen may.flight may.ready;
        holders = fewer_holders w after less kept.holders;
        own = fewer_own st w after less kept.own;
        flights = λ t u. set_at-cases (λ (part : FullPart). part.flight t ≡ Some u → part.task u ≡ true) w.part a g t.home.0
            (λ at flies. ⊎_elim
            (λ (same : t ≡ s). absurd (none_not_some u (sym (set_for-same f.flight s None) ∙ ap (set_for f.flight s None) (sym same) ∙ flies)))
            (λ (apart : is_scope t s ≡ false).
            let was : f.flight t ≡ Some u = sym (set_for-other f.flight s None t apart) ∙ flies in
            let was_home : (w.part t.home.0).flight t ≡ Some u = subst (λ b. (w.part b).flight t ≡ Some u) (sym at) was in
            let task : f.task u ≡ true = subst (λ b. (w.part b).task u ≡ true) at (kept.flights t u was_home) in
            let other : u ≢ v = λ same. both_ways (is_scope t s) apart (subst (λ (r : ScopeId). is_scope t r ≡ true)
            (kept.placed.places.single t s u (flight_flies t u was_home) (flight_flies s u (may.flight ∙ ap Some (sym same)))) (same_scope t)) in
            or_right _ (f.task u && not (u == v)) (and_from (f.task u) (not (u == v)) task (not_from_false (u == v) (ne_eqb u v other))))
            (scope_cases t s))
            (λ off. kept.flights t u);
        gathered = record {
          parts = λ b. set_at-holds (λ c part. IsTruePart (to_gather st after) c part) w.part a g b
              (part_from (to_gather st after) s a g others_g (stood a) (λ home. set_for-same f.ready s None))
              (λ off. part_from (to_gather st after) s b (w.part b) (others_true b) (stood b) (λ home. absurd (off (sym home))));
          links = links_other what (to_gather st after) s others w a (nowhere a) kept.gathered;
        };
        replay = replay_now st is p w kept.placed kept.holders kept.gathered kept.order kept.replay s v may.seen may.flight may.ready (kept.flights s v may.flight);
      } in
      subst (λ o. ArePlaced st (updates_full st p w s o (f.ready s)) → IsKept st p (updates_full st p w s o (f.ready s))) (sym may.flight)
      (subst (λ o. ArePlaced st (updates_full st p w s (Some v) o) → IsKept st p (updates_full st p w s (Some v) o)) (sym may.ready) now)
      (action_places st is p w kept.placed (Updates s) may)

  pub action_keeps : (action : FullAction) → MayHappenFull st w action → IsKept st p (after_action st p w action)
  action_keeps (Admits a v) may = admits_keep a v may
  action_keeps (Grants a x) may = grants_keep a x may
  action_keeps (Sends from to) may = sends_keep from to may
  action_keeps (Delivers from to) may = delivers_keep from to may
  action_keeps (Updates s) may = updates_keep s may
