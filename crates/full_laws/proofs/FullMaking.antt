-- An update for which the numbers of its whole scope were gathered does what the next entry of the order does.
use Rattle.std.proofs.Common.{◌≡◌, ◌≢◌, ◌⊎◌, ◌↔◌, ℕ, ◌<◌, ◌==◌, ◌&&◌, ◌||◌, not, suc, pred, Bool, true, false, if◌then◌else◌, Option, None, Some, unwrap_or, length, List, [], ◌∷◌, ◌++◌, refl, sym, ◌∙◌, ap, ap₂, subst, ⊎_elim, inl, inr, append_assoc, append-nil, eq-eqb, ne_eqb, eqb-true, true≢false, arith, length-append}
use Rattle.std.specs.List.{AllByRecursion, list_any}
use Rattle.std.proofs.lemmas.Bool.{cases_eq, cases_Bool, and_from, and_right, and_parts, both_ways, or_cases, or_from, or_left, or_right, cond-true, cond-false, false_from_ne_true, not-true, not_from_false}
use Rattle.std.proofs.lemmas.List.Elements.{filter-append}
use Rattle.gl_base.specs.declared.entries.Entry.{Entry}
use Rattle.gl_base.specs.declared.entries.Entry.TheVariants.{Go}
use Rattle.gl_base.specs.declared.scopes.ScopeId.{ScopeId}
use Rattle.graph_core.specs.DataGraph.{DataEdge, size}
use Rattle.graph_core.specs.Halves.{DataHalf, halves_of}
use Rattle.graph_core.proofs.HalvesLaws.{IsHalfAt, each-append, each-back, each-front, each-weaker, halves_are}
use Rattle.update_api.specs.Near.{Near}
use Rattle.seq_run.specs.Orders.{all_tasks}
use Rattle.seq_run.specs.States.{GraphState, near_of}
use Rattle.cluster_laws.specs.cluster_core.Effects.{is_end}
use Rattle.cluster_laws.specs.cluster_core.Places.{IsAtHome}
use Rattle.cluster_laws.specs.cluster_core.Replays.{entries_of, is_of}
use Rattle.cluster_laws.specs.cluster_core.Scopes.{takes_part}
use Rattle.cluster_laws.specs.cluster_core.Settings.{IsSetting, Setting, is_in_scope, is_near, nth_edge}
use Rattle.cluster_laws.specs.cluster_core.Stages.{Ends, Stays}
use Rattle.cluster_laws.specs.cluster_cuts.Goings.{IsByOwner}
use Rattle.cluster_laws.proofs.cluster_core.Basics.{set_at-cases, set_at-here, set_at-same, set_at-there}
use Rattle.cluster_laws.proofs.cluster_core.Nearness.{owner_takes_part, scope_within, scoped_itself, scoped_near}
use Rattle.cluster_laws.proofs.cluster_cuts.CutsGoOn.{updates_from-append}
use Rattle.cluster_laws.proofs.cluster_numbers.EdgeEnds.{IsBetween, ends_near, half_between, no_half, woken_near}
use Rattle.cluster_laws.proofs.cluster_numbers.Passing.{any-either, any-left, any-right, any_one}
use Rattle.full_scope.specs.FullOrders.{full_replay, full_tasks_after, full_tasks_entry}
use Rattle.full_scope.specs.FullStates.{AgreeAround, after_full, full_start, full_wakes, seen_around}
use Rattle.full_scope.specs.FullUpdates.{FullUpdate}
use Rattle.full_scope.proofs.FullGoingOn.{full_replay_from-append, full_tasks_from-append, fully_valid-append}
use Rattle.full_scope.proofs.WithEach.{after-edge_other, after-edge_same, after-vertex_other, after-vertex_same, full_wakes-same}
use Rattle.full_laws.specs.FullEffects.{gift_for, its_numbers, lent_full, updated_full, wakes_there}
use Rattle.full_laws.specs.FullMessages.{FullMessage, Gather, Gift, Give, Home, gifts_of}
use Rattle.full_laws.specs.FullParts.{FullPart}
use Rattle.full_laws.specs.FullPlaces.{HaveOneHolder, to_gather}
use Rattle.full_laws.specs.FullReplays.{ComesTo, IsFullReplay, IsOnly, IsTaskFull, gifts_from}
use Rattle.full_laws.specs.FullWorlds.{FullWorld, full_way, number_at, with_full_part}
use Rattle.full_laws.specs.Items.{AVertex, AnEdge, IsItem, Item, is_written, keeps, number_in}
use Rattle.full_laws.proofs.FromPlaces.{IsGivenBy, IsGivenMessage, givens, ready_holds, ready_stage, stage_as}
use Rattle.full_laws.proofs.FullWays.{gifts-append}
use Rattle.full_laws.proofs.Gathering.{AreTrue}
use Rattle.full_laws.proofs.MirrorSteps.{ArePlaced}

none_where : (o : Option ℕ) → ((n : ℕ) → o ≡ Some n → ⊥) → o ≡ None
none_where None never = refl
none_where (Some n) never = absurd (never n refl)

none_any : {X : Type 0} (test : X → Bool) (xs : List X) → AllByRecursion (λ x. test x ≡ false) xs → list_any test xs ≡ false
none_any test [] all = refl
none_any test (x ∷ xs) all = or_from (test x) (list_any test xs) all.0 (none_any test xs all.1)

only_none : (n : ℕ) (o : Option ℕ) → o ≡ None → IsOnly n o
only_none n o none = subst (IsOnly n) (sym none) tt

some_not_none : (n : ℕ) (o : Option ℕ) → o ≡ Some n → o ≡ None → ⊥
some_not_none n None is none = cc
some_not_none n (Some m) is none = cc

all_if : {X : Type 0} (P : X → Type 0) (test : Bool) (x : X) → (test ≡ true → P x) → AllByRecursion P (if test then x ∷ [] else [])
all_if P true x its = (its refl, tt)
all_if P false x its = tt

of_if : {X : Type 0} (P : X → Type 0) (test : Bool) (x : X) → test ≡ true → AllByRecursion P (if test then x ∷ [] else []) → P x
of_if P true x yes_test all = all.0
of_if P false x yes_test all = absurd (both_ways false refl yes_test)

any_if : {X : Type 0} (f : X → Bool) (test : Bool) (x : X) → list_any f (if test then x ∷ [] else []) ≡ true → (test ≡ true) × (f x ≡ true)
any_if f true x some = (refl, sym (any_one f x) ∙ some)
any_if f false x some = cc

any_in : {X : Type 0} (f : X → Bool) (test : Bool) (x : X) → test ≡ true → f x ≡ true → list_any f (if test then x ∷ [] else []) ≡ true
any_in f true x yes_test passes = any_one f x ∙ passes
any_in f false x yes_test passes = absurd (both_ways false refl yes_test)

given_gifts : (test : Bool) (link out : List FullMessage) (s : ScopeId) (gift : Gift) → gifts_of (link ++ (if test then out ++ Give s gift ∷ [] else out)) ≡ gifts_of (link ++ out) ++ (if test then gift ∷ [] else [])
given_gifts true link out s gift = ap gifts_of (sym (append_assoc link out (Give s gift ∷ []))) ∙ gifts-append (link ++ out) (Give s gift ∷ [])
given_gifts false link out s gift = sym (append-nil (gifts_of (link ++ out)))

-- what lies along a half, with this number at its other end and this mark
abbrev pub near_with : DataHalf → ℕ → ℕ → Near
near_with h number mark = record { number = number; mark = mark; weight = h.weight; out = h.out; into = h.into }

pub end_is : (e : DataEdge) (v u : ℕ) → IsBetween e v u → is_end e v ≡ true
end_is e v u between = ⊎_elim
    (λ (from : (e.from ≡ v) × (e.to ≡ u)). or_left (e.from == v) (e.to == v) (eq-eqb e.from v from.0))
    (λ (to : (e.to ≡ v) × (e.from ≡ u)). or_right (e.from == v) (e.to == v) (eq-eqb e.to v to.0))
    between

no_end : (e : DataEdge) (v : ℕ) → is_end e v ≡ false → (e.from ≢ v) × (e.to ≢ v)
no_end e v none = (
  λ from. both_ways (is_end e v) none (or_left (e.from == v) (e.to == v) (eq-eqb e.from v from)),
  λ to. both_ways (is_end e v) none (or_right (e.from == v) (e.to == v) (eq-eqb e.to v to)),
)

-- ---- what an update writes

module _ (st : Setting) (is : IsSetting st) where
  ends_scoped : (e c : ℕ) → e < length st.graph.edges → is_end (nth_edge st e) c ≡ true → (is_in_scope st c (nth_edge st e).from ≡ true) × (is_in_scope st c (nth_edge st e).to ≡ true)
  ends_scoped e c low at = ⊎_elim
      (λ (from : ((nth_edge st e).from == c) ≡ true).
      let same = eqb-true (nth_edge st e).from c from in
      (or_left ((nth_edge st e).from == c) (is_near st c (nth_edge st e).from) from, scoped_near st is c (nth_edge st e).to (ends_near st is e c (nth_edge st e).to low (inl (same, refl)))))
      (λ (to : ((nth_edge st e).to == c) ≡ true).
      let same = eqb-true (nth_edge st e).to c to in
      (scoped_near st is c (nth_edge st e).from (ends_near st is e c (nth_edge st e).from low (inr (same, refl))), or_left ((nth_edge st e).to == c) (is_near st c (nth_edge st e).to) to))
      (or_cases ((nth_edge st e).from == c) ((nth_edge st e).to == c) at)

  -- A vertex whose lock a scope takes that writes the item. The machine that keeps the item owns it.
  pub its_lock : (i : Item) (b : ℕ) → IsItem st.graph i → keeps st b i ≡ true → (x : ℕ) × (st.owner x ≡ b) × ((c : ℕ) → is_written st c i ≡ true → is_in_scope st c x ≡ true)
  its_lock (AVertex x) b low kept = (x, eqb-true (st.owner x) b kept, λ c written. written)
  its_lock (AnEdge e) b low kept = ⊎_elim
      (λ (from : (st.owner (nth_edge st e).from == b) ≡ true). ((nth_edge st e).from, eqb-true (st.owner (nth_edge st e).from) b from, λ c written. (ends_scoped e c low written).0))
      (λ (to : (st.owner (nth_edge st e).to == b) ≡ true). ((nth_edge st e).to, eqb-true (st.owner (nth_edge st e).to) b to, λ c written. (ends_scoped e c low written).1))
      (or_cases (st.owner (nth_edge st e).from == b) (st.owner (nth_edge st e).to == b) kept)

  -- the home of an update keeps the edges at its vertex
  pub keeps_edge : (e v : ℕ) → is_end (nth_edge st e) v ≡ true → keeps st (st.owner v) (AnEdge e) ≡ true
  keeps_edge e v at =
      let d : DataEdge = nth_edge st e in
      ⊎_elim
      (λ (from : (d.from == v) ≡ true). or_left (st.owner d.from == st.owner v) (st.owner d.to == st.owner v) (eq-eqb (st.owner d.from) (st.owner v) (ap st.owner (eqb-true d.from v from))))
      (λ (to : (d.to == v) ≡ true). or_right (st.owner d.from == st.owner v) (st.owner d.to == st.owner v) (eq-eqb (st.owner d.to) (st.owner v) (ap st.owner (eqb-true d.to v to))))
      (or_cases (d.from == v) (d.to == v) at)

  -- it writes nothing else
  pub unwritten : (p : FullUpdate) (r : GraphState) (v : ℕ) (i : Item) → is_written st v i ≡ false → number_in (after_full st.graph p r v) i ≡ number_in r i
  unwritten p r v (AVertex x) away =
      after-vertex_other st.graph p r v x
      (λ same. both_ways (is_in_scope st v x) away (or_left (x == v) (is_near st v x) (eq-eqb x v same)))
      (each-weaker (IsHalfAt st.graph is.graph v) (λ h. x ≢ h.other)
      (λ h half same.
      let between = half_between st is v h half in
      both_ways (is_in_scope st v x) away (scoped_near st is v x (subst (λ u. is_near st v u ≡ true) (sym same) (ends_near st is h.edge v h.other between.0 between.1))))
      (halves_of st.graph v) (halves_are st.graph is.graph v))
  unwritten p r v (AnEdge e) away =
      after-edge_other st.graph p r v e
      (each-weaker (λ (h : DataHalf). h.edge ≢ e) (λ h. e ≢ h.edge) (λ h other same. other (sym same)) (halves_of st.graph v) (no_half st is v e (no_end (nth_edge st e) v away)))

module _ (st : Setting) (w : FullWorld) (placed : ArePlaced st w) where
  -- what holds of each gift of a scope that holds its locks holds of all on the way
  gifts_each : (Q : Gift → Type 0) (b : ℕ) → ((t : ScopeId) (gift : Gift) → IsGivenBy st w placed b t gift → Q gift) → (ms : List FullMessage) → AllByRecursion (IsGivenMessage st w placed b) ms → AllByRecursion Q (gifts_of ms)
  gifts_each Q b each [] all = tt
  gifts_each Q b each (Gather s v rest seen ∷ ms) all = gifts_each Q b each ms all.1
  gifts_each Q b each (Home s seen ∷ ms) all = gifts_each Q b each ms all.1
  gifts_each Q b each (Give s gift ∷ ms) all = (each s gift all.0, gifts_each Q b each ms all.1)

stays_not_ends : (v c : ℕ) (to : ℕ → Bool) → Stays v ≡ Ends c to → ⊥
stays_not_ends v c to is = cc

module _ (st : Setting) (is : IsSetting st) (p : FullUpdate) (w : FullWorld) (placed : ArePlaced st w) (one : HaveOneHolder w) (all : AreTrue (to_gather st w) w) (order : List Entry) (replay : IsFullReplay st p w order) (s : ScopeId) (v : ℕ) (seen : ℕ → Option ℕ) (flight : (w.part s.home.0).flight s ≡ Some v) (ready : (w.part s.home.0).ready s ≡ Some seen) where
  abbrev a : ℕ
  a = s.home.0

  abbrev numbers : GraphState
  numbers = full_replay st.graph p order

  abbrev lent : GraphState
  lent = lent_full seen (w.part s.home.0)

  pub stays : placed.stage s ≡ Stays v
  stays = ready_stage st w placed s v seen flight ready

  pub at_home : IsAtHome st s v
  at_home = stage_as st w placed s (Stays v) stays

  pub its_holds : (x : ℕ) → is_in_scope st v x ≡ true → (w.part (st.owner x)).holds x s ≡ true
  its_holds x scoped = ready_holds st w placed s v stays x ∙ scoped

  -- ---- while the scope is ready nothing is given that it writes

  not_given : (b : ℕ) (t : ScopeId) (gift : Gift) (given : IsGivenBy st w placed b t gift) (x : ℕ) → st.owner x ≡ b → is_in_scope st v x ≡ true → is_in_scope st given.centre x ≡ true → ⊥
  not_given b t gift given x owned mine its =
      let same : s ≡ t = one (st.owner x) x s t (its_holds x mine) (given.locks x owned its) in
      stays_not_ends v given.centre given.to (sym stays ∙ ap placed.stage same ∙ given.stage_is)

  none_given : (i : Item) (b : ℕ) → IsItem st.graph i → keeps st b i ≡ true → is_written st v i ≡ true → (q : ℕ) → AllByRecursion (λ (gift : Gift). gift.numbers i ≡ None) (gifts_from w q b)
  none_given i b low kept written q =
      let lock = its_lock st is i b low kept in
      gifts_each st w placed (λ gift. gift.numbers i ≡ None) b
      (λ t gift given. none_where (gift.numbers i) (λ n gives. not_given b t gift given lock.0 lock.1 (lock.2 v written) (lock.2 given.centre (given.of.numbers i n gives).1)))
      (full_way w q b) (givens st w placed q b)

  never_woken : (u q : ℕ) → is_in_scope st v u ≡ true → list_any (λ (gift : Gift). gift.wakes u) (gifts_from w q (st.owner u)) ≡ false
  never_woken u q scoped =
      none_any (λ (gift : Gift). gift.wakes u) (gifts_from w q (st.owner u))
      (gifts_each st w placed (λ gift. gift.wakes u ≡ false) (st.owner u)
      (λ t gift given. false_from_ne_true (gift.wakes u) (λ woken. not_given (st.owner u) t gift given u refl scoped (given.of.wakes u woken).0))
      (full_way w q (st.owner u)) (givens st w placed q (st.owner u)))

  -- ---- what is lent is what was replayed

  vertex_agrees : (x : ℕ) → is_in_scope st v x ≡ true → lent.vertex x ≡ numbers.vertex x
  vertex_agrees x scoped =
      let low = scope_within st is v x at_home.vertex scoped in
      let gathered : seen x ≡ Some (number_at st w x) = (all.parts a).ready s seen refl ready x ∙ ap (λ test. if test then Some (number_at st w x) else None) (its_holds x scoped) in
      let kept = eq-eqb (st.owner x) (st.owner x) refl in
      ap (λ o. unwrap_or o 0) gathered
      ∙ (replay.numbers (AVertex x) (st.owner x) low kept).else_here (none_given (AVertex x) (st.owner x) low kept scoped)

  kept_here : (e : ℕ) → is_end (nth_edge st e) v ≡ true → keeps st a (AnEdge e) ≡ true
  kept_here e at = subst (λ b. keeps st b (AnEdge e) ≡ true) at_home.owned (keeps_edge st is e v at)

  edge_agrees : (e : ℕ) → e < length st.graph.edges → is_end (nth_edge st e) v ≡ true → lent.edge e ≡ numbers.edge e
  edge_agrees e low at = (replay.numbers (AnEdge e) a low (kept_here e at)).else_here (none_given (AnEdge e) a low (kept_here e at) at)

  pub agree : AgreeAround st.graph lent numbers v
  agree =
      record {
        own = vertex_agrees v (scoped_itself st is v);
        near = each-weaker (IsHalfAt st.graph is.graph v) (λ h. near_of lent h ≡ near_of numbers h)
            (λ h half.
            let between = half_between st is v h half in
            ap₂ (near_with h) (vertex_agrees h.other (scoped_near st is v h.other (ends_near st is h.edge v h.other between.0 between.1))) (edge_agrees h.edge between.0 (end_is (nth_edge st h.edge) v h.other between.1)))
            (halves_of st.graph v) (halves_are st.graph is.graph v);
      }

  -- ---- one entry more

  abbrev entry : Entry
  entry = Go s.home (record { 0 = v }) w.next

  abbrev pub longer : List Entry
  longer = order ++ entry ∷ []

  abbrev pub made : FullPart
  made = updated_full st p a s v lent entry (w.part a)

  abbrev pub new : FullWorld
  new = record (with_full_part w a made) { next = suc w.next; left = pred w.left }

  abbrev left_by : GraphState
  left_by = after_full st.graph p lent v

  abbrev next_numbers : GraphState
  next_numbers = after_full st.graph p numbers v

  replay_longer : full_replay st.graph p longer ≡ next_numbers
  replay_longer = full_replay_from-append st.graph p (full_start st.graph p) order (entry ∷ [])

  tasks_longer : full_tasks_after st.graph p longer ≡ full_tasks_entry st.graph p numbers (full_tasks_after st.graph p order) entry
  tasks_longer = full_tasks_from-append st.graph p (full_start st.graph p) (all_tasks st.graph) order (entry ∷ [])

  written_same : (i : Item) → IsItem st.graph i → is_written st v i ≡ true → number_in left_by i ≡ number_in next_numbers i
  written_same (AVertex x) low written = after-vertex_same st.graph p lent numbers v agree x (vertex_agrees x written)
  written_same (AnEdge e) low written = after-edge_same st.graph p lent numbers v agree e (edge_agrees e low written)

  -- ---- what is given then

  abbrev reaches : ℕ → Bool
  reaches b = takes_part st v b && not (b == a)

  abbrev the_gift : ℕ → Gift
  the_gift b = gift_for st p lent v b

  abbrev more_if : Bool → ℕ → List Gift
  more_if test b = if test && reaches b then the_gift b ∷ [] else []

  gifts_at_home : (b : ℕ) → gifts_from new a b ≡ gifts_from w a b ++ more_if (a == a) b
  gifts_at_home b =
      ap (λ (part : FullPart). gifts_of (w.link a b ++ part.out b)) (set_at-same w.part a made)
      ∙ given_gifts (reaches b) (w.link a b) ((w.part a).out b) s (the_gift b)
      ∙ ap (λ test. gifts_from w a b ++ more_if test b) (sym (eq-eqb a a refl))

  gifts_now : (q b : ℕ) → gifts_from new q b ≡ gifts_from w q b ++ more_if (q == a) b
  gifts_now q b = ⊎_elim
      (λ (here : q ≡ a). subst (λ k. gifts_from new k b ≡ gifts_from w k b ++ more_if (k == a) b) (sym here) (gifts_at_home b))
      (λ (off : q ≢ a).
      set_at-there (λ (part : FullPart). gifts_of (w.link q b ++ part.out b)) w.part a made q off
      ∙ sym (append-nil (gifts_from w q b))
      ∙ ap (λ test. gifts_from w q b ++ more_if test b) (sym (ne_eqb q a off)))
      (cases_eq q a)

  all_now : (P : Gift → Type 0) (q b : ℕ) → AllByRecursion P (gifts_from w q b) → P (the_gift b) → AllByRecursion P (gifts_from new q b)
  all_now P q b old its =
      subst (AllByRecursion P) (sym (gifts_now q b)) (each-append P (gifts_from w q b) (more_if (q == a) b) old (all_if P ((q == a) && reaches b) (the_gift b) (λ told. its)))

  all_before : (P : Gift → Type 0) (q b : ℕ) → AllByRecursion P (gifts_from new q b) → AllByRecursion P (gifts_from w q b)
  all_before P q b every = each-front P (gifts_from w q b) (more_if (q == a) b) (subst (AllByRecursion P) (gifts_now q b) every)

  told : (b : ℕ) → reaches b ≡ true → ((a == a) && reaches b) ≡ true
  told b reached = and_from (a == a) (reaches b) (eq-eqb a a refl) reached

  its_told : (P : Gift → Type 0) (b : ℕ) → reaches b ≡ true → AllByRecursion P (gifts_from new a b) → P (the_gift b)
  its_told P b reached every =
      of_if P ((a == a) && reaches b) (the_gift b) (told b reached) (each-back P (gifts_from w a b) (more_if (a == a) b) (subst (AllByRecursion P) (gifts_now a b) every))

  -- each other machine of the scope is told
  reached_from : (b x : ℕ) → b ≢ a → st.owner x ≡ b → is_in_scope st v x ≡ true → reaches b ≡ true
  reached_from b x off owned scoped =
      and_from (takes_part st v b) (not (b == a)) (subst (λ c. takes_part st v c ≡ true) owned (owner_takes_part st is v x at_home.vertex scoped)) (not_from_false (b == a) (ne_eqb b a off))

  -- ---- numbers

  comes_unwritten : (i : Item) (b : ℕ) → is_written st v i ≡ false → ComesTo (λ q. gifts_from w q b) i ((w.part b).number i) (number_in numbers i) → ComesTo (λ q. gifts_from new q b) i ((new.part b).number i) (number_in numbers i)
  comes_unwritten i b away comes =
      let none : (c : ℕ) → its_numbers st left_by v c i ≡ None = λ c. cond-false (keeps st c i && is_written st v i) (Some (number_in left_by i)) None (and_right (keeps st c i) (is_written st v i) away) in
      record {
        given = λ q. all_now (λ gift. IsOnly (number_in numbers i) (gift.numbers i)) q b (comes.given q) (only_none (number_in numbers i) (its_numbers st left_by v b i) (none b));
        else_here = λ nothing.
            set_at-cases (λ (part : FullPart). part.number i ≡ (w.part b).number i) w.part a made b
            (λ at. ap (λ o. unwrap_or o ((w.part a).number i)) (none a) ∙ ap (λ c. (w.part c).number i) (sym at))
            (λ off. refl)
            ∙ comes.else_here (λ q. all_before (λ gift. gift.numbers i ≡ None) q b (nothing q));
      }

  comes_written : (i : Item) (b : ℕ) → IsItem st.graph i → keeps st b i ≡ true → is_written st v i ≡ true → ComesTo (λ q. gifts_from new q b) i ((new.part b).number i) (number_in next_numbers i)
  comes_written i b low kept written =
      let same = written_same i low written in
      let lock = its_lock st is i b low kept in
      let some : its_numbers st left_by v b i ≡ Some (number_in left_by i) =
      cond-true (keeps st b i && is_written st v i) (Some (number_in left_by i)) None (and_from (keeps st b i) (is_written st v i) kept written) in
      record {
        given = λ q. all_now (λ gift. IsOnly (number_in next_numbers i) (gift.numbers i)) q b
            (each-weaker (λ (gift : Gift). gift.numbers i ≡ None) (λ gift. IsOnly (number_in next_numbers i) (gift.numbers i)) (λ gift none. only_none (number_in next_numbers i) (gift.numbers i) none) (gifts_from w q b) (none_given i b low kept written q))
            (subst (IsOnly (number_in next_numbers i)) (sym some) same);
        else_here = λ nothing. set_at-cases (λ (part : FullPart). part.number i ≡ number_in next_numbers i) w.part a made b
            (λ at. ap (λ o. unwrap_or o ((w.part a).number i)) (subst (λ c. its_numbers st left_by v c i ≡ Some (number_in left_by i)) at some) ∙ same)
            (λ off. absurd (some_not_none (number_in left_by i) (its_numbers st left_by v b i) some (its_told (λ gift. gift.numbers i ≡ None) b (reached_from b lock.0 off lock.1 (lock.2 v written)) (nothing a))));
      }

  numbers_now : (i : Item) (b : ℕ) → IsItem st.graph i → keeps st b i ≡ true → ComesTo (λ q. gifts_from new q b) i ((new.part b).number i) (number_in (full_replay st.graph p longer) i)
  numbers_now i b low kept =
      subst (ComesTo (λ q. gifts_from new q b) i ((new.part b).number i)) (sym (ap (λ r. number_in r i) replay_longer)) (⊎_elim
      (λ (written : is_written st v i ≡ true). comes_written i b low kept written)
      (λ (away : is_written st v i ≡ false).
      subst (ComesTo (λ q. gifts_from new q b) i ((new.part b).number i)) (sym (unwritten st is p numbers v i away)) (comes_unwritten i b away (replay.numbers i b low kept)))
      (cases_Bool (is_written st v i)))

  -- ---- tasks

  abbrev wakes_u : ℕ → Gift → Bool
  wakes_u u gift = gift.wakes u

  wakes_same : (u : ℕ) → full_wakes st.graph p lent v u ≡ full_wakes st.graph p numbers v u
  wakes_same u = full_wakes-same st.graph p lent numbers v agree u

  woken_scoped : (u : ℕ) → full_wakes st.graph p lent v u ≡ true → is_in_scope st v u ≡ true
  woken_scoped u woken = scoped_near st is v u (woken_near st is (p.woken (seen_around st.graph lent v)) v u woken)

  woken_comes : (u : ℕ) → full_wakes st.graph p lent v u ≡ true → IsTaskFull st new u
  woken_comes u woken = ⊎_elim
      (λ (here : st.owner u ≡ a).
      inl (set_at-here (λ (part : FullPart). part.task u) w.part a made (st.owner u) here
      ∙ or_left (wakes_there st p lent v a u) ((w.part a).task u && not (u == v)) (and_from (st.owner u == a) (full_wakes st.graph p lent v u) (eq-eqb (st.owner u) a here) woken)))
      (λ (off : st.owner u ≢ a).
      let reached = reached_from (st.owner u) u off refl (woken_scoped u woken) in
      inr (
        a,
        ap (list_any (wakes_u u)) (gifts_now a (st.owner u))
            ∙ any-right (wakes_u u) (gifts_from w a (st.owner u)) (more_if (a == a) (st.owner u))
            (any_in (wakes_u u) ((a == a) && reaches (st.owner u)) (the_gift (st.owner u)) (told (st.owner u) reached)
            (and_from (st.owner u == st.owner u) (full_wakes st.graph p lent v u) (eq-eqb (st.owner u) (st.owner u) refl) woken)),
      ))
      (cases_eq (st.owner u) a)

  kept_task : (u : ℕ) → u ≢ v → IsTaskFull st w u → IsTaskFull st new u
  kept_task u other task = ⊎_elim
      (λ (here : (w.part (st.owner u)).task u ≡ true). inl (set_at-cases (λ (part : FullPart). part.task u ≡ true) w.part a made (st.owner u)
      (λ at. or_right (wakes_there st p lent v a u) ((w.part a).task u && not (u == v))
      (and_from ((w.part a).task u) (not (u == v)) (subst (λ j. (w.part j).task u ≡ true) at here) (not_from_false (u == v) (ne_eqb u v other))))
      (λ off. here)))
      (λ (coming : (q : ℕ) × (list_any (wakes_u u) (gifts_from w q (st.owner u)) ≡ true)).
      inr (coming.0, ap (list_any (wakes_u u)) (gifts_now coming.0 (st.owner u)) ∙ any-left (wakes_u u) (gifts_from w coming.0 (st.owner u)) (more_if (coming.0 == a) (st.owner u)) coming.1))
      task

  abbrev IsWokenOrOld : ℕ → Type 0
  IsWokenOrOld u = (full_wakes st.graph p lent v u ≡ true) ⊎ ((u ≢ v) × IsTaskFull st w u)

  task_from : (u : ℕ) → IsTaskFull st new u → IsWokenOrOld u
  task_from u task = ⊎_elim
      (λ (here : (new.part (st.owner u)).task u ≡ true). ⊎_elim
      (λ (same : st.owner u ≡ a). ⊎_elim
      (λ (woken : wakes_there st p lent v a u ≡ true). inl (and_parts (st.owner u == a) (full_wakes st.graph p lent v u) woken).1)
      (λ (old : ((w.part a).task u && not (u == v)) ≡ true).
      let both = and_parts ((w.part a).task u) (not (u == v)) old in
      inr (λ its. true≢false (sym (eq-eqb u v its) ∙ not-true (u == v) both.1), inl (subst (λ j. (w.part j).task u ≡ true) (sym same) both.0)))
      (or_cases (wakes_there st p lent v a u) ((w.part a).task u && not (u == v)) (sym (set_at-here (λ (part : FullPart). part.task u) w.part a made (st.owner u) same) ∙ here)))
      (λ (off : st.owner u ≢ a). inr (λ its. off (ap st.owner its ∙ at_home.owned), inl (sym (set_at-there (λ (part : FullPart). part.task u) w.part a made (st.owner u) off) ∙ here)))
      (cases_eq (st.owner u) a))
      (λ (coming : (q : ℕ) × (list_any (wakes_u u) (gifts_from new q (st.owner u)) ≡ true)). ⊎_elim
      (λ (was : list_any (wakes_u u) (gifts_from w coming.0 (st.owner u)) ≡ true).
      inr (λ its. true≢false (sym was ∙ never_woken u coming.0 (subst (λ x. is_in_scope st v x ≡ true) (sym its) (scoped_itself st is v))), inr (coming.0, was)))
      (λ (now : list_any (wakes_u u) (more_if (coming.0 == a) (st.owner u)) ≡ true).
      let its = any_if (wakes_u u) ((coming.0 == a) && reaches (st.owner u)) (the_gift (st.owner u)) now in
      inl (and_parts (st.owner u == st.owner u) (full_wakes st.graph p lent v u) its.1).1)
      (any-either (wakes_u u) (gifts_from w coming.0 (st.owner u)) (more_if (coming.0 == a) (st.owner u)) (sym (ap (list_any (wakes_u u)) (gifts_now coming.0 (st.owner u))) ∙ coming.1)))
      task

  tasks_now : (u : ℕ) → u < size st.graph → (full_tasks_after st.graph p longer u ≡ true) ↔ IsTaskFull st new u
  tasks_now u low =
      let before : Bool = full_tasks_after st.graph p order u in
      let woken : Bool = full_wakes st.graph p numbers v u in
      let is_so : full_tasks_after st.graph p longer u ≡ (woken || (before && not (u == v))) = λ k. tasks_longer k u in (
        (λ task. ⊎_elim
            (λ (yes_woken : woken ≡ true). woken_comes u (wakes_same u ∙ yes_woken))
            (λ (old : (before && not (u == v)) ≡ true).
            let both = and_parts before (not (u == v)) old in
            kept_task u (λ same. true≢false (sym (eq-eqb u v same) ∙ not-true (u == v) both.1)) ((replay.tasks u low).0 both.0))
            (or_cases woken (before && not (u == v)) (sym is_so ∙ task))),
        (λ task. is_so ∙ ⊎_elim
            (λ (yes_woken : full_wakes st.graph p lent v u ≡ true). or_left woken (before && not (u == v)) (sym (wakes_same u) ∙ yes_woken))
            (λ (old : (u ≢ v) × IsTaskFull st w u).
            or_right woken (before && not (u == v)) (and_from before (not (u == v)) ((replay.tasks u low).1 old.1) (not_from_false (u == v) (ne_eqb u v old.0))))
            (task_from u task)),
      )

  -- ---- the order

  logs_now : (b : ℕ) → (new.part b).log ≡ entries_of b longer
  logs_now b = set_at-cases (λ (part : FullPart). part.log ≡ entries_of b longer) w.part a made b
      (λ same. ap (λ l. l ++ entry ∷ []) (ap (λ j. (w.part j).log) (sym same) ∙ replay.logs b)
      ∙ sym (filter-append (is_of b) order (entry ∷ []) ∙ ap (λ l. entries_of b order ++ l) (cond-true (a == b) (entry ∷ []) [] (eq-eqb a b (sym same)))))
      (λ other. replay.logs b ∙ sym (filter-append (is_of b) order (entry ∷ [])
      ∙ ap (λ l. entries_of b order ++ l) (cond-false (a == b) (entry ∷ []) [] (ne_eqb a b (λ same. other (sym same)))) ∙ append-nil (entries_of b order)))

  pub replay_now : (w.part s.home.0).task v ≡ true → IsFullReplay st p new longer
  replay_now task =
      record {
        valid = fully_valid-append st.graph p (full_start st.graph p) (all_tasks st.graph) order (entry ∷ []) replay.valid
            ((replay.tasks v at_home.vertex).1 (inl (subst (λ b. (w.part b).task v ≡ true) (sym at_home.owned) task)), tt);
        logs = logs_now;
        tickets = updates_from-append 0 order (entry ∷ []) replay.tickets (omega (arith, replay.drawn), tt);
        drawn = omega (arith, replay.drawn, length-append order (entry ∷ []));
        owners = each-append (IsByOwner st.owner) order (entry ∷ []) replay.owners (sym at_home.owned, tt);
        numbers = numbers_now;
        tasks = tasks_now;
      }
