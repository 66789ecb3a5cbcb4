-- What the cluster's law says of what comes to a machine is what the machine asks for.
use Rattle.std.proofs.Common.{◌≡◌, ◌≢◌, ℕ, zero, suc, ◌-◌, ◌<◌, ◌==◌, ◌&&◌, ◌||◌, Bool, true, false, not, Option, None, Some, is_some, List, slice_get, refl, sym, ap, ◌∙◌, subst, ⊎_elim, inl, inr, true≢false}
use Rattle.std.specs.List.{list_any}
use Rattle.std.specs.Option.{option_map}
use Rattle.std.proofs.lemmas.Bool.{cases_Bool, eq-eqb, eqb-true, lt-ltb, and_parts, or_cases}
use Rattle.std.proofs.lemmas.Option.{slice_get-map, same_Some}
use Rattle.gl_base.specs.declared.numbers.MachineNo.{MachineNo}
use Rattle.gl_base.specs.declared.numbers.Vertex.{Vertex}
use Rattle.gl_base.specs.declared.scopes.Mode.{Mode}
use Rattle.gl_base.specs.declared.scopes.ScopeId.{ScopeId}
use Rattle.cluster_laws.specs.cluster_core.Places.{IsAtHome}
use Rattle.cluster_laws.specs.cluster_core.Ranges.{all_passing}
use Rattle.cluster_laws.specs.cluster_core.Receiving.{MayAsk, MayBecomeReady}
use Rattle.cluster_laws.specs.cluster_core.Scopes.{is_found, machines_from, own_from, takes_part}
use Rattle.cluster_laws.specs.cluster_core.Settings.{Setting, IsSetting, is_in_scope, is_near}
use Rattle.cluster_laws.proofs.cluster_core.Nearness.{is_own as own_found, near_turned, near_within, part_low}
use Rattle.graph_core.specs.DataGraph.{size}
use Rattle.graph_core.specs.Neighbours.{neighbours_of}
use Rattle.machine_core.specs.lock_release.Released.{is_one_of}
use Rattle.machine_core.proofs.lock_release.ReleaseLemmas.{owned_where}
use Rattle.partition.specs.local_parts.Parts.{IsLocalOf, is_ghost_of, own_in_scope}
use Rattle.partition.proofs.local_parts.NearLemmas.{neighbour_passes}
use Rattle.scope_locks.specs.scope_pipe.Entered.{EnteredView}
use Rattle.scope_locks.specs.scope_pipe.Pipes.{entered_at, flight_at}
use Rattle.scope_locks.specs.vertex_locks.Tables.{holder_at}
use Rattle.machine_core.specs.declared.machine_parts.cores.Core.{Core}
use Rattle.machine_core.specs.machine_parts.Parts.{LocalView, part_of, part_at, is_own, is_placed, stand_at, lock_asked, machine_numbers, number_of}
use Rattle.machine_core.specs.machine_parts.Order.{IsOrderly}
use Rattle.machine_core.specs.machine_parts.Settings.{IsPartOf}
use Rattle.machine_core.specs.machine_scopes.Asking.{IsNewAt, AreMachinesFor, CanBecomeReady}
use Rattle.machine_core.proofs.machine_scopes.HeldLemmas.{own_in, stands_in}

-- a number that stands in such a list passes
pub passing_at : (test : ℕ → Bool) (k many i x : ℕ) → slice_get (all_passing test k many) i ≡ Some x → test x ≡ true
unfolding all_passing
passing_at test k zero i x is = absurd (none_is x is)
  where
    none_is : (x : ℕ) → None ≡ Some x → ⊥
    none_is x is = cc
passing_at test k (suc many) zero x is = ⊎_elim
    (λ (yes : test k ≡ true).
    let first : Some k ≡ Some x = rw yes at is in
    let at : k ≡ x = cc in
    subst (λ (j : ℕ). test j ≡ true) at yes)
    (λ (passed : test k ≡ false).
    let later : slice_get (all_passing test (suc k) many) 0 ≡ Some x = rw passed at is in
    passing_at test (suc k) many 0 x later)
    (cases_Bool (test k))
passing_at test k (suc many) (suc i) x is = ⊎_elim
    (λ (yes : test k ≡ true).
    let later : slice_get (all_passing test (suc k) many) i ≡ Some x = rw yes at is in
    passing_at test (suc k) many i x later)
    (λ (passed : test k ≡ false).
    let later : slice_get (all_passing test (suc k) many) (suc i) ≡ Some x = rw passed at is in
    passing_at test (suc k) many (suc i) x later)
    (cases_Bool (test k))

pub some_number : (o : Option Vertex) (v : ℕ) → number_of o ≡ Some v → o ≡ Some (record { 0 = v })
some_number None v is = absurd (none_is v is)
  where
    none_is : (v : ℕ) → None ≡ Some v → ⊥
    none_is v is = cc
some_number (Some c) v is = let same = same_Some c.0 v is in λ i. Some (record { 0 = same i })

-- the own vertices of a scope are in the scope, and own
pub part_is : (st : Setting) (l : LocalView) (v x : ℕ) → IsLocalOf st l → v < size st.graph → is_one_of (part_at l v) x ≡ true → (is_in_scope st v x ≡ true) × (st.owner x ≡ l.me.0)
part_is st l v x is low one =
    let at = stands_in (part_at l v) x one in
    let number : slice_get (own_in_scope st v l.me.0) at.0 ≡ Some x =
    ap (λ (ns : List ℕ). slice_get ns at.0) (sym (is.part v low)) ∙ slice_get-map (λ (y : Vertex). y.0) (part_at l v) at.0 ∙ ap number_of at.1 in
    let passes : (is_in_scope st v x && st.owner x == l.me.0) ≡ true = passing_at (λ y. is_in_scope st v y && st.owner y == l.me.0) 0 (size st.graph) at.0 x number in
    let both = and_parts (is_in_scope st v x) (st.owner x == l.me.0) passes in
    (both.0, eqb-true (st.owner x) l.me.0 both.1)

-- ---- word that a scope has its locks

pub word_comes : (st : Setting) (m : Core) (s : ScopeId) → IsPartOf st m → IsOrderly m → MayBecomeReady m.numbers.local.me.0 (part_of m) s
    → ((centre : Vertex) (x : ℕ) → flight_at m.pipe s ≡ Some centre → is_in_scope st centre.0 x ≡ true → st.owner x ≡ m.numbers.local.me.0 → is_some (holder_at m.locks x s) ≡ true) → CanBecomeReady m s
word_comes st m s part is may holds =
    let c : Vertex = record { 0 = may.vertex } in
    let flies = some_number (flight_at m.pipe s) may.vertex may.flight in
    let low = (own_in st m.numbers.local c.0 part.local (is.flights.own s c flies)).0 in
    record {
      centre = c;
      flight = flies;
      waits = may.ready;
      holds = λ x one. let there = part_is st m.numbers.local c.0 x part.local low one in holds c x flies there.0 there.1;
    }

-- ---- a scope that asks

mapped_some : {X Y : Type 0} (f : X → Y) (o : Option X) → is_some (option_map f o) ≡ is_some o
mapped_some f None = refl
mapped_some f (Some x) = refl

stand_some : (e : EnteredView) → is_some (stand_at (Some e)) ≡ is_some (lock_asked e)
stand_some e = mapped_some (λ (x : Vertex). record { centre = e.centre.0; lock = x.0; rest = machine_numbers e.rest }) (lock_asked e)

come_none : (m : Core) (s : ScopeId) → IsOrderly m → (o : Option EnteredView) → entered_at m.pipe s ≡ o → stand_at o ≡ None → o ≡ None
come_none m s is None at none = refl
come_none m s is (Some e) at none = absurd (true≢false (sym ((is.entered s e at).stands refl) ∙ sym (stand_some e) ∙ ap is_some none))

none_from : (o : Option Mode) → (is_some o ≡ true → o ≡ None) → o ≡ None
none_from None so = refl
none_from (Some mode) so = so refl

-- who takes part in a scope has its centre, as an own vertex or a ghost
pub centre_placed : (st : Setting) (l : LocalView) (v : ℕ) → IsSetting st → IsLocalOf st l → takes_part st v l.me.0 ≡ true → is_placed l v ≡ true
centre_placed st l v setting is takes = found (own_from st v l.me.0 0) refl takes
  where
    placed : v < size st.graph → (st.owner v == l.me.0 || is_ghost_of st l.me.0 v) ≡ true → is_placed l v ≡ true
    placed low known = is.known v ∙ ap (λ (b : Bool). b && (st.owner v == l.me.0 || is_ghost_of st l.me.0 v)) (lt-ltb v (size st.graph) low) ∙ known

    either : (b : Bool) → st.owner v == l.me.0 ≡ b → list_any (λ (u : ℕ). st.owner u == l.me.0) (neighbours_of st.graph v) ≡ true → (b || (not b && list_any (λ (u : ℕ). st.owner u == l.me.0) (neighbours_of st.graph v))) ≡ true
    either true own near = refl
    either false own near = near

    found : (o : Option ℕ) → own_from st v l.me.0 0 ≡ o → is_found o ≡ true → is_placed l v ≡ true
    found None at some = absurd (true≢false (sym some))
    found (Some x) at some =
        let own = own_found st v l.me.0 0 x at in
        ⊎_elim
        (λ (same : (x == v) ≡ true).
        let one = eqb-true x v same in
        placed (subst (λ (y : ℕ). y < size st.graph) one own.1)
        (ap (λ (b : Bool). b || is_ghost_of st l.me.0 v) (eq-eqb (st.owner v) l.me.0 (ap st.owner (sym one) ∙ own.3))))
        (λ (near : is_near st v x ≡ true).
        let low = (near_within st setting x v (sym (near_turned st v x) ∙ near)).0 in
        placed low (either (st.owner v == l.me.0) refl (neighbour_passes st.graph (λ (u : ℕ). st.owner u == l.me.0) v x own.1 near (eq-eqb (st.owner x) l.me.0 own.3))))
        (or_cases (x == v) (is_near st v x) own.2)

pub ask_is_new : (st : Setting) (m : Core) (s : ScopeId) (centre : Vertex) (rest : List ℕ) → IsSetting st → IsPartOf st m → IsOrderly m → MayAsk st m.numbers.local.me.0 (part_of m) s centre.0 rest → IsNewAt m s centre
ask_is_new st m s centre rest setting part is may = record {
  come_not = come_none m s is (entered_at m.pipe s) refl may.stand;
  holds_not = λ x. none_from (holder_at m.locks x s)
      (λ held.
      let own : is_own m.numbers.local x ≡ true = sym (is.locks.owned x) ∙ owned_where m.locks x s held in
      may.holder x (own_in st m.numbers.local x part.local own).1);
  flight = ⊎_elim
      (λ (away : s.home.0 ≢ m.numbers.local.me.0). inl (λ (home : s.home.0 ≡ m.pipe.home.0). away (home ∙ ap (λ (a : MachineNo). a.0) is.flights.home)))
      (λ (flies : (part_of m).flight s ≡ Some centre.0). inr (some_number (flight_at m.pipe s) centre.0 flies))
      may.flight;
  placed = centre_placed st m.numbers.local centre.0 setting part.local may.part_of;
}

pub ask_goes_on : (st : Setting) (m : Core) (s : ScopeId) (centre : Vertex) (rest : List MachineNo) → IsSetting st → IsPartOf st m → s.home.0 < st.machines → MayAsk st m.numbers.local.me.0 (part_of m) s centre.0 (machine_numbers rest)
    → AreMachinesFor m s rest
ask_goes_on st m s centre rest setting part home may = record {
  machines = λ i b at.
      let from = suc m.numbers.local.me.0 in
      let number : slice_get (machines_from st centre.0 from) i ≡ Some b.0 =
      ap (λ (ns : List ℕ). slice_get ns i) (sym may.rest_of) ∙ slice_get-map (λ (a : MachineNo). a.0) rest i ∙ ap (option_map (λ (a : MachineNo). a.0)) at in
      subst (λ (n : ℕ). b.0 < n) (sym part.machines) (part_low st setting centre.0 b.0 (passing_at (takes_part st centre.0) from (st.machines - from) i b.0 number));
  home = subst (λ (n : ℕ). s.home.0 < n) (sym part.machines) home;
}

pub home_within : (st : Setting) (s : ScopeId) (v : ℕ) → IsSetting st → IsAtHome st s v → s.home.0 < st.machines
home_within st s v setting at = subst (λ (k : ℕ). k < st.machines) at.owned (setting.owner v at.vertex)
