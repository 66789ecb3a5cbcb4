-- What the places of scopes in a coherent cluster say of a machine in code.
use Rattle.std.proofs.Common.{◌≡◌, ℕ, suc, ◌+◌, ◌-◌, ◌<◌, Option, None, Some, List, [], ◌∷◌, ◌++◌, length, map, slice_get, slice_index_or, refl, sym, ◌∙◌, ap, subst, arith}
use Rattle.std.specs.List.{AllByRecursion}
use Rattle.std.specs.Option.{option_map}
use Rattle.std.proofs.lemmas.List.{length-map}
use Rattle.std.proofs.lemmas.Option.{slice_get-map, slice_get_within}
use Rattle.gl_base.specs.declared.numbers.MachineNo.{MachineNo}
use Rattle.gl_base.specs.declared.numbers.Vertex.{Vertex}
use Rattle.gl_base.specs.declared.scopes.ScopeId.{ScopeId}
use Rattle.gl_base.proofs.scope_lists.SameScope.{same_scope}
use Rattle.graph_core.specs.DataGraph.{size}
use Rattle.cluster_laws.specs.cluster_core.Scopes.{machines_from, own_from, takes_part}
use Rattle.cluster_laws.specs.cluster_core.Settings.{IsSetting, Setting}
use Rattle.cluster_laws.proofs.cluster_core.Basics.{all_passing-cons}
use Rattle.cluster_laws.proofs.cluster_core.Nearness.{is_own}
use Rattle.full_scope.specs.FullUpdates.{FullUpdate}
use Rattle.full_laws.specs.FullActions.{HasFirstFull}
use Rattle.full_laws.specs.FullEffects.{scope_of}
use Rattle.full_laws.specs.FullMessages as model
use Rattle.full_laws.specs.FullMessages.{Gift}
use Rattle.full_laws.specs.FullParts.{FullPart, FullStand}
use Rattle.full_laws.specs.FullPlaces.{GivesItsLocks, IsArrivingAt, IsStandingAt, times_among}
use Rattle.full_laws.specs.FullReplays.{IsFullCoherent}
use Rattle.full_laws.specs.FullWorlds.{FullWorld}
use Rattle.full_laws.proofs.Standing.{gather_comes, next_flight, next_stand, queued_stands, stand_is}
use Rattle.full_cluster.specs.declared.machines.FullMachine.{FullMachine}
use Rattle.full_cluster.specs.declared.machines.ScopeStand.{ScopeStand}
use Rattle.full_cluster.specs.declared.messages.FullMessage.{FullMessage}
use Rattle.full_cluster.specs.declared.messages.FullMessage.TheVariants as told
use Rattle.full_cluster.specs.declared.queues.FullQueue.{FullQueue}
use Rattle.full_cluster.specs.FullMachines.{AreStandsWithin, AskForIt, GivesWhatItHolds, IsMachineOf, IsNextNew, IsReceivable, IsStandOf, StandsAs, next_scope}
use Rattle.full_cluster.specs.FullQueues.{AreMessages, AreQueuesOf, IsFirstIn, IsMessage, seen_in}
use Rattle.full_cluster.specs.Given.{IsGift, IsWithin}
use Rattle.full_cluster.specs.ScopeMaps.{value_of}
use Rattle.full_cluster.proofs.ScopeMapLemmas.{map_none}

pub asks : (st : Setting) (p : FullUpdate) (w : FullWorld) → IsFullCoherent st p w → (x : ℕ) → AskForIt (w.part (st.owner x)) x
asks st p w kept x = λ s next.
    let many : times_among s (s ∷ next.behind) ≡ suc (times_among s next.behind) = rw (same_scope s) refl in
    let some : 0 < times_among s ((w.part (st.owner x)).queue x) =
    subst (λ (queue : List ScopeId). 0 < times_among s queue) (sym next.first) (subst (λ (n : ℕ). 0 < n) (sym many) (omega arith)) in
    queued_stands st p w kept s x some

stood_as : (st : Setting) (a : ℕ) (stand : ScopeStand) (o : Option FullStand) → StandsAs st a (Some stand) o → (standing : FullStand) × (o ≡ Some standing) × IsStandOf st a stand standing
stood_as st a stand None is = absurd is
stood_as st a stand (Some standing) is = (standing, refl, is)

no_machine_there : (b : MachineNo) → slice_get [] 0 ≡ Some b → ⊥
no_machine_there b is = cc

-- the first machine from a on that takes part is one of the cluster
machine_below : (st : Setting) (v a : ℕ) (list : List MachineNo) (b : MachineNo) → map (λ m. m.0) list ≡ machines_from st v a → slice_get list 0 ≡ Some b → b.0 < st.machines
machine_below st v a [] b is at = absurd (no_machine_there b at)
machine_below st v a (x ∷ list) b is at =
    let same : x ≡ b = cc in
    let h = all_passing-cons (takes_part st v) a (st.machines - a) x.0 (map (λ (m : MachineNo). m.0) list) (sym is) in
    let low : x.0 < st.machines = omega (arith, h.0, h.1) in
    subst (λ (m : MachineNo). m.0 < st.machines) same low

-- the vertex behind this one in the order of locks is one of the graph
vertex_below : (st : Setting) (v a place lock : ℕ) (part : List Vertex) (y : Vertex) → own_from st v a (suc lock) ≡ slice_get (map (λ x. x.0) part) (suc place) → slice_get part (place + 1) ≡ Some y → y.0 < size st.graph
vertex_below st v a place lock part y own next =
    let one : suc place ≡ place + 1 = omega arith in
    let at : slice_get (map (λ (x : Vertex). x.0) part) (place + 1) ≡ Some y.0 = slice_get-map (λ (x : Vertex). x.0) part (place + 1) ∙ ap (option_map (λ (x : Vertex). x.0)) next in
    let is : own_from st v a (suc lock) ≡ Some y.0 = own ∙ ap (slice_get (map (λ (x : Vertex). x.0) part)) one ∙ at in
    (is_own st v a (suc lock) y.0 is).1

pub stands_within : (st : Setting) (p : FullUpdate) (w : FullWorld) (m : FullMachine) → IsSetting st → IsFullCoherent st p w → IsMachineOf st m (w.part m.me.0) → length m.out.queues.items ≡ st.machines → AreStandsWithin m
stands_within st p w m is kept machine many = λ s stand at.
    let a = m.me.0 in
    let there = stood_as st a stand ((w.part a).stand s) (subst (λ (o : Option ScopeStand). StandsAs st a o ((w.part a).stand s)) at (machine.stands s)) in
    let standing : FullStand = there.0 in
    let stands : IsStandOf st a stand standing = there.2 in
    let of : IsStandingAt st s a standing = stand_is st p w kept s a standing there.1 in
    let long = length-map stand.part.items (λ (x : Vertex). x.0) in
    let inside = slice_get_within (map (λ (x : Vertex). x.0) stand.part.items) stand.place standing.lock stands.lock in
    record {
      place = omega (arith, long, inside);
      lock = λ y next. subst (λ (n : ℕ). y.0 < n) (sym machine.lock_count)
          (vertex_below st stand.centre.0 a stand.place standing.lock stand.part.items y (stands.order.next stand.place standing.lock stands.lock) next);
      next = λ b first. subst (λ (n : ℕ). b.0 < n) (sym many)
          (machine_below st standing.centre (suc a) stand.rest.items b (sym stands.rest ∙ of.rest) first);
      home = subst (λ (n : ℕ). s.home.0 < n) (sym many) (subst (λ (h : ℕ). h < st.machines) of.home (is.owner standing.centre of.vertex));
    }

-- ---- the first message of a link

front_of : (st : Setting) (items : List FullMessage) (ms : List model.FullMessage) (c : FullMessage) → AreMessages st items ms → slice_get items 0 ≡ Some c → (m : model.FullMessage) × (behind : List model.FullMessage) × (ms ≡ m ∷ behind) × IsMessage st c m
front_of st [] ms c are at = cc
front_of st (d ∷ items) ms c are at =
    let same : d ≡ c = cc in
    (are.0, are.1, are.2, subst (λ (x : FullMessage). IsMessage st x are.0) same are.3)

first_of : (st : Setting) (queues : List FullQueue) (q : ℕ) (c : FullMessage) (out : ℕ → List model.FullMessage) → AreQueuesOf st queues out → IsFirstIn queues q c → (m : model.FullMessage) × (behind : List model.FullMessage) × (out q ≡ m ∷ behind) × IsMessage st c m
first_of st [] q c out are one = let inside = one.inside in absurd (omega (arith, inside))
first_of st (x ∷ queues) q c out are one = front_of st (slice_index_or (x ∷ queues) q x).messages.items (out q) c (are.each q x one.inside) (one.first x)

not_stood : (st : Setting) (a : ℕ) (o : Option ScopeStand) → StandsAs st a o None → o ≡ None
not_stood st a None is = refl
not_stood st a (Some stand) is = absurd is

pub receivable : (st : Setting) (p : FullUpdate) (w : FullWorld) (m : FullMachine) (from : ℕ) (queues : List FullQueue) (message : FullMessage) → IsSetting st → IsFullCoherent st p w → IsMachineOf st m (w.part m.me.0) → length m.out.queues.items ≡ st.machines →
    AreQueuesOf st queues (w.link from) → IsFirstIn queues m.me.0 message → IsReceivable m message
receivable st p w m from queues (told.Gather s v rest seen) is kept machine many are one =
    let a = m.me.0 in
    let list = map (λ (b : MachineNo). b.0) rest.items in
    let first = first_of st queues a (told.Gather s v rest seen) (w.link from) are one in
    let link : w.link from a ≡ model.Gather s v.0 list (seen_in seen.items) ∷ first.1 = first.2 ∙ ap (λ (x : model.FullMessage). x ∷ first.1) first.3 in
    let of : IsArrivingAt st w s a v.0 list = gather_comes st p w kept from a s v.0 list (seen_in seen.items) first.1 link in
    record {
      centre = subst (λ (n : ℕ). v.0 < n) (sym machine.numbers.count) of.vertex;
      next = λ b at. subst (λ (n : ℕ). b.0 < n) (sym many) (machine_below st v.0 (suc a) rest.items b of.behind at);
      home = subst (λ (n : ℕ). s.home.0 < n) (sym many) (subst (λ (h : ℕ). h < st.machines) of.home (is.owner v.0 of.vertex));
      none = not_stood st a (value_of m.stands.entries.items s) (subst (λ (o : Option FullStand). StandsAs st a (value_of m.stands.entries.items s) o) of.nowhere (machine.stands s));
    }
receivable st p w m from queues (told.Home s seen) is kept machine many are one = tt
receivable st p w m from queues (told.Give s gift) is kept machine many are one =
    let first = first_of st queues m.me.0 (told.Give s gift) (w.link from) are one in
    let says : (given : Gift) × (first.0 ≡ model.Give s given) × IsGift st gift given × IsWithin (size st.graph) (length st.graph.edges) gift = first.3 in
    subst (λ (n : ℕ). IsWithin n (length m.kept.edges.items) gift) (sym machine.numbers.count)
    (subst (λ (n : ℕ). IsWithin (size st.graph) n gift) (sym machine.numbers.edge_count) says.3)

-- ---- the scope that is admitted next

pub next_new : (st : Setting) (p : FullUpdate) (w : FullWorld) (m : FullMachine) → IsFullCoherent st p w → IsMachineOf st m (w.part m.me.0) → IsNextNew m
next_new st p w m kept machine =
    let a = m.me.0 in
    let s : ScopeId = next_scope m in
    let lands : (w.part a).flight s ≡ None = subst (λ (n : ℕ). (w.part a).flight (scope_of a n) ≡ None) machine.serial (next_flight st p w kept a) in
    let away : (w.part a).stand s ≡ None = subst (λ (n : ℕ). (w.part a).stand (scope_of a n) ≡ None) machine.serial (next_stand st p w kept a a) in
    record {
      flight = map_none (λ (v : Vertex). v.0) (value_of m.flights.entries.items s) (sym (machine.flights s) ∙ lands);
      stand = not_stood st a (value_of m.stands.entries.items s) (subst (λ (o : Option FullStand). StandsAs st a (value_of m.stands.entries.items s) o) away (machine.stands s));
    }

-- ---- what is given

gives_held : (st : Setting) (part : FullPart) (m : model.FullMessage) → GivesItsLocks part m → GivesWhatItHolds st part m
gives_held st part (model.Gather s v rest seen) gives = tt
gives_held st part (model.Home s seen) gives = tt
gives_held st part (model.Give s gift) gives = λ x low holds. gives x holds

pub first_gives : (st : Setting) (p : FullUpdate) (w : FullWorld) → IsFullCoherent st p w → (from a : ℕ) (has : HasFirstFull (w.link from a)) → GivesWhatItHolds st (w.part a) has.message
first_gives st p w kept from a has =
    let all : AllByRecursion (GivesItsLocks (w.part a)) ((has.message ∷ has.behind) ++ (w.part from).out a) =
    subst (λ (ms : List model.FullMessage). AllByRecursion (GivesItsLocks (w.part a)) (ms ++ (w.part from).out a)) has.first (kept.given from a) in
    gives_held st (w.part a) has.message all.0
