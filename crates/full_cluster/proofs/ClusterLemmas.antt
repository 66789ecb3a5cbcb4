-- A cluster after one of its machines, and one of its lists of links, have changed.
use Rattle.std.proofs.Common.{◌≡◌, ◌≢◌, ℕ, ◌+◌, ◌^◌, ◌<◌, ◌≤◌, List, [], ◌∷◌, ◌++◌, length, slice_index_or, slice_set, refl, sym, ◌∙◌, ap, subst, ⊎_elim, arith, eq-eqb, ne_eqb, get_or-set_same, get_or-set_other}
use Rattle.std.specs.List.{All}
use Rattle.std.specs.Prelude.{Err, Ok, OnErr, OnOk, Result}
use Rattle.std.proofs.Math.ListN.{length-set}
use Rattle.std.proofs.lemmas.Bool.{cases_eq, cases_lt}
use Rattle.std.proofs.lemmas.List.{get_or_default}
use Rattle.gl_base.specs.declared.numbers.MachineNo.{MachineNo}
use Rattle.gl_base.specs.scope_lists.Scopes.{set_at}
use Rattle.graph_core.specs.DataGraph.{DataGraph, size}
use Rattle.cluster_laws.specs.cluster_core.Settings.{IsSetting, Setting}
use Rattle.full_scope.specs.FullUpdates.{FullUpdate}
use Rattle.full_laws.specs.FullActions.{Admits, Delivers, FullAction, Grants, HasFirstFull, MayAdmitFull, MayGrantFull, MayHappenFull, Sends, after_action, delivers_full, sends_full}
use Rattle.full_laws.specs.FullEffects.{admitted_full, granted_full, received_full}
use Rattle.full_laws.specs.FullMessages as model
use Rattle.full_laws.specs.FullParts.{FullPart}
use Rattle.full_laws.specs.FullReplays.{IsFullCoherent}
use Rattle.full_laws.specs.FullRuns.{IsFullRun}
use Rattle.full_laws.specs.FullWorlds.{FullWorld, with_full_link, with_full_part}
use Rattle.full_laws.proofs.FullCoherence.{coherent, run_kept, start_kept}
use Rattle.full_cluster.specs.declared.admitting.FullTerms.{FullTerms}
use Rattle.full_cluster.specs.declared.divisions.Division.{Division}
use Rattle.full_cluster.specs.declared.machines.FullMachine.{FullMachine}
use Rattle.full_cluster.specs.declared.queues.FullQueues.{FullQueues}
use Rattle.full_cluster.specs.declared.clusters.FullCluster.{FullCluster}
use Rattle.full_cluster.specs.FullClusters.{AreOfWorld, HasApplied, IsCluster, IsClusterFor, IsClusterOf, IsLinkOf, IsReached, IsFullSeat, IsSettingOf, IsUnused}
use Rattle.full_cluster.specs.FullMachines.{AreScopesOnce, AskForIt, GivesWhatItHolds, HasDelivered, HasSentFrom, IsMachineOf, IsOneOf, IsSameMachine, IsSizedFor}
use Rattle.full_cluster.specs.FullQueues.{AreQueuesOf}
use Rattle.full_cluster.specs.Given.{IsDividedAs}
use Rattle.full_cluster.specs.Owners.{owner_in}
use Rattle.full_cluster.proofs.CoherentLemmas.{asks, first_gives}
use Rattle.full_cluster.proofs.QueueLemmas.{no_first}

run_more : (st : Setting) (p : FullUpdate) (actions : List FullAction) (old new : FullWorld) (action : FullAction) → IsFullRun st p old actions new → MayHappenFull st new action → IsFullRun st p old (actions ++ action ∷ []) (after_action st p new action)
run_more st p [] old new action run may = (subst (λ (w : FullWorld). MayHappenFull st w action) run may, ap (λ (w : FullWorld). after_action st p w action) run)
run_more st p (first ∷ actions) old new action run may = (run.0, run_more st p actions (after_action st p old first) new action run.1 may)

-- one more action leads on
pub reached_more : (st : Setting) (p : FullUpdate) (w : FullWorld) (action : FullAction) → IsReached st p w → MayHappenFull st w action → IsReached st p (after_action st p w action)
reached_more st p w action is may =
    record { start = is.start; actions = is.actions ++ action ∷ []; starts = is.starts; run = run_more st p is.actions is.start w action is.run may }

pub reached_coherent : (st : Setting) (p : FullUpdate) (w : FullWorld) → IsSetting st → IsReached st p w → IsFullCoherent st p w
reached_coherent st p w is reached = coherent st p w (run_kept st is p reached.actions reached.start w (start_kept st is p reached.start reached.starts) reached.run)

-- ---- one of the machines

pub seat_at : (st : Setting) (p : FullUpdate) (w : FullWorld) (machines : List FullMachine) (links : List FullQueues) (next left a : ℕ) (m : FullMachine) → AreOfWorld st p w machines links next left → a < length machines → m ≡ slice_index_or machines a m → IsFullSeat st a m (w.part a)
seat_at st p w machines links next left a m are low at = subst (λ (one : FullMachine). IsFullSeat st a one (w.part a)) (sym at) (are.seats a m low)

pub link_at : (st : Setting) (p : FullUpdate) (w : FullWorld) (machines : List FullMachine) (links : List FullQueues) (next left a : ℕ) (link : FullQueues) → AreOfWorld st p w machines links next left → a < length links → link ≡ slice_index_or links a link → IsLinkOf st link (w.link a)
link_at st p w machines links next left a link are low at = subst (λ (one : FullQueues). IsLinkOf st one (w.link a)) (sym at) (are.links_are a link low)

-- it is the machine of its own number
pub seat_own : (st : Setting) (w : FullWorld) (a : ℕ) (m : FullMachine) → IsFullSeat st a m (w.part a) → IsMachineOf st m (w.part m.me.0)
seat_own st w a m seat = subst (λ (b : ℕ). IsMachineOf st m (w.part b)) (sym seat.me) seat.is

pub seat_sized : (st : Setting) (division : Division) (a : ℕ) (m : FullMachine) (part : FullPart) → IsDividedAs st division → IsFullSeat st a m part → IsSizedFor m division.graph.now
seat_sized st division a m part divided seat =
    subst (λ (g : DataGraph). IsSizedFor m g) divided.graph
    (record { numbers = seat.is.numbers.count; edges = seat.is.numbers.edge_count; tasks = seat.is.numbers.task_count; locks = seat.is.lock_count })

pub seat_once : (st : Setting) (a : ℕ) (m : FullMachine) (part : FullPart) → IsFullSeat st a m part → AreScopesOnce m
seat_once st a m part seat = record { flights = seat.is.flights_once; stands = seat.is.stands_once; ready = seat.is.ready_once }

pub seat_one : (st : Setting) (terms : FullTerms) (a : ℕ) (m : FullMachine) (part : FullPart) → st.machines ≡ terms.machines → a < st.machines → IsFullSeat st a m part → IsOneOf m terms.machines
seat_one st terms a m part many low seat =
    subst (λ (n : ℕ). IsOneOf m n) many (record { me = subst (λ (b : ℕ). b < st.machines) (sym seat.me) low; queues = seat.queues })

-- the owners are machines of the setting
pub owners_low : (st : Setting) (division : Division) (terms : FullTerms) → IsSettingOf st division terms → All (λ (m : MachineNo). m.0 < terms.machines) division.owner.now
owners_low st division terms fits = λ v d inside.
    let divided = fits.divided in
    let long = division.owned in
    let low : v < size st.graph = subst (λ (g : DataGraph). v < size g) (sym divided.graph) (subst (λ (n : ℕ). v < n) long inside) in
    let owned : owner_in division.owner.now v < st.machines = subst (λ (f : ℕ → ℕ). f v < st.machines) divided.owners (divided.setting.owner v low) in
    subst (λ (n : ℕ). (slice_index_or division.owner.now v d).0 < n) fits.terms_are.machines
    (subst (λ (m : MachineNo). m.0 < st.machines) (get_or_default division.owner.now v (record { 0 = 0 }) d inside) owned)

-- ---- a machine and a list of links have changed

seats_set : (st : Setting) (w also : FullWorld) (machines : List FullMachine) (a : ℕ) (m : FullMachine) → a < length machines → ((k : ℕ) → k ≢ a → also.part k ≡ w.part k) → IsFullSeat st a m (also.part a) →
    ((k : ℕ) (d : FullMachine) → k < length machines → IsFullSeat st k (slice_index_or machines k d) (w.part k)) →
    (k : ℕ) (d : FullMachine) → k < length (slice_set machines a m) → IsFullSeat st k (slice_index_or (slice_set machines a m) k d) (also.part k)
seats_set st w also machines a m low same seat seats = λ k d inside. ⊎_elim
    (λ (at : k ≡ a). subst (λ (j : ℕ). IsFullSeat st j (slice_index_or (slice_set machines a m) j d) (also.part j)) (sym at)
    (subst (λ (one : FullMachine). IsFullSeat st a one (also.part a)) (sym (get_or-set_same machines a m d low)) seat))
    (λ (off : k ≢ a). let long = length-set machines a m in let early : k < length machines = omega arith in
    subst (λ (one : FullMachine). IsFullSeat st k one (also.part k)) (sym (get_or-set_other machines a k m d off))
    (subst (λ (part : FullPart). IsFullSeat st k (slice_index_or machines k d) part) (sym (same k off)) (seats k d early)))
    (cases_eq k a)

links_set : (st : Setting) (w also : FullWorld) (links : List FullQueues) (b : ℕ) (link : FullQueues) → b < length links → ((k : ℕ) → k ≢ b → also.link k ≡ w.link k) → IsLinkOf st link (also.link b) →
    ((k : ℕ) (d : FullQueues) → k < length links → IsLinkOf st (slice_index_or links k d) (w.link k)) →
    (k : ℕ) (d : FullQueues) → k < length (slice_set links b link) → IsLinkOf st (slice_index_or (slice_set links b link) k d) (also.link k)
links_set st w also links b link low same is links_are = λ k d inside. ⊎_elim
    (λ (at : k ≡ b). subst (λ (j : ℕ). IsLinkOf st (slice_index_or (slice_set links b link) j d) (also.link j)) (sym at)
    (subst (λ (one : FullQueues). IsLinkOf st one (also.link b)) (sym (get_or-set_same links b link d low)) is))
    (λ (off : k ≢ b). let long = length-set links b link in let early : k < length links = omega arith in
    subst (λ (one : FullQueues). IsLinkOf st one (also.link k)) (sym (get_or-set_other links b k link d off))
    (subst (λ (on : ℕ → List model.FullMessage). IsLinkOf st (slice_index_or links k d) on) (sym (same k off)) (links_are k d early)))
    (cases_eq k b)

unused_still : (w also : FullWorld) (k : ℕ) → also.part k ≡ w.part k → also.link k ≡ w.link k → IsUnused w k → IsUnused also k
unused_still w also k part link is =
    record {
      out = λ q. ap (λ (one : FullPart). one.out q) part ∙ is.out q;
      link = λ q. ap (λ (on : ℕ → List model.FullMessage). on q) link ∙ is.link q;
      flight = λ s. ap (λ (one : FullPart). one.flight s) part ∙ is.flight s;
    }

not_beyond : (k a n : ℕ) → n ≤ k → a < n → k ≢ a
not_beyond k a n past low = λ is. absurd (omega arith)

-- this machine alone has changed, and the tickets
pub world_of_machine : (st : Setting) (p : FullUpdate) (w also : FullWorld) (machines : List FullMachine) (links : List FullQueues) (next left drawn rest a : ℕ) (m : FullMachine) → a < length machines →
    AreOfWorld st p w machines links next left → IsReached st p also → ((k : ℕ) → k ≢ a → also.part k ≡ w.part k) → also.link ≡ w.link → also.next ≡ drawn → also.left ≡ rest → drawn + rest < 2 ^ 64 → IsFullSeat st a m (also.part a) →
    AreOfWorld st p also (slice_set machines a m) links drawn rest
world_of_machine st p w also machines links next left drawn rest a m low are reached parts way drawn_is rest_is few seat =
    let low_all : a < st.machines = subst (λ (n : ℕ). a < n) are.count low in
    record {
      reached = reached;
      count = length-set machines a m ∙ are.count;
      link_count = are.link_count;
      seats = seats_set st w also machines a m low parts seat are.seats;
      links_are = λ k d inside. subst (λ (on : ℕ → ℕ → List model.FullMessage). IsLinkOf st (slice_index_or links k d) (on k)) (sym way) (are.links_are k d inside);
      beyond = λ k past. unused_still w also k (parts k (not_beyond k a st.machines past low_all)) (ap (λ (on : ℕ → ℕ → List model.FullMessage). on k) way) (are.beyond k past);
      drawn = drawn_is;
      tickets = rest_is;
      few = few;
    }

-- this machine, and the links from that one, have changed
pub world_of_both : (st : Setting) (p : FullUpdate) (w also : FullWorld) (machines : List FullMachine) (links : List FullQueues) (next left a b : ℕ) (m : FullMachine) (link : FullQueues) → a < length machines → b < length links →
    AreOfWorld st p w machines links next left → IsReached st p also → ((k : ℕ) → k ≢ a → also.part k ≡ w.part k) → ((k : ℕ) → k ≢ b → also.link k ≡ w.link k) → also.next ≡ w.next → also.left ≡ w.left →
    IsFullSeat st a m (also.part a) → IsLinkOf st link (also.link b) → AreOfWorld st p also (slice_set machines a m) (slice_set links b link) next left
world_of_both st p w also machines links next left a b m link low from are reached parts ways drawn tickets seat is =
    let low_all : a < st.machines = subst (λ (n : ℕ). a < n) are.count low in
    let from_all : b < st.machines = subst (λ (n : ℕ). b < n) are.link_count from in
    record {
      reached = reached;
      count = length-set machines a m ∙ are.count;
      link_count = length-set links b link ∙ are.link_count;
      seats = seats_set st w also machines a m low parts seat are.seats;
      links_are = links_set st w also links b link from ways is are.links_are;
      beyond = λ k past. unused_still w also k (parts k (not_beyond k a st.machines past low_all)) (ways k (not_beyond k b st.machines past from_all)) (are.beyond k past);
      drawn = drawn ∙ are.drawn;
      tickets = tickets ∙ are.tickets;
      few = are.few;
    }

-- all is as it was
pub world_same : (st : Setting) (p : FullUpdate) (w : FullWorld) (machines : List FullMachine) (links : List FullQueues) (next left a : ℕ) (m : FullMachine) → a < length machines →
    AreOfWorld st p w machines links next left → IsFullSeat st a m (w.part a) → AreOfWorld st p w (slice_set machines a m) links next left
world_same st p w machines links next left a m low are seat = world_of_machine st p w w machines links next left next left a m low are are.reached (λ k off. refl) refl are.drawn are.tickets are.few seat

pub off_part : (w : FullWorld) (a : ℕ) (part : FullPart) (k : ℕ) → k ≢ a → (with_full_part w a part).part k ≡ w.part k
off_part w a part k off = rw (ne_eqb k a off) refl

pub at_part : (w : FullWorld) (a : ℕ) (part : FullPart) → (with_full_part w a part).part a ≡ part
at_part w a part = rw (eq-eqb a a refl) refl

-- the machine has this part now, by an action that might happen
pub world_of_part : (st : Setting) (p : FullUpdate) (w : FullWorld) (machines : List FullMachine) (links : List FullQueues) (next left a : ℕ) (m : FullMachine) (part : FullPart) → a < length machines →
    AreOfWorld st p w machines links next left → IsReached st p (with_full_part w a part) → IsFullSeat st a m part → AreOfWorld st p (with_full_part w a part) (slice_set machines a m) links next left
world_of_part st p w machines links next left a m part low are reached seat =
    world_of_machine st p w (with_full_part w a part) machines links next left next left a m low are reached (off_part w a part) refl are.drawn are.tickets are.few
    (subst (λ (one : FullPart). IsFullSeat st a m one) (sym (at_part w a part)) seat)

-- ---- what an event makes of the cluster

pub seat_still : (st : Setting) (a : ℕ) (m new : FullMachine) (part also : FullPart) → IsFullSeat st a m part → IsSameMachine m new → IsMachineOf st new also → IsFullSeat st a new also
seat_still st a m new part also seat still is = record { me = ap (λ (b : MachineNo). b.0) still.me ∙ seat.me; queues = still.machines ∙ seat.queues; is = is }

-- the machine has acted
pub acted : (st : Setting) (p : FullUpdate) (w : FullWorld) (machines : List FullMachine) (links : List FullQueues) (next left a : ℕ) (m new : FullMachine) (action : FullAction) (part : FullPart) →
    after_action st p w action ≡ with_full_part w a part → a < length machines → AreOfWorld st p w machines links next left → IsFullSeat st a m (w.part a) → IsSameMachine m new → MayHappenFull st w action → IsMachineOf st new part →
    AreOfWorld st p (after_action st p w action) (slice_set machines a new) links next left
acted st p w machines links next left a m new action part is low are seat still may new_is =
    let reached = subst (λ (x : FullWorld). IsReached st p x) is (reached_more st p w action are.reached may) in
    subst (λ (x : FullWorld). AreOfWorld st p x (slice_set machines a new) links next left) (sym is)
    (world_of_part st p w machines links next left a new part low are reached (seat_still st a m new (w.part a) part seat still new_is))

-- the machine is as it was
pub acted_not : (st : Setting) (p : FullUpdate) (w : FullWorld) (machines : List FullMachine) (links : List FullQueues) (next left a : ℕ) (m new : FullMachine) →
    a < length machines → AreOfWorld st p w machines links next left → IsFullSeat st a m (w.part a) → IsSameMachine m new → IsMachineOf st new (w.part a) → AreOfWorld st p w (slice_set machines a new) links next left
acted_not st p w machines links next left a m new low are seat still new_is =
    world_same st p w machines links next left a new low are (seat_still st a m new (w.part a) (w.part a) seat still new_is)

-- a machine that isn't there owns no vertex
pub owns_nothing : (st : Setting) (p : FullUpdate) (w : FullWorld) (machines : List FullMachine) (links : List FullQueues) (next left a v : ℕ) → IsSetting st → AreOfWorld st p w machines links next left → length machines ≤ a → v < size st.graph → st.owner v ≡ a → ⊥
owns_nothing st p w machines links next left a v setting are past low owned =
    let below = setting.owner v low in
    let many = are.count in
    absurd (omega (arith, below, many, past, owned))

pub sends_nothing : (st : Setting) (p : FullUpdate) (w : FullWorld) (machines : List FullMachine) (links : List FullQueues) (next left a q : ℕ) → AreOfWorld st p w machines links next left → st.machines ≤ a → HasFirstFull ((w.part a).out q) → ⊥
sends_nothing st p w machines links next left a q are past has = no_first ((w.part a).out q) ((are.beyond a past).out q) has

pub brings_nothing : (st : Setting) (p : FullUpdate) (w : FullWorld) (machines : List FullMachine) (links : List FullQueues) (next left a q : ℕ) → AreOfWorld st p w machines links next left → st.machines ≤ a → HasFirstFull (w.link a q) → ⊥
brings_nothing st p w machines links next left a q are past has = no_first (w.link a q) ((are.beyond a past).link q) has

-- whichever it was
pub still_cluster : {T E : Type 0} (division : Division) (terms : FullTerms) (st : Setting) (p : FullUpdate) (w : FullWorld) (action : FullAction) (c : FullCluster) (r : Result T E) → IsSettingOf st division terms → OnOk r (HasApplied st p w action c) → OnErr r (IsClusterOf st p w c) →
    IsCluster division terms c
still_cluster division terms st p w action c (Ok done) fits applied same = record { setting = st; program = p; world = after_action st p w action; fits = fits; is = applied.after }
still_cluster division terms st p w action c (Err e) fits applied same = record { setting = st; program = p; world = w; fits = fits; is = same }

-- the same where updates are made of this program
pub still_for : {T E : Type 0} (division : Division) (terms : FullTerms) (st : Setting) (p : FullUpdate) (w : FullWorld) (action : FullAction) (c : FullCluster) (r : Result T E) → IsSettingOf st division terms → OnOk r (HasApplied st p w action c) → OnErr r (IsClusterOf st p w c) →
    IsClusterFor division terms p c
still_for division terms st p w action c (Ok done) fits applied same = record { setting = st; world = after_action st p w action; fits = fits; is = applied.after }
still_for division terms st p w action c (Err e) fits applied same = record { setting = st; world = w; fits = fits; is = same }

-- it is some program
pub of_some_program : (division : Division) (terms : FullTerms) (p : FullUpdate) (c : FullCluster) → IsClusterFor division terms p c → IsCluster division terms c
of_some_program division terms p c has = record { setting = has.setting; program = p; world = has.world; fits = has.fits; is = has.is }

-- ---- each event

pub admitted : (st : Setting) (p : FullUpdate) (w : FullWorld) (machines : List FullMachine) (links : List FullQueues) (next left a v : ℕ) (m new : FullMachine) →
    a < length machines → AreOfWorld st p w machines links next left → IsFullSeat st a m (w.part a) → IsSameMachine m new → MayAdmitFull st m.me.0 v (w.part a) × IsMachineOf st new (admitted_full st m.me.0 v (w.part a)) →
    MayAdmitFull st a v (w.part a) × AreOfWorld st p (after_action st p w (Admits a v)) (slice_set machines a new) links next left
admitted st p w machines links next left a v m new low are seat still done =
    let own : MayAdmitFull st a v (w.part a) × IsMachineOf st new (admitted_full st a v (w.part a)) =
    subst (λ (b : ℕ). MayAdmitFull st b v (w.part a) × IsMachineOf st new (admitted_full st b v (w.part a))) seat.me done in
    (own.0, acted st p w machines links next left a m new (Admits a v) (admitted_full st a v (w.part a)) refl low are seat still own.0 own.1)

pub granted : (st : Setting) (p : FullUpdate) (w : FullWorld) (machines : List FullMachine) (links : List FullQueues) (next left a x : ℕ) (m new : FullMachine) →
    a < length machines → AreOfWorld st p w machines links next left → IsFullSeat st a m (w.part a) → IsSameMachine m new → MayGrantFull st m.me.0 x (w.part a) × IsMachineOf st new (granted_full st m.me.0 x (w.part a)) →
    MayGrantFull st a x (w.part a) × AreOfWorld st p (after_action st p w (Grants a x)) (slice_set machines a new) links next left
granted st p w machines links next left a x m new low are seat still done =
    let own : MayGrantFull st a x (w.part a) × IsMachineOf st new (granted_full st a x (w.part a)) =
    subst (λ (b : ℕ). MayGrantFull st b x (w.part a) × IsMachineOf st new (granted_full st b x (w.part a))) seat.me done in
    (own.0, acted st p w machines links next left a m new (Grants a x) (granted_full st a x (w.part a)) refl low are seat still own.0 own.1)

-- whoever waits first for a lock of the machine stands before it
pub asks_here : (st : Setting) (p : FullUpdate) (w : FullWorld) (a x : ℕ) → IsSetting st → IsReached st p w → st.owner x ≡ a → AskForIt (w.part a) x
asks_here st p w a x setting reached owned = subst (λ (b : ℕ). AskForIt (w.part b) x) owned (asks st p w (reached_coherent st p w setting reached) x)

-- ---- messages

off_link : (w : FullWorld) (a q : ℕ) (ms : List model.FullMessage) (k : ℕ) → k ≢ a → (with_full_link w a q ms).link k ≡ w.link k
off_link w a q ms k off = rw (ne_eqb k a off) refl

at_link : (w : FullWorld) (a q : ℕ) (ms : List model.FullMessage) → (with_full_link w a q ms).link a ≡ set_at (w.link a) q ms
at_link w a q ms = rw (eq-eqb a a refl) refl

-- a machine has this part now, and a link these messages
both_changed : (st : Setting) (p : FullUpdate) (w also : FullWorld) (machines : List FullMachine) (links : List FullQueues) (next left a b q : ℕ) (new : FullMachine) (link : FullQueues) (part : FullPart) (ms : List model.FullMessage) →
    also ≡ with_full_link (with_full_part w a part) b q ms → a < length machines → b < length links → AreOfWorld st p w machines links next left → IsReached st p also →
    IsFullSeat st a new part → IsLinkOf st link (set_at (w.link b) q ms) → AreOfWorld st p also (slice_set machines a new) (slice_set links b link) next left
both_changed st p w also machines links next left a b q new link part ms is low from are reached seat link_is =
    let after : FullWorld = with_full_link (with_full_part w a part) b q ms in
    subst (λ (x : FullWorld). AreOfWorld st p x (slice_set machines a new) (slice_set links b link) next left) (sym is)
    (world_of_both st p w after machines links next left a b new link low from are (subst (λ (x : FullWorld). IsReached st p x) is reached) (off_part w a part)
    (off_link (with_full_part w a part) b q ms) refl refl
    (subst (λ (one : FullPart). IsFullSeat st a new one) (sym (at_part w a part)) seat)
    (subst (λ (on : ℕ → List model.FullMessage). IsLinkOf st link on) (sym (at_link (with_full_part w a part) b q ms)) link_is))

sends_first : (w : FullWorld) (a q : ℕ) (messages behind : List model.FullMessage) (m : model.FullMessage) → messages ≡ m ∷ behind → sends_full w a q messages ≡ sends_full w a q (m ∷ behind)
sends_first w a q messages behind m is = ap (sends_full w a q) is

pub sent : (st : Setting) (p : FullUpdate) (w : FullWorld) (machines : List FullMachine) (links : List FullQueues) (next left a q : ℕ) (m new : FullMachine) (old_link link : FullQueues) →
    a < length machines → a < length links → AreOfWorld st p w machines links next left → IsFullSeat st a m (w.part a) → IsLinkOf st old_link (w.link a) → IsSameMachine m new → length link.queues.items ≡ length old_link.queues.items →
    HasSentFrom st new link.queues.items (w.part a) (w.link a) q → HasFirstFull ((w.part a).out q) × AreOfWorld st p (after_action st p w (Sends a q)) (slice_set machines a new) (slice_set links a link) next left
sent st p w machines links next left a q m new old_link link low from are seat link_is still count done =
    let part : FullPart = record (w.part a) { out = set_at (w.part a).out q done.first.behind } in (
      done.first,
      both_changed st p w (after_action st p w (Sends a q)) machines links next left a a q new link part (w.link a q ++ done.first.message ∷ [])
          (sends_first w a q ((w.part a).out q) done.first.behind done.first.message done.first.first) low from are (reached_more st p w (Sends a q) are.reached done.first)
          (seat_still st a m new (w.part a) part seat still done.machine) (record { count = count ∙ link_is.count; are = done.links }),
    )

-- the machine and the links are as they were
pub both_same : (st : Setting) (p : FullUpdate) (w : FullWorld) (machines : List FullMachine) (links : List FullQueues) (next left a b : ℕ) (m new : FullMachine) (old_link link : FullQueues) →
    a < length machines → b < length links → AreOfWorld st p w machines links next left → IsFullSeat st a m (w.part a) → IsLinkOf st old_link (w.link b) → IsSameMachine m new → length link.queues.items ≡ length old_link.queues.items →
    IsMachineOf st new (w.part a) × AreQueuesOf st link.queues.items (w.link b) → AreOfWorld st p w (slice_set machines a new) (slice_set links b link) next left
both_same st p w machines links next left a b m new old_link link low from are seat link_is still count same =
    world_of_both st p w w machines links next left a b new link low from are are.reached (λ k off. refl) (λ k off. refl) refl refl
    (seat_still st a m new (w.part a) (w.part a) seat still same.0) (record { count = count ∙ link_is.count; are = same.1 })

-- ---- a message is delivered

pub delivered : (st : Setting) (p : FullUpdate) (w : FullWorld) (machines : List FullMachine) (links : List FullQueues) (next left a b : ℕ) (m new : FullMachine) (old_link link : FullQueues) →
    a < length machines → b < length links → AreOfWorld st p w machines links next left → IsFullSeat st a m (w.part a) → IsLinkOf st old_link (w.link b) → IsSameMachine m new → length link.queues.items ≡ length old_link.queues.items →
    HasDelivered st new link.queues.items (w.link b) m.me.0 (w.part a) → HasFirstFull (w.link b a) × AreOfWorld st p (after_action st p w (Delivers b a)) (slice_set machines a new) (slice_set links b link) next left
delivered st p w machines links next left a b m new old_link link low from are seat link_is still count done =
    let own : HasDelivered st new link.queues.items (w.link b) a (w.part a) = subst (λ (k : ℕ). HasDelivered st new link.queues.items (w.link b) k (w.part a)) seat.me done in
    let part : FullPart = received_full st a own.first.message (w.part a) in (
      own.first,
      both_changed st p w (after_action st p w (Delivers b a)) machines links next left a b a new link part own.first.behind
          (ap (delivers_full st w b a) own.first.first) low from are (reached_more st p w (Delivers b a) are.reached own.first)
          (seat_still st a m new (w.part a) part seat still own.machine) (record { count = count ∙ link_is.count; are = own.links }),
    )

-- what the machine is given has a number of each vertex whose lock is let go with it
pub gives_here : (st : Setting) (p : FullUpdate) (w : FullWorld) (a b : ℕ) (m : FullMachine) → IsSetting st → IsReached st p w → m.me.0 ≡ a → (has : HasFirstFull (w.link b m.me.0)) → GivesWhatItHolds st (w.part a) has.message
gives_here st p w a b m setting reached me =
    subst (λ (k : ℕ). (has : HasFirstFull (w.link b k)) → GivesWhatItHolds st (w.part a) has.message) (sym me)
    (λ has. first_gives st p w (reached_coherent st p w setting reached) b a has)

some_links : (links : List FullQueues) (b : ℕ) → b < length links → FullQueues
some_links [] b low = absurd (omega (arith, low))
some_links (x ∷ links) b low = x

-- no message is on its way to a machine that isn't there
pub reaches_nothing : (st : Setting) (p : FullUpdate) (w : FullWorld) (machines : List FullMachine) (links : List FullQueues) (next left b a : ℕ) → AreOfWorld st p w machines links next left → st.machines ≤ a → HasFirstFull (w.link b a) → ⊥
reaches_nothing st p w machines links next left b a are past has = ⊎_elim
    (λ (low : b < st.machines).
    let inside : b < length links = subst (λ (n : ℕ). b < n) (sym are.link_count) low in
    let link = are.links_are b (some_links links b inside) inside in
    no_first (w.link b a) (link.are.beyond a (subst (λ (n : ℕ). n ≤ a) (sym link.count) past)) has)
    (λ (far : st.machines ≤ b). brings_nothing st p w machines links next left b a are far has)
    (cases_lt b st.machines)
