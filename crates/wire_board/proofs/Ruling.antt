-- What each step of a machine's seat owes the rule.
use Rattle.std.proofs.Common.{List, [], ⊎_elim, ap, arith, length, map, pred, subst, suc, sym, ◌<◌, ◌++◌, ◌∙◌, ◌∷◌, ◌≡◌, ℕ}
use Rattle.std.specs.Prelude.{slice_set}
use Rattle.std.specs.Vec.{with_item}
use mathlib.Core.Option.{some, some-injective}
use lib.ListN.{get_elem?}
use Rattle.gl_base.specs.declared.numbers.Vertex.{Vertex}
use Rattle.gl_base.specs.declared.scopes.ScopeId.{ScopeId}
use Rattle.coordinator.proofs.coord_core.LeadLemmas.{FirstCall, first_call}
use Rattle.link_tables.specs.Rule.{Carries, CarriesLink, CarriesTicket, Learnt}
use Rattle.cluster_step.proofs.clusters.LinkLemmas.{has_link}
use Rattle.cluster_step.proofs.clusters.Making.{machine_here}
use Rattle.cluster_step.specs.clusters.Clusters.{AreCalls, messages_on}
use Rattle.cluster_step.specs.clusters.Inner.Writing.{HaveLinks, with_link_between}
use Rattle.cluster_step.specs.clusters.Links.{message_read}
use Rattle.coordinator.specs.machine_api.Promises.{CanUpdate, HasHeard, IsReporting, MessageView, OfEach, StandsStill, message_view}
use Rattle.wire_board.proofs.Deeds.{begins_at_once_goes, begins_goes, comes_goes}
use Rattle.wire_board.proofs.Goings.{goes_on_then}
use Rattle.wire_board.proofs.Holding.{held_link, held_machine, held_ticket, here_is, inside, is_low}
use Rattle.wire_board.proofs.Messages.{hears_goes, tells_goes}
use Rattle.wire_board.proofs.Singles.{call_heard_goes, report_told_goes, still_goes}
use Rattle.wire_board.specs.Freeing.{IsFree}
use Rattle.wire_board.specs.Going.{FailureAt, GoesOn, Machine, Parts, Setting}
use Rattle.wire_board.specs.Hearing.{CanHear, HasHeardAll, HasHeardFirst, HasToldAll, HasToldFirst, MayHearFirst}
use Rattle.wire_board.specs.Led.{HoldParts, HasBeenLed, IsMachineAt, Learns, LinkView, Node, Seated, Standing, link_between, link_no, number_of}
use Rattle.wire_board.specs.Standings.{CanBeginAtOnce, HasComeTo, Member, StandsOwing, at_rest, owing, owing_at_once}
use Rattle.wire.specs.declared.wire_msgs.messages.Message.{Message}

under : (x y : ℕ) → x < y → x < suc y
under x y less = omega arith

self_under : (x : ℕ) → x < suc x
self_under x = omega arith

module _ {M : Type 0} (represents : Setting → ℕ → Machine → M → Type 0) (failures : List FailureAt) (done : List ℕ) (opening : Parts (Standing M)) (n : ℕ) where
  abbrev Led : List (Seated M) → List LinkView → ℕ → ℕ → Type 0
  Led = HasBeenLed represents failures done opening n

  -- the parts go on to others
  pub led_on : (parts : List (Seated M)) (links : List LinkView) (next left : ℕ) (led : Led parts links next left) (new : Parts (Standing M)) → GoesOn (StandsOwing represents) failures done led.now new
      → (parts' : List (Seated M)) (links' : List LinkView) (next' left' : ℕ) → HoldParts n new parts' links' next' left' → Led parts' links' next' left'
  led_on parts links next left led new goes parts' links' next' left' held = record {
    now = new;
    held = held;
    goes = goes_on_then (StandsOwing represents) failures done opening led.now new led.goes goes;
    setting = led.setting;
    cluster = (goes led.setting led.cluster led.snaps led.stood).later;
    snaps = led.snaps;
    stood = (goes led.setting led.cluster led.snaps led.stood).code;
  }

  -- ---- it has done something by itself

  module _ (x : Standing M) (z : Member M) (number : z.number ≡ x.member.number) (peers : z.peers ≡ x.member.peers) (come : HasComeTo represents x z.machine) where
    pub carries : Carries number_of Led (Node x) (Node (at_rest z))
    carries parts links next left there led =
        let h = led.held in
        let a : ℕ = x.member.number in
        let is : IsMachineAt n led.now a (Node x) = here_is n led.now parts links next left h a x there in
        led_on parts links next left led _ (comes_goes represents failures done led.now a (inside n led.now parts links next left h a x there) (h.awake a) h.runs x is.2 z come)
        (slice_set parts a (Node (at_rest z))) links next left
        (held_machine n led.now parts links next left h a (at_rest z) (is_low n led.now parts links next left h a x there) number (peers ∙ is.1))

    -- it has drawn a ticket
    module _ (free : IsFree represents failures done z.machine x.member.number) (ticket : ℕ) where
      pub draws : (s : ScopeId) → CanUpdate represents z.machine s → CarriesTicket number_of Led ticket (Node x) (Node (owing z s ticket))
      draws s can parts links left there some_left led =
          let h = led.held in
          let a : ℕ = x.member.number in
          let is : IsMachineAt n led.now a (Node x) = here_is n led.now parts links ticket left h a x there in
          let some_now : 0 < led.now.left = subst (λ (k : ℕ). 0 < k) (sym h.left_is) some_left in
          let goes = begins_goes represents failures done led.now a (inside n led.now parts links ticket left h a x there) (h.awake a) h.runs x is.2 z come some_now free s can in
          let made : Standing M = owing z s led.now.next in
          let held : HoldParts n _ (slice_set parts a (Node made)) links (suc led.now.next) (pred led.now.left) =
          held_ticket n _ (slice_set parts a (Node made)) links ticket left
          (held_machine n led.now parts links ticket left h a made (is_low n led.now parts links ticket left h a x there) number (peers ∙ is.1)) (suc led.now.next) (pred led.now.left)
          in
          subst (λ (k : ℕ). Led (slice_set parts a (Node (owing z s k))) links (suc k) (pred left)) h.next_is
          (subst (λ (k : ℕ). Led (slice_set parts a (Node made)) links (suc led.now.next) (pred k)) h.left_is
          (led_on parts links ticket left led _ goes (slice_set parts a (Node made)) links (suc led.now.next) (pred led.now.left) held))

      pub draws_at_once : (v : Vertex) → CanBeginAtOnce represents z.machine v.0 → CarriesTicket number_of Led ticket (Node x) (Node (owing_at_once z v ticket))
      draws_at_once v can parts links left there some_left led =
          let h = led.held in
          let a : ℕ = x.member.number in
          let is : IsMachineAt n led.now a (Node x) = here_is n led.now parts links ticket left h a x there in
          let some_now : 0 < led.now.left = subst (λ (k : ℕ). 0 < k) (sym h.left_is) some_left in
          let goes = begins_at_once_goes represents failures done led.now a (inside n led.now parts links ticket left h a x there) (h.awake a) h.runs x is.2 z come some_now free v can in
          let made : Standing M = owing_at_once z v led.now.next in
          let held : HoldParts n _ (slice_set parts a (Node made)) links (suc led.now.next) (pred led.now.left) =
          held_ticket n _ (slice_set parts a (Node made)) links ticket left
          (held_machine n led.now parts links ticket left h a made (is_low n led.now parts links ticket left h a x there) number (peers ∙ is.1)) (suc led.now.next) (pred led.now.left)
          in
          subst (λ (k : ℕ). Led (slice_set parts a (Node (owing_at_once z v k))) links (suc k) (pred left)) h.next_is
          (subst (λ (k : ℕ). Led (slice_set parts a (Node made)) links (suc led.now.next) (pred k)) h.left_is
          (led_on parts links ticket left led _ goes (slice_set parts a (Node made)) links (suc led.now.next) (pred led.now.left) held))

  -- ---- it has a link to or from another machine

  -- there are all links
  pub have_all : (parts : List (Seated M)) (links : List LinkView) (next left : ℕ) (led : Led parts links next left) → HaveLinks led.now.links (suc n)
  have_all parts links next left led = subst (λ (k : ℕ). HaveLinks led.now.links (suc k)) (sym led.stood.many ∙ led.held.many) led.stood.links

  pub same_link : (parts : List (Seated M)) (links : List LinkView) (next left : ℕ) (led : Led parts links next left) (peers i j : ℕ) → peers ≡ suc n → i < suc n → j < suc n → (q : LinkView)
      → get_elem? links (link_no peers i j) ≡ some q → q ≡ link_between led.now.links i j
  same_link parts links next left led peers i j is low_i low_j q on =
      some-injective q (link_between led.now.links i j) (sym on ∙ ap (λ (k : ℕ). get_elem? links (link_no k i j)) is ∙ led.held.lines i j low_i low_j)

  -- a machine and a link are others
  pub held_both : (parts : List (Seated M)) (links : List LinkView) (next left : ℕ) (led : Led parts links next left) (y : Member M) → get_elem? parts y.number ≡ some (Node (at_rest y))
      → (z : Member M) → z.number ≡ y.number → z.peers ≡ y.peers → (i j : ℕ) (low_i : i < suc n) (low_j : j < suc n) (r : LinkView)
      → HoldParts n (record led.now { machines = with_item led.now.machines y.number (at_rest z); links = with_link_between led.now.links i j r }) (slice_set parts y.number (Node (at_rest z))) (slice_set links (link_no y.peers i j) r) next left
  held_both parts links next left led y there z number peers i j low_i low_j r =
      let h = led.held in
      let a : ℕ = y.number in
      let is : IsMachineAt n led.now a (Node (at_rest y)) = here_is n led.now parts links next left h a (at_rest y) there in
      let with_machine : HoldParts n (record led.now { machines = with_item led.now.machines a (at_rest z) }) (slice_set parts a (Node (at_rest z))) links next left =
      held_machine n led.now parts links next left h a (at_rest z) (is_low n led.now parts links next left h a (at_rest y) there) number (peers ∙ is.1)
      in
      subst (λ (k : ℕ). HoldParts n (record led.now { machines = with_item led.now.machines a (at_rest z); links = with_link_between led.now.links i j r }) (slice_set parts a (Node (at_rest z))) (slice_set links (link_no k i j) r) next left) (sym is.1)
      (held_link n (record led.now { machines = with_item led.now.machines a (at_rest z) }) (slice_set parts a (Node (at_rest z))) links next left with_machine i j low_i low_j r
      (has_link led.now.links (suc n) i j (have_all parts links next left led) low_i low_j))

  module _ (y z : Member M) (number : z.number ≡ y.number) (peers : z.peers ≡ y.peers) (q r : LinkView) where
    pub carries_heard : (p : ℕ) → suc p < y.peers → (heard : List MessageView) → q.messages ≡ heard ++ r.messages → HasHeardAll represents y.machine p y.number heard r.messages z.machine
        → CarriesLink number_of Led (link_no y.peers p y.number) (Node (at_rest y)) q (Node (at_rest z)) r
    carries_heard p low_p heard are has parts links next left there on led =
        let h = led.held in
        let a : ℕ = y.number in
        let is : IsMachineAt n led.now a (Node (at_rest y)) = here_is n led.now parts links next left h a (at_rest y) there in
        let low : a < n = is_low n led.now parts links next left h a (at_rest y) there in
        let low_there : p < n = (let more : suc p < suc n = subst (λ (k : ℕ). suc p < k) is.1 low_p in omega arith) in
        let within : p < length led.now.machines.items = subst (λ (k : ℕ). p < k) (sym h.many) low_there in
        let there_q : q ≡ link_between led.now.links p a = same_link parts links next left led y.peers p a is.1 (under p n low_there) (under a n low) q on in
        let goes = hears_goes represents failures done led.now p a within (inside n led.now parts links next left h a (at_rest y) there) (h.awake a) h.runs y z is.2 heard r
        (ap (λ (l : LinkView). l.messages) (sym there_q) ∙ are) has
        in
        led_on parts links next left led _ goes (slice_set parts a (Node (at_rest z))) (slice_set links (link_no y.peers p a) r) next left
        (held_both parts links next left led y there z number peers p a (under p n low_there) (under a n low) r)

    pub carries_told : (p : ℕ) → suc p < y.peers → (told : List MessageView) → r.messages ≡ q.messages ++ told → OfEach represents y.machine (HasToldAll represents p told z.machine)
        → CarriesLink number_of Led (link_no y.peers y.number p) (Node (at_rest y)) q (Node (at_rest z)) r
    carries_told p low_p told are has parts links next left there on led =
        let h = led.held in
        let a : ℕ = y.number in
        let is : IsMachineAt n led.now a (Node (at_rest y)) = here_is n led.now parts links next left h a (at_rest y) there in
        let low : a < n = is_low n led.now parts links next left h a (at_rest y) there in
        let low_there : p < n = (let more : suc p < suc n = subst (λ (k : ℕ). suc p < k) is.1 low_p in omega arith) in
        let within : p < length led.now.machines.items = subst (λ (k : ℕ). p < k) (sym h.many) low_there in
        let there_q : q ≡ link_between led.now.links a p = same_link parts links next left led y.peers a p is.1 (under a n low) (under p n low_there) q on in
        let goes = tells_goes represents failures done led.now a p (inside n led.now parts links next left h a (at_rest y) there) within (h.awake a) h.runs y z is.2 told r
        (are ∙ ap (λ (l : LinkView). l.messages ++ told) there_q) has
        in
        led_on parts links next left led _ goes (slice_set parts a (Node (at_rest z))) (slice_set links (link_no y.peers a p) r) next left
        (held_both parts links next left led y there z number peers a p (under a n low) (under p n low_there) r)

  -- ---- it has a link from or to the coordinator

  module _ (y z : Member M) (number : z.number ≡ y.number) (peers : z.peers ≡ y.peers) (q r : LinkView) (last_one : ℕ) (last : suc last_one ≡ y.peers) where
    at_n : y.peers ≡ suc n → last_one ≡ n
    at_n is = (let both : suc last_one ≡ suc n = last ∙ is in omega arith)

    pub carries_call : HasHeardFirst represents y.machine q.messages r.messages z.machine → IsFree represents failures done y.machine y.number
        → CarriesLink number_of Led (link_no y.peers last_one y.number) (Node (at_rest y)) q (Node (at_rest z)) r
    carries_call has free parts links next left there on led =
        let h = led.held in
        let a : ℕ = y.number in
        let is : IsMachineAt n led.now a (Node (at_rest y)) = here_is n led.now parts links next left h a (at_rest y) there in
        let low : a < n = is_low n led.now parts links next left h a (at_rest y) there in
        let last_is : last_one ≡ n = at_n is.1 in
        let on_n : get_elem? links (link_no y.peers n a) ≡ some q = ap (λ (k : ℕ). get_elem? links (link_no y.peers k a)) (sym last_is) ∙ on in
        let there_q : q ≡ link_between led.now.links n a = same_link parts links next left led y.peers n a is.1 (self_under n) (under a n low) q on_n in
        let goes : HasHeardFirst represents y.machine q.messages r.messages z.machine → GoesOn (StandsOwing represents) failures done led.now (record led.now { machines = with_item led.now.machines a (at_rest z); links = with_link_between led.now.links n a r }) =
        λ how. ⊎_elim
        (λ (one : (message : Message) × (q.messages ≡ message_view message ∷ r.messages) × HasHeard represents y.machine message z.machine).
        call_heard_goes represents failures done led.now n h.many a low (h.awake a) h.runs y z is.2 one.0 r (ap (λ (l : LinkView). l.messages) (sym there_q) ∙ one.1) one.2 free)
        (λ (still : (r.messages ≡ q.messages) × StandsStill represents y.machine z.machine).
        still_goes represents failures done led.now n h.many a low (h.awake a) h.runs y z is.2 n a (self_under n) (under a n low) r (still.0 ∙ ap (λ (l : LinkView). l.messages) there_q) still.1)
        how
        in
        subst (λ (k : ℕ). Led (slice_set parts a (Node (at_rest z))) (slice_set links (link_no y.peers k a) r) next left) (sym last_is)
        (led_on parts links next left led _ (goes has) (slice_set parts a (Node (at_rest z))) (slice_set links (link_no y.peers n a) r) next left
        (held_both parts links next left led y there z number peers n a (self_under n) (under a n low) r))

    pub carries_report : HasToldFirst represents y.machine q.messages r.messages z.machine
        → CarriesLink number_of Led (link_no y.peers y.number last_one) (Node (at_rest y)) q (Node (at_rest z)) r
    carries_report has parts links next left there on led =
        let h = led.held in
        let a : ℕ = y.number in
        let is : IsMachineAt n led.now a (Node (at_rest y)) = here_is n led.now parts links next left h a (at_rest y) there in
        let low : a < n = is_low n led.now parts links next left h a (at_rest y) there in
        let last_is : last_one ≡ n = at_n is.1 in
        let on_n : get_elem? links (link_no y.peers a n) ≡ some q = ap (λ (k : ℕ). get_elem? links (link_no y.peers a k)) (sym last_is) ∙ on in
        let there_q : q ≡ link_between led.now.links a n = same_link parts links next left led y.peers a n is.1 (under a n low) (self_under n) q on_n in
        let goes : HasToldFirst represents y.machine q.messages r.messages z.machine → GoesOn (StandsOwing represents) failures done led.now (record led.now { machines = with_item led.now.machines a (at_rest z); links = with_link_between led.now.links a n r }) =
        λ how. ⊎_elim
        (λ (one : (message : Message) × (r.messages ≡ q.messages ++ message_view message ∷ []) × OfEach represents y.machine (IsReporting represents message z.machine)).
        report_told_goes represents failures done led.now n h.many a low (h.awake a) h.runs y z is.2 one.0 r (one.1 ∙ ap (λ (l : LinkView). l.messages ++ message_view one.0 ∷ []) there_q) one.2)
        (λ (still : (r.messages ≡ q.messages) × StandsStill represents y.machine z.machine).
        still_goes represents failures done led.now n h.many a low (h.awake a) h.runs y z is.2 a n (under a n low) (self_under n) r (still.0 ∙ ap (λ (l : LinkView). l.messages) there_q) still.1)
        how
        in
        subst (λ (k : ℕ). Led (slice_set parts a (Node (at_rest z))) (slice_set links (link_no y.peers a k) r) next left) (sym last_is)
        (led_on parts links next left led _ (goes has) (slice_set parts a (Node (at_rest z))) (slice_set links (link_no y.peers a n) r) next left
        (held_both parts links next left led y there z number peers a n (under a n low) (self_under n) r))

  -- ---- what it learns of a link that it takes

  pub learnt : (y : Member M) (i : ℕ) → Learnt number_of Led (Learns represents) (Node (at_rest y)) i
  learnt y i parts links next left q there on led = (hear, hear_call)
    where
      a_is : IsMachineAt n led.now y.number (Node (at_rest y))
      a_is = here_is n led.now parts links next left led.held y.number (at_rest y) there

      low : y.number < n
      low = is_low n led.now parts links next left led.held y.number (at_rest y) there

      many : n ≡ led.setting.machines
      many = sym led.held.many ∙ led.stood.many

      low_now : y.number < led.setting.machines
      low_now = subst (λ (k : ℕ). y.number < k) many low

      standing : StandsOwing represents led.setting y.number (led.cluster.machine y.number) (at_rest y)
      standing = machine_here (StandsOwing represents) led.setting led.snaps led.now led.cluster led.stood y.number low_now (at_rest y) a_is.2

      here : represents led.setting y.number (led.cluster.machine y.number) y.machine
      here = subst (λ (m : Machine). represents led.setting y.number m y.machine) (sym standing.done) standing.here

      hear : (p : ℕ) → suc p < y.peers → i ≡ link_no y.peers p y.number → CanHear represents y.machine p y.number q.messages
      hear p low_p is =
          let low_there : p < n = (let more : suc p < suc n = subst (λ (k : ℕ). suc p < k) a_is.1 low_p in omega arith) in
          let low_p_now : p < led.setting.machines = subst (λ (k : ℕ). p < k) many low_there in
          let there_q : q ≡ link_between led.now.links p y.number =
          same_link parts links next left led y.peers p y.number a_is.1 (under p n low_there) (under y.number n low) q (ap (get_elem? links) (sym is) ∙ on)
          in (
            led.setting,
            led.cluster,
            record {
              setting = led.snaps;
              going = led.stood.going;
              runs = led.stood.stopped ∙ led.held.runs;
              awake = record { machine = low_now; runs = led.stood.runs y.number low_now ∙ led.held.awake y.number };
              from = low_p_now;
              here = here;
              told = led.stood.told p y.number low_p_now low_now ∙ ap (λ (l : LinkView). map message_read l.messages) (sym there_q);
            },
          )

      hear_call : (lead : ℕ) → suc lead ≡ y.peers → i ≡ link_no y.peers lead y.number → MayHearFirst represents y.machine q.messages
      hear_call lead last is message rest first =
          let at_n : lead ≡ n = (let both : suc lead ≡ suc n = last ∙ a_is.1 in omega arith) in
          let there_q : q ≡ link_between led.now.links n y.number =
          same_link parts links next left led y.peers n y.number a_is.1 (self_under n) (under y.number n low) q (ap (λ (k : ℕ). get_elem? links (link_no y.peers k y.number)) (sym at_n) ∙ ap (get_elem? links) (sym is) ∙ on)
          in
          let messages : messages_on led.now.links led.setting.machines y.number ≡ message_view message ∷ rest =
          ap (λ (k : ℕ). messages_on led.now.links k y.number) (sym many) ∙ ap (λ (l : LinkView). l.messages) (sym there_q) ∙ first
          in
          let calls : FirstCall (message_view message) rest (led.cluster.calls y.number) =
          first_call (message_view message) rest (led.cluster.calls y.number) (subst (λ (ms : List MessageView). AreCalls ms (led.cluster.calls y.number)) messages (led.stood.calls y.number low_now))
          in (
            led.setting,
            led.cluster,
            y.number,
            calls.call,
            record { setting = led.snaps; going = led.stood.going; machine = low_now; here = here; told = calls.told; behind = calls.behind; first = calls.first },
          )
