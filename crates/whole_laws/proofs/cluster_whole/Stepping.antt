-- Each event but a recovery keeps the steps.
use Rattle.std.proofs.Common.{◌≡◌, ◌≢◌, ◌⊎◌, ℕ, zero, suc, pred, ◌+◌, ◌<◌, ◌≤◌, ◌==◌, ◌&&◌, not, Bool, true, false, if◌then◌else◌, Option, None, Some, List, [], ◌∷◌, ◌++◌, length, refl, sym, ◌∙◌, ap, subst, ⊎_elim, le_refl, le_of_eq, append-nil, append_assoc, length-append, arith}
use Rattle.std.specs.List.{AllByRecursion}
use Rattle.std.proofs.lemmas.Bool.{and_parts, both_ways}
use Rattle.gl_base.specs.declared.entries.Entry.{Entry}
use Rattle.gl_base.specs.declared.entries.Entry.TheVariants.{Go}
use Rattle.gl_base.specs.declared.scopes.Claim.{Claim}
use Rattle.gl_base.specs.declared.scopes.ScopeId.{ScopeId}
use Rattle.graph_core.proofs.HalvesLaws.{each-append}
use Rattle.cluster_laws.specs.cluster_core.Actions.{Action, HasFirst, IsItsTurn, MayHappen, after, delivers, hears, marks, sends, updates}
use Rattle.cluster_laws.specs.cluster_core.Actions as act
use Rattle.cluster_laws.specs.cluster_core.Effects.{admitted_by, mark_news, news_for, received, tell}
use Rattle.cluster_laws.specs.cluster_core.Messages.{Ask, Done, Message, News, Ready}
use Rattle.cluster_laws.specs.cluster_core.Parts.{Part}
use Rattle.cluster_laws.specs.cluster_core.Ranges.{set_at}
use Rattle.cluster_laws.specs.cluster_core.Scopes.{takes_part}
use Rattle.cluster_laws.specs.cluster_core.Settings.{Chromatic, Engine, IsSetting, Setting}
use Rattle.cluster_laws.specs.cluster_core.Worlds.{World, way}
use Rattle.cluster_laws.proofs.cluster_core.Basics.{set_at-holds, set_at-kept, set_at-other, set_at-same}
use Rattle.cluster_laws.proofs.cluster_core.Nearness.{part_low}
use Rattle.cluster_laws.proofs.cluster_core.Taking.{same_way, sent-way, taken, taken-here, taken-there}
use Rattle.cluster_laws.proofs.cluster_places.StepsKept.{action_stays}
use Rattle.cluster_laws.specs.cluster_places.Steps.{IsInStep}
use Rattle.graph_core.specs.DataGraph.{size}
use Rattle.cluster_laws.specs.cluster_model.Calls.{Begin, Call, Committed, Count, Report, Saved, Step, Want, Wave, begins_in, sections_in}
use Rattle.cluster_laws.specs.cluster_model.Clusters.{BaseView, Cluster, call_way, report_way}
use Rattle.cluster_laws.specs.cluster_model.Events.{Event, Admit, DeliverCall, DeliverReport, Deliver, Fail, Grant, Mark, MayDo, PutBegin, PutStep, PutWave, Record, Recover, Section, Send, SendCall, SendReport, Stop, Update, after_event, delivers_call, delivers_message, delivers_report, makes, saves, sends_call, sends_message, sends_report}
use Rattle.cluster_laws.specs.cluster_model.Machines.{Machine, gained}
use Rattle.cluster_laws.specs.cluster_model.Rounds.{Rounds}
use Rattle.cluster_laws.specs.cluster_model.Totals.{total}
use Rattle.cluster_laws.specs.cluster_model.Working.{admits, asks_more, commits, fails, hands, hands_report, makes_mark, makes_update, prompt, receives, sections, takes_call, works_on}
use Rattle.whole_laws.specs.cluster_whole.Steps.{AreInTurn, ComesBetween, IsWordBetween, counts_in, rounds_in, messages_between}
use Rattle.whole_laws.specs.cluster_whole.Views.{world_of}
use Rattle.whole_laws.specs.cluster_whole.Windows.{AreWithin, StaysWithin}
use Rattle.whole_laws.proofs.cluster_whole.Flows.{below_all, gained_none, part_flows, same_flows, taken_flows, total_from-more}
use Rattle.whole_laws.proofs.cluster_whole.Hearing.{step_heard, wave_heard}
use Rattle.whole_laws.proofs.cluster_whole.Joining.{asked, begin_gone, changed, changed_world, one_machine}
use Rattle.whole_laws.proofs.cluster_whole.Pieces.{passed, read_at, set_twice}
use Rattle.whole_laws.proofs.cluster_whole.Rounding.{step_put, wave_put}
use Rattle.whole_laws.proofs.cluster_whole.Telling.{counts_heard}
use Rattle.whole_laws.proofs.cluster_whole.Turning.{calm_turn, counts-append, counts_pushed, counts_told, in_step_like, prompt_turn, rounds-append, rounds_pushed, still_turn}
use Rattle.whole_laws.proofs.cluster_whole.Within.{admitted_within, called_within, made_within, marked_within, received_within, sectioned_within}

plus_none : (n m : ℕ) → m ≡ 0 → n + m ≡ n
plus_none n m none = omega arith

zero_low : (n : ℕ) → 0 ≤ n
zero_low n = omega arith

suc_low : (n : ℕ) → n ≤ suc n
suc_low n = omega arith

suc_plus : (n : ℕ) → suc n ≡ n + 1
suc_plus n = omega arith

both_more : (sent received flow more : ℕ) → sent ≡ received + flow → sent + more ≡ received + (flow + more)
both_more sent received flow more is = omega arith

one_taken : (sent received was now got : ℕ) → sent ≡ received + was → was ≡ now + 1 → got ≡ received + 1 → sent ≡ got + now
one_taken sent received was now got one two three = omega arith

some_steps : (n : ℕ) → (n ≡ 0 → ⊥) → 0 < n
some_steps zero none = absurd (none refl)
some_steps (suc n) none = omega arith

none_some : (v : ℕ) → None ≡ Some v → ⊥
none_some v is = cc

pub nil_cons : {X : Type 0} (x : X) (xs : List X) → [] ≡ x ∷ xs → ⊥
nil_cons x xs is = cc

more_low : (n : ℕ) → n ≤ n + 1
more_low n = omega arith

-- the first of what is on a way is word of an update
pub front_between : (st : Setting) (steps p q : ℕ) (m : Message) (behind link : List Message) → link ≡ m ∷ behind → (out : List Message) → AllByRecursion (ComesBetween st steps p q) (link ++ out) → ComesBetween st steps p q m
front_between st steps p q m behind link first out all =
    (subst (λ (ms : List Message). AllByRecursion (ComesBetween st steps p q) (ms ++ out)) first all).0

-- and so it is where one more is told
told_between : (st : Setting) (steps p q : ℕ) (s : ScopeId) (news : News) (test : Bool) → (test ≡ true → IsWordBetween st steps p q s news) → (link out : List Message) →
    AllByRecursion (ComesBetween st steps p q) (link ++ out) → AllByRecursion (ComesBetween st steps p q) (link ++ (if test then out ++ Done s news ∷ [] else out))
told_between st steps p q s news true fits link out all =
    subst (AllByRecursion (ComesBetween st steps p q)) (append_assoc link out (Done s news ∷ []))
    (each-append (ComesBetween st steps p q) (link ++ out) (Done s news ∷ []) all (fits refl, tt))
told_between st steps p q s news false fits link out all = all

tell_longer : (test : Bool) (out : List Message) (m : Message) → length out ≤ length (if test then out ++ m ∷ [] else out)
tell_longer true out m = subst (λ (n : ℕ). length out ≤ n) (sym (length-append out (m ∷ []))) (more_low (length out))
tell_longer false out m = le_refl (length out)

module _ (st : Setting) (is : IsSetting st) (colour : ℕ → ℕ) (colours : ℕ) (chromatic : st.engine ≡ Chromatic colour colours) (c : Cluster) (t : AreInTurn st colour c.coordinator.rounds c) (within : AreWithin st c) where
  abbrev rounds : Rounds
  rounds = c.coordinator.rounds

  abbrev w : World
  w = world_of c

  abbrev InTurn : Cluster → Type 0
  InTurn new = AreInTurn st colour rounds new

  -- the cluster with these machines
  abbrev changed_to : (ℕ → Machine) → (ℕ → ℕ → List Message) → (ℕ → List Call) → ℕ → ℕ → Cluster
  changed_to machine link calls next left =
      record { machine = machine; link = link; calls = calls; reports = c.reports; coordinator = c.coordinator; next = next; left = left; base = c.base; stopped = c.stopped }

  module _ (a : ℕ) (low : a < st.machines) where
    abbrev m : Machine
    m = c.machine a

    -- the step of the core, where the part stays as it is
    part_same : (m1 : Machine) (calls : ℕ → List Call) → m1.part ≡ m.part → IsInStep st colour rounds.colour (world_of (changed st c a m1 c.link calls c.next c.left))
    part_same m1 calls same =
        let parts : (b : ℕ) → (set_at c.machine a m1 b).part ≡ (c.machine b).part = set_at-kept (λ (x : Machine). x.part) c.machine a m1 same in
        in_step_like st colour rounds.colour w (world_of (changed st c a m1 c.link calls c.next c.left)) t.step
        (λ b open_. ap (λ (p : Part). p.colour) (parts b) ∙ t.step.machines b (sym (ap (λ (p : Part). p.closed) (parts b)) ∙ open_))
        (λ s. ap (λ (p : Part). p.flight s) (parts s.home.0))
        (λ p q. ap (λ (x : Part). c.link p q ++ x.out q) (parts p))

    -- a machine answers behind what it did
    then_prompt : (m1 : Machine) (link : ℕ → ℕ → List Message) (calls : ℕ → List Call) (next left : ℕ) → StaysWithin st a m1 → InTurn (changed st c a m1 link calls next left) → InTurn (changed st c a (prompt st a m1) link calls next left)
    then_prompt m1 link calls next left in_window at =
        let one : Cluster = changed st c a m1 link calls next left in
        let here : one.machine a ≡ m1 = set_at-same c.machine a m1 in
        subst InTurn
        (λ i. changed_to (λ b. (ap (λ (x : Machine). set_at one.machine a (prompt st a x) b) here ∙ set_twice c.machine a m1 (prompt st a m1) b) i) link calls next left)
        (prompt_turn st colour colours chromatic rounds one at a low (subst (StaysWithin st a) (sym here) in_window))

    -- what a machine did leaves the steps
    work : (m1 : Machine) (link : ℕ → ℕ → List Message) (calls : ℕ → List Call) (next left : ℕ) → StaysWithin st a m1 →
        m1.held ≡ m.held → m1.part.closed ≡ m.part.closed → (m.part.closed ≡ true → (m1.sent ≡ m.sent) × (m.received ≤ m1.received)) →
        counts_in (c.reports a ++ m1.out) ≡ counts_in (c.reports a ++ m.out) → ((b : ℕ) → rounds_in (calls b ++ c.coordinator.out b) ≡ rounds_in (call_way c b)) →
        IsInStep st colour rounds.colour (world_of (changed st c a m1 link calls next left)) →
        ((s : ScopeId) → s.home.0 ≡ a → m1.part.closed ≡ true → m1.part.flight s ≡ None) →
        ((x : ℕ) → m1.part.queue x ≡ []) →
        ((p q : ℕ) → AllByRecursion (ComesBetween st rounds.steps p q) (way (world_of (changed st c a m1 link calls next left)) p q)) →
        total st.machines (λ b. (set_at c.machine a m1 b).sent) ≡ total st.machines (λ b. (set_at c.machine a m1 b).received) + messages_between st (world_of (changed st c a m1 link calls next left)) →
        InTurn (changed st c a (prompt st a m1) link calls next left)
    work m1 link calls next left in_window held closed shut counts heard step flights queues between balanced =
        then_prompt m1 link calls next left in_window
        (calm_turn st colour rounds c t (changed st c a m1 link calls next left)
        (record {
          calls = heard;
          reports = λ b. set_at-holds (λ (b : ℕ) (x : Machine). counts_in (c.reports b ++ x.out) ≡ counts_in (report_way c b)) c.machine a m1 b counts (λ off. refl);
          held = set_at-kept (λ (x : Machine). x.held) c.machine a m1 held;
          closed = set_at-kept (λ (x : Machine). x.part.closed) c.machine a m1 closed;
          shut = λ b. set_at-holds (λ (b : ℕ) (x : Machine). (c.machine b).part.closed ≡ true → (x.sent ≡ (c.machine b).sent) × ((c.machine b).received ≤ x.received)) c.machine a m1 b shut (λ off closed. (refl, le_refl (c.machine b).received));
        })
        step
        (λ s. set_at-holds (λ (b : ℕ) (x : Machine). s.home.0 ≡ b → x.part.closed ≡ true → x.part.flight s ≡ None) c.machine a m1 s.home.0 (λ home. flights s home) (λ off home. t.closed s) refl)
        (λ b. set_at-holds (λ (b : ℕ) (x : Machine). (y : ℕ) → x.part.queue y ≡ []) c.machine a m1 b queues (λ off. t.queues b))
        between balanced)

    -- nothing comes on its way between machines
    still_work : (m1 : Machine) (calls : ℕ → List Call) → StaysWithin st a m1 →
        m1.held ≡ m.held → m1.part.closed ≡ m.part.closed → m1.part.out ≡ m.part.out → m1.sent ≡ m.sent → m1.received ≡ m.received →
        counts_in (c.reports a ++ m1.out) ≡ counts_in (c.reports a ++ m.out) → ((b : ℕ) → rounds_in (calls b ++ c.coordinator.out b) ≡ rounds_in (call_way c b)) →
        IsInStep st colour rounds.colour (world_of (changed st c a m1 c.link calls c.next c.left)) →
        ((s : ScopeId) → s.home.0 ≡ a → m1.part.closed ≡ true → m1.part.flight s ≡ None) → ((x : ℕ) → m1.part.queue x ≡ []) →
        InTurn (changed st c a (prompt st a m1) c.link calls c.next c.left)
    still_work m1 calls in_window held closed out sent received counts heard step flights queues =
        let new : Cluster = changed st c a m1 c.link calls c.next c.left in
        let ways : (p q : ℕ) → way (world_of new) p q ≡ way w p q = λ p q. ap (λ (ms : List Message). c.link p q ++ ms) (set_at-kept (λ (x : Machine). x.part.out q) c.machine a m1 (ap (λ (f : ℕ → List Message). f q) out) p) in
        work m1 c.link calls c.next c.left in_window held closed (λ is_closed. (sent, le_of_eq (sym received))) counts heard step flights queues
        (λ p q. subst (AllByRecursion (ComesBetween st rounds.steps p q)) (sym (ways p q)) (t.between p q))
        ((λ i. total st.machines (λ b. set_at-kept (λ (x : Machine). x.sent) c.machine a m1 sent b i)) ∙ t.balanced
        ∙ λ i. total st.machines (λ b. sym (set_at-kept (λ (x : Machine). x.received) c.machine a m1 received b) i) + sym (same_flows st w (world_of new) ways) i)

    own_closed : (s : ScopeId) → s.home.0 ≡ a → m.part.closed ≡ true → m.part.flight s ≡ None
    own_closed s home = subst (λ (b : ℕ). (c.machine b).part.closed ≡ true → (c.machine b).part.flight s ≡ None) home (t.closed s)

    -- the step of the core, where an action makes the part
    acted : (m1 : Machine) (action : Action) (link : ℕ → ℕ → List Message) (calls : ℕ → List Call) (orders : ℕ → List ℕ) (next left : ℕ) → MayHappen st w action → after st w action ≡ changed_world st c a m1.part link orders next left →
        sections_in (c.reports a ++ m1.out) ≡ sections_in (c.reports a ++ m.out) → ((b : ℕ) → begins_in (calls b ++ c.coordinator.out b) ≡ orders b) → IsInStep st colour rounds.colour (world_of (changed st c a m1 link calls next left))
    acted m1 action link calls orders next left may made same heard =
        subst (IsInStep st colour rounds.colour) (made ∙ sym (one_machine st c a m1 link calls orders next left same heard)) (action_stays st colour rounds.colour colours chromatic w t.step action may)

    -- ---- a scope is admitted

    admit_turn : (v : ℕ) → MayDo st c (Admit a v) → InTurn (after_event st c (Admit a v))
    admit_turn v may =
        let m1 : Machine = admits st a v m in
        let turn : (colour v ≡ m.part.colour) × (m.part.closed ≡ false) = subst (λ (engine : Engine). IsItsTurn engine st.pipeline v m.part) chromatic may.1.may.turn in
        let part_is : m1.part ≡ admitted_by (Chromatic colour colours) st a v m.part = ap (λ (engine : Engine). admitted_by engine st a v m.part) chromatic in
        let out_is : m1.part.out ≡ m.part.out = ap (λ (p : Part). p.out) part_is in
        still_work m1 c.calls (admitted_within st a v m (within a) may.1) refl (ap (λ (p : Part). p.closed) part_is) out_is
        (plus_none m.sent (gained st m.part m1.part) (gained_none st w m.part m1.part out_is)) refl refl (λ b. refl)
        (acted m1 (act.Admit a v) c.link c.calls w.orders c.next c.left may.1.may refl refl (λ b. refl))
        (λ s home closed. absurd (both_ways m.part.closed turn.1 (sym (ap (λ (p : Part). p.closed) part_is) ∙ closed)))
        (λ x. ap (λ (p : Part). p.queue x) part_is ∙ t.queues a x)

    -- ---- a scope ends

    ended_turn : (s : ScopeId) (v : ℕ) (news : ℕ → News) (m1 : Machine) (next left : ℕ) → StaysWithin st a m1 → s.home.0 ≡ a → m.part.flight s ≡ Some v →
        m1.held ≡ m.held → m1.part.closed ≡ m.part.closed → m1.part.queue ≡ m.part.queue → m1.part.out ≡ tell st a v s news m.part.out → ((q : ℕ) → (news q).centre ≡ v) →
        m1.sent ≡ m.sent + gained st m.part m1.part → m1.received ≡ m.received →
        counts_in (c.reports a ++ m1.out) ≡ counts_in (c.reports a ++ m.out) → sections_in (c.reports a ++ m1.out) ≡ sections_in (c.reports a ++ m.out) →
        IsInStep st colour rounds.colour (world_of (changed st c a m1 c.link c.calls next left)) →
        InTurn (changed st c a (prompt st a m1) c.link c.calls next left)
    ended_turn s v news m1 next left in_window home flies held closed queue out centre sent received counts same step =
        let open_ : m.part.closed ≡ true → ⊥ = λ is_closed. none_some v (sym (own_closed s home is_closed) ∙ flies) in
        let steps : 0 < rounds.steps = some_steps rounds.steps (λ none. open_ (t.first none a)) in
        let more : ℕ = gained st m.part m1.part in
        let longer : (q : ℕ) → length (m.part.out q) ≤ length (m1.part.out q) = λ q. subst (λ (f : ℕ → List Message). length (m.part.out q) ≤ length (f q)) (sym out) (tell_longer (takes_part st v q && not (q == a)) (m.part.out q) (Done s (news q))) in
        let word_told : (q : ℕ) → takes_part st v q ≡ true → IsWordBetween st rounds.steps a q s (news q) = λ q takes.
        record {
          within = (low, part_low st is v q takes, steps);
          home = home;
          vertex = subst (λ (u : ℕ). u < size st.graph) (sym (centre q)) (t.step.flights s v (ap (λ (b : ℕ). (c.machine b).part.flight s) home ∙ flies)).0;
          part_of = ap (λ (u : ℕ). takes_part st u q) (centre q) ∙ takes;
        } in
        let world_is = one_machine st c a m1 c.link c.calls w.orders next left same (λ b. refl) in
        let flows : messages_between st (world_of (changed st c a m1 c.link c.calls next left)) ≡ messages_between st w + more = ap (messages_between st) world_is ∙ part_flows st w a m1.part low longer in
        work m1 c.link c.calls next left in_window held closed (λ is_closed. absurd (open_ is_closed)) counts (λ b. refl) step
        (λ r own is_closed. absurd (open_ (sym closed ∙ is_closed)))
        (λ x. ap (λ (f : ℕ → List Claim). f x) queue ∙ t.queues a x)
        (λ p q. set_at-holds (λ (p : ℕ) (x : Machine). AllByRecursion (ComesBetween st rounds.steps p q) (c.link p q ++ x.part.out q)) c.machine a m1 p
        (subst (λ (f : ℕ → List Message). AllByRecursion (ComesBetween st rounds.steps a q) (c.link a q ++ f q)) (sym out)
        (told_between st rounds.steps a q s (news q) (takes_part st v q && not (q == a)) (λ told. word_told q (and_parts (takes_part st v q) (not (q == a)) told).0) (c.link a q) (m.part.out q) (t.between a q)))
        (λ off. t.between p q))
        (total_from-more 0 st.machines (λ b. (c.machine b).sent) (λ b. (set_at c.machine a m1 b).sent) a more (zero_low a) (below_all a st.machines low) (ap (λ (x : Machine). x.sent) (set_at-same c.machine a m1) ∙ sent) (λ b off. ap (λ (x : Machine). x.sent) (set_at-other c.machine a m1 b off))
        ∙ both_more (total st.machines (λ b. (c.machine b).sent)) (total st.machines (λ b. (c.machine b).received)) (messages_between st w) more t.balanced
        ∙ λ i. total st.machines (λ b. sym (set_at-kept (λ (x : Machine). x.received) c.machine a m1 received b) i) + sym flows i)

    -- ---- word of an update comes

    took : (p : ℕ) → p < st.machines → (message : Message) (behind : List Message) → c.link p a ≡ message ∷ behind → InTurn (delivers_message st c p a (message ∷ behind))
    took p p_low (Ask s v rest) behind first = absurd (front_between st rounds.steps p a (Ask s v rest) behind (c.link p a) first ((c.machine p).part.out a) (t.between p a))
    took p p_low (Ready s) behind first = absurd (front_between st rounds.steps p a (Ready s) behind (c.link p a) first ((c.machine p).part.out a) (t.between p a))
    took p p_low (Done s news) behind first =
        let m1 : Machine = receives st a (Done s news) m in
        let link : ℕ → ℕ → List Message = set_at c.link p (set_at (c.link p) a behind) in
        let mid : World = taken w p a (Done s news) behind first in
        let new : Cluster = changed st c a m1 link c.calls c.next c.left in
        let ways : (p' q' : ℕ) → way (world_of new) p' q' ≡ way mid p' q' = λ p' q'. ap (λ (ms : List Message). link p' q' ++ ms) (set_at-kept (λ (x : Machine). x.part.out q') c.machine a m1 refl p') in
        let here : way w p a ≡ Done s news ∷ way mid p a = taken-here w p a (Done s news) behind first in
        let sent : m1.sent ≡ m.sent = plus_none m.sent (gained st m.part m1.part) (gained_none st w m.part m1.part refl) in
        work m1 link c.calls c.next c.left (received_within st a m (within a) (Done s news)) refl refl (λ is_closed. (sent, suc_low m.received)) refl (λ b. refl)
        (acted m1 (act.Deliver p a) link c.calls w.orders c.next c.left (record { message = Done s news; behind = behind; first = first }) (ap (delivers st w p a) first) refl (λ b. refl))
        own_closed (t.queues a)
        (λ p' q'. subst (AllByRecursion (ComesBetween st rounds.steps p' q')) (sym (ways p' q'))
        (⊎_elim
        (λ (at : (p' ≡ p) × (q' ≡ a)).
        let whole : AllByRecursion (ComesBetween st rounds.steps p a) (Done s news ∷ way mid p a) = subst (AllByRecursion (ComesBetween st rounds.steps p a)) here (t.between p a) in
        subst (λ (x : ℕ). AllByRecursion (ComesBetween st rounds.steps x q') (way mid x q')) (sym at.0) (subst (λ (y : ℕ). AllByRecursion (ComesBetween st rounds.steps p y) (way mid p y)) (sym at.1) whole.1))
        (λ (off : (p' ≢ p) ⊎ (q' ≢ a)). subst (AllByRecursion (ComesBetween st rounds.steps p' q')) (sym (taken-there w p a (Done s news) behind first p' q' off)) (t.between p' q'))
        (same_way p a p' q')))
        ((λ i. total st.machines (λ b. set_at-kept (λ (x : Machine). x.sent) c.machine a m1 sent b i))
        ∙ one_taken (total st.machines (λ b. (c.machine b).sent)) (total st.machines (λ b. (c.machine b).received)) (messages_between st w) (messages_between st (world_of new)) (total st.machines (λ b. (set_at c.machine a m1 b).received))
        t.balanced
        (taken_flows st w mid p a p_low low (Done s news) here (λ p' q' off. taken-there w p a (Done s news) behind first p' q' off) ∙ ap (λ (n : ℕ). n + 1) (sym (same_flows st mid (world_of new) ways)))
        (total_from-more 0 st.machines (λ b. (c.machine b).received) (λ b. (set_at c.machine a m1 b).received) a 1 (zero_low a) (below_all a st.machines low) (ap (λ (x : Machine). x.received) (set_at-same c.machine a m1) ∙ suc_plus m.received) (λ b off. ap (λ (x : Machine). x.received) (set_at-other c.machine a m1 b off))))

    -- ---- a call comes

    quiet_call : (call : Call) (behind : List Call) → c.calls a ≡ call ∷ behind → rounds_in (call ∷ []) ≡ [] → (b : ℕ) → rounds_in (set_at c.calls a behind b ++ c.coordinator.out b) ≡ rounds_in (call_way c b)
    quiet_call call behind first none b =
        set_at-holds (λ (b : ℕ) (xs : List Call). rounds_in (xs ++ c.coordinator.out b) ≡ rounds_in (call_way c b)) c.calls a behind b
        (sym (ap (λ (xs : List Call). rounds_in (xs ++ c.coordinator.out a)) first ∙ rounds-append (call ∷ []) (behind ++ c.coordinator.out a) ∙ ap (λ (cs : List Call). cs ++ rounds_in (behind ++ c.coordinator.out a)) none))
        (λ off. refl)

    called : (call : Call) (behind : List Call) → c.calls a ≡ call ∷ behind → InTurn (delivers_call st c a (call ∷ behind))
    called (Begin k) behind first =
        let m1 : Machine = takes_call st a (Begin k) m in
        let rest : List ℕ = begins_in (behind ++ c.coordinator.out a) in
        let orders_are : w.orders a ≡ k ∷ rest = ap (λ (xs : List Call). begins_in (xs ++ c.coordinator.out a)) first in
        still_work m1 (set_at c.calls a behind) (called_within st a m (within a) (Begin k)) refl refl refl refl refl refl (quiet_call (Begin k) behind first refl)
        (acted m1 (act.Hear a) c.link (set_at c.calls a behind) (set_at w.orders a rest) c.next c.left (record { number = k; behind = rest; first = orders_are }) (ap (hears st w a) orders_are) refl (begin_gone st c a k behind))
        own_closed (t.queues a)
    called (Committed k) behind first =
        let m1 : Machine = takes_call st a (Committed k) m in
        still_work m1 (set_at c.calls a behind) (called_within st a m (within a) (Committed k)) refl refl refl refl refl
        (counts_told (asks_more st (commits k m)) (c.reports a) m.out (Want k) refl) (quiet_call (Committed k) behind first refl)
        (part_same m1 (set_at c.calls a behind) refl)
        own_closed (t.queues a)
    called (Wave k) behind first =
        then_prompt (takes_call st a (Wave k) m) c.link (set_at c.calls a behind) c.next c.left (called_within st a m (within a) (Wave k)) (wave_heard st colour c t a low behind k first)
    called (Step newest) behind first =
        then_prompt (takes_call st a (Step newest) m) c.link (set_at c.calls a behind) c.next c.left (called_within st a m (within a) (Step newest)) (step_heard st colour c t a low behind newest first)

  -- ---- each event

  -- nothing that waves and steps see
  reports_same : (a : ℕ) (report : Report) (behind : List Report) → c.reports a ≡ report ∷ behind → counts_in (report ∷ []) ≡ [] → (b : ℕ) → counts_in (set_at c.reports a behind b ++ (c.machine b).out) ≡ counts_in (report_way c b)
  reports_same a report behind first none b =
      set_at-holds (λ (b : ℕ) (xs : List Report). counts_in (xs ++ (c.machine b).out) ≡ counts_in (report_way c b)) c.reports a behind b
      (sym (ap (λ (xs : List Report). counts_in (xs ++ (c.machine a).out)) first ∙ counts-append (report ∷ []) (behind ++ (c.machine a).out) ∙ ap (λ (rs : List Report). rs ++ counts_in (behind ++ (c.machine a).out)) none))
      (λ off. refl)

  calls_same : (call : Call) → rounds_in (call ∷ []) ≡ [] → (b : ℕ) → rounds_in (c.calls b ++ (c.coordinator.out b ++ call ∷ [])) ≡ rounds_in (call_way c b)
  calls_same call none b = rounds_pushed (c.calls b) (c.coordinator.out b) call ∙ ap (λ (cs : List Call). rounds_in (call_way c b) ++ cs) none ∙ append-nil (rounds_in (call_way c b))

  -- the machines stay as they are, and so do the links between them
  beside : (new : Cluster) → new.machine ≡ c.machine → ((p q : ℕ) → way (world_of new) p q ≡ way w p q) → ((a : ℕ) → rounds_in (call_way new a) ≡ rounds_in (call_way c a)) → ((a : ℕ) → counts_in (report_way new a) ≡ counts_in (report_way c a)) → InTurn new
  beside new same ways calls reports =
      still_turn st colour rounds c t new
      (record {
        calls = calls;
        reports = reports;
        held = λ a. λ i. (same i a).held;
        closed = λ a. λ i. (same i a).part.closed;
        shut = λ a closed. ((λ i. (same i a).sent), le_of_eq (λ i. (sym same i a).received));
      })
      (λ a. λ i. (same i a).part.colour) (λ a. λ i. (same i a).part.flight) (λ a. λ i. (same i a).part.queue) ways (λ a. λ i. (same i a).sent) (λ a. λ i. (same i a).received)

  -- one machine changes in nothing of that
  aside : (new : Cluster) (a : ℕ) (m1 : Machine) → new.machine ≡ set_at c.machine a m1 → m1.held ≡ (c.machine a).held → m1.part.closed ≡ (c.machine a).part.closed → m1.part.colour ≡ (c.machine a).part.colour → m1.part.flight ≡ (c.machine a).part.flight →
      m1.part.queue ≡ (c.machine a).part.queue → m1.sent ≡ (c.machine a).sent → m1.received ≡ (c.machine a).received →
      ((p q : ℕ) → way (world_of new) p q ≡ way w p q) → ((b : ℕ) → rounds_in (call_way new b) ≡ rounds_in (call_way c b)) → ((b : ℕ) → counts_in (report_way new b) ≡ counts_in (report_way c b)) → InTurn new
  aside new a m1 same held closed colour_is flight queue sent received ways calls reports =
      let sent_is : (b : ℕ) → (new.machine b).sent ≡ (c.machine b).sent = λ b. (λ i. (same i b).sent) ∙ set_at-kept (λ (x : Machine). x.sent) c.machine a m1 sent b in
      let received_is : (b : ℕ) → (new.machine b).received ≡ (c.machine b).received = λ b. (λ i. (same i b).received) ∙ set_at-kept (λ (x : Machine). x.received) c.machine a m1 received b in
      still_turn st colour rounds c t new
      (record {
        calls = calls;
        reports = reports;
        held = λ b. (λ i. (same i b).held) ∙ set_at-kept (λ (x : Machine). x.held) c.machine a m1 held b;
        closed = λ b. (λ i. (same i b).part.closed) ∙ set_at-kept (λ (x : Machine). x.part.closed) c.machine a m1 closed b;
        shut = λ b is_closed. (sent_is b, le_of_eq (sym (received_is b)));
      })
      (λ b. (λ i. (same i b).part.colour) ∙ set_at-kept (λ (x : Machine). x.part.colour) c.machine a m1 colour_is b)
      (λ b. (λ i. (same i b).part.flight) ∙ set_at-kept (λ (x : Machine). x.part.flight) c.machine a m1 flight b)
      (λ b. (λ i. (same i b).part.queue) ∙ set_at-kept (λ (x : Machine). x.part.queue) c.machine a m1 queue b)
      ways sent_is received_is

  report_turn : (a : ℕ) → a < st.machines → (report : Report) (behind : List Report) → c.reports a ≡ report ∷ behind → AreInTurn st colour (delivers_report c a (report ∷ behind)).coordinator.rounds (delivers_report c a (report ∷ behind))
  report_turn a low (Saved k section entries) behind first =
      beside (delivers_report c a (Saved k section entries ∷ behind)) refl (λ p q. refl) (λ b. refl) (reports_same a (Saved k section entries) behind first refl)
  report_turn a low (Count k counts) behind first = counts_heard st colour c t a low k counts behind first
  report_turn a low (Want k) behind first = beside (delivers_report c a (Want k ∷ behind)) refl (λ p q. refl) (λ b. refl) (reports_same a (Want k) behind first refl)

  abbrev Kept : Cluster → Type 0
  Kept new = AreInTurn st colour new.coordinator.rounds new

  pub event_turn : (event : Event) → MayDo st c event → ((base : BaseView) → event ≡ Recover base → ⊥) → AreInTurn st colour (after_event st c event).coordinator.rounds (after_event st c event)
  event_turn (Admit a v) may other = admit_turn a may.0.machine v may
  event_turn (Grant a x) may other = absurd (nil_cons may.1.claim may.1.behind (sym (t.queues a x) ∙ may.1.first))
  event_turn (Send p q) may other =
      let first = may.2.first in
      let less : Machine = hands q may.2.behind (c.machine p) in
      let new : Cluster = sends_message c p q (may.2.message ∷ may.2.behind) in
      let link : ℕ → ℕ → List Message = set_at c.link p (set_at (c.link p) q (c.link p q ++ may.2.message ∷ [])) in
      subst (λ (ms : List Message). Kept (sends_message c p q ms)) (sym first)
      (aside new p less refl refl refl refl refl refl refl refl
      (λ p' q'. ap (λ (x : World). way x p' q') (one_machine st c p less link c.calls w.orders c.next c.left refl (λ b. refl)) ∙ sent-way w p q may.2.message may.2.behind first p' q')
      (λ b. refl)
      (λ b. set_at-holds (λ (b : ℕ) (x : Machine). counts_in (c.reports b ++ x.out) ≡ counts_in (report_way c b)) c.machine p less b refl (λ off. refl)))
  event_turn (SendCall a) may other =
      let first = may.1.first in
      subst (λ (calls : List Call). Kept (sends_call c a calls)) (sym first)
      (beside (sends_call c a (may.1.message ∷ may.1.behind)) refl (λ p q. refl)
      (λ b. ap rounds_in (passed c.calls c.coordinator.out a may.1.message may.1.behind first b)) (λ b. refl))
  event_turn (SendReport a) may other =
      let first = may.1.first in
      let less : Machine = hands_report may.1.behind (c.machine a) in
      subst (λ (reports : List Report). Kept (sends_report c a reports)) (sym first)
      (aside (sends_report c a (may.1.message ∷ may.1.behind)) a less refl refl refl refl refl refl refl refl
      (λ p q. ap (λ (ms : List Message). c.link p q ++ ms) (set_at-kept (λ (x : Machine). x.part.out q) c.machine a less refl p))
      (λ b. refl)
      (λ b. ap counts_in (ap (λ (xs : List Report). set_at c.reports a (c.reports a ++ may.1.message ∷ []) b ++ xs) (read_at (λ (x : Machine). x.out) c.machine a less b) ∙ passed c.reports (λ b. (c.machine b).out) a may.1.message may.1.behind first b)))
  event_turn (Deliver p q) may other =
      subst (λ (ms : List Message). Kept (delivers_message st c p q ms)) (sym may.2.first) (took q may.0.machine p may.1 may.2.message may.2.behind may.2.first)
  event_turn (DeliverCall a) may other =
      subst (λ (calls : List Call). Kept (delivers_call st c a calls)) (sym may.1.first) (called a may.0.machine may.1.message may.1.behind may.1.first)
  event_turn (DeliverReport a) may other =
      subst (λ (reports : List Report). Kept (delivers_report c a reports)) (sym may.1.first) (report_turn a may.0 may.1.message may.1.behind may.1.first)
  event_turn (Update s) may other =
      let a : ℕ = s.home.0 in
      let v : ℕ = may.1.vertex in
      let entry : Entry = Go s.home (record { 0 = v }) c.next in
      let m : Machine = c.machine a in
      let done : Machine = works_on st a s v entry m in
      let m1 : Machine = makes_update st a s v entry m in
      let same = asked st c a done (asks_more st done) in
      subst (λ (flight : Option ℕ). Kept (makes st c s flight)) (sym may.1.flight)
      (ended_turn a may.0.machine s v (news_for st m.part v) m1 (suc c.next) (pred c.left) (made_within st a m (within a) s v entry may.1.flight may.1.not_pending) refl may.1.flight
      refl refl refl refl (λ q. refl) refl refl (counts_told (asks_more st done) (c.reports a) m.out (Want m.acknowledged) refl) same
      (acted a may.0.machine m1 (act.Update s) c.link c.calls w.orders (suc c.next) (pred c.left) may.1 (ap (updates st w s) may.1.flight) same (λ b. refl)))
  event_turn (Mark s) may other =
      let a : ℕ = s.home.0 in
      let v : ℕ = may.1.vertex in
      let m : Machine = c.machine a in
      let m1 : Machine = makes_mark st a s v m in
      subst (λ (flight : Option ℕ). Kept (saves st c s flight)) (sym may.1.flight)
      (ended_turn a may.0.machine s v (mark_news st m.part v) m1 c.next c.left (marked_within st a m (within a) s v may.1.flight) refl may.1.flight
      refl refl refl refl (λ q. refl) refl refl refl refl
      (acted a may.0.machine m1 (act.Mark s) c.link c.calls w.orders c.next c.left may.1 (ap (marks st w s) may.1.flight) refl (λ b. refl)))
  event_turn (Section a) may other =
      let m : Machine = c.machine a in
      let m1 : Machine = sections m in
      still_work a may.0.machine m1 c.calls (sectioned_within st a m (within a)) refl refl refl refl refl
      (counts_pushed (c.reports a) m.out (Saved m.part.known m.part.saved m.before) ∙ append-nil (counts_in (report_way c a)))
      (λ b. refl)
      (in_step_like st colour rounds.colour w (world_of (changed st c a m1 c.link c.calls c.next c.left)) t.step
      (λ b open_. set_at-kept (λ (x : Machine). x.part.colour) c.machine a m1 refl b ∙ t.step.machines b (sym (set_at-kept (λ (x : Machine). x.part.closed) c.machine a m1 refl b) ∙ open_))
      (λ s. ap (λ (f : ScopeId → Option ℕ). f s) (set_at-kept (λ (x : Machine). x.part.flight) c.machine a m1 refl s.home.0))
      (λ p q. ap (λ (ms : List Message). c.link p q ++ ms) (set_at-kept (λ (x : Machine). x.part.out q) c.machine a m1 refl p)))
      (own_closed a may.0.machine) (t.queues a)
  event_turn Record may other = beside (after_event st c Record) refl (λ p q. refl) (calls_same (Committed c.coordinator.begun) refl) (λ b. refl)
  event_turn PutBegin may other = beside (after_event st c PutBegin) refl (λ p q. refl) (calls_same (Begin (suc c.coordinator.begun)) refl) (λ b. refl)
  event_turn PutStep may other = step_put st colour c t may.1
  event_turn PutWave may other = wave_put st colour c t may.2.whole
  event_turn (Fail a) may other =
      aside (after_event st c (Fail a)) a (fails (c.machine a)) refl refl refl refl refl refl refl refl
      (λ p q. ap (λ (ms : List Message). c.link p q ++ ms) (set_at-kept (λ (x : Machine). x.part.out q) c.machine a (fails (c.machine a)) refl p))
      (λ b. refl)
      (λ b. set_at-holds (λ (b : ℕ) (x : Machine). counts_in (c.reports b ++ x.out) ≡ counts_in (report_way c b)) c.machine a (fails (c.machine a)) b refl (λ off. refl))
  event_turn (Recover base) may other = absurd (other base refl)
  event_turn Stop may other = beside (after_event st c Stop) refl (λ p q. refl) (λ b. refl) (λ b. refl)
