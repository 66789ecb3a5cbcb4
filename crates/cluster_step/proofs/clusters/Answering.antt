-- What each call answers, from what the machines, the links and the coordinator answer.
use Rattle.std.proofs.Common.{◌≡◌, ℕ, suc, pred, ◌+◌, ◌-◌, ◌<◌, ◌^◌, ◌++◌, Bool, true, false, Option, None, Some, List, [], ◌∷◌, get_or, length, map, set, refl, sym, ap, arith, add-one, subst, ◌∙◌}
use Rattle.std.specs.Prelude.{Err, IfNone, Ok, OnErr, OnOk, Result, option_map, slice_get, slice_index_or}
use Rattle.std.specs.Vec.{with_item}
use Rattle.std.specs.declared.alloc.Global.{Global}
use Rattle.std.specs.declared.vec.Vec.{Vec}
use Rattle.gl_base.specs.declared.numbers.MachineNo.{MachineNo}
use Rattle.gl_base.specs.declared.refusals.Refused.{Refused}
use Rattle.gl_base.specs.declared.refusals.Refused.TheVariants.{NoMemory, NotNow}
use Rattle.gl_base.specs.declared.scopes.ScopeId.{ScopeId}
use Rattle.cluster_laws.specs.cluster_core.Actions.{HasFirst}
use Rattle.cluster_laws.specs.cluster_core.Messages as law_messages
use Rattle.cluster_laws.specs.cluster_model.Events as law
use Rattle.cluster_step.specs.clusters.Inner.Writing.{HasLinkBetween, behind_first, with_link_between}
use Rattle.cluster_step.specs.clusters.Links.{LinkView, link_between, message_read}
use Rattle.cluster_step.proofs.clusters.LinkLemmas.{has_stays, links_stay}
use Rattle.cluster_step.specs.clusters.Clusters.{Cluster, HaveLinks, IsSavingClusterOf, IsSnapSetting, Machine, Parts, Setting, StandsForSaving, StandsForSameSaving, messages_on}
use Rattle.cluster_step.specs.clusters.Events.{AnswersEvent, CanTakePlace, CanNotTakePlace, IsLocalEvent, IsNamedEvent, IsPassageEvent, TakesPlace, acting, is_resting}
use Rattle.coordinator.specs.machine_api.Promises.{Admit, CanAdmit, CanDo, CanNotAdmit, CanNotDo, MayReceiveFirst, Deed, HasAdmittedSome, HasDone, HasReceived, IsFirstFrom, SendsItsFirst, MayBeDone, MessageView, OfEach, StandsStill, Update, does, fails, message_view, view_of}
use Rattle.cluster_step.specs.declared.clusters.events.Event.{Event}
use Rattle.cluster_step.specs.declared.clusters.events.Event.TheVariants as event
use Rattle.cluster_step.specs.declared.clusters.events.Local.{Local}
use Rattle.cluster_step.specs.declared.clusters.events.Local.TheVariants as local
use Rattle.cluster_step.specs.declared.clusters.events.Passage.{Passage}
use Rattle.cluster_step.specs.declared.clusters.events.Passage.TheVariants as passage
use Rattle.cluster_step.proofs.clusters.Lines.{ChangesLine, first_is, line_changes, line_same, none_is, then_changes}
use Rattle.cluster_step.proofs.clusters.Making.{IsHomeOf, IsInTurn, deed_made, deliver_made, does_so, event_of, fail_made, is_awake, law_may, left_behind, link_is, machine_here, next_behind, own_may, same_lines, same_made, send_made, stays, still_runs}
use Rattle.wire.specs.declared.wire_msgs.messages.Message.{Message}

-- what is said where none is there
pub if_none : {X : Type 0} {P : Type 0} (o : Option X) → o ≡ None → IfNone o P → P
if_none None is holds = holds
if_none (Some x) is holds = absurd (cc)

pub first_none : (o : Option Message) (messages : List MessageView) → o ≡ None → option_map message_view o ≡ slice_get messages 0 → messages ≡ []
first_none o messages is first = none_is messages (ap (option_map message_view) (sym is) ∙ first)

module _ {M : Type 0} (represents : Setting → ℕ → Machine → M → Type 0) (old : Parts M) where
  pub ok_answers : (what : Event) (new : Parts M) → TakesPlace represents old what new → AnswersEvent represents old what (Ok tt) new
  ok_answers what new made = record { made = made; not_now = λ is. absurd (cc); no_memory = λ is. absurd (cc); unchanged = tt }

  pub not_now_answers : (what : Event) (new : Parts M) → CanNotTakePlace represents old what → StandsForSameSaving represents old new → AnswersEvent represents old what (Err NotNow) new
  not_now_answers what new cannot same = record { made = tt; not_now = λ is. cannot; no_memory = λ is. absurd (cc); unchanged = same }

  pub no_memory_answers : (what : Event) (new : Parts M) → CanTakePlace represents old what → StandsForSameSaving represents old new → AnswersEvent represents old what (Err NoMemory) new
  no_memory_answers what new can same = record { made = tt; not_now = λ is. absurd (cc); no_memory = λ is. can; unchanged = same }

  pub same_here : StandsForSameSaving represents old old
  same_here st c setting of = of

  module _ (runs : old.stopped ≡ false) where
    pub going : (st : Setting) (c : Cluster) → IsSavingClusterOf represents st old c → c.stopped ≡ false
    going st c of = of.stopped ∙ runs

    -- nothing happens where nothing of the kind might be done
    pub never : (what : Event) → ((st : Setting) (c : Cluster) → IsSnapSetting st → IsSavingClusterOf represents st old c → (e : law.Event) → IsNamedEvent what e → law.MayDo st c e → ⊥) → CanNotTakePlace represents old what
    never what cannot st c setting of e is may = cannot st c setting of e is may.1

    -- no ticket is left
    pub update_spent : (s : ScopeId) → old.left ≡ 0 → AnswersEvent represents old (event.Local (local.Update s)) (Err NotNow) old
    update_spent s spent =
        not_now_answers (event.Local (local.Update s)) old
        (never (event.Local (local.Update s)) (λ st c setting of e is_e may.
        let there : law.MayDo st c (law.Update s) = subst (law.MayDo st c) is_e may in
        let some : 0 < c.left = there.1.ticket in
        let none : c.left ≡ 0 = of.left ∙ spent in
        absurd (omega arith)))
        same_here

    -- ---- machine a

    module _ (a : ℕ) (inside : a < length old.machines.items) (awake : slice_index_or old.failed.items a false ≡ false) (x : M) (read : x ≡ get_or old.machines.items a x) where
      low : (st : Setting) (c : Cluster) → IsSavingClusterOf represents st old c → a < st.machines
      low st c of = subst (λ (n : ℕ). a < n) of.many inside

      here : (st : Setting) (c : Cluster) (setting : IsSnapSetting st) (of : IsSavingClusterOf represents st old c) → represents st a (c.machine a) x
      here st c setting of = machine_here represents st setting old c of a (low st c of) x read

      -- it is what it was
      pub still_here : (y : M) → StandsStill represents x y → (links : List (List LinkView)) → ((n : ℕ) → HaveLinks old.links n → HaveLinks links n) →
          ((i j : ℕ) → messages_on links i j ≡ messages_on old.links i j) → StandsForSameSaving represents old (record old { machines = with_item old.machines a y; links = links })
      still_here y still links have same st c setting of =
          same_made represents st setting old c of a (low st c of) y (still st a (c.machine a) setting (here st c setting of)) links (have (suc st.machines) of.links) same

      pub still_alone : (y : M) → StandsStill represents x y → StandsForSameSaving represents old (record old { machines = with_item old.machines a y })
      still_alone y still = still_here y still old.links (λ n have. have) (λ i j. refl)

      -- a deed that draws no ticket
      module _ (what : Event) (d : Deed) (is : IsNamedEvent what (event_of a d)) (one : (e : law.Event) → IsNamedEvent what e → e ≡ event_of a d) (home : IsHomeOf a d)
          (turn : (c : Cluster) → IsInTurn c d) (none : (c : Cluster) → (next_behind d c.next ≡ c.next) × (left_behind d c.left ≡ c.left)) where
        deed_may : (st : Setting) (c : Cluster) (setting : IsSnapSetting st) (of : IsSavingClusterOf represents st old c) → MayBeDone st a (c.machine a) d → law.MayOccur st c (event_of a d)
        deed_may st c setting of may = (going st c of, law_may st c a (is_awake represents st setting old c of a (low st c of) awake) d (turn c) may)

        pub deed_happens : (y : M) → HasDone represents x d y → TakesPlace represents old what (record old { machines = with_item old.machines a y })
        deed_happens y has st c setting of =
            let done = has st a (c.machine a) setting (here st c setting of) in
            let runs_now = is_awake represents st setting old c of a (low st c of) awake in
            record {
              event = event_of a d;
              is = is;
              may = deed_may st c setting of done.0;
              after = deed_made represents st setting old c of a (low st c of) y (does st a d (c.machine a)) done.1 (still_runs st a d (c.machine a))
                  (event_of a d) (deed_may st c setting of done.0) (stays a d) old.next old.left (next_behind d c.next) (left_behind d c.left)
                  ((none c).0 ∙ of.next) ((none c).1 ∙ of.left) of.few (does_so st c a runs_now d (turn c) done.0);
            }

        pub deed_can : CanDo represents x d → CanTakePlace represents old what
        deed_can can st c setting of = (event_of a d, is, deed_may st c setting of (can st a (c.machine a) setting (here st c setting of)))

        pub deed_cannot : CanNotDo represents x d → CanNotTakePlace represents old what
        deed_cannot cannot =
            never what (λ st c setting of e is_e may. cannot st a (c.machine a) setting (here st c setting of)
            (own_may st c a (is_awake represents st setting old c of a (low st c of) awake) d home (subst (law.MayDo st c) (one e is_e) may)))

        pub deed_answers : (r : Result (Unit {0}) Refused) (y : M) → OnOk r (HasDone represents x d y) → (r ≡ Err NotNow → CanNotDo represents x d) → (r ≡ Err NoMemory → CanDo represents x d) →
            OnErr r (StandsStill represents x y) → AnswersEvent represents old what r (record old { machines = with_item old.machines a y })
        deed_answers (Ok u) y has cannot can still = ok_answers what (record old { machines = with_item old.machines a y }) (deed_happens y has)
        deed_answers (Err NotNow) y has cannot can still = not_now_answers what (record old { machines = with_item old.machines a y }) (deed_cannot (cannot refl)) (still_alone y still)
        deed_answers (Err NoMemory) y has cannot can still = no_memory_answers what (record old { machines = with_item old.machines a y }) (deed_can (can refl)) (still_alone y still)

      -- an admission, of a vertex of the machine's choice
      pub admit_answers : (at : MachineNo) → at.0 ≡ a → (r : Result (Unit {0}) Refused) (y : M) → OnOk r (HasAdmittedSome represents x y) → (r ≡ Err NotNow → CanNotAdmit represents x) →
          (r ≡ Err NoMemory → CanAdmit represents x) → OnErr r (StandsStill represents x y) → AnswersEvent represents old (event.Local (local.Admit at)) r (record old { machines = with_item old.machines a y })
      admit_answers at at_is (Ok u) y has cannot can still =
          ok_answers (event.Local (local.Admit at)) (record old { machines = with_item old.machines a y })
          (λ st c setting of.
          let done = has st a (c.machine a) setting (here st c setting of) in
          let runs_now = is_awake represents st setting old c of a (low st c of) awake in
          let may : law.MayOccur st c (law.Admit a done.0) = (going st c of, (runs_now, done.1)) in
          record {
            event = law.Admit a done.0;
            is = (done.0, ap (λ (k : ℕ). law.Admit k done.0) (sym at_is));
            may = may;
            after = deed_made represents st setting old c of a (low st c of) y (does st a (Admit done.0) (c.machine a)) done.2 refl
                (law.Admit a done.0) may (λ base is. cc) old.next old.left c.next c.left of.next of.left of.few refl;
          })
      admit_answers at at_is (Err NotNow) y has cannot can still =
          not_now_answers (event.Local (local.Admit at)) (record old { machines = with_item old.machines a y })
          (never (event.Local (local.Admit at)) (λ st c setting of e is_e may.
          let there : law.MayDo st c (law.Admit a is_e.0) = subst (law.MayDo st c) (is_e.1 ∙ ap (λ (k : ℕ). law.Admit k is_e.0) at_is) may in
          cannot refl st a (c.machine a) setting (here st c setting of) is_e.0 there.1))
          (still_alone y still)
      admit_answers at at_is (Err NoMemory) y has cannot can still =
          no_memory_answers (event.Local (local.Admit at)) (record old { machines = with_item old.machines a y })
          (λ st c setting of.
          let some = can refl st a (c.machine a) setting (here st c setting of) in
          (law.Admit a some.0, (some.0, ap (λ (k : ℕ). law.Admit k some.0) (sym at_is)), (going st c of, (is_awake represents st setting old c of a (low st c of) awake, some.1))))
          (still_alone y still)

      -- ---- a failure

      pub fail_answers : (at : MachineNo) → at.0 ≡ a → (y : M) → OfEach represents x (λ st b m. represents st b (fails m) y) → (flags : Vec Bool Global) → flags.items ≡ set old.failed.items a true →
          AnswersEvent represents old (event.Local (local.Fail at)) (Ok tt) (record old { machines = with_item old.machines a y; failed = flags })
      fail_answers at at_is y has flags are =
          ok_answers (event.Local (local.Fail at)) (record old { machines = with_item old.machines a y; failed = flags })
          (λ st c setting of.
          let may : law.MayOccur st c (law.Fail a) = (going st c of, is_awake represents st setting old c of a (low st c of) awake) in
          record {
            event = law.Fail a;
            is = ap law.Fail (sym at_is);
            may = may;
            after = fail_made represents st setting old c of a (low st c of) may y (has st a (c.machine a) setting (here st c setting of)) flags are;
          })

      -- ---- an update, which draws the next ticket

      module _ (s : ScopeId) (at_home : s.home.0 ≡ a) where
        update_may : (st : Setting) (c : Cluster) (setting : IsSnapSetting st) (of : IsSavingClusterOf represents st old c) → 0 < old.left → MayBeDone st a (c.machine a) (Update s old.next) → law.MayOccur st c (law.Update s)
        update_may st c setting of some may =
            (going st c of, law_may st c a (is_awake represents st setting old c of a (low st c of) awake) (Update s old.next) (subst (λ (n : ℕ). 0 < n) (sym of.left) some, sym of.next) may)

        next_ticket : (n : ℕ) → suc n ≡ n + 1
        next_ticket n = sym (add-one n)

        one_less : (n : ℕ) → pred n ≡ n - 1
        one_less n = omega arith

        still_few : (next left : ℕ) → 0 < left → next + left < 2 ^ 64 → (next + 1) + (left - 1) < 2 ^ 64
        still_few next left some few = omega arith

        pub update_answers : (y : M) → 0 < old.left → HasDone represents x (Update s old.next) y →
            AnswersEvent represents old (event.Local (local.Update s)) (Ok tt) (record old { machines = with_item old.machines a y; next = old.next + 1; left = old.left - 1 })
        update_answers y some has =
            ok_answers (event.Local (local.Update s)) (record old { machines = with_item old.machines a y; next = old.next + 1; left = old.left - 1 })
            (λ st c setting of.
            let done = has st a (c.machine a) setting (here st c setting of) in
            let runs_now = is_awake represents st setting old c of a (low st c of) awake in
            let may : law.MayOccur st c (law.Update s) = update_may st c setting of some done.0 in
            let d : Deed = Update s old.next in
            record {
              event = law.Update s;
              is = refl;
              may = may;
              after = deed_made represents st setting old c of a (low st c of) y (does st a d (c.machine a)) done.1 (still_runs st a d (c.machine a))
                  (law.Update s) may (λ base is. cc) (old.next + 1) (old.left - 1) (suc c.next) (pred c.left)
                  (ap suc of.next ∙ next_ticket old.next) (ap pred of.left ∙ one_less old.left) (still_few old.next old.left some of.few)
                  (does_so st c a runs_now d (subst (λ (n : ℕ). 0 < n) (sym of.left) some, sym of.next) done.0);
            })

        pub update_refused : (e : Refused) (y : M) → 0 < old.left → (e ≡ NotNow → CanNotDo represents x (Update s old.next)) → (e ≡ NoMemory → CanDo represents x (Update s old.next)) → StandsStill represents x y →
            AnswersEvent represents old (event.Local (local.Update s)) (Err e) (record old { machines = with_item old.machines a y })
        update_refused NotNow y some cannot can still =
            not_now_answers (event.Local (local.Update s)) (record old { machines = with_item old.machines a y })
            (never (event.Local (local.Update s)) (λ st c setting of e is_e may.
            let there : law.MayDo st c (law.Update s) = subst (law.MayDo st c) is_e may in
            cannot refl st a (c.machine a) setting (here st c setting of)
            (own_may st c a (is_awake represents st setting old c of a (low st c of) awake) (Update s old.next) at_home there)))
            (still_alone y still)
        update_refused NoMemory y some cannot can still =
            no_memory_answers (event.Local (local.Update s)) (record old { machines = with_item old.machines a y })
            (λ st c setting of. (law.Update s, refl, update_may st c setting of some (can refl st a (c.machine a) setting (here st c setting of))))
            (still_alone y still)

    -- ---- between machines

    -- the links are as they were but for room
    pub kept_lines : (p q : ℕ) → HasLinkBetween old.links p q → (links : List (List LinkView)) → messages_on links p q ≡ messages_on old.links p q →
        links ≡ with_link_between old.links p q (link_between links p q) → (i j : ℕ) → messages_on links i j ≡ messages_on old.links i j
    kept_lines p q has links same rest = line_same (line_changes old.links p q has links rest (messages_on old.links p q) same) refl

    -- a message more is on the link
    pub pushed_line : (p q : ℕ) → HasLinkBetween old.links p q → (mid : List (List LinkView)) → messages_on mid p q ≡ messages_on old.links p q → mid ≡ with_link_between old.links p q (link_between mid p q) →
        (m : MessageView) (links : List (List LinkView)) → messages_on links p q ≡ messages_on mid p q ++ m ∷ [] → links ≡ with_link_between mid p q (link_between links p q) →
        ChangesLine old.links links p q (messages_on old.links p q ++ m ∷ [])
    pushed_line p q has mid same rest m links last again =
        then_changes old.links mid links p q (messages_on old.links p q) (messages_on old.links p q ++ m ∷ [])
        (line_changes old.links p q has mid rest (messages_on old.links p q) same)
        (line_changes mid p q (has_stays old.links p q has mid rest) links again (messages_on old.links p q ++ m ∷ []) (last ∙ ap (λ (ms : List MessageView). ms ++ m ∷ []) same))

    -- the first message was taken, and put back
    pub back_line : (p q : ℕ) → HasLinkBetween old.links p q → (m : MessageView) → messages_on old.links p q ≡ m ∷ behind_first (messages_on old.links p q) → (mid : List (List LinkView)) →
        messages_on mid p q ≡ behind_first (messages_on old.links p q) → mid ≡ with_link_between old.links p q (link_between mid p q) →
        (links : List (List LinkView)) → messages_on links p q ≡ m ∷ messages_on mid p q → links ≡ with_link_between mid p q (link_between links p q) →
        (i j : ℕ) → messages_on links i j ≡ messages_on old.links i j
    back_line p q has m first mid behind rest links put again =
        line_same
        (then_changes old.links mid links p q (behind_first (messages_on old.links p q)) (m ∷ behind_first (messages_on old.links p q))
        (line_changes old.links p q has mid rest (behind_first (messages_on old.links p q)) behind)
        (line_changes mid p q (has_stays old.links p q has mid rest) links again (m ∷ behind_first (messages_on old.links p q)) (put ∙ ap (λ (ms : List MessageView). m ∷ ms) behind)))
        (sym first)

    pub links_after : (p q : ℕ) → HasLinkBetween old.links p q → (mid links : List (List LinkView)) → mid ≡ with_link_between old.links p q (link_between mid p q) →
        links ≡ with_link_between mid p q (link_between links p q) → (n : ℕ) → HaveLinks old.links n → HaveLinks links n
    links_after p q has mid links rest again n have =
        links_stay mid p q (has_stays old.links p q has mid rest) links again n (links_stay old.links p q has mid rest n have)

    -- only links are others, which tell the same
    pub still_lines : (links : List (List LinkView)) → ((n : ℕ) → HaveLinks old.links n → HaveLinks links n) → ((i j : ℕ) → messages_on links i j ≡ messages_on old.links i j) →
        StandsForSameSaving represents old (record old { links = links })
    still_lines links have same st c setting of = same_lines represents st setting old c of links (have (suc st.machines) of.links) same old.coordinator of.coordinator

    -- nothing was on the link
    pub none_line : (p q : ℕ) → HasLinkBetween old.links p q → messages_on old.links p q ≡ [] → (links : List (List LinkView)) → messages_on links p q ≡ behind_first (messages_on old.links p q) →
        links ≡ with_link_between old.links p q (link_between links p q) → (i j : ℕ) → messages_on links i j ≡ messages_on old.links i j
    none_line p q has none links behind rest = line_same (line_changes old.links p q has links rest (behind_first (messages_on old.links p q)) behind) (ap behind_first none ∙ sym none)

    -- the first one was taken
    pub taken_line : (p q : ℕ) → HasLinkBetween old.links p q → (links : List (List LinkView)) → messages_on links p q ≡ behind_first (messages_on old.links p q) →
        links ≡ with_link_between old.links p q (link_between links p q) → ChangesLine old.links links p q (behind_first (messages_on old.links p q))
    taken_line p q has links behind rest = line_changes old.links p q has links rest (behind_first (messages_on old.links p q)) behind

    module _ (p q : MachineNo) (in_p : p.0 < length old.machines.items) (in_q : q.0 < length old.machines.items) where
      low_p : (st : Setting) (c : Cluster) → IsSavingClusterOf represents st old c → p.0 < st.machines
      low_p st c of = subst (λ (n : ℕ). p.0 < n) of.many in_p

      low_q : (st : Setting) (c : Cluster) → IsSavingClusterOf represents st old c → q.0 < st.machines
      low_q st c of = subst (λ (n : ℕ). q.0 < n) of.many in_q

      module _ (awake : slice_index_or old.failed.items p.0 false ≡ false) (x : M) (read : x ≡ get_or old.machines.items p.0 x) where
        sender : (st : Setting) (c : Cluster) (setting : IsSnapSetting st) (of : IsSavingClusterOf represents st old c) → represents st p.0 (c.machine p.0) x
        sender st c setting of = machine_here represents st setting old c of p.0 (low_p st c of) x read

        -- nothing waits there
        pub send_none : (new : Parts M) → OfEach represents x (λ st a m. HasFirst (m.part.out q.0) → ⊥) → StandsForSameSaving represents old new → AnswersEvent represents old (event.Passage (passage.Send p q)) (Err NotNow) new
        send_none new none same =
            not_now_answers (event.Passage (passage.Send p q)) new
            (never (event.Passage (passage.Send p q)) (λ st c setting of e is_e may.
            let there : law.MayDo st c (law.Send p.0 q.0) = subst (law.MayDo st c) is_e may in
            none st p.0 (c.machine p.0) setting (sender st c setting of) there.2))
            same

        send_may : (st : Setting) (c : Cluster) (setting : IsSnapSetting st) (of : IsSavingClusterOf represents st old c) → HasFirst ((c.machine p.0).part.out q.0) → law.MayOccur st c (law.Send p.0 q.0)
        send_may st c setting of first = (going st c of, (is_awake represents st setting old c of p.0 (low_p st c of) awake, low_q st c of, first))

        pub send_full : (new : Parts M) → OfEach represents x (λ st a m. HasFirst (m.part.out q.0)) → StandsForSameSaving represents old new → AnswersEvent represents old (event.Passage (passage.Send p q)) (Err NoMemory) new
        send_full new some same =
            no_memory_answers (event.Passage (passage.Send p q)) new (λ st c setting of. (law.Send p.0 q.0, refl, send_may st c setting of (some st p.0 (c.machine p.0) setting (sender st c setting of)))) same

        pub send_answers : (y : M) (message : Message) (links : List (List LinkView)) → ((n : ℕ) → HaveLinks old.links n → HaveLinks links n) → OfEach represents x (SendsItsFirst represents q.0 message y) →
            ChangesLine old.links links p.0 q.0 (messages_on old.links p.0 q.0 ++ message_view message ∷ []) →
            AnswersEvent represents old (event.Passage (passage.Send p q)) (Ok tt) (record old { machines = with_item old.machines p.0 y; links = links })
        send_answers y message links have sends changes =
            ok_answers (event.Passage (passage.Send p q)) (record old { machines = with_item old.machines p.0 y; links = links })
            (λ st c setting of.
            let sending = sends st p.0 (c.machine p.0) setting (sender st c setting of) in
            let may : law.MayOccur st c (law.Send p.0 q.0) = send_may st c setting of (record { message = view_of message; behind = sending.behind; first = sending.first }) in
            record {
              event = law.Send p.0 q.0;
              is = refl;
              may = may;
              after = send_made represents st setting old c of p.0 q.0 (low_p st c of) (low_q st c of) links (have (suc st.machines) of.links) may y message sending changes;
            })

      -- ---- what comes

      pub deliver_none : (new : Parts M) → messages_on old.links p.0 q.0 ≡ [] → StandsForSameSaving represents old new → AnswersEvent represents old (event.Passage (passage.Deliver p q)) (Err NotNow) new
      deliver_none new none same =
          not_now_answers (event.Passage (passage.Deliver p q)) new
          (never (event.Passage (passage.Deliver p q)) (λ st c setting of e is_e may.
          let there : law.MayDo st c (law.Deliver p.0 q.0) = subst (law.MayDo st c) is_e may in
          let empty : c.link p.0 q.0 ≡ [] = of.told p.0 q.0 (low_p st c of) (low_q st c of) ∙ ap (map message_read) none in
          let first = there.2.first in
          absurd (cc (empty, first))))
          same

      module _ (message : Message) (is : Some (message_view message) ≡ slice_get (messages_on old.links p.0 q.0) 0) (awake : slice_index_or old.failed.items q.0 false ≡ false) where
        abbrev told_behind : List law_messages.Message
        told_behind = map message_read (behind_first (messages_on old.links p.0 q.0))

        link_first : (st : Setting) (c : Cluster) → IsSavingClusterOf represents st old c → c.link p.0 q.0 ≡ view_of message ∷ told_behind
        link_first st c of = of.told p.0 q.0 (low_p st c of) (low_q st c of) ∙ ap (map message_read) (first_is (messages_on old.links p.0 q.0) (message_view message) is)

        deliver_may : (st : Setting) (c : Cluster) (setting : IsSnapSetting st) (of : IsSavingClusterOf represents st old c) → law.MayOccur st c (law.Deliver p.0 q.0)
        deliver_may st c setting of =
            (going st c of, (is_awake represents st setting old c of q.0 (low_q st c of) awake, low_p st c of, record { message = view_of message; behind = told_behind; first = link_first st c of }))

        module _ (x : M) (read : x ≡ get_or old.machines.items q.0 x) where
          first_from : (st : Setting) (c : Cluster) (setting : IsSnapSetting st) (of : IsSavingClusterOf represents st old c) → IsFirstFrom represents x p.0 message st c q.0
          first_from st c setting of = record {
            setting = setting;
            going = of.going;
            machine = low_q st c of;
            here = machine_here represents st setting old c of q.0 (low_q st c of) x read;
            behind = told_behind;
            first = link_first st c of;
          }

          pub can_receive : StandsForSaving represents old → MayReceiveFirst represents x p.0 message
          can_receive some = (some.0, some.1, q.0, first_from some.0 some.1 some.2 some.3)

          pub deliver_full : (new : Parts M) → StandsForSameSaving represents old new → AnswersEvent represents old (event.Passage (passage.Deliver p q)) (Err NoMemory) new
          deliver_full new same = no_memory_answers (event.Passage (passage.Deliver p q)) new (λ st c setting of. (law.Deliver p.0 q.0, refl, deliver_may st c setting of)) same

          pub deliver_answers : (y : M) (links : List (List LinkView)) → ((n : ℕ) → HaveLinks old.links n → HaveLinks links n) → HasReceived represents x p.0 message y →
              ChangesLine old.links links p.0 q.0 (behind_first (messages_on old.links p.0 q.0)) →
              AnswersEvent represents old (event.Passage (passage.Deliver p q)) (Ok tt) (record old { machines = with_item old.machines q.0 y; links = links })
          deliver_answers y links have has changes =
              ok_answers (event.Passage (passage.Deliver p q)) (record old { machines = with_item old.machines q.0 y; links = links })
              (λ st c setting of. record {
                event = law.Deliver p.0 q.0;
                is = refl;
                may = deliver_may st c setting of;
                after = deliver_made represents st setting old c of p.0 q.0 (low_p st c of) (low_q st c of) links (have (suc st.machines) of.links) (deliver_may st c setting of) y (view_of message) told_behind
                    (link_first st c of) (has st c q.0 (first_from st c setting of)) (behind_first (messages_on old.links p.0 q.0)) refl changes;
              })

  -- the machine that acts has failed
  rests_here : (a : ℕ) → slice_index_or old.failed.items a false ≡ true → (st : Setting) (c : Cluster) → IsSavingClusterOf represents st old c → law.IsAwake st c a → ⊥
  rests_here a rests st c of awake = let both : true ≡ false = sym rests ∙ sym (of.runs a awake.machine) ∙ awake.runs in absurd (cc)

  rests_local : (what : Local) → is_resting old.failed.items (acting (event.Local what)) ≡ true →
      (st : Setting) (c : Cluster) → IsSavingClusterOf represents st old c → (e : law.Event) → IsLocalEvent what e → law.MayDo st c e → ⊥
  rests_local (local.Admit a) rests st c of e is may =
      let there : law.MayDo st c (law.Admit a.0 is.0) = subst (law.MayDo st c) is.1 may in rests_here a.0 rests st c of there.0
  rests_local (local.Grant a x) rests st c of e is may =
      let there : law.MayDo st c (law.Grant a.0 x.0) = subst (law.MayDo st c) is may in rests_here a.0 rests st c of there.0
  rests_local (local.Update s) rests st c of e is may =
      let there : law.MayDo st c (law.Update s) = subst (law.MayDo st c) is may in rests_here s.home.0 rests st c of there.0
  rests_local (local.Mark s) rests st c of e is may =
      let there : law.MayDo st c (law.Mark s) = subst (law.MayDo st c) is may in rests_here s.home.0 rests st c of there.0
  rests_local (local.Section a) rests st c of e is may =
      let there : law.MayDo st c (law.Section a.0) = subst (law.MayDo st c) is may in rests_here a.0 rests st c of there.0
  rests_local (local.Fail a) rests st c of e is may =
      let there : law.MayDo st c (law.Fail a.0) = subst (law.MayDo st c) is may in rests_here a.0 rests st c of there

  rests_passage : (what : Passage) → is_resting old.failed.items (acting (event.Passage what)) ≡ true →
      (st : Setting) (c : Cluster) → IsSavingClusterOf represents st old c → (e : law.Event) → IsPassageEvent what e → law.MayDo st c e → ⊥
  rests_passage (passage.Send p q) rests st c of e is may =
      let there : law.MayDo st c (law.Send p.0 q.0) = subst (law.MayDo st c) is may in rests_here p.0 rests st c of there.0
  rests_passage (passage.Deliver p q) rests st c of e is may =
      let there : law.MayDo st c (law.Deliver p.0 q.0) = subst (law.MayDo st c) is may in rests_here q.0 rests st c of there.0
  rests_passage (passage.SendCall a) rests st c of e is may = absurd (cc)
  rests_passage (passage.DeliverCall a) rests st c of e is may =
      let there : law.MayDo st c (law.DeliverCall a.0) = subst (law.MayDo st c) is may in rests_here a.0 rests st c of there.0
  rests_passage (passage.SendReport a) rests st c of e is may =
      let there : law.MayDo st c (law.SendReport a.0) = subst (law.MayDo st c) is may in rests_here a.0 rests st c of there.0
  rests_passage (passage.DeliverReport a) rests st c of e is may = absurd (cc)

  rests_so : (what : Event) → is_resting old.failed.items (acting what) ≡ true →
      (st : Setting) (c : Cluster) → IsSavingClusterOf represents st old c → (e : law.Event) → IsNamedEvent what e → law.MayDo st c e → ⊥
  rests_so (event.Local what) rests st c of e is may = rests_local what rests st c of e is may
  rests_so (event.Lead what) rests st c of e is may = absurd (cc)
  rests_so (event.Passage what) rests st c of e is may = rests_passage what rests st c of e is may

  pub rest_cannot : (what : Event) → is_resting old.failed.items (acting what) ≡ true → CanNotTakePlace represents old what
  rest_cannot what rests st c setting of e is may = rests_so what rests st c of e is may.1

  pub rest_answers : (what : Event) → is_resting old.failed.items (acting what) ≡ true → AnswersEvent represents old what (Err NotNow) old
  rest_answers what rests = not_now_answers what old (rest_cannot what rests) same_here

  -- after the end
  pub stopped_cannot : (what : Event) → old.stopped ≡ true → CanNotTakePlace represents old what
  stopped_cannot what stopped st c setting of e is may = let both : false ≡ true = sym may.0 ∙ of.stopped ∙ stopped in absurd (cc)

  pub stopped_answers : (what : Event) → old.stopped ≡ true → AnswersEvent represents old what (Err NotNow) old
  stopped_answers what stopped = not_now_answers what old (stopped_cannot what stopped) same_here

  -- ---- where the links are

  module _ (some : StandsForSaving represents old) where
    pub few_here : old.next + old.left < 2 ^ 64
    few_here = some.3.few

    pub flags_here : length old.failed.items ≡ length old.machines.items
    flags_here = some.3.flags ∙ sym some.3.many

    pub small_here : length old.machines.items < 65535
    small_here = subst (λ (n : ℕ). n < 65535) (sym some.3.many) some.3.small

    all_links : (p q : ℕ) → p < suc (length old.machines.items) → q < suc (length old.machines.items) → HasLinkBetween old.links p q
    all_links p q low_p low_q =
        let many = some.3.many in
        link_is represents some.0 some.2 old some.1 some.3 p q (subst (λ (n : ℕ). p < suc n) many low_p) (subst (λ (n : ℕ). q < suc n) many low_q)

    below : (x y : ℕ) → x < y → x < suc y
    below x y low = omega arith

    last : (y : ℕ) → y < suc y
    last y = omega arith

    pub link_between_machines : (p q : ℕ) → p < length old.machines.items → q < length old.machines.items → HasLinkBetween old.links p q
    link_between_machines p q low_p low_q = all_links p q (below p (length old.machines.items) low_p) (below q (length old.machines.items) low_q)

    pub link_of_calls : (a : ℕ) → a < length old.machines.items → HasLinkBetween old.links (length old.machines.items) a
    link_of_calls a low_a = all_links (length old.machines.items) a (last (length old.machines.items)) (below a (length old.machines.items) low_a)

    pub link_of_reports : (a : ℕ) → a < length old.machines.items → HasLinkBetween old.links a (length old.machines.items)
    link_of_reports a low_a = all_links a (length old.machines.items) (below a (length old.machines.items) low_a) (last (length old.machines.items))
