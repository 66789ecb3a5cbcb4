-- What each event but a recovery logs: the update that it makes, if it makes one.
use Rattle.std.proofs.Common.{◌≡◌, ◌⊎◌, ℕ, suc, ◌<◌, ◌≤◌, Bool, true, false, if◌then◌else◌, Option, List, [], ◌∷◌, ◌++◌, refl, sym, ◌∙◌, ap, subst, ⊎_elim, le_trans, le_antisymm, arith}
use Rattle.std.specs.List.{AllByRecursion}
use Rattle.std.proofs.lemmas.Bool.{cases_lt}
use Rattle.std.proofs.lemmas.List.{append_cancel_left}
use Rattle.std.proofs.lemmas.List.Elements.{filter-append}
use Rattle.gl_base.specs.declared.entries.Entry.{Entry}
use Rattle.gl_base.specs.declared.entries.Entry.TheVariants.{Go, Restart}
use Rattle.gl_base.specs.declared.numbers.MachineNo.{MachineNo}
use Rattle.gl_base.specs.declared.numbers.Vertex.{Vertex}
use Rattle.gl_base.specs.declared.scopes.ScopeId.{ScopeId}
use Rattle.graph_core.proofs.HalvesLaws.{each-append}
use Rattle.graph_core.specs.DataGraph.{size}
use Rattle.cluster_laws.specs.cluster_core.Cuts.{cut_of}
use Rattle.cluster_laws.specs.cluster_core.Marks.{mark_of}
use Rattle.cluster_laws.specs.cluster_core.Messages.{Message}
use Rattle.cluster_laws.specs.cluster_core.Replays.{entries_of, is_of}
use Rattle.cluster_laws.specs.cluster_core.Settings.{IsSetting, Setting}
use Rattle.cluster_laws.specs.cluster_core.Snapshots.{IsConsistent}
use Rattle.cluster_laws.specs.cluster_core.Worlds.{World}
use Rattle.cluster_laws.proofs.cluster_core.Basics.{set_at-same}
use Rattle.cluster_laws.specs.cluster_cuts.Goings.{BeginsOne, StaysSo, UpdatesOne}
use Rattle.cluster_laws.specs.cluster_model.Calls.{Call, Report}
use Rattle.cluster_laws.specs.cluster_model.Clusters.{Cluster}
use Rattle.cluster_laws.specs.cluster_model.Events.{Event, Admit, DeliverCall, DeliverReport, Deliver, Fail, Grant, Mark, MayDo, PutBegin, PutStep, PutWave, Record, Recover, Section, Send, SendCall, SendReport, Stop, Update, after_event, delivers_call, delivers_message, delivers_report, makes, saves, sends_call, sends_message, sends_report}
use Rattle.cluster_laws.specs.cluster_model.Machines.{Machine}
use Rattle.cluster_laws.specs.cluster_model.Working.{makes_update, prompt}
use Rattle.whole_laws.specs.cluster_whole.Logged.{IsLogged, Logged, all_entries, entries_to, is_up_to}
use Rattle.whole_laws.specs.cluster_whole.Views.{world_of}
use Rattle.whole_laws.specs.cluster_whole.Whole.{IsNoRecovery, IsWhole}
use Rattle.whole_laws.proofs.cluster_whole.Wholeness.{event_moved, event_step}
use Rattle.whole_laws.proofs.cluster_records.Filtering.{all-more, all_up_to, passing-more_in, passing-more_out, up_to_no, up_to_yes}

-- ---- entries

vertex_in : Entry → ℕ
vertex_in (Go machine vertex ticket) = vertex.0
vertex_in (Restart ticket) = 0

machine_in : Entry → ℕ
machine_in (Go machine vertex ticket) = machine.0
machine_in (Restart ticket) = 0

machines_same : (p q : MachineNo) (x y : Vertex) (t u : ℕ) → Go p x t ≡ Go q y u → p.0 ≡ q.0
unfolding machine_in
machines_same p q x y t u is = ap machine_in is

vertices_same : (p q : MachineNo) (x y : Vertex) (t u : ℕ) → Go p x t ≡ Go q y u → x.0 ≡ y.0
unfolding vertex_in
vertices_same p q x y t u is = ap vertex_in is

one_same : (x y : Entry) → x ∷ [] ≡ y ∷ [] → x ≡ y
one_same x y is = cc

none_one : (x : Entry) → x ∷ [] ≡ [] → ⊥
none_one x is = cc

-- one entry more in a machine's part of an order
part_more : (a : ℕ) (order : List Entry) (entry : Entry) (b : Bool) → is_of a entry ≡ b → entries_of a (order ++ entry ∷ []) ≡ entries_of a order ++ (if b then entry ∷ [] else [])
part_more a order entry b is =
    filter-append (is_of a) order (entry ∷ []) ∙ ap (λ (x : Bool). entries_of a order ++ (if x then entry ∷ [] else [])) is

-- where the machine has one entry more, it is the order's
same_entry : (a : ℕ) (order log : List Entry) (one other : Entry) (b : Bool) → is_of a other ≡ b → log ≡ entries_of a order → log ++ one ∷ [] ≡ entries_of a (order ++ other ∷ []) → one ≡ other
same_entry a order log one other true is was now =
    one_same one other (append_cancel_left log (one ∷ []) (other ∷ []) (now ∙ part_more a order other true is ∙ ap (λ (es : List Entry). es ++ other ∷ []) (sym was)))
same_entry a order log one other false is was now =
    absurd (none_one one (append_cancel_left log (one ∷ []) [] (now ∙ part_more a order other false is ∙ ap (λ (es : List Entry). es ++ []) (sym was))))

le_up : (n k : ℕ) → n ≤ k → n ≤ suc k
le_up n k low = omega arith

suc_low : (n k : ℕ) → n ≤ k → suc n ≤ suc k
suc_low n k low = omega arith

not_next : (n : ℕ) → suc n ≡ n → ⊥
not_next n is = omega arith

all_later : (k : ℕ) (logged : List Logged) → AllByRecursion (λ l. l.number ≤ k) logged → AllByRecursion (λ l. l.number ≤ suc k) logged
all_later k [] all = tt
all_later k (l ∷ logged) all = (le_up l.number k all.0, all_later k logged all.1)

-- ---- what a step logs

module _ (st : Setting) (is : IsSetting st) (w : World) (kept : IsConsistent st w) (new : World) (next : IsConsistent st new) (logged : List Logged) (was : IsLogged st w kept logged) where
  stays : StaysSo st w kept new next → IsLogged st new next logged
  stays same =
      record {
        order = same.order ∙ was.order;
        cut = λ begun. (λ i. cut_of (same.count i) (same.order i)) ∙ was.cut (subst (λ (n : ℕ). st.base < n) same.begun begun) ∙ ap (λ (n : ℕ). entries_to n logged) (sym same.begun);
        low = subst (λ (n : ℕ). AllByRecursion (λ l. l.number ≤ suc n) logged) (sym same.begun) was.low;
      }

  begins : BeginsOne st w kept new next → IsLogged st new next logged
  begins one =
      record {
        order = one.order ∙ was.order;
        cut = λ begun. one.whole ∙ one.order ∙ was.order ∙ sym (all_up_to (suc w.begun) logged was.low) ∙ ap (λ (n : ℕ). entries_to n logged) (sym one.begun);
        low = subst (λ (n : ℕ). AllByRecursion (λ l. l.number ≤ suc n) logged) (sym one.begun) (all_later (suc w.begun) logged was.low);
      }

  updates : (one : UpdatesOne st w kept new next) → (l : Logged) → l.entry ≡ Go one.machine (record { 0 = one.vertex }) w.next → l.number ≡ suc (mark_of st w one.vertex) → IsLogged st new next (logged ++ l ∷ [])
  updates one l entry number =
      let made : Entry = Go one.machine (record { 0 = one.vertex }) w.next in
      let mark : ℕ = mark_of st w one.vertex in
      let mark_low : mark ≤ w.begun = le_trans (kept.marks.marks one.vertex one.within).1 (kept.marks.known (st.owner one.vertex) (is.owner one.vertex one.within)).1 in
      record {
        order = one.order ∙ ap (λ (es : List Entry). es ++ made ∷ []) was.order ∙ ap (λ (e : Entry). all_entries logged ++ e ∷ []) (sym entry) ∙ sym (all-more logged (l ∷ []));
        cut = λ begun.
            let under : st.base < w.begun = subst (λ (n : ℕ). st.base < n) one.begun begun in
            ⊎_elim
            (λ (less : mark < w.begun).
            (one.inside under less).1 ∙ ap (λ (es : List Entry). es ++ made ∷ []) (was.cut under) ∙ ap (λ (e : Entry). entries_to w.begun logged ++ e ∷ []) (sym entry)
            ∙ sym (passing-more_in (is_up_to w.begun) logged l (up_to_yes w.begun l (subst (λ (n : ℕ). n ≤ w.begun) (sym number) less))))
            (λ (high : w.begun ≤ mark).
            (one.outside under (le_antisymm mark_low high)).1 ∙ was.cut under
            ∙ sym (passing-more_out (is_up_to w.begun) logged l (up_to_no w.begun l (subst (λ (n : ℕ). w.begun < n) (sym number) (suc_low w.begun mark high)))))
            (cases_lt mark w.begun)
            ∙ ap (λ (n : ℕ). entries_to n (logged ++ l ∷ [])) (sym one.begun);
        low = subst (λ (n : ℕ). AllByRecursion (λ l. l.number ≤ suc n) (logged ++ l ∷ [])) (sym one.begun)
            (each-append (λ l. l.number ≤ suc w.begun) logged (l ∷ []) was.low (subst (λ (n : ℕ). n ≤ suc w.begun) (sym number) (suc_low mark w.begun mark_low), tt));
      }

-- ---- what an event logs

-- the update of the vertex, with the number of the first snapshot that has it
abbrev pub update_logged : Setting → Cluster → ScopeId → ℕ → Logged
update_logged st c s v = record { entry = Go s.home (record { 0 = v }) c.next; number = suc ((c.machine s.home.0).part.datum v).mark }

module _ (st : Setting) (is : IsSetting st) (c : Cluster) (whole : IsWhole st c) where
  -- the next cluster is whole
  abbrev pub next_whole : (event : Event) → MayDo st c event → IsNoRecovery event → IsWhole st (after_event st c event)
  next_whole event may other =
      record {
        within = (event_moved st is c whole event may other).within;
        apart = (event_moved st is c whole event may other).apart;
        consistent = (event_step st is c whole event may other).next;
      }

  module _ (logged : List Logged) (was : IsLogged st (world_of c) whole.consistent logged) where
    -- an event that draws no ticket logs nothing
    pub still_logged : (event : Event) (may : MayDo st c event) (other : IsNoRecovery event) → (after_event st c event).next ≡ c.next → IsLogged st (world_of (after_event st c event)) (next_whole event may other).consistent logged
    still_logged event may other same =
        let new : World = world_of (after_event st c event) in
        let one = event_step st is c whole event may other in
        ⊎_elim
        (λ (s : StaysSo st (world_of c) whole.consistent new one.next). stays st is (world_of c) whole.consistent new one.next logged was s)
        (λ (more : UpdatesOne st (world_of c) whole.consistent new one.next ⊎ BeginsOne st (world_of c) whole.consistent new one.next).
        ⊎_elim
        (λ (u : UpdatesOne st (world_of c) whole.consistent new one.next). absurd (not_next c.next (sym u.drawn ∙ same)))
        (λ (b : BeginsOne st (world_of c) whole.consistent new one.next). begins st is (world_of c) whole.consistent new one.next logged was b)
        more)
        one.how

    -- an update logs itself
    pub own_logged : (s : ScopeId) (may : MayDo st c (Update s)) (other : IsNoRecovery (Update s)) →
        (st.owner may.1.vertex ≡ s.home.0) × (may.1.vertex < size st.graph)
        × IsLogged st (world_of (after_event st c (Update s))) (next_whole (Update s) may other).consistent (logged ++ update_logged st c s may.1.vertex ∷ [])
    own_logged s may other =
        let event : Event = Update s in
        let a : ℕ = s.home.0 in
        let v : ℕ = may.1.vertex in
        let new : World = world_of (after_event st c event) in
        let one = event_step st is c whole event may other in
        let drawn : (after_event st c event).next ≡ suc c.next = subst (λ (flight : Option ℕ). (makes st c s flight).next ≡ suc c.next) (sym may.1.flight) refl in
        let made : Entry = Go s.home (record { 0 = v }) c.next in
        let log : (new.part a).log ≡ ((world_of c).part a).log ++ made ∷ [] =
        subst (λ (flight : Option ℕ). ((world_of (makes st c s flight)).part a).log ≡ ((world_of c).part a).log ++ made ∷ []) (sym may.1.flight)
        (ap (λ (m : Machine). m.part.log) (set_at-same c.machine a (prompt st a (makes_update st a s v made (c.machine a))))) in
        ⊎_elim
        (λ (x : StaysSo st (world_of c) whole.consistent new one.next). absurd (not_next c.next (sym drawn ∙ x.drawn)))
        (λ (more : UpdatesOne st (world_of c) whole.consistent new one.next ⊎ BeginsOne st (world_of c) whole.consistent new one.next).
        ⊎_elim
        (λ (u : UpdatesOne st (world_of c) whole.consistent new one.next).
        let entry : Entry = Go u.machine (record { 0 = u.vertex }) c.next in
        let same : made ≡ entry = same_entry a whole.consistent.order ((world_of c).part a).log made entry (is_of a entry) refl (whole.consistent.replay.logs a) (sym log ∙ one.next.replay.logs a ∙ ap (entries_of a) u.order) in
        let machine : a ≡ u.machine.0 = machines_same s.home u.machine (record { 0 = v }) (record { 0 = u.vertex }) c.next c.next same in
        let vertex : v ≡ u.vertex = vertices_same s.home u.machine (record { 0 = v }) (record { 0 = u.vertex }) c.next c.next same in
        let owner : st.owner u.vertex ≡ a = u.owned ∙ sym machine in (
          ap st.owner vertex ∙ owner,
          subst (λ (x : ℕ). x < size st.graph) (sym vertex) u.within,
          updates st is (world_of c) whole.consistent new one.next logged was u (update_logged st c s v) same
              (λ i. suc ((c.machine (sym owner i)).part.datum (vertex i)).mark),
        ))
        (λ (b : BeginsOne st (world_of c) whole.consistent new one.next). absurd (not_next c.next (sym drawn ∙ b.drawn)))
        more)
        one.how

-- ---- which events draw no ticket

abbrev pub IsNoUpdate : Event → Type 0
IsNoUpdate event = (s : ScopeId) → event ≡ Update s → ⊥

pub draws_none : (st : Setting) (c : Cluster) (event : Event) → MayDo st c event → IsNoUpdate event → (after_event st c event).next ≡ c.next
draws_none st c (Admit a v) may none = refl
draws_none st c (Grant a x) may none = refl
draws_none st c (Send p q) may none = subst (λ (ms : List Message). (sends_message c p q ms).next ≡ c.next) (sym may.2.first) refl
draws_none st c (SendCall a) may none = subst (λ (calls : List Call). (sends_call c a calls).next ≡ c.next) (sym may.1.first) refl
draws_none st c (SendReport a) may none = subst (λ (reports : List Report). (sends_report c a reports).next ≡ c.next) (sym may.1.first) refl
draws_none st c (Deliver p q) may none = subst (λ (ms : List Message). (delivers_message st c p q ms).next ≡ c.next) (sym may.2.first) refl
draws_none st c (DeliverCall a) may none = subst (λ (calls : List Call). (delivers_call st c a calls).next ≡ c.next) (sym may.1.first) refl
draws_none st c (DeliverReport a) may none = subst (λ (reports : List Report). (delivers_report c a reports).next ≡ c.next) (sym may.1.first) refl
draws_none st c (Update s) may none = absurd (none s refl)
draws_none st c (Mark s) may none = subst (λ (flight : Option ℕ). (saves st c s flight).next ≡ c.next) (sym may.1.flight) refl
draws_none st c (Section a) may none = refl
draws_none st c Record may none = refl
draws_none st c PutBegin may none = refl
draws_none st c PutStep may none = refl
draws_none st c PutWave may none = refl
draws_none st c (Fail a) may none = refl
draws_none st c (Recover base) may none = refl
draws_none st c Stop may none = refl
