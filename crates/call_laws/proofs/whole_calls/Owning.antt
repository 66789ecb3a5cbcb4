-- What machines have saved: of vertices, each its own; of edges, one number each.
use Rattle.std.proofs.Common.{◌≡◌, ℕ, zero, suc, ◌<◌, ◌≤◌, le_refl, [], ◌∙◌, Bool, true, false, if◌then◌else◌, None, Option, Some, List, ◌∷◌, refl, nat_lt, sym, ap, subst, arith}
use Rattle.std.specs.List.{AllByRecursion}
use Rattle.gl_base.specs.declared.entries.Entry.{Entry}
use Rattle.gl_base.specs.declared.entries.Entry.TheVariants.{Go, Restart}
use Rattle.graph_core.proofs.HalvesLaws.{each-append}
use Rattle.call_laws.specs.attempts.Entries.{is_update}
use Rattle.cluster_laws.specs.cluster_core.Effects.{nothing_saved}
use Rattle.cluster_laws.specs.cluster_core.Messages.{Ask, Done, Message, Ready, Section}
use Rattle.cluster_laws.specs.cluster_core.Settings.{IsSetting, Setting}
use Rattle.cluster_laws.specs.cluster_core.Worlds.{World}
use Rattle.cluster_laws.proofs.cluster_core.Basics.{set_at-cases}
use Rattle.cluster_laws.specs.cluster_core.Cuts.{cut_of}
use Rattle.cluster_laws.specs.cluster_core.Replays.{replay_of}
use Rattle.cluster_laws.proofs.cluster_cuts.CutsKept.{recorded, recorded_cut}
use Rattle.cluster_laws.proofs.cluster_cuts.MarkEvents.{all_known, section_come}
use Rattle.cluster_laws.specs.cluster_model.Calls.{Begin, Call, Committed, Report, Step, Wave}
use Rattle.cluster_laws.specs.cluster_model.Clusters.{BaseView, Cluster, with_machine}
use Rattle.cluster_laws.specs.cluster_model.Events as law
use Rattle.cluster_laws.specs.cluster_model.Events.{Event, MayDo, after_event, delivers_call, delivers_message, makes, recovers, saves, sends_call, sends_message, sends_report, delivers_report, entries_below, snapshot_numbers}
use Rattle.cluster_laws.specs.cluster_model.Leading.{RecordIsDue, come_or}
use Rattle.cluster_laws.specs.cluster_model.Machines.{Machine}
use Rattle.cluster_laws.specs.cluster_model.Working.{admits, fails, grants, hands, hands_report, makes_mark, makes_update, prompt, receives, sections, takes_call}
use Rattle.cluster_laws.proofs.cluster_numbers.Quiet.{admitted-quiet, goes_on-quiet, granted-quiet}
use Rattle.whole_laws.specs.cluster_records.Listed.{entries_at, is_first_in}
use Rattle.whole_laws.specs.cluster_records.Recorded.{IsAccounted, IsOwnUpdate, snapshot_due}
use Rattle.whole_laws.proofs.cluster_records.Numbering.{passing_own}
use Rattle.whole_laws.proofs.cluster_records.Recording.{come_section, due_numbers, due_updates}
use Rattle.whole_laws.specs.cluster_whole.Logged.{Logged}
use Rattle.whole_laws.specs.cluster_whole.Views.{world_of}
use Rattle.whole_laws.specs.cluster_whole.Whole.{IsWhole}
use Rattle.whole_laws.proofs.cluster_whole.Wholeness.{may_record}
use Rattle.call_laws.specs.whole_calls.Saved.{SaysOnce}

-- what each machine has saved of vertices is of its own
abbrev pub SavesOwn : Setting → Cluster → Type 0
SavesOwn st c = (a v x : ℕ) → (c.machine a).part.saved.vertices v ≡ Some x → st.owner v ≡ a

none_saved : (x : ℕ) → None ≡ Some x → ⊥
none_saved x is = cc

module _ (st : Setting) (c : Cluster) (own : SavesOwn st c) where
  one_machine : (a : ℕ) (new : Machine) → ((v x : ℕ) → new.part.saved.vertices v ≡ Some x → st.owner v ≡ a) → SavesOwn st (with_machine c a new)
  one_machine a new its b v x =
      set_at-cases (λ (m : Machine). m.part.saved.vertices v ≡ Some x → st.owner v ≡ b) c.machine a new b
      (λ same saved. its v x saved ∙ sym same)
      (λ other saved. own b v x saved)

  same_saved : (a : ℕ) (new : Machine) → new.part.saved ≡ (c.machine a).part.saved → SavesOwn st (with_machine c a new)
  same_saved a new same = one_machine a new (λ v x saved. own a v x (ap (λ (s : Section). s.vertices v) (sym same) ∙ saved))

  -- a newer snapshot is known, and nothing is saved for it
  fewer : (a : ℕ) (newer : Bool) (v x : ℕ) → (if newer then nothing_saved else (c.machine a).part.saved).vertices v ≡ Some x → st.owner v ≡ a
  fewer a true v x saved = absurd (none_saved x saved)
  fewer a false v x saved = own a v x saved

  received : (q : ℕ) (message : Message) → SavesOwn st (with_machine c q (prompt st q (receives st q message (c.machine q))))
  received q (Ask s v rest) = same_saved q (prompt st q (receives st q (Ask s v rest) (c.machine q))) (goes_on-quiet st q s v 0 rest (c.machine q).part).saved
  received q (Ready s) = same_saved q (prompt st q (receives st q (Ready s) (c.machine q))) refl
  received q (Done s news) = one_machine q (prompt st q (receives st q (Done s news) (c.machine q))) (fewer q (nat_lt (c.machine q).part.known news.number))

  taken : (a : ℕ) (call : Call) → SavesOwn st (with_machine c a (prompt st a (takes_call st a call (c.machine a))))
  taken a (Begin k) = one_machine a (prompt st a (takes_call st a (Begin k) (c.machine a))) (fewer a (nat_lt (c.machine a).part.known k))
  taken a (Committed k) = same_saved a (prompt st a (takes_call st a (Committed k) (c.machine a))) refl
  taken a (Wave k) = same_saved a (prompt st a (takes_call st a (Wave k) (c.machine a))) refl
  taken a (Step colour) = same_saved a (prompt st a (takes_call st a (Step colour) (c.machine a))) refl

  module _ (whole : IsWhole st c) where
    pub own_kept : (event : Event) → MayDo st c event → SavesOwn st (after_event st c event)
    own_kept (law.Admit a v) may = same_saved a (prompt st a (admits st a v (c.machine a))) (admitted-quiet st a v (c.machine a).part).saved
    own_kept (law.Grant a x) may = same_saved a (prompt st a (grants st a x (c.machine a))) (granted-quiet st a x (c.machine a).part).saved
    own_kept (law.Send p q) may = subst (λ (ms : List Message). SavesOwn st (sends_message c p q ms)) (sym may.2.first) (same_saved p (hands q may.2.behind (c.machine p)) refl)
    own_kept (law.SendCall a) may = subst (λ (calls : List Call). SavesOwn st (sends_call c a calls)) (sym may.1.first) own
    own_kept (law.SendReport a) may = subst (λ (reports : List Report). SavesOwn st (sends_report c a reports)) (sym may.1.first) (same_saved a (hands_report may.1.behind (c.machine a)) refl)
    own_kept (law.Deliver p q) may = subst (λ (ms : List Message). SavesOwn st (delivers_message st c p q ms)) (sym may.2.first) (received q may.2.message)
    own_kept (law.DeliverCall a) may = subst (λ (calls : List Call). SavesOwn st (delivers_call st c a calls)) (sym may.1.first) (taken a may.1.message)
    own_kept (law.DeliverReport a) may = subst (λ (reports : List Report). SavesOwn st (delivers_report c a reports)) (sym may.1.first) own
    own_kept (law.Update s) may =
        subst (λ (flight : Option ℕ). SavesOwn st (makes st c s flight)) (sym may.1.flight)
        (same_saved s.home.0 (prompt st s.home.0 (makes_update st s.home.0 s may.1.vertex (Go s.home (record { 0 = may.1.vertex }) c.next) (c.machine s.home.0))) refl)
    own_kept (law.Mark s) may =
        let v : ℕ = may.1.vertex in
        let m : Machine = c.machine s.home.0 in
        subst (λ (flight : Option ℕ). SavesOwn st (saves st c s flight)) (sym may.1.flight)
        (one_machine s.home.0 (prompt st s.home.0 (makes_mark st s.home.0 s v m))
        (λ u x. set_at-cases (λ (o : Option ℕ). o ≡ Some x → st.owner u ≡ s.home.0) m.part.saved.vertices v (Some (m.part.datum v).value) u
        (λ same saved. ap st.owner same ∙ (whole.consistent.marks.pending s.home.0 v may.1.pending).1)
        (λ other saved. own s.home.0 u x saved)))
    own_kept (law.Section a) may = same_saved a (prompt st a (sections (c.machine a))) refl
    own_kept law.Record may = own
    own_kept law.PutBegin may = own
    own_kept law.PutStep may = own
    own_kept law.PutWave may = own
    own_kept (law.Fail a) may = same_saved a (fails (c.machine a)) refl
    own_kept (law.Recover base) may = λ a v x saved. absurd (none_saved x saved)
    own_kept law.Stop may = own

-- nothing is saved as an attempt begins
pub begins_own : (st now : Setting) (base : BaseView) (c : Cluster) → SavesOwn now (recovers st base c)
begins_own st now base c a v x saved = absurd (none_saved x saved)

module _ (st : Setting) (is : IsSetting st) (c : Cluster) (whole : IsWhole st c) (own : SavesOwn st c) (logged : List Logged) (account : IsAccounted st c whole logged) where
  updates_of_owners : (es : List Entry) → AllByRecursion (IsOwnUpdate st) es → AllByRecursion (λ entry. is_update entry ≡ true) es
  updates_of_owners [] all = tt
  updates_of_owners (Go machine vertex ticket ∷ es) all = (refl, updates_of_owners es all.1)
  updates_of_owners (Restart ticket ∷ es) all = absurd all.0

  le_down : (n m : ℕ) → suc n ≤ m → n ≤ m
  le_down n m is = omega arith

  brought : RecordIsDue st c.coordinator → (n : ℕ) → n ≤ st.machines → AllByRecursion (λ entry. is_update entry ≡ true) (entries_below n (snapshot_due c.coordinator))
  brought due zero low = tt
  brought due (suc a) low =
      each-append (λ (entry : Entry). is_update entry ≡ true) (entries_below a (snapshot_due c.coordinator)) ((snapshot_due c.coordinator).sections a).entries (brought due a (le_down a st.machines low))
      (subst (AllByRecursion (λ entry. is_update entry ≡ true)) (sym (due_updates st is c whole logged account.records account.sections due a low))
      (updates_of_owners (entries_at a c.coordinator.begun logged) (passing_own st is (is_first_in a c.coordinator.begun) logged account.since)))

  pub due_says : RecordIsDue st c.coordinator → SaysOnce st (snapshot_due c.coordinator)
  due_says due =
      let w : World = world_of c in
      let may = may_record st c due in
      let saved : (a : ℕ) → a < st.machines → (come_or (c.coordinator.come a)).section ≡ (w.part a).saved = λ a low.
      come_section (c.coordinator.come a) (w.part a).saved (section_come st w whole.consistent.marks may a low).2 in
      let held = recorded st is w whole.consistent may in
      record {
        updates = brought due st.machines (le_refl st.machines);
        some_vertex = λ v within.
            let its = held.vertices v within in
            ((replay_of st (cut_of whole.consistent.count whole.consistent.order)).vertex v, ap (λ (s : Section). s.vertices v) (come_section (c.coordinator.come (st.owner v)) its.0 its.1) ∙ its.2);
        some_edge = λ e within.
            let its = held.edges e within in
            (its.0, (replay_of st (cut_of whole.consistent.count whole.consistent.order)).edge e, its.2, ap (λ (s : Section). s.edges e) (come_section (c.coordinator.come its.0) its.1 its.3) ∙ its.4);
        vertices = λ a v x low said. own a v x (ap (λ (s : Section). s.vertices v) (sym (saved a low)) ∙ said);
        edges = λ a e x low within said.
            sym ((recorded_cut st is w whole.consistent may).edges_saved a e x low within (all_known st w whole.consistent.marks may a low) (ap (λ (s : Section). s.edges e) (sym (saved a low)) ∙ said)).0
            ∙ sym ((due_numbers st is c whole due).edges e within);
      }
