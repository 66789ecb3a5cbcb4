-- What the machine receives from other machines, for each machine of the law.
use Rattle.std.proofs.Common.{Global, Vec, ◌≡◌, ℕ, ◌<◌, ◌≤◌, ◌||◌, ◌++◌, max, Bool, true, false, true≢false, if◌then◌else◌, List, [], ◌∷◌, refl, sym, ap, ◌∙◌, subst, ⊎_elim, ◌⊎◌, inl, inr, arith}
use Rattle.std.specs.Prelude.{nat_lt}
use Rattle.std.specs.List.{AllByRecursion}
use Rattle.std.proofs.lemmas.Bool.{ne_eqb}
use Rattle.gl_base.specs.declared.numbers.MachineNo.{MachineNo}
use Rattle.gl_base.specs.declared.numbers.Vertex.{Vertex}
use Rattle.gl_base.specs.declared.scopes.Datum.{Datum}
use Rattle.gl_base.specs.declared.scopes.ScopeId.{ScopeId}
use Rattle.update_api.specs.Updates.{Update}
use Rattle.cluster_laws.specs.cluster_core.Effects.{applied, begins, datum_after, learns, newer_datum, received}
use Rattle.cluster_laws.specs.cluster_core.Marks.{IsMarking, mark_of}
use Rattle.cluster_laws.specs.cluster_core.Messages.{Ask, Done, Message, News, Ready}
use Rattle.cluster_laws.specs.cluster_core.Parts.{Part}
use Rattle.whole_laws.proofs.cluster_ending.Growing.{received_longer}
use Rattle.coordinator.specs.machine_api.Told.{view_of}
use Rattle.cluster_laws.specs.cluster_model.Clusters.{Cluster}
use Rattle.cluster_laws.specs.cluster_model.Working.{prompt, receives, snapshot_in}
use Rattle.cluster_laws.proofs.cluster_moves.DueKept.{received_kept}
use Rattle.whole_laws.specs.cluster_whole.Views.{world_of}
use Rattle.whole_laws.specs.cluster_whole.Whole.{IsWhole}
use Rattle.partition.specs.machine_numbers.Views.{LocalView}
use Rattle.machine_core.specs.declared.machine_parts.cores.Core.{Core}
use Rattle.machine_core.specs.machine_parts.Order.{IsOrderly}
use Rattle.machine_core.specs.machine_parts.Parts.{is_own, machine_numbers}
use Rattle.machine_core.specs.machine_parts.Settings.{SameSettings}
use Rattle.machine_core.specs.machine_scopes.Asking.{AreMachinesFor, CanBecomeReady, HasReceivedMessage, IsNewAt}
use Rattle.machine_core.proofs.machine_scopes.HeldLemmas.{own_from_setting}
use Rattle.snapshot_machines.specs.saving.Machines.{SnapMachineView}
use Rattle.cluster_laws.proofs.known_parts.SeenLemmas.{own_seen, receive_alike, seen_of}
use Rattle.snapshot_machines.proofs.marking.ApartLemmas.{on_apart}
use Rattle.snapshot_machines.specs.marking.Learning.{CanLearnNews, HasLearnedNews, news_of}
use Rattle.coordinator.specs.machine_api.Going.{IsSnapSetting}
use Rattle.coordinator.specs.machine_api.Promises.{HasReceived, IsFirstFrom, MayReceiveFirst}
use Rattle.snapshot_machines.specs.snapshot_receive.Coming.{IsFrontFor}
use Rattle.snapshot_machines.proofs.snapshot_receive.FrontLemmas.{ask_comes_new, ask_goes_further, ready_comes_home}
use Rattle.snapshot_machines.proofs.snapshot_receive.NewsLemmas.{news_come}
use Rattle.coordinator.specs.snap_update.Snaps.{IsSameButRoom, with_begun}
use Rattle.snapshot_machines.specs.wave_counts.Counts.{one_more}
use Rattle.snapshot_machines.proofs.wave_counts.CountLemmas.{counts_put_out, counts_received}
use Rattle.wire.specs.declared.wire_msgs.messages.Done as word
use Rattle.wire.specs.declared.wire_msgs.messages.Message as message
use Rattle.wire.specs.declared.wire_msgs.messages.Message.TheVariants as sent
use Rattle.snapshot_machines.specs.locking.Machines.{CountsView, IsCountOf, IsMarkedOwn, IsLockingMachineOf, IsSavedRight, LooksAlike, Machine, LockingMachineView, Setting, part_held, part_of, place_at, size, with_snaps}
use Rattle.snapshot_machines.proofs.locking.StandLemmas.{alike_to, kept_from, plans_kept, still_stands}
use Rattle.snapshot_machines.proofs.locking.ScopeLemmas.{goes_on_standing, with_core}
use Rattle.snapshot_machines.proofs.locking.HearLemmas.{HasBegunKept, begins_right, begun_kept, once_begun}

-- ---- what comes is at the front for the machine's parts

pub front_for : {P : Type 0} (meaning : P → Update) (x : LockingMachineView P) (p : ℕ) (m : message.Message) (st : Setting) (c : Cluster) (a : ℕ) → IsOrderly x.machine.core → IsFirstFrom (IsLockingMachineOf meaning) x p m st c a
    → IsFrontFor st c p x.machine.core x.machine.kept (view_of m)
front_for meaning x p m st c a orderly front =
    record {
      setting = front.setting.is;
      whole = front.going.followed.0;
      orderly = orderly;
      part = front.here.here;
      holds = subst (λ (k : ℕ). LooksAlike st k (c.machine k).part (part_held x)) (sym front.here.number) front.here.part;
      behind = front.behind;
      first = subst (λ (k : ℕ). c.link p k ≡ view_of m ∷ front.behind) (sym front.here.number) front.first;
    }

module _ {P : Type 0} (meaning : P → Update) (x : LockingMachineView P) (p : ℕ) (orderly : IsOrderly x.machine.core) where
  pub ask_new : (s : ScopeId) (centre : Vertex) (rest : Vec MachineNo Global) → MayReceiveFirst (IsLockingMachineOf meaning) x p (sent.Ask s centre rest) → IsNewAt x.machine.core s centre × AreMachinesFor x.machine.core s rest.items
  ask_new s centre rest may =
      let front = front_for meaning x p (sent.Ask s centre rest) may.0 may.1 may.2 orderly may.3 in
      (ask_comes_new may.0 may.1 p x.machine.core x.machine.kept s centre (machine_numbers rest.items) front, ask_goes_further may.0 may.1 p x.machine.core x.machine.kept s centre rest.items front)

  pub ready_home : (s : ScopeId) → MayReceiveFirst (IsLockingMachineOf meaning) x p (sent.Ready s) → CanBecomeReady x.machine.core s
  ready_home s may = ready_comes_home may.0 may.1 p x.machine.core x.machine.kept s (front_for meaning x p (sent.Ready s) may.0 may.1 may.2 orderly may.3)

  pub done_learned : (done : word.Done) → MayReceiveFirst (IsLockingMachineOf meaning) x p (sent.Done done) → CanLearnNews x.machine.core done
  done_learned done may = news_come may.0 may.1 p x.machine.core x.machine.kept done (front_for meaning x p (sent.Done done) may.0 may.1 may.2 orderly may.3)

-- ---- it is counted

not_below_none : (n : ℕ) → nat_lt n 0 ≡ false
not_below_none n = grind arith

pub receipt_counts : (st : Setting) (a : ℕ) (message : Message) (m : Machine) (counts : CountsView) → IsCountOf st counts m → IsCountOf st (record counts { received = one_more counts.received }) (receives st a message m)
receipt_counts st a message m counts is =
    let new : Machine = receives st a message m in
    let one : Machine = record new { received = m.received } in
    counts_received st counts one new (counts_put_out st counts m one is (received_longer st a message m.part) refl refl refl) refl refl refl refl

module _ {P : Type 0} (meaning : P → Update) (x : LockingMachineView P) where
  abbrev pub received_more : CountsView
  received_more = record x.counts { received = one_more x.counts.received }

  module _ (now : Core) (numbers : now.numbers ≡ x.machine.core.numbers) (settings : SameSettings x.machine.core now) where
    abbrev moved : LockingMachineView P
    moved = record x { machine = with_core now x.machine; counts = received_more }

    on_standing : (st : Setting) (a : ℕ) (m : Machine) (message : Message) → snapshot_in message ≡ 0 → IsSnapSetting st → IsLockingMachineOf meaning st a m x → with_snaps x.machine.kept (part_of now) ≡ received st a message (part_held x)
        → IsLockingMachineOf meaning st a (prompt st a (receives st a message m)) moved
    on_standing st a m message plain snap is held =
        let new : Machine = receives st a message m in
        let none : nat_lt m.part.known (snapshot_in message) ≡ false = ap (nat_lt m.part.known) plain ∙ not_below_none m.part.known in
        still_stands meaning st a new moved
        (goes_on_standing meaning x now numbers settings st a m new received_more is
        (alike_to st a new.part (received st a message (part_held x)) (with_snaps x.machine.kept (part_of now)) (receive_alike st a snap.is message m.part (part_held x) is.part) held)
        (received_kept st a message m.part)
        (record {
          planned = refl;
          plans = refl;
          acknowledged = refl;
          wanted = refl;
          before = ap (λ (b : Bool). if b then m.before ++ m.behind else m.before) none;
          behind = ap (λ (b : Bool). if b then [] else m.behind) none;
          unsure = refl;
          held = refl;
          out = refl;
        })
        (receipt_counts st a message m x.counts is.counts))

    pub ask_received : (p : ℕ) (s : ScopeId) (centre : Vertex) (rest : Vec MachineNo Global) → HasReceivedMessage x.machine.core now (Ask s centre.0 (machine_numbers rest.items)) → HasReceived (IsLockingMachineOf meaning) x p (sent.Ask s centre rest) moved
    ask_received p s centre rest has st c a front =
        let w = x.machine.kept in
        let part = part_of x.machine.core in
        on_standing st a (c.machine a) (Ask s centre.0 (machine_numbers rest.items)) refl front.setting front.here
        (ap (with_snaps w) (has st front.here.here ∙ ap (λ (k : ℕ). received st k (Ask s centre.0 (machine_numbers rest.items)) part) front.here.number)
        ∙ sym (on_apart st a s centre.0 0 (machine_numbers rest.items) w part))

    pub ready_received : (p : ℕ) (s : ScopeId) → HasReceivedMessage x.machine.core now (Ready s) → HasReceived (IsLockingMachineOf meaning) x p (sent.Ready s) moved
    ready_received p s has st c a front =
        on_standing st a (c.machine a) (Ready s) refl front.setting front.here
        (ap (with_snaps x.machine.kept) (has st front.here.here ∙ ap (λ (k : ℕ). received st k (Ready s) (part_of x.machine.core)) front.here.number))

-- ---- word of an update elsewhere

or_cases : (a b : Bool) → (a || b) ≡ true → (a ≡ true) ⊎ (b ≡ true)
or_cases true b is = inl refl
or_cases false b is = inr is

-- where neither own vertices nor marked ones are named, what is learned leaves what was saved
learned_right : (st : Setting) (a : ℕ) (s : ScopeId) (news : News) (part : Part) → ((u : ℕ) → u < size st.graph → st.owner u ≡ a → u ≡ news.centre → ⊥)
    → ((u : ℕ) → u < size st.graph → st.owner u ≡ a → news.pends u ≡ true → (part.datum u).mark < part.known) → IsSavedRight st a part → IsSavedRight st a (learns s news part)
learned_right st a s news part away fresh right =
    let same : (u : ℕ) → u < size st.graph → st.owner u ≡ a → datum_after news u (part.datum u) ≡ part.datum u = λ u low owned.
    ap (λ (b : Bool). if b then newer_datum (part.datum u) news.datum else part.datum u) (ne_eqb u news.centre (away u low owned)) in
    let own : (u : ℕ) → IsMarkedOwn st a part u → IsMarkedOwn st a (learns s news part) u = λ u has.
    record { vertex = has.vertex; owned = has.owned; marked = subst (λ (d : Datum). part.known ≤ d.mark) (sym (same u has.vertex has.owned)) has.marked } in
    record {
      vertices = λ v number has. own v (right.vertices v number has);
      edges = λ e number has. let one = right.edges e number has in (one.0, one.1, own one.0 one.2);
      pending = λ v low owned is.
          subst (λ (d : Datum). d.mark < part.known) (sym (same v low owned))
          (⊎_elim (λ (told : news.pends v ≡ true). fresh v low owned told) (λ (was : part.pending v ≡ true). right.pending v low owned was) (or_cases (news.pends v) (part.pending v) is));
    }

-- the first of those on the way
first_told : {X : Type 0} (P : X → Type 0) (link out : List X) (m : X) (behind : List X) → link ≡ m ∷ behind → AllByRecursion P (link ++ out) → P m
first_told P link out m behind first all = (subst (λ xs. AllByRecursion P (xs ++ out)) first all).0

-- whom the first word on a link names to become pending has no mark of its snapshot yet
pub unmarked_yet : (st : Setting) (c : Cluster) (p a : ℕ) (s : ScopeId) (news : News) (behind : List Message) → IsWhole st c → c.link p a ≡ Done s news ∷ behind → (u : ℕ) → st.owner u ≡ a → news.pends u ≡ true → ((c.machine a).part.datum u).mark < news.number
unmarked_yet st c p a s news behind whole first u owned pends =
    let marking : IsMarking st (world_of c) (Done s news) = first_told (IsMarking st (world_of c)) (c.link p a) ((c.machine p).part.out a) (Done s news) behind first (whole.consistent.marks.told p a) in
    let one = marking.1 u pends in
    subst (λ (b : ℕ). ((c.machine b).part.datum u).mark < news.number) owned (subst (λ (k : ℕ). mark_of st (world_of c) u < k) (sym one.0) one.1)

module _ {P : Type 0} (meaning : P → Update) (x : LockingMachineView P) (now : SnapMachineView P) (done : word.Done) (not_own : is_own x.machine.core.numbers.local done.centre.0 ≡ false)
    (learned : HasLearnedNews x.machine.core x.machine.kept now.core now.kept done) (same : IsSameButRoom (with_begun done.number x.machine.kept) now.kept)
    (tasks : let t = now.core.numbers.tasks in t ≡ record x.machine.core.numbers.tasks { task = t.task; pending = t.pending; asked = t.asked })
    (local : now.core.numbers.local ≡ record x.machine.core.numbers.local { numbers = now.core.numbers.local.numbers }) (program : now.program ≡ x.machine.program) (settings : SameSettings x.machine.core now.core) where
  abbrev old : Core
  old = x.machine.core

  abbrev news : News
  news = news_of done

  abbrev told : LockingMachineView P
  told = record x { machine = now; counts = received_more meaning x }

  module _ (st : Setting) (a : ℕ) (m : Machine) (snap : IsSnapSetting st) (is : IsLockingMachineOf meaning st a m x) (unmarked : (u : ℕ) → st.owner u ≡ a → news.pends u ≡ true → (m.part.datum u).mark < news.number) where
    abbrev new : Machine
    new = receives st a (Done done.scope news) m

    held_is : part_held told ≡ received st a (Done done.scope news) (part_held x)
    held_is = learned st is.here ∙ ap (λ (k : ℕ). applied st k done.scope news (part_held x)) is.number

    alike : LooksAlike st a new.part (part_held told)
    alike = alike_to st a new.part (received st a (Done done.scope news) (part_held x)) (part_held told) (receive_alike st a snap.is (Done done.scope news) m.part (part_held x) is.part) held_is

    own_here : (u : ℕ) → u < size st.graph → st.owner u ≡ a → is_own old.numbers.local u ≡ true
    own_here u low owned = own_from_setting st old.numbers.local u is.here.local low (owned ∙ sym is.number)

    fresh : (u : ℕ) → u < size st.graph → st.owner u ≡ a → news.pends u ≡ true → ((begins st a news.number (part_held x)).datum u).mark < (begins st a news.number (part_held x)).known
    fresh u low owned pends =
        let mark : (m.part.datum u).mark ≡ ((part_held x).datum u).mark =
        ap (λ (d : Datum). d.mark) (own_seen st a snap.is m.part.datum m.part.edge (part_held x) (seen_of st a m.part (part_held x) is.part) u low owned) in
        let less : ((part_held x).datum u).mark < news.number = subst (λ (k : ℕ). k < news.number) mark (unmarked u owned pends) in
        under ((part_held x).datum u).mark (part_held x).known news.number less
      where
        under : (mark known number : ℕ) → mark < number → mark < max known number
        under mark known number less = omega (arith, less)

    kept : HasBegunKept done.number m now.kept
    kept = begun_kept done.number m x.machine.kept now.kept is.kept same

    pub done_standing : IsLockingMachineOf meaning st a new told
    done_standing =
        record {
          here = settings st is.here;
          number = ap (λ (l : LocalView). l.me.0) local ∙ is.number;
          program = is.program ∙ ap meaning (sym program);
          window = is.window;
          part = alike;
          kept = kept_from st a new now.kept (part_of now.core) alike kept.acknowledged kept.wanted kept.before kept.behind kept.unsure;
          counts = receipt_counts st a (Done done.scope news) m x.counts is.counts;
          none_held = is.none_held;
          plans = plans_kept old.numbers now.core.numbers m new (received_kept st a (Done done.scope news) m.part) refl refl (ap (λ t. t.planned) tasks) (ap (λ t. t.plans) tasks) (λ v. ap (λ (l : LocalView). place_at l v) local) is.plans;
          saved = subst (IsSavedRight st a) (sym held_is)
              (learned_right st a done.scope news (begins st a news.number (part_held x))
              (λ u low owned same_vertex. true≢false (sym (own_here u low owned) ∙ ap (is_own old.numbers.local) same_vertex ∙ not_own))
              fresh (begins_right st a news.number (part_held x) is.saved));
          once = once_begun done.number x.machine.kept now.kept same is.once;
          reports = is.reports;
        }

  pub done_received : (p : ℕ) → HasReceived (IsLockingMachineOf meaning) x p (sent.Done done) told
  done_received p st c a front =
      still_stands meaning st a (receives st a (Done done.scope news) (c.machine a)) told
      (done_standing st a (c.machine a) front.setting front.here (unmarked_yet st c p a done.scope news front.behind front.going.followed.0 front.first))

  pub done_now : (p : ℕ) (counts : CountsView) → counts ≡ record x.counts { received = one_more x.counts.received } → HasReceived (IsLockingMachineOf meaning) x p (sent.Done done) (record x { machine = now; counts = counts })
  done_now p counts counted = subst (λ (k : CountsView). HasReceived (IsLockingMachineOf meaning) x p (sent.Done done) (record x { machine = now; counts = k })) (sym counted) (done_received p)
