-- Each action keeps the cut of the newest snapshot.
use Rattle.std.proofs.Common.{◌≡◌, ℕ, suc, ◌<◌, ◌≤◌, Bool, true, false, ◌||◌, ◌≢◌, ◌⊎◌, List, [], ◌∷◌, ◌++◌, length, Some, sym, refl, ap, ◌∙◌, subst, subst₂, inl, inr, ⊎_elim, true≢false, le_trans, le_refl, lt_of_le_of_lt, lt-suc_self, le_antisymm, ne_of_lt, not-le_of_lt, arith}
use Rattle.std.specs.List.{AllByRecursion}
use Rattle.std.proofs.lemmas.Bool.{cases_lt, or_cases, or_parts, or_from, or_left, or_right, false_from_ne_true}
use Rattle.gl_base.specs.declared.entries.Entry.{Entry}
use Rattle.gl_base.specs.declared.entries.Entry.TheVariants.{Go}
use Rattle.gl_base.specs.declared.scopes.ScopeId.{ScopeId}
use Rattle.gl_base.specs.declared.scopes.Datum.{Datum}
use Rattle.graph_core.specs.DataGraph.{size}
use Rattle.graph_core.proofs.HalvesLaws.{each-append}
use Rattle.seq_run.specs.Orders.{all_tasks, IsValidFrom}
use Rattle.seq_run.specs.States.{new_number}
use Rattle.cluster_laws.specs.cluster_core.Actions.{Action, Admit, Grant, Send, Deliver, Update, Mark, Begin, Hear, SendSection, Collect, Record, MaySend, MayRecord, MayHappen, sends, delivers, draws, marks, begins_one, hears, sends_section, collects, records, after}
use Rattle.cluster_laws.specs.cluster_core.Cuts.{updates_of, cut_of, HasMarkedEnd, IsToBeMarked, IsCut}
use Rattle.cluster_laws.specs.cluster_core.Effects.{admitted, granted, knows, begins, applied, received, renewed, news_for, updated, marked}
use Rattle.cluster_laws.specs.cluster_core.Marks.{mark_of, names_vertex, vertex_named, IsMarking}
use Rattle.cluster_laws.specs.cluster_core.Messages.{News, Section, Message, Ask, Ready, Done}
use Rattle.cluster_laws.specs.cluster_core.Parts.{Part, lent}
use Rattle.cluster_laws.specs.cluster_core.Places.{done_near, IsExclusive}
use Rattle.cluster_laws.specs.cluster_core.Ranges.{set_at}
use Rattle.cluster_laws.specs.cluster_core.Replays.{replay_of, tasks_of}
use Rattle.cluster_laws.specs.cluster_core.Scopes.{set_for}
use Rattle.cluster_laws.specs.cluster_core.Settings.{Setting, IsSetting, is_near, nth_edge}
use Rattle.cluster_laws.specs.cluster_core.Snapshots.{IsConsistent}
use Rattle.cluster_laws.specs.cluster_core.Ways.{IsToldTo}
use Rattle.cluster_laws.specs.cluster_core.Worlds.{World, with_part, way}
use Rattle.cluster_laws.proofs.cluster_core.Basics.{set_at-cases, set_at-kept, set_at-here}
use Rattle.cluster_laws.proofs.cluster_core.Nearness.{near_turned, near_within}
use Rattle.cluster_laws.proofs.cluster_core.Taking.{same_way, taken}
use Rattle.cluster_laws.proofs.cluster_numbers.EdgeEnds.{edge_fits}
use Rattle.cluster_laws.proofs.cluster_numbers.Keeping.{numbers_quiet, updates_is, marks_is}
use Rattle.cluster_laws.proofs.cluster_numbers.NewsComes.{way_there, way_here, copies_come, replay_comes}
use Rattle.cluster_laws.proofs.cluster_numbers.NewsMade.{renewed-mark, IsMade, update_made, way_by}
use Rattle.cluster_laws.proofs.cluster_numbers.Passing.{any-left}
use Rattle.cluster_laws.proofs.cluster_numbers.Quiet.{IsQuiet, ready-quiet, goes_on-quiet, admitted-quiet, granted-quiet}
use Rattle.cluster_laws.proofs.cluster_numbers.QuietWorlds.{IsQuietStep, quiet_steps, part_quiet, taken_quiet, sent_quiet, copies_quiet, replay_quiet}
use Rattle.cluster_laws.proofs.cluster_numbers.Replaying.{was_task, copies_updated, replay_made, copies_marked, replay_marked}
use Rattle.cluster_laws.specs.cluster_cuts.Goings.{IsOneStep, HoldCut}
use Rattle.cluster_laws.proofs.cluster_cuts.CutFrames.{IsCutFrame, cut_framed, still_frame, quiet_named, learned_frame}
use Rattle.cluster_laws.proofs.cluster_cuts.CutLists.{cut_all}
use Rattle.cluster_laws.proofs.cluster_cuts.CutLonger.{same_cut, longer_marked, longer_cut, longer_unmarked}
use Rattle.cluster_laws.proofs.cluster_cuts.CutMade.{cut_made}
use Rattle.cluster_laws.proofs.cluster_cuts.MarkEvents.{number_low, news_learn, marks_come, order_low, marks_heard, marks_begin, marks_send, marks_collect, section_come, all_marked, marks_record}
use Rattle.cluster_laws.proofs.cluster_cuts.MarkMade.{marks_marked}
use Rattle.cluster_laws.proofs.cluster_cuts.MarkSteps.{seeded_more, marking-dones, marking-from_dones, IsStillStep, still_steps, marks_still, begins_learns}

-- ---- quiet steps are still

part_still : (w : World) (a : ℕ) (new : Part) → IsQuiet (w.part a) new → IsStillStep w (with_part w a new)
part_still w a new quiet =
    record {
      begun = refl;
      acknowledged = refl;
      orders = refl;
      reports = refl;
      collected = refl;
      pending = set_at-kept (λ (p : Part). p.pending) w.part a new quiet.pending;
      known = set_at-kept (λ (p : Part). p.known) w.part a new quiet.known;
      saved = set_at-kept (λ (p : Part). p.saved) w.part a new quiet.saved;
      sent = set_at-kept (λ (p : Part). p.sent) w.part a new quiet.sent;
      marks = λ b u. set_at-kept (λ (p : Part). (p.datum u).mark) w.part a new (ap (λ (f : ℕ → Datum). (f u).mark) quiet.datum) b;
    }

same_still : (w : World) (link : ℕ → ℕ → List Message) → IsStillStep w (record w { link = link })
same_still w link =
    record { begun = refl; acknowledged = refl; orders = refl; reports = refl; collected = refl; pending = λ a. refl; known = λ a. refl; saved = λ a. refl; sent = λ a. refl; marks = λ a u. refl }

sent_still : (w : World) (p q : ℕ) (m : Message) (behind : List Message) → IsStillStep w (sends w p q (m ∷ behind))
sent_still w p q m behind =
    let shorter : Part = record (w.part p) { out = set_at (w.part p).out q behind } in
    record {
      begun = refl;
      acknowledged = refl;
      orders = refl;
      reports = refl;
      collected = refl;
      pending = set_at-kept (λ (x : Part). x.pending) w.part p shorter refl;
      known = set_at-kept (λ (x : Part). x.known) w.part p shorter refl;
      saved = set_at-kept (λ (x : Part). x.saved) w.part p shorter refl;
      sent = set_at-kept (λ (x : Part). x.sent) w.part p shorter refl;
      marks = λ b u. set_at-kept (λ (x : Part). (x.datum u).mark) w.part p shorter refl b;
    }

-- nobody is named on the way to a vertex while no news of its neighbours are
not_named : (st : Setting) (v p q : ℕ) (ms : List Message) → AllByRecursion (IsToldTo st p q) ms → done_near st v ms ≡ false → vertex_named v ms ≡ false
not_named st v p q [] all none = refl
not_named st v p q (Ask s c rest ∷ ms) all none = not_named st v p q ms all.1 none
not_named st v p q (Ready s ∷ ms) all none = not_named st v p q ms all.1 none
not_named st v p q (Done s news ∷ ms) all none =
    let parts = or_parts (is_near st v news.centre) (done_near st v ms) none in
    or_from (news.pends v) (vertex_named v ms)
    (false_from_ne_true (news.pends v) (λ named. true≢false (sym (near_turned st v news.centre ∙ (all.0.pends v named).0) ∙ parts.0)))
    (not_named st v p q ms all.1 parts.1)

-- the new world has the same marks and ways, and all that is saved and pending
same_frame : (st : Setting) (w new : World) → new.begun ≡ w.begun → ((v : ℕ) → mark_of st new v ≡ mark_of st w v) → ((a : ℕ) → (new.part a).known ≡ (w.part a).known) →
    ((a : ℕ) → (new.part a).saved ≡ (w.part a).saved) → ((a : ℕ) → (new.part a).pending ≡ (w.part a).pending) → ((p q : ℕ) → way new p q ≡ way w p q) → IsCutFrame st w new
same_frame st w new begun marks known saved pending ways =
    record {
      begun = begun;
      marks = λ v within. marks v;
      saved = λ a low newest. (known a ∙ newest, saved a);
      saved_was = λ a e x low newest its. (sym (known a) ∙ newest, ap (λ (y : Section). y.edges e) (sym (saved a)) ∙ its);
      to_be = λ u within will. ⊎_elim
          (λ (here : (w.part (st.owner u)).pending u ≡ true). inl (ap (λ (f : ℕ → Bool). f u) (pending (st.owner u)) ∙ here))
          (λ (coming : (p : ℕ) × (vertex_named u (way w p (st.owner u)) ≡ true)). inr (coming.0, ap (vertex_named u) (ways coming.0 (st.owner u)) ∙ coming.1))
          will;
    }

module _ (st : Setting) (is : IsSetting st) (w : World) (kept : IsConsistent st w) where
  stays_so : (new : World) (next : IsConsistent st new) → next.order ≡ kept.order → next.count ≡ kept.count → new.begun ≡ w.begun → new.next ≡ w.next → IsOneStep st w kept new
  stays_so new next order count begun drawn = record { next = next; how = inl (record { order = order; count = count; begun = begun; drawn = drawn }) }

  quietly : (new : World) → IsQuietStep w new → IsStillStep w new → IsOneStep st w kept new
  quietly new quiet still =
      stays_so new
      (record {
        order = kept.order;
        copies = copies_quiet st w new quiet kept.copies;
        replay = replay_quiet st w new quiet kept.order kept.replay;
        marks = marks_still st w new still kept.marks (λ p q.
            marking-from_dones st w (way new p q) (subst (AllByRecursion (IsMarking st w)) (sym (quiet.news p q)) (marking-dones st w (way w p q) (kept.marks.told p q))));
        count = kept.count;
        cut = λ begun. cut_framed st is w new (still_frame st w new still (quiet_named w new quiet)) kept.marks kept.order kept.count (kept.cut (subst (λ b. st.base < b) still.begun begun));
      })
      refl refl still.begun quiet.next

  -- ---- news come, an order is heard

  module _ (p q : ℕ) (s : ScopeId) (news : News) (behind : List Message) (first : w.link p q ≡ Done s news ∷ behind) where
    abbrev came : World
    came = delivers st w p q (Done s news ∷ behind)

    abbrev after_news : Part
    after_news = applied st q s news (w.part q)

    still_to_be : (u : ℕ) → u < size st.graph → IsToBeMarked st w u → IsToBeMarked st came u
    still_to_be u within will = ⊎_elim
        (λ (here : (w.part (st.owner u)).pending u ≡ true). inl (set_at-cases (λ (x : Part). x.pending u ≡ true) w.part q after_news (st.owner u)
        (λ same. or_right (news.pends u) ((begins st q news.number (w.part q)).pending u)
        (seeded_more st q (knows news.number (w.part q)) u (subst (λ j. (w.part j).pending u ≡ true) same here)))
        (λ there. here)))
        (λ (coming : (i : ℕ) × (vertex_named u (way w i (st.owner u)) ≡ true)). ⊎_elim
        (λ (both : (coming.0 ≡ p) × (st.owner u ≡ q)).
        let some : (news.pends u || vertex_named u (way came p q)) ≡ true =
        sym (ap (vertex_named u) (way_here st is w p q s news behind first kept.copies)) ∙ subst₂ (λ k l. vertex_named u (way w k l) ≡ true) both.0 both.1 coming.1 in ⊎_elim
        (λ (named : news.pends u ≡ true).
        inl (ap (λ j. (came.part j).pending u) both.1 ∙ set_at-here (λ (x : Part). x.pending u) w.part q after_news q refl
        ∙ or_left (news.pends u) ((begins st q news.number (w.part q)).pending u) named))
        (λ (later : vertex_named u (way came p q) ≡ true). inr (p, subst (λ j. vertex_named u (way came p j) ≡ true) (sym both.1) later))
        (or_cases (news.pends u) (vertex_named u (way came p q)) some))
        (λ (other : (coming.0 ≢ p) ⊎ (st.owner u ≢ q)). inr (coming.0, ap (vertex_named u) (way_there st is w p q s news behind first kept.copies coming.0 (st.owner u) other) ∙ coming.1))
        (same_way p q coming.0 (st.owner u)))
        will

    news_kept : IsOneStep st w kept came
    news_kept =
        stays_so came
        (record {
          order = kept.order;
          copies = copies_come st is w p q s news behind first kept.copies;
          replay = replay_comes st is w p q s news behind first kept.copies kept.order kept.replay;
          marks = marks_come st is w p q s news behind first kept.copies kept.marks;
          count = kept.count;
          cut = λ begun.
              cut_framed st is w came
              (learned_frame st w kept.marks q news.number after_news (news_learn st is w p q s news behind first kept.copies kept.marks)
              (number_low st is w p q s news behind first kept.copies kept.marks) came.link w.orders still_to_be)
              kept.marks kept.order kept.count (kept.cut begun);
        })
        refl refl refl refl

  delivered : (p q : ℕ) (m : Message) (behind : List Message) → w.link p q ≡ m ∷ behind → IsOneStep st w kept (delivers st w p q (m ∷ behind))
  delivered p q (Ask s c rest) behind first =
      let mid : World = taken w p q (Ask s c rest) behind first in
      let new : Part = received st q (Ask s c rest) (w.part q) in
      let quiet = goes_on-quiet st q s c 0 rest (w.part q) in
      quietly (delivers st w p q (Ask s c rest ∷ behind))
      (quiet_steps w mid (with_part mid q new) (taken_quiet w p q (Ask s c rest) behind first (λ ms. refl)) (part_quiet mid q new quiet))
      (still_steps w mid (with_part mid q new) (same_still w mid.link) (part_still mid q new quiet))
  delivered p q (Ready s) behind first =
      let mid : World = taken w p q (Ready s) behind first in
      let new : Part = received st q (Ready s) (w.part q) in
      let quiet = ready-quiet (w.part q) (set_for (w.part q).ready s true) in
      quietly (delivers st w p q (Ready s ∷ behind))
      (quiet_steps w mid (with_part mid q new) (taken_quiet w p q (Ready s) behind first (λ ms. refl)) (part_quiet mid q new quiet))
      (still_steps w mid (with_part mid q new) (same_still w mid.link) (part_still mid q new quiet))
  delivered p q (Done s news) behind first = news_kept p q s news behind first

  heard : (a k : ℕ) (behind : List ℕ) → w.orders a ≡ k ∷ behind → IsOneStep st w kept (hears st w a (k ∷ behind))
  heard a k behind first =
      let new : World = hears st w a (k ∷ behind) in
      let part : Part = begins st a k (w.part a) in
      let quiet : IsQuietStep w new = numbers_quiet w new a part refl refl refl refl refl refl refl refl in
      stays_so new
      (record {
        order = kept.order;
        copies = copies_quiet st w new quiet kept.copies;
        replay = replay_quiet st w new quiet kept.order kept.replay;
        marks = marks_heard st w kept.marks a k behind first;
        count = kept.count;
        cut = λ begun.
            cut_framed st is w new
            (learned_frame st w kept.marks a k part (begins_learns st a k w kept.marks) (order_low st w kept.marks a k behind first) w.link (set_at w.orders a behind)
            (λ u within will. ⊎_elim
            (λ (here : (w.part (st.owner u)).pending u ≡ true). inl (set_at-cases (λ (x : Part). x.pending u ≡ true) w.part a part (st.owner u)
            (λ same. seeded_more st a (knows k (w.part a)) u (subst (λ j. (w.part j).pending u ≡ true) same here))
            (λ there. here)))
            (λ (coming : (p : ℕ) × (vertex_named u (way w p (st.owner u)) ≡ true)). inr (coming.0, quiet_named w new quiet u coming.0 (st.owner u) coming.1))
            will))
            kept.marks kept.order kept.count (kept.cut begun);
      })
      refl refl refl refl

  -- ---- a snapshot begins

  no_mark_yet : (v : ℕ) → v < size st.graph → mark_of st w v < suc w.begun
  no_mark_yet v within = lt_of_le_of_lt (le_trans (kept.marks.marks v within).1 (kept.marks.known (st.owner v) (is.owner v within)).1) (lt-suc_self w.begun)

  no_end_yet : (e : ℕ) → e < length st.graph.edges → HasMarkedEnd st (begins_one w) e → ⊥
  no_end_yet e low end = ⊎_elim
      (λ (marked : mark_of st w (nth_edge st e).from ≡ suc w.begun). ne_of_lt (no_mark_yet (nth_edge st e).from (edge_fits st is e low).from) marked)
      (λ (marked : mark_of st w (nth_edge st e).to ≡ suc w.begun). ne_of_lt (no_mark_yet (nth_edge st e).to (edge_fits st is e low).to) marked)
      end

  abbrev all_of : ℕ → ℕ
  all_of v = updates_of v kept.order

  whole_cut : cut_of all_of kept.order ≡ kept.order
  whole_cut = cut_all kept.order all_of (λ v. le_refl (updates_of v kept.order))

  begun_cut : IsCut st (begins_one w) kept.order all_of
  begun_cut =
      record {
        few = λ v within. le_refl (updates_of v kept.order);
        all = λ v within low. refl;
        valid = subst (IsValidFrom st.graph st.program st.start (all_tasks st.graph)) (sym whole_cut) kept.replay.valid;
        vertices_saved = λ v within marked. absurd (ne_of_lt (no_mark_yet v within) marked);
        vertices_else = λ v within low. ap (λ es. (replay_of st es).vertex v) whole_cut;
        edges_saved = λ a e x a_low low known saved. absurd (ne_of_lt (lt_of_le_of_lt (kept.marks.known a a_low).1 (lt-suc_self w.begun)) known);
        edges_found = λ e low end. absurd (no_end_yet e low end);
        edges_else = λ e low from to. ap (λ es. (replay_of st es).edge e) whole_cut;
        tasks = λ v within low around. ap (λ es. tasks_of st es v) whole_cut;
        spread = λ v u within marked near. absurd (ne_of_lt (no_mark_yet v within) marked);
      }

  begins_kept : w.acknowledged ≡ w.begun → IsOneStep st w kept (begins_one w)
  begins_kept over =
      let quiet : IsQuietStep w (begins_one w) = record { datum = λ a. refl; edge = λ a. refl; task = λ a. refl; log = λ a. refl; next = refl; news = λ p q. refl } in
      record {
        next = record {
          order = kept.order;
          copies = copies_quiet st w (begins_one w) quiet kept.copies;
          replay = replay_quiet st w (begins_one w) quiet kept.order kept.replay;
          marks = marks_begin st w kept.marks is kept.copies over;
          count = all_of;
          cut = λ begun. begun_cut;
        };
        how = inr (inr (record { order = refl; count = λ v. refl; whole = whole_cut; begun = refl; drawn = refl }));
      }

  -- ---- a section is sent, comes and is recorded

  section_sent : (a : ℕ) → MaySend st a (w.part a) → IsOneStep st w kept (sends_section w a)
  section_sent a may =
      let new : World = sends_section w a in
      let part : Part = record (w.part a) { sent = (w.part a).known } in
      let quiet : IsQuietStep w new = numbers_quiet w new a part refl refl refl refl refl refl refl refl in
      stays_so new
      (record {
        order = kept.order;
        copies = copies_quiet st w new quiet kept.copies;
        replay = replay_quiet st w new quiet kept.order kept.replay;
        marks = marks_send st w kept.marks a may;
        count = kept.count;
        cut = λ begun.
            cut_framed st is w new
            (same_frame st w new refl
            (λ v. set_at-kept (λ (p : Part). (p.datum v).mark) w.part a part refl (st.owner v)) (set_at-kept (λ (p : Part). p.known) w.part a part refl)
            (set_at-kept (λ (p : Part). p.saved) w.part a part refl) (set_at-kept (λ (p : Part). p.pending) w.part a part refl)
            (λ i j. ap (λ (o : ℕ → List Message). w.link i j ++ o j) (set_at-kept (λ (p : Part). p.out) w.part a part refl i)))
            kept.marks kept.order kept.count (kept.cut begun);
      })
      refl refl refl refl

  section_came : (a : ℕ) (section : Section) (behind : List Section) → w.reports a ≡ section ∷ behind → IsOneStep st w kept (collects w a (section ∷ behind))
  section_came a section behind first =
      let new : World = collects w a (section ∷ behind) in
      let quiet : IsQuietStep w new = record { datum = λ b. refl; edge = λ b. refl; task = λ b. refl; log = λ b. refl; next = refl; news = λ p q. refl } in
      stays_so new
      (record {
        order = kept.order;
        copies = copies_quiet st w new quiet kept.copies;
        replay = replay_quiet st w new quiet kept.order kept.replay;
        marks = marks_collect st w kept.marks a section behind first;
        count = kept.count;
        cut = λ begun.
            cut_framed st is w new (same_frame st w new refl (λ v. refl) (λ b. refl) (λ b. refl) (λ b. refl) (λ i j. refl)) kept.marks kept.order kept.count (kept.cut begun);
      })
      refl refl refl refl

  all_recorded : MayRecord st w → IsOneStep st w kept (records w)
  all_recorded may =
      let new : World = records w in
      let quiet : IsQuietStep w new = record { datum = λ b. refl; edge = λ b. refl; task = λ b. refl; log = λ b. refl; next = refl; news = λ p q. refl } in
      stays_so new
      (record {
        order = kept.order;
        copies = copies_quiet st w new quiet kept.copies;
        replay = replay_quiet st w new quiet kept.order kept.replay;
        marks = marks_record st w kept.marks is may;
        count = kept.count;
        cut = λ begun.
            cut_framed st is w new (same_frame st w new refl (λ v. refl) (λ b. refl) (λ b. refl) (λ b. refl) (λ i j. refl)) kept.marks kept.order kept.count (kept.cut begun);
      })
      refl refl refl refl

  -- ---- an update, and a snapshot update

  module _ (s : ScopeId) (v : ℕ) (within : v < size st.graph) (owned : st.owner v ≡ s.home.0) (still : (p : ℕ) → done_near st v (way w p s.home.0) ≡ false) where
    abbrev update_entry : Entry
    update_entry = Go s.home (record { 0 = v }) w.next

    abbrev update_part : Part
    update_part = updated st s.home.0 s v update_entry (w.part s.home.0)

    abbrev news : ℕ → News
    news = news_for st (w.part s.home.0) v

    abbrev is_made : IsMade st s.home.0 s v news (w.part s.home.0) update_part
    is_made = update_made st is s.home.0 s v update_entry (w.part s.home.0)

    abbrev updated_world : World
    updated_world = draws (with_part w s.home.0 update_part)

    update_still : IsStillStep w updated_world
    update_still =
        record {
          begun = refl;
          acknowledged = refl;
          orders = refl;
          reports = refl;
          collected = refl;
          pending = set_at-kept (λ (p : Part). p.pending) w.part s.home.0 update_part refl;
          known = set_at-kept (λ (p : Part). p.known) w.part s.home.0 update_part refl;
          saved = set_at-kept (λ (p : Part). p.saved) w.part s.home.0 update_part refl;
          sent = set_at-kept (λ (p : Part). p.sent) w.part s.home.0 update_part refl;
          marks = λ b u. set_at-kept (λ (p : Part). (p.datum u).mark) w.part s.home.0 update_part
              (set_at-cases (λ (d : Datum). d.mark ≡ ((w.part s.home.0).datum u).mark) (w.part s.home.0).datum v
              (renewed ((w.part s.home.0).datum v) (new_number st.graph st.program (lent (w.part s.home.0)) v)) u
              (λ same. renewed-mark ((w.part s.home.0).datum v) (new_number st.graph st.program (lent (w.part s.home.0)) v) ∙ ap (λ x. ((w.part s.home.0).datum x).mark) (sym same))
              (λ other. refl))
              b;
        }

    update_marking : (p q : ℕ) → AllByRecursion (IsMarking st w) (way updated_world p q)
    update_marking p q =
        way_by st is w s v within owned still kept.copies news update_part is_made (AllByRecursion (IsMarking st w)) p q
        (λ same yes_told. each-append (IsMarking st w) (way w p q) (Done s (news q) ∷ []) (kept.marks.told p q) ((omega arith, λ u named. absurd (true≢false (sym named))), tt))
        (kept.marks.told p q)

    update_named : (u p q : ℕ) → vertex_named u (way w p q) ≡ true → vertex_named u (way updated_world p q) ≡ true
    update_named u p q named =
        way_by st is w s v within owned still kept.copies news update_part is_made (λ ms. vertex_named u ms ≡ true) p q
        (λ same yes_told. any-left (names_vertex u) (way w p q) (Done s (news q) ∷ []) named)
        named

    low_or_marked : (u : ℕ) → u < size st.graph → (mark_of st w u < w.begun) ⊎ (mark_of st w u ≡ w.begun)
    low_or_marked u low = ⊎_elim
        (λ (less : mark_of st w u < w.begun). inl less)
        (λ (high : w.begun ≤ mark_of st w u). inr (le_antisymm (le_trans (kept.marks.marks u low).1 (kept.marks.known (st.owner u) (is.owner u low)).1) high))
        (cases_lt (mark_of st w u) w.begun)

    -- an update of a vertex that is not pending has no marked vertex around, or is of a marked one
    around : IsCut st w kept.order kept.count → (w.part s.home.0).pending v ≡ false → mark_of st w v < w.begun → (u : ℕ) → is_near st v u ≡ true → mark_of st w u < w.begun
    around cut not_pending low u near =
        let inside = (near_within st is v u near).0 in ⊎_elim
        (λ (less : mark_of st w u < w.begun). less)
        (λ (marked : mark_of st w u ≡ w.begun). absurd (⊎_elim
        (λ (also : mark_of st w v ≡ w.begun). ne_of_lt low also)
        (λ (will : IsToBeMarked st w v). ⊎_elim
        (λ (here : (w.part (st.owner v)).pending v ≡ true). true≢false (sym here ∙ ap (λ a. (w.part a).pending v) owned ∙ not_pending))
        (λ (coming : (p : ℕ) × (vertex_named v (way w p (st.owner v)) ≡ true)).
        true≢false (sym coming.1 ∙ ap (λ a. vertex_named v (way w coming.0 a)) owned
        ∙ not_named st v coming.0 s.home.0 (way w coming.0 s.home.0) (kept.copies.told coming.0 s.home.0) (still coming.0)))
        will)
        (cut.spread u v inside marked (near_turned st u v ∙ near))))
        (low_or_marked u inside)

    mark_still : mark_of st updated_world v ≡ mark_of st w v
    mark_still = update_still.marks (st.owner v) v

    abbrev updated_as : (count : ℕ → ℕ) → (st.base < w.begun → IsCut st updated_world (kept.order ++ update_entry ∷ []) count) → (w.part s.home.0).task v ≡ true → IsConsistent st updated_world
    updated_as count cut task =
        record {
          order = kept.order ++ update_entry ∷ [];
          copies = copies_updated st is w s v within owned still kept.copies kept.order kept.replay;
          replay = replay_made st is w s v within owned still kept.copies kept.order kept.replay task;
          marks = marks_still st w updated_world update_still kept.marks update_marking;
          count = count;
          cut = cut;
        }

    framed : st.base < w.begun → IsCut st updated_world kept.order kept.count
    framed begun = cut_framed st is w updated_world (still_frame st w updated_world update_still update_named) kept.marks kept.order kept.count (kept.cut begun)

    updated_kept : (w.part s.home.0).pending v ≡ false → (w.part s.home.0).task v ≡ true → IsOneStep st w kept updated_world
    updated_kept not_pending task = ⊎_elim
        (λ (begun : st.base < w.begun). ⊎_elim
        (λ (low : mark_of st w v < w.begun).
        let low_now : mark_of st updated_world v < w.begun = subst (λ n. n < w.begun) (sym mark_still) low in
        let around_now : (u : ℕ) → is_near st v u ≡ true → mark_of st updated_world u < w.begun =
        λ u near. subst (λ n. n < w.begun) (sym (update_still.marks (st.owner u) u)) (around (kept.cut begun) not_pending low u near) in
        let its_task = was_task st is w s v within owned still kept.copies kept.order kept.replay task in
        record {
          next = updated_as (set_at kept.count v (suc (kept.count v)))
              (λ b. longer_unmarked st is updated_world kept.order kept.count (framed begun) s.home v w.next within low_now around_now its_task) task;
          how = inr (inl (record {
            machine = s.home;
            vertex = v;
            within = within;
            owned = owned;
            order = refl;
            inside = λ b unmarked. (refl, longer_cut st is updated_world kept.order kept.count (framed begun) s.home v w.next within low_now around_now its_task);
            outside = λ b marked. absurd (ne_of_lt low marked);
            begun = refl;
            drawn = refl;
          }));
        })
        (λ (marked : mark_of st w v ≡ w.begun).
        let marked_now : mark_of st updated_world v ≡ w.begun = mark_still ∙ marked in
        record {
          next = updated_as kept.count (λ b. longer_marked st is updated_world kept.order kept.count (framed begun) s.home v w.next within marked_now) task;
          how = inr (inl (record {
            machine = s.home;
            vertex = v;
            within = within;
            owned = owned;
            order = refl;
            inside = λ b unmarked. absurd (ne_of_lt unmarked marked);
            outside = λ b its. (refl, same_cut st is updated_world kept.order kept.count (framed begun) s.home v w.next within marked_now);
            begun = refl;
            drawn = refl;
          }));
        })
        (low_or_marked v within))
        (λ (none : w.begun ≤ st.base). record {
          next = updated_as kept.count (λ begun. absurd (not-le_of_lt begun none)) task;
          how = inr (inl (record {
            machine = s.home;
            vertex = v;
            within = within;
            owned = owned;
            order = refl;
            inside = λ begun unmarked. absurd (not-le_of_lt begun none);
            outside = λ begun marked. absurd (not-le_of_lt begun none);
            begun = refl;
            drawn = refl;
          }));
        })
        (cases_lt st.base w.begun)

    marked_kept : (w.part s.home.0).pending v ≡ true → IsOneStep st w kept (with_part w s.home.0 (marked st s.home.0 s v (w.part s.home.0)))
    marked_kept pends =
        let new : World = with_part w s.home.0 (marked st s.home.0 s v (w.part s.home.0)) in
        stays_so new
        (record {
          order = kept.order;
          copies = copies_marked st is w s v within owned still kept.copies kept.order kept.replay;
          replay = replay_marked st is w s v within owned still kept.copies kept.order kept.replay;
          marks = marks_marked st is w s v within owned still kept.copies kept.order kept.replay kept.marks pends;
          count = kept.count;
          cut = λ begun. cut_made st is w s v within owned still kept.copies kept.order kept.replay kept.marks pends kept.count (kept.cut begun);
        })
        refl refl refl refl

  -- ---- each action

  pub one_step : IsExclusive st w → (action : Action) → MayHappen st w action → IsOneStep st w kept (after st w action)
  one_step apart (Admit a v) may =
      let quiet = admitted-quiet st a v (w.part a) in
      quietly (with_part w a (admitted st a v (w.part a))) (part_quiet w a (admitted st a v (w.part a)) quiet) (part_still w a (admitted st a v (w.part a)) quiet)
  one_step apart (Grant a x) may =
      let quiet = granted-quiet st a x (w.part a) in
      quietly (with_part w a (granted st a x (w.part a))) (part_quiet w a (granted st a x (w.part a)) quiet) (part_still w a (granted st a x (w.part a)) quiet)
  one_step apart (Send p q) may =
      subst (λ ms. IsOneStep st w kept (sends w p q ms)) (sym may.first)
      (quietly (sends w p q (may.message ∷ may.behind)) (sent_quiet w p q may.message may.behind may.first) (sent_still w p q may.message may.behind))
  one_step apart (Deliver p q) may =
      subst (λ ms. IsOneStep st w kept (delivers st w p q ms)) (sym may.first) (delivered p q may.message may.behind may.first)
  one_step apart (Update s) may =
      let own = apart.owned s may.vertex (may.flight, may.ready) in
      subst (IsOneStep st w kept) (sym (updates_is st w s may.vertex may.flight))
      (updated_kept s may.vertex own.0 own.1 (λ p. apart.done s may.vertex p (may.flight, may.ready)) may.not_pending may.task)
  one_step apart (Mark s) may =
      let own = apart.owned s may.vertex (may.flight, may.ready) in
      subst (IsOneStep st w kept) (sym (marks_is st w s may.vertex may.flight))
      (marked_kept s may.vertex own.0 own.1 (λ p. apart.done s may.vertex p (may.flight, may.ready)) may.pending)
  one_step apart Begin may = begins_kept may
  one_step apart (Hear a) may = subst (λ ks. IsOneStep st w kept (hears st w a ks)) (sym may.first) (heard a may.number may.behind may.first)
  one_step apart (SendSection a) may = section_sent a may
  one_step apart (Collect a) may = subst (λ ms. IsOneStep st w kept (collects w a ms)) (sym may.first) (section_came a may.section may.behind may.first)
  one_step apart Record may = all_recorded may

  -- ---- what is recorded

  -- once all sections have come they hold the numbers of the cut
  pub recorded : MayRecord st w → HoldCut st w kept.count kept.order
  recorded may =
      let cut = kept.cut (lt_of_le_of_lt kept.marks.base may.under) in
      record {
        vertices = λ v within.
            let low = is.owner v within in
            ((w.part (st.owner v)).saved, (section_come st w kept.marks may (st.owner v) low).2, cut.vertices_saved v within (all_marked st w kept.marks is may v within));
        edges = λ e low.
            let found = cut.edges_found e low (inl (all_marked st w kept.marks is may (nth_edge st e).from (edge_fits st is e low).from)) in
            let its = cut.edges_saved found.0 e found.1 found.2 low found.3 found.4 in
            (found.0, (w.part found.0).saved, found.2, (section_come st w kept.marks may found.0 found.2).2, found.4 ∙ ap Some (sym its.0));
      }

  pub recorded_cut : MayRecord st w → IsCut st w kept.order kept.count
  recorded_cut may = kept.cut (lt_of_le_of_lt kept.marks.base may.under)
