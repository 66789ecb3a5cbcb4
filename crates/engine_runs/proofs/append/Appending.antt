-- The record of the snapshot that is due is added to a store of which all is known, and acknowledged.
use Rattle.std.proofs.Common.{◌≡◌, ℕ, zero, suc, ◌+◌, ◌*◌, ◌<◌, ◌≤◌, ◌^◌, ◌∙◌, List, [], ◌∷◌, ◌++◌, arith, filter, inl, inr, length, length-append, refl, sym, ap, subst}
use Rattle.std.specs.Prelude.{false}
use Rattle.std.proofs.lemmas.List.Sorted.{length_permutation}
use Rattle.std.proofs.lemmas.List.FromFn.{fill_by_all}
use Rattle.gl_base.specs.declared.entries.Entry.{Entry}
use Rattle.gl_base.specs.declared.jobs.FailureAt.{FailureAt}
use Rattle.gl_base.specs.declared.snapshots.Record.{Record}
use Rattle.call_laws.specs.attempts.EngineCalls.{EngineCall, ticket_above}
use Rattle.call_laws.specs.attempts.Entries.{is_restart}
use Rattle.cluster_step.proofs.trace.Calling.{due_first}
use Rattle.cluster_step.specs.trace.Traces.{IsTraceNow, newest_setting}
use Rattle.cluster_step.specs.trace.Events.{CanHappenInCall, IsEventDisabled, HappensInCall, HasHappenedInCall, StaysThere}
use Rattle.cluster_laws.specs.cluster_model.Events as law
use Rattle.cluster_laws.specs.cluster_model.Leading.{HasStoreRoom, RecordIsDue, Snapshot, come_or, record_length}
use Rattle.cluster_laws.specs.cluster_model.Totals.{total, total_from}
use Rattle.whole_laws.specs.cluster_records.Recorded.{snapshot_due}
use Rattle.cluster_laws.specs.cluster_runs.Recorded.{shared_of}
use Rattle.coordinator.proofs.coord_core.SavingLemmas.{total_last}
use Rattle.coordinator.specs.coord_core.Calls.{IsDueOf}
use Rattle.coordinator.specs.declared.coord_core.leading.Due.TheVariants as due
use Rattle.graph_core.specs.DataGraph.{size}
use Rattle.recovery.specs.GoodStores.{GoesWith}
use Rattle.recovery.specs.Journals.{NumbersFit, RecordFits, body_bytes, order_behind, records_size, with_entries}
use Rattle.seq_run.specs.Orders.{replay}
use Rattle.recovery.proofs.record_form.Due.{due_fits, due_form}
use Rattle.recovery.proofs.record_form.Tickets.{start_low}
use Rattle.call_laws.proofs.each_saved_once.InCalls.{next_due}
use Rattle.cluster_step.specs.declared.clusters.events.Event.{Event}
use Rattle.cluster_step.specs.declared.clusters.events.Event.TheVariants as event
use Rattle.cluster_step.specs.declared.clusters.events.Lead.TheVariants as lead
use Rattle.store.proofs.snap_journal.CountLemmas.{entries_long}
use Rattle.store.specs.snap_journal.Answers.{IsFullFor}
use Rattle.store.specs.snap_journal.Formats.{stored_in}
use Rattle.store.proofs.store_format.ReadBackLemmas.{entries_of_record}
use Rattle.store.specs.store_format.Bodies.{IsBody, body_size, entry_count}
use Rattle.store.specs.store_format.StoredOrders.{body_entries}
use Rattle.engine_runs.proofs.stores.Keeping.{grows}
use Rattle.engine_runs.specs.stores.Stores.{IsKnownTrace, KeepsUp, first_cluster, first_setting, fronts_in, recorded_in}
use Rattle.recovery.proofs.records.Going.{goes_with, grows_up, next_is}
use Rattle.recovery.specs.records.Keeping.{IsNextOrder}
use Rattle.graph_text.specs.sync_folds.Folds.{fold_of}
use Rattle.call_laws.proofs.whole_calls.Leading.{behind_since, since}
use Rattle.call_laws.specs.whole_calls.Following.{FollowsJob}
use Rattle.call_laws.specs.whole_calls.Telling.{NeedsMoreStore}
use Rattle.engine_runs.specs.append.Appends.{CallOpening, Cluster, TraceView, Header, IsDueWith, IsGoodImage, IsInForm, IsNewestLine, IsRecordBehind, IsRecordWith, Machine, MakesCall, Restarts, Setting, SnapLine, fold_in, stored_order}
use Rattle.engine_runs.specs.append.Folds.{IsFoldOf}
use Rattle.engine_runs.specs.append.Inner.Storing.{IsWithRecord}

-- ---- one record more

order_push : (bodies : List (List ℕ)) (order : List Entry) (body : List ℕ) → order_behind order (bodies ++ body ∷ []) ≡ with_entries (order_behind order bodies) (body_entries body)
order_push [] order body = refl
order_push (first ∷ bodies) order body = order_push bodies (with_entries order (body_entries first)) body

none_before : (n : ℕ) → n + 0 ≡ 0 + n
none_before n = omega arith

grouped : (x y z : ℕ) → x + (y + z) ≡ (x + y) + z
grouped x y z = omega arith

size_push : (bodies : List (List ℕ)) (body : List ℕ) → records_size (bodies ++ body ∷ []) ≡ records_size bodies + (9 + length body)
size_push [] body = none_before (9 + length body)
size_push (first ∷ bodies) body =
    ap (λ (n : ℕ). 9 + length first + n) (size_push bodies body) ∙ grouped (9 + length first) (records_size bodies) (9 + length body)

length_push : (bodies : List (List ℕ)) (body : List ℕ) → length (bodies ++ body ∷ []) ≡ 1 + length bodies
length_push [] body = refl
length_push (first ∷ bodies) body = one_longer (length (bodies ++ body ∷ [])) (length bodies) (length_push bodies body)
  where
    one_longer : (x n : ℕ) → x ≡ 1 + n → suc x ≡ 1 + suc n
    one_longer x n is = omega arith

next_too : (n k : ℕ) → n ≡ k → 1 + n ≡ 1 + k
next_too n k is = omega arith

zero_plus : (n : ℕ) → 0 + n ≡ n
zero_plus n = omega arith

none_first : (f : ℕ → ℕ) → 0 ≡ total_from 0 0 f
unfolding total_from
none_first f = refl

brought_long : (n : ℕ) (snapshot : Snapshot) → length (law.entries_below n snapshot) ≡ total n (λ a. length (snapshot.sections a).entries)
brought_long zero snapshot = none_first (λ a. length (snapshot.sections a).entries)
brought_long (suc n) snapshot =
    let f : ℕ → ℕ = λ a. length (snapshot.sections a).entries in
    length-append (law.entries_below n snapshot) (snapshot.sections n).entries
    ∙ ap (λ (k : ℕ). k + f n) (brought_long n snapshot)
    ∙ ap (λ (k : ℕ). total n f + f k) (sym (zero_plus n))
    ∙ sym (total_last 0 n f)

-- ---- what is so of each course

module _ {M : Type 0} (represents : Setting → ℕ → Machine → M → Type 0) (old mid new : TraceView M) (failures : mid.failures ≡ old.failures) (stays : StaysThere represents old mid) where
  pub happened : (what : Event) → HappensInCall represents mid what new → HappensInCall represents old what new
  happened what happens st o events c is =
      let has : HasHappenedInCall represents mid what new st o events c = happens st o events c (stays st o events c is) in
      record {
        event = has.event;
        may = record {
          is = has.may.is;
          may = has.may.may;
          follows = subst (λ (fs : List FailureAt). FollowsJob (newest_setting st o events) fs c has.event) failures has.may.follows;
        };
        now = has.now;
      }

module _ {M : Type 0} (represents : Setting → ℕ → Machine → M → Type 0) (v : TraceView M) (st : Setting) (o : CallOpening) (events : List law.Event) (c : Cluster) (is : IsTraceNow represents v st o events c) where
  abbrev last : Setting
  last = newest_setting st o events

  abbrev last_since : Setting
  last_since = since (first_setting st o) last.start last.base

  room_first : HasStoreRoom last c.coordinator → HasStoreRoom st c.coordinator
  room_first room =
      let there : HasStoreRoom last_since c.coordinator = subst (λ (s : Setting). HasStoreRoom s c.coordinator) (behind_since events (first_setting st o)) room in
      record { few = there.few; short = there.short }

  room_last : HasStoreRoom st c.coordinator → HasStoreRoom last c.coordinator
  room_last room =
      let there : HasStoreRoom last_since c.coordinator = record { few = room.few; short = room.short } in
      subst (λ (s : Setting). HasStoreRoom s c.coordinator) (sym (behind_since events (first_setting st o))) there

  pub long_first : record_length last (λ a. come_or (c.coordinator.come a)) ≡ record_length st (λ a. come_or (c.coordinator.come a))
  long_first = ap (λ (s : Setting). record_length s (λ a. come_or (c.coordinator.come a))) (behind_since events (first_setting st o))

  -- the snapshot may be acknowledged
  module _ (can : CanHappenInCall represents v (event.Lead lead.Record)) where
    may_record : law.MayOccur last c law.Record
    may_record =
        let one = can st o events c is in
        subst (law.MayOccur last c) one.1.is one.1.may

    pub is_due : RecordIsDue st c.coordinator
    is_due = due_first represents v st o events c is may_record.1.0

    pub has_room : HasStoreRoom st c.coordinator
    has_room = room_first may_record.1.1

  -- it may not, since there is no room for it
  module _ (cannot : IsEventDisabled represents v (event.Lead lead.Record)) (k : ℕ) (record_due : IsDueOf v.now.coordinator (due.Record k)) (call : EngineCall) (makes : MakesCall st v.failures o events c call) (runs : c.stopped ≡ false) where
    pub needs_more : NeedsMoreStore st c.coordinator call
    needs_more =
        let there : RecordIsDue last c.coordinator = ((record_due.saved last c.coordinator k is.code.coordinator).0 refl).0 in
        makes.tells.full (due_first represents v st o events c is there)
        (λ room. cannot st o events c is law.Record (record { is = refl; may = (runs, (there, room_last room)); follows = tt }))

-- ---- a store of which all is known

one_above : (acknowledged stored count : ℕ) → acknowledged ≡ stored → count ≡ stored → suc acknowledged ≡ 1 + count
one_above acknowledged stored count is counts = omega arith

all_few : (e m t ls lf place size ma n ed : ℕ) → e ≡ m + t → ls + m ≡ lf → place + 16 * ls ≡ 65 + size + 16 * lf → place + (8 + 16 * t + 8 * ma + 12 * n + 12 * ed + 9) ≤ 1073741824 → e < 2 ^ 32
all_few e m t ls lf place size ma n ed entries lacks at short = omega arith

vertices_few : (hn n place t ma ed : ℕ) → hn ≡ n → place + (8 + 16 * t + 8 * ma + 12 * n + 12 * ed + 9) ≤ 1073741824 → hn < 2 ^ 32
vertices_few hn n place t ma ed is short = omega arith

edges_few : (hm ed place t ma n : ℕ) → hm ≡ ed → place + (8 + 16 * t + 8 * ma + 12 * n + 12 * ed + 9) ≤ 1073741824 → hm < 2 ^ 32
edges_few hm ed place t ma n is short = omega arith

number_few : (number acknowledged stored count : ℕ) → number ≡ 1 + count → acknowledged ≡ stored → count ≡ stored → acknowledged < 4096 → number < 4294967295
number_few number acknowledged stored count is acknowledged_is counts few = omega arith

within_bound : (next left started added stored count number : ℕ) → next ≤ 33554432 * started → left < 33554432 → stored ≡ started + added → count ≡ stored → number ≡ 1 + count → next + left < 33554432 * number
within_bound next left started added stored count number low few parts counts is = omega arith

lasting : (lb e m t ls lf ma n ed hm hn he : ℕ) → lb ≡ 8 + 16 * e + 8 * hm + 12 * hn + 12 * he → hm ≡ ma → hn ≡ n → he ≡ ed → e ≡ m + t → ls + m ≡ lf →
    9 + lb + 16 * ls ≡ 8 + 16 * t + 8 * ma + 12 * n + 12 * ed + 9 + 16 * lf
lasting lb e m t ls lf ma n ed hm hn he size machines vertices edges entries restarts = omega arith

placed : (place rl lf ls rs lb : ℕ) → place + 16 * ls ≡ 65 + rs + 16 * lf → 9 + lb + 16 * ls ≡ rl + 16 * lf → place + rl ≡ 65 + (rs + (9 + lb))
placed place rl lf ls rs lb one other = omega arith

more_placed : (place size lf : ℕ) → place ≡ 65 + size → place + 16 * lf ≡ 65 + size + 16 * lf
more_placed place size lf is = omega arith

not_few : (n k : ℕ) → n < 4096 → n ≡ k → 4096 ≤ k → ⊥
not_few n k few is many = omega arith

not_long : (place rl size long lb : ℕ) → place + rl ≤ 1073741824 → place + rl ≡ 65 + (size + (9 + lb)) → long ≡ 65 + size → 2 ^ 30 < long + (9 + lb) → ⊥
not_long place rl size long lb short is long_is over = omega arith

module _ {M : Type 0} (represents : Setting → ℕ → Machine → M → Type 0) (v : TraceView M) (header : Header) (start bodies : List (List ℕ)) (lost stored front order : List Entry)
    (st : Setting) (o : CallOpening) (k : IsKnownTrace represents v header start bodies lost stored front order st o)
    (made : Record) (with_it : IsRecordWith st stored front k.was.cluster made) where
  abbrev c : Cluster
  c = k.was.cluster

  front_now : front ≡ filter is_restart c.base.order
  front_now = k.front_are ∙ ap (filter is_restart) (sym k.base)

  abbrev missing_is : IsRecordBehind st (stored_order bodies) c.base.order (snapshot_due c.coordinator) made
  missing_is = with_it.behind (stored_order bodies) c.base.order k.stored_are front_now

  entries_are : length made.entries.items ≡ length missing_is.missing + total st.machines (λ a. length (come_or (c.coordinator.come a)).entries)
  entries_are =
      length_permutation (missing_is.missing ++ law.entries_below st.machines (snapshot_due c.coordinator)) made.entries.items missing_is.entries
      ∙ length-append missing_is.missing (law.entries_below st.machines (snapshot_due c.coordinator))
      ∙ ap (λ (n : ℕ). length missing_is.missing + n) (brought_long st.machines (snapshot_due c.coordinator))

  lacking_are : length stored + length missing_is.missing ≡ length front
  lacking_are =
      ap (λ (es : List Entry). length es + length missing_is.missing) k.stored_are
      ∙ sym (length-append (filter is_restart (stored_order bodies)) missing_is.missing)
      ∙ ap (length {A = Entry}) missing_is.lacks
      ∙ ap (length {A = Entry}) (sym front_now)

  -- ---- its form

  module _ (room : HasStoreRoom st c.coordinator) (record_due : RecordIsDue st c.coordinator) (bytes : List ℕ) (bodies_are : bodies ≡ stored_in header bytes) (left : o.first.left < 33554432)
      (count : ℕ) (counts : count ≡ length bodies) (fits : NumbersFit made) where
    number_is : made.number ≡ 1 + count
    number_is =
        with_it.number ∙ next_due st v.failures o.kept o.resumed o.base o.first k.was.events c k.was.now.trace record_due
        ∙ one_above c.coordinator.acknowledged (length bodies) count k.count counts

    entries_few : length made.entries.items < 2 ^ 32
    entries_few =
        all_few (length made.entries.items) (length missing_is.missing) (total st.machines (λ a. length (come_or (c.coordinator.come a)).entries)) (length stored) (length front) c.coordinator.store_end (records_size bodies)
        st.machines (size st.graph) (length st.graph.edges) entries_are lacking_are k.place room.short

    formed_fits : RecordFits made
    formed_fits =
        due_fits st v.failures o.kept o.resumed o.base o.first k.was.events c header (stored_order bodies) made k.was.now.trace record_due k.fits.machines k.fits.n k.fits.m missing_is entries_few
        (vertices_few header.n (size st.graph) c.coordinator.store_end (total st.machines (λ a. length (come_or (c.coordinator.come a)).entries)) st.machines (length st.graph.edges) k.fits.n room.short)
        (edges_few header.m (length st.graph.edges) c.coordinator.store_end (total st.machines (λ a. length (come_or (c.coordinator.come a)).entries)) st.machines (size st.graph) k.fits.m room.short)

    tickets_low : o.first.next + o.first.left < 33554432 * made.number
    tickets_low =
        within_bound o.first.next o.first.left (length start) (length k.was.keeps.added) (length bodies) count made.number
        (subst (λ (n : ℕ). n ≤ 33554432 * length start) (sym (k.was.now.trace.opened.next ∙ ap ticket_above k.kept)) (start_low header bytes start k.was.keeps.added (sym bodies_are ∙ k.was.keeps.stored)))
        left (ap (length {A = List ℕ}) k.was.keeps.stored ∙ length-append start k.was.keeps.added) counts number_is

    pub formed : IsInForm header count made
    formed =
        record {
          number = number_is;
          fits = formed_fits;
          form = subst (λ (n : ℕ). IsBody header n (body_bytes made)) number_is
              (due_form st v.failures o.kept o.resumed o.base o.first k.was.events c header (stored_order bodies) made k.was.now.trace record_due k.fits.machines k.fits.n k.fits.m missing_is with_it.in_turn formed_fits fits
              (number_few made.number c.coordinator.acknowledged (length bodies) count number_is k.count counts room.few) tickets_low);
        }

  -- ---- with it

  module _ (small : RecordFits made) (fits : NumbersFit made) where
    abbrev body : List ℕ
    body = body_bytes made

    machines_are : length made.sections.items ≡ header.machines
    machines_are = missing_is.machines ∙ sym k.fits.machines

    order_is : stored_order (bodies ++ body ∷ []) ≡ with_entries (stored_order bodies) made.entries.items
    order_is = order_push bodies [] body ∙ ap (with_entries (stored_order bodies)) (entries_of_record made small fits)

    module _ (record_due : RecordIsDue st c.coordinator) where
      pub grown : KeepsUp st v.failures header start (fronts_in (first_setting st o) (first_cluster st o) k.was.events ++ c.base.order ∷ []) (recorded_in (first_setting st o) (first_cluster st o) k.was.events ++ snapshot_due c.coordinator ∷ []) (bodies ++ body ∷ [])
      grown = grows_up st v.failures o.kept o.resumed o.base o.first k.was.events c k.was.now.trace header start bodies k.kept k.was.keeps record_due made missing_is small fits machines_are

      pub restarts_are : front ≡ filter is_restart (stored_order (bodies ++ body ∷ []))
      restarts_are =
          let next : IsNextOrder st c.base.order (stored_order bodies) (snapshot_due c.coordinator) (with_entries (stored_order bodies) made.entries.items) =
          next_is st v.failures o.kept o.resumed o.base o.first k.was.events c k.was.now.trace header start bodies k.kept k.was.keeps record_due made missing_is
          in
          front_now ∙ sym next.restarts ∙ ap (filter is_restart) (sym order_is)

      pub line_is : (line : SnapLine) (n : ℕ) → line.number ≡ made.number → made.number ≡ 1 + n → n ≡ length bodies → line.entries ≡ length (stored_order (bodies ++ body ∷ [])) → IsFoldOf header.n made (fold_in line) →
          IsNewestLine st v.failures (bodies ++ body ∷ []) line
      line_is line n number next counts entries fold =
          let goes : GoesWith (shared_of st v.failures) bodies made =
          goes_with st v.failures o.kept o.resumed o.base o.first k.was.events c k.was.now.trace header start bodies k.kept k.was.keeps record_due made missing_is
          in
          let number_of : ℕ → ℕ = (replay st.graph st.program (stored_order (bodies ++ body ∷ []))).vertex in
          record {
            number_is = number ∙ next ∙ next_too n (length bodies) counts ∙ sym (length_push bodies body);
            entries = entries;
            fold = fold.fold_is ∙ ap fold_of (fill_by_all number_of fold.values (size st.graph) 0 (fold.each.count ∙ k.fits.n)
                (λ u low.
                fold.each.each u (subst (λ (many : ℕ). u < many) (sym k.fits.n) low) ∙ goes.vertex u low
                ∙ ap (λ (es : List Entry). (replay st.graph st.program es).vertex u) (sym order_is)));
          }

    -- how long the record is
    module _ (number : ℕ) (form : IsBody header number body) where
      abbrev sections_long : ℕ
      sections_long = record_length st (λ a. come_or (c.coordinator.come a))

      counted : entry_count body ≡ length made.entries.items
      counted = sym (entries_long (entry_count body) body 8) ∙ ap (length {A = Entry}) (entries_of_record made small fits)

      long_is : length body ≡ body_size header (length made.entries.items)
      long_is = form.size ∙ ap (body_size header) counted

      record_long : 9 + length body + 16 * length stored ≡ sections_long + 16 * length front
      record_long =
          lasting (length body) (length made.entries.items) (length missing_is.missing) (total st.machines (λ a. length (come_or (c.coordinator.come a)).entries))
          (length stored) (length front) st.machines (size st.graph) (length st.graph.edges) header.machines header.n header.m
          long_is k.fits.machines k.fits.n k.fits.m entries_are lacking_are

      pub placed_is : c.coordinator.store_end + sections_long ≡ 65 + (records_size bodies + (9 + length body))
      placed_is = placed c.coordinator.store_end sections_long (length front) (length stored) (records_size bodies) (length body) k.place record_long

      -- where the coordinator has room for it the store does
      pub not_full : (count long : ℕ) → HasStoreRoom st c.coordinator → count ≡ length bodies → long ≡ 65 + records_size bodies → IsFullFor count long (9 + length body) → ⊥
      not_full count long room counts long_at (inl many) = not_few c.coordinator.acknowledged count room.few (k.count ∙ sym counts) many
      not_full count long room counts long_at (inr over) =
          not_long c.coordinator.store_end sections_long (records_size bodies) long (length body) room.short placed_is long_at over

-- ---- what is known of it afterwards

module _ {M : Type 0} (represents : Setting → ℕ → Machine → M → Type 0) (v : TraceView M) (can : CanHappenInCall represents v (event.Lead lead.Record))
    (header : Header) (start bodies : List (List ℕ)) (lost order : List Entry) (restarts : Restarts) (st : Setting) (o : CallOpening)
    (k : IsKnownTrace represents v header start bodies lost restarts.stored.items restarts.front.items order st o)
    (made : Record) (n : ℕ) (behind : IsDueWith represents v restarts made) (fits : NumbersFit made) where
  abbrev at : Cluster
  at = k.was.cluster

  with_here : IsRecordWith st restarts.stored.items restarts.front.items at made
  with_here = behind st o k.was.events at k.was.now

  due_here : RecordIsDue st at.coordinator
  due_here = is_due represents v st o k.was.events at k.was.now can

  pub in_form : (bytes : List ℕ) → bodies ≡ stored_in header bytes → o.first.left < 33554432 → n ≡ length bodies → IsInForm header n made
  in_form bytes bodies_are left counts =
      formed represents v header start bodies lost restarts.stored.items restarts.front.items order st o k made with_here (has_room represents v st o k.was.events at k.was.now can) due_here bytes bodies_are left n counts fits

  module _ (form : IsInForm header n made) where
    pub line_added : (line : SnapLine) → n ≡ length bodies → line.number ≡ made.number → line.entries ≡ length (stored_order (bodies ++ body_bytes made ∷ [])) → IsFoldOf header.n made (fold_in line) →
        IsNewestLine st v.failures (bodies ++ body_bytes made ∷ []) line
    line_added line counts number entries fold =
        line_is represents v header start bodies lost restarts.stored.items restarts.front.items order st o k made with_here form.fits fits due_here line n number form.number counts entries fold

    pub never_full : (long : ℕ) → n ≡ length bodies → long ≡ 65 + records_size bodies → IsFullFor n long (9 + length (body_bytes made)) → ⊥
    never_full long counts long_at full =
        not_full represents v header start bodies lost restarts.stored.items restarts.front.items order st o k made with_here form.fits fits (1 + n) form.form n long
        (has_room represents v st o k.was.events at k.was.now can) counts long_at full

    -- acknowledged
    module _ (new : TraceView M) (failures_are : new.failures ≡ v.failures) (happens : HappensInCall represents v (event.Lead lead.Record) new) (counts : n ≡ length bodies) where
      abbrev newest : Setting
      newest = newest_setting st o k.was.events

      pub known_now : IsKnownTrace represents new header start (bodies ++ body_bytes made ∷ []) lost restarts.front.items restarts.front.items order st o
      unfolding grows
      known_now = record {
        kept = k.kept;
        was = grows represents v new failures_are header start bodies lost st o made happens k.was k.kept
            (missing_is represents v header start bodies lost restarts.stored.items restarts.front.items order st o k made with_here)
            (λ st failures kept resumed base first events c header start bodies made trace kept_is keeps due is small fits machines. grows_up st failures kept resumed base first events c trace header start bodies kept_is keeps due made is small fits machines)
            form.fits fits (machines_are represents v header start bodies lost restarts.stored.items restarts.front.items order st o k made with_here form.fits fits);
        fits = k.fits;
        stored_are = restarts_are represents v header start bodies lost restarts.stored.items restarts.front.items order st o k made with_here form.fits fits due_here;
        base = k.base;
        front_are = k.front_are;
        count = sym with_here.number ∙ form.number ∙ next_too n (length bodies) counts ∙ sym (length_push bodies (body_bytes made));
        place = more_placed (at.coordinator.store_end + record_length newest (λ a. come_or (at.coordinator.come a))) (records_size (bodies ++ body_bytes made ∷ [])) (length restarts.front.items)
            (ap (λ (l : ℕ). at.coordinator.store_end + l) (long_first represents v st o k.was.events at k.was.now)
            ∙ placed_is represents v header start bodies lost restarts.stored.items restarts.front.items order st o k made with_here form.fits fits (1 + n) form.form
            ∙ ap (λ (l : ℕ). 65 + l) (sym (size_push bodies (body_bytes made))));
      }

  pub image_good : (image : List ℕ) → IsWithRecord header n bodies made image → IsGoodImage (shared_of st v.failures) header bodies image
  image_good image (inl stands_for) = record { stored = bodies; is = stands_for; either = inl refl; good = k.was.keeps.good }
  image_good image (inr more) = record {
    stored = bodies ++ body_bytes made ∷ [];
    is = more.0;
    either = inr (body_bytes made, refl);
    good = (grown represents v header start bodies lost restarts.stored.items restarts.front.items order st o k made with_here more.1.fits fits due_here).good;
  }
