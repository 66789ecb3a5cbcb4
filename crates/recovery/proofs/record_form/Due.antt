-- The record of a snapshot that is due has all of the graph once, and entries that a store takes.
use Rattle.std.proofs.Common.{◌≡◌, ◌∙◌, ℕ, ◌+◌, ◌*◌, ◌^◌, ◌<◌, ◌≤◌, Bool, true, false, List, [], ◌∷◌, ◌++◌, filter, length, sym, subst, arith}
use Rattle.std.specs.Prelude.{if◌then◌else◌}
use Rattle.std.specs.List.{AllByRecursion, flat_map}
use Rattle.std.specs.List.Sorted.{IsNonDecreasingBy}
use Rattle.std.proofs.lemmas.List.Sorted.{All-permutation}
use Rattle.gl_base.specs.declared.entries.Entry.{Entry}
use Rattle.gl_base.specs.declared.entries.Entry.TheVariants.{Go, Restart}
use Rattle.gl_base.specs.declared.jobs.FailureAt.{FailureAt}
use Rattle.gl_base.specs.declared.snapshots.Record.{Record}
use Rattle.gl_base.specs.declared.snapshots.SavedPart.{SavedPart}
use Rattle.call_laws.specs.attempts.Entries.{is_restart}
use Rattle.cluster_laws.specs.cluster_core.Messages.{Section}
use Rattle.cluster_laws.specs.cluster_core.Replays.{ticket_of}
use Rattle.cluster_laws.specs.cluster_core.Settings.{Setting}
use Rattle.cluster_laws.specs.cluster_model.Clusters.{BaseView, Cluster}
use Rattle.cluster_laws.specs.cluster_model.Events.{Event, entries_below}
use Rattle.cluster_laws.specs.cluster_model.Leading.{RecordIsDue}
use Rattle.whole_laws.specs.cluster_records.Recorded.{IsOwnUpdate, snapshot_due}
use Rattle.graph_core.specs.DataGraph.{size}
use Rattle.graph_core.proofs.HalvesLaws.{each-append, each-back, each-both}
use Rattle.seq_run.proofs.EachOf.{all_is, each_is}
use Rattle.call_laws.proofs.each_saved_once.InCalls.{edges_inside, edges_once, front_below, updates_below, updates_owned, vertices_inside}
use Rattle.store.specs.declared.store_format.header.Header.{Header}
use Rattle.store.specs.store_format.Bodies.{IsBody}
use Rattle.store.specs.store_format.Encoding.{RecordFits, body_bytes}
use Rattle.store.specs.store_format.ReadBack.{NumbersFit}
use Rattle.store.specs.store_format.StoredOrders.{entry_rank}
use Rattle.recovery.specs.records.Keeping.{IsRecordBehind}
use Rattle.call_laws.proofs.whole_calls.Calling.{the_call}
use Rattle.call_laws.specs.whole_calls.Opened.{IsTraceOfCall}
use Rattle.call_laws.specs.whole_calls.Saved.{SaysOnce}
use Rattle.recovery.proofs.record_form.AllSaved.{AreWhole, ArePartsOf, all_edges, all_in_order, all_saved, all_vertices}
use Rattle.recovery.proofs.record_form.Formed.{is_body, record_fits}
use Rattle.recovery.proofs.record_form.InTurn.{IsTaken}
use Rattle.recovery.proofs.record_form.Rows.{AreAll, edge_keys, vertex_keys}

-- what holds of each entry holds of each that a test keeps
filter_each : (P : Entry → Type 0) (test : Entry → Bool) (order : List Entry) → AllByRecursion P order → AllByRecursion P (filter test order)
filter_each P test [] all = tt
filter_each P test (entry ∷ order) all = either (test entry) (filter_each P test order all.1)
  where
    either : (keeps : Bool) → AllByRecursion P (filter test order) → AllByRecursion P (if keeps then entry ∷ filter test order else filter test order)
    either true rest = (all.0, rest)
    either false rest = rest

below_bound : (t total bound : ℕ) → t ≤ total → total < bound → t < bound
below_bound t total bound low less = omega arith

less_bound : (t total bound : ℕ) → t < total → total < bound → t < bound
less_bound t total bound low less = omega arith

module _ (st : Setting) (failures : List FailureAt) (kept : List Entry) (resumed : Bool) (base : BaseView) (first : Cluster) (events : List Event) (c : Cluster)
    (header : Header) (before : List Entry) (made : Record) (trace : IsTraceOfCall st failures kept resumed base first events c) (due : RecordIsDue st c.coordinator)
    (machines : header.machines ≡ st.machines) (n_is : header.n ≡ size st.graph) (m_is : header.m ≡ length st.graph.edges)
    (behind : IsRecordBehind st before c.base.order (snapshot_due c.coordinator) made) where
  abbrev parts : List SavedPart
  parts = made.sections.items

  abbrev sections : ℕ → Section
  sections = λ a. ((snapshot_due c.coordinator).sections a).section

  are_parts : ArePartsOf sections parts
  are_parts = λ a d low. behind.parts a d (subst (λ (n : ℕ). a < n) behind.machines low)

  -- ---- what was saved

  says : SaysOnce st (snapshot_due c.coordinator)
  says = ((the_call st failures kept resumed base first events c trace).5.pending due).4

  vertices_whole : AreWhole (size st.graph) st.machines (λ a. (sections a).vertices)
  vertices_whole =
      record {
        inside = λ a v x low its. vertices_inside st failures kept resumed base first events c trace due a v x low its;
        there = λ v within.
            let its = says.some_vertex v within in
            (st.owner v, its.0, trace.is.owner v within, its.1);
        alone = λ a b v x y low_a low_b within one other.
            sym (says.vertices a v x low_a one) ∙ says.vertices b v y low_b other;
      }

  edges_whole : AreWhole (length st.graph.edges) st.machines (λ a. (sections a).edges)
  edges_whole =
      record {
        inside = λ a e x low its. edges_inside st failures kept resumed base first events c trace due a e x low its;
        there = λ e within. says.some_edge e within;
        alone = λ a b e x y low_a low_b within one other. edges_once st failures kept resumed base first events c trace due a b e x y low_a low_b within one other;
      }

  all_v : AreAll header.n (flat_map vertex_keys parts) []
  all_v =
      subst (λ (n : ℕ). AreAll n (flat_map vertex_keys parts) []) (sym n_is)
      (all_saved (size st.graph) (λ a. (sections a).vertices) vertex_keys parts (all_vertices sections parts are_parts)
      (subst (λ (n : ℕ). AreWhole (size st.graph) n (λ a. (sections a).vertices)) (sym behind.machines) vertices_whole))

  all_e : AreAll header.m (flat_map edge_keys parts) []
  all_e =
      subst (λ (m : ℕ). AreAll m (flat_map edge_keys parts) []) (sym m_is)
      (all_saved (length st.graph.edges) (λ a. (sections a).edges) edge_keys parts (all_edges sections parts are_parts)
      (subst (λ (n : ℕ). AreWhole (length st.graph.edges) n (λ a. (sections a).edges)) (sym behind.machines) edges_whole))

  machines_are : length parts ≡ header.machines
  machines_are = behind.machines ∙ sym machines

  pub due_fits : length made.entries.items < 2 ^ 32 → header.n < 2 ^ 32 → header.m < 2 ^ 32 → RecordFits made
  due_fits few n_low m_low = record_fits header made machines_are all_v all_e few n_low m_low

  -- ---- its entries

  module _ (number : ℕ) (low : first.next + first.left < 33554432 * number) where
    restart_taken : (entry : Entry) → is_restart entry ≡ true → ticket_of entry ≤ first.next + first.left → IsTaken header number entry
    restart_taken (Go machine vertex ticket) is up = absurd (cc)
    restart_taken (Restart ticket) is up = below_bound ticket (first.next + first.left) (33554432 * number) up low

    update_taken : (entry : Entry) → IsOwnUpdate st entry → ticket_of entry < first.next + first.left → IsTaken header number entry
    update_taken (Go machine vertex ticket) own less = (
      subst (λ (n : ℕ). machine.0 < n) (sym machines) (subst (λ (a : ℕ). a < st.machines) own.1 (trace.is.owner vertex.0 own.0)),
      subst (λ (n : ℕ). vertex.0 < n) (sym n_is) own.0,
      less_bound ticket (first.next + first.left) (33554432 * number) less low,
    )
    update_taken (Restart ticket) own less = absurd own

    missing_taken : AllByRecursion (IsTaken header number) behind.missing
    missing_taken =
        each-both (λ entry. is_restart entry ≡ true) (λ entry. ticket_of entry ≤ first.next + first.left) (IsTaken header number) restart_taken behind.missing behind.restarts
        (each-back (λ entry. ticket_of entry ≤ first.next + first.left) (filter is_restart before) behind.missing
        (subst (AllByRecursion (λ entry. ticket_of entry ≤ first.next + first.left)) (sym behind.lacks)
        (filter_each (λ entry. ticket_of entry ≤ first.next + first.left) is_restart c.base.order (front_below st failures kept resumed base first events c trace))))

    brought_taken : AllByRecursion (IsTaken header number) (entries_below st.machines (snapshot_due c.coordinator))
    brought_taken =
        each-both (IsOwnUpdate st) (λ entry. ticket_of entry < first.next + first.left) (IsTaken header number) update_taken (entries_below st.machines (snapshot_due c.coordinator))
        (updates_owned st failures kept resumed base first events c trace due) (updates_below st failures kept resumed base first events c trace due)

    all_taken : AllByRecursion (IsTaken header number) made.entries.items
    all_taken =
        all_is (IsTaken header number) made.entries.items
        (All-permutation (IsTaken header number) (behind.missing ++ entries_below st.machines (snapshot_due c.coordinator)) made.entries.items behind.entries
        (each_is (IsTaken header number) (behind.missing ++ entries_below st.machines (snapshot_due c.coordinator))
        (each-append (IsTaken header number) behind.missing (entries_below st.machines (snapshot_due c.coordinator)) missing_taken brought_taken)))

  pub due_form : IsNonDecreasingBy entry_rank made.entries.items → RecordFits made → NumbersFit made → made.number < 4294967295 → first.next + first.left < 33554432 * made.number → IsBody header made.number (body_bytes made)
  due_form turn small fits number_low low =
      is_body header made machines_are all_v all_e small fits number_low (all_in_order sections parts are_parts) (all_taken made.number low) turn
