-- Who stands in line where an update or a snapshot update is made.
use Rattle.std.proofs.Common.{◌≡◌, ◌⊎◌, ℕ, zero, suc, ◌<◌, ◌==◌, ◌&&◌, ◌||◌, not, Bool, true, false, true≢false, Option, None, Some, List, [], ◌∷◌, length, get_or, set, sym, ap, ◌∙◌, subst, arith, inl, inr}
use Rattle.std.specs.Prelude.{nat_lt}
use Rattle.std.specs.List.{list_any}
use Rattle.std.proofs.Math.Bool.{or-true}
use Rattle.std.proofs.lemmas.Bool.{and_parts, eqb-true, or_cases}
use Rattle.std.proofs.lemmas.List.{get_or-set_other}
use Rattle.gl_base.specs.declared.entries.Entry.{Entry}
use Rattle.gl_base.specs.declared.entries.Entry.TheVariants.{Go}
use Rattle.gl_base.specs.declared.numbers.Vertex.{Vertex}
use Rattle.gl_base.specs.declared.scopes.ScopeId.{ScopeId}
use Rattle.graph_core.specs.DataGraph.{size}
use Rattle.seq_run.specs.States.{wakes}
use Rattle.update_api.specs.Updates.{Update}
use Rattle.cluster_laws.specs.cluster_core.Effects.{ends, first_pending, first_unmarked, is_at, is_left, mark_news, marked, marked_datum, pends_for, save, seed_if, updated}
use Rattle.cluster_laws.specs.cluster_core.Parts.{lent}
use Rattle.cluster_laws.specs.cluster_core.Ranges.{set_at}
use Rattle.cluster_laws.specs.cluster_core.Settings.{IsSetting, is_near}
use Rattle.cluster_laws.proofs.cluster_numbers.EdgeEnds.{wakes_near}
use Rattle.local_graph.specs.declared.sides.Side.{Side}
use Rattle.partition.specs.machine_numbers.Views.{flag_there, is_flagged, place_at}
use Rattle.machine_core.specs.declared.machine_parts.cores.Core.{Core}
use Rattle.machine_core.specs.machine_parts.Parts.{flight_at, pending_here, sides_at}
use Rattle.machine_core.proofs.machine_scopes.PickLemmas.{own_place}
use Rattle.machine_core.specs.machine_turns.Turns.{HasMadeUpdate, HasRunOf}
use Rattle.machine_core.proofs.machine_updates.LeaveLemmas.{flag_here}
use Rattle.snapshot_machines.specs.marking.Marking.{HasEndedPlan, HasMarked}
use Rattle.machine_core.specs.color_parts.Enlisting.{HasEnlisted, ends_of, is_such, is_free_such}
use Rattle.machine_core.specs.declared.color_parts.enlisting.Which.TheVariants.{Pending, Tasks}
use Rattle.machine_core.specs.color_parts.Parts.{LinesView, TasksView, is_in_line}
use Rattle.snapshot_machines.specs.chromatic.Machines.{IsOrderly, IsPartOf, KnowsPlaces, Part, Setting, SnapView, part_of, with_snaps}
use Rattle.snapshot_machines.specs.chromatic.Inner.Keeping.{AreBothInLine, HasFirstInLine, IsWithoutLocks}
use Rattle.snapshot_machines.proofs.chromatic.FreeLemmas.{bare_free, kept_free, marked_free, updated_free}
use Rattle.snapshot_machines.proofs.chromatic.KeepLemmas.{none_pending, own_low, stand_apart}
use Rattle.snapshot_machines.proofs.chromatic.LineLemmas.{AreAmong, HasLeft, StandApart, back_in_line, fresh_stands, left_in_line, near_in_line, near_sound, old_stands, seed_in_line}

-- who is at the other end of a side stands among the ends
pub end_among : (sides : List Side) (u : ℕ) → list_any (λ (s : Side). s.other.0 == u) sides ≡ true → (i : ℕ) × (i < length sides) × ((d : Vertex) → (get_or (ends_of sides) i d).0 ≡ u)
end_among [] u is = absurd (true≢false (sym is))
end_among (s ∷ sides) u is = elim (or_cases (s.other.0 == u) (list_any (λ (t : Side). t.other.0 == u) sides) is) [
  | inl here ↦ (zero, omega arith, λ d. eqb-true s.other.0 u here)
  | inr later ↦
      let at = end_among sides u later in
      let low = at.1 in
      (suc at.0, omega (arith, low), λ d. at.2 d)
]

some_number : (a b : ℕ) → Some a ≡ Some b → a ≡ b
some_number a b e = cc

-- ---- the vertex of a scope that ends

module _ (m new : Core) (s : ScopeId) (v : Vertex) (orderly : IsOrderly m) (orderly_now : IsOrderly new) (places : KnowsPlaces m) (places_now : KnowsPlaces new) (same_places : new.by_place ≡ m.by_place)
    (place : (u : ℕ) → place_at new.numbers.local u ≡ place_at m.numbers.local u) (flies : flight_at m.pipe s ≡ Some v) where
  abbrev pub placed : (k : ℕ) × (place_at m.numbers.local v.0 ≡ Some k)
  placed = own_place m.numbers.local v.0 (orderly.flights.own s v flies)

  pub as_many : length new.numbers.tasks.task ≡ length m.numbers.tasks.task
  as_many = sym places_now.vertices.many ∙ ap (λ vs. length vs.items) same_places ∙ places.vertices.many

  -- those who stand apart now stood so
  pub apart_then : StandApart new.numbers.local (length m.numbers.tasks.task)
  apart_then = subst (StandApart new.numbers.local) as_many (stand_apart new orderly_now places_now)

  abbrev pub has_left : new.numbers.tasks.admitted ≡ set m.numbers.tasks.admitted placed.0 false → HasLeft new.numbers.local m.numbers.tasks new.numbers.tasks v
  has_left flags =
      record {
        place = placed.0;
        at = place v.0 ∙ placed.1;
        was = sym (ap (flag_there m.numbers.tasks.admitted) placed.1) ∙ orderly.flights.admitted s v flies;
        many = as_many;
        clear = ap (λ (fs : List Bool). is_flagged fs placed.0) flags ∙ flag_here m.numbers.tasks.admitted placed.0;
        others = λ k off. ap (λ (fs : List Bool). is_flagged fs k) flags ∙ get_or-set_other m.numbers.tasks.admitted placed.0 k false false off;
      }

  -- a flag at a place is that of its vertex
  flag_of : (flags : Core → List Bool) (k : ℕ) (u : Vertex) → place_at new.numbers.local u.0 ≡ Some k → (flag_there (flags new) (place_at new.numbers.local u.0) ≡ is_flagged (flags new) k) × (flag_there (flags m) (place_at m.numbers.local u.0) ≡ is_flagged (flags m) k)
  flag_of flags k u at = (ap (flag_there (flags new)) at, ap (flag_there (flags m)) (sym (place u.0) ∙ at))

  -- ---- an update

  module _ (program : Update) (st : Setting) (ticket : ℕ) (setting : IsSetting st) (here : IsPartOf st m) (runs : st.program ≡ program) (made : HasMadeUpdate program m new s ticket) (run : HasRunOf m new s)
      (sided : (u : ℕ) → is_near st v.0 u ≡ true → list_any (λ (t : Side). t.other.0 == u) (sides_at m.numbers.local v.0) ≡ true) (sides : sides_at new.numbers.local v.0 ≡ sides_at m.numbers.local v.0) where
    centre : made.may.vertex ≡ v.0
    centre = some_number made.may.vertex v.0 (sym made.may.flight ∙ ap (λ (o : Option Vertex). option_number o) flies)
      where
        option_number : Option Vertex → Option ℕ
        option_number None = None
        option_number (Some x) = Some x.0

    abbrev woken : ℕ → Bool
    woken u = st.owner u == s.home.0 && wakes st.graph st.program (lent (part_of m)) v.0 u

    abbrev entry : Entry
    entry = Go s.home (record { 0 = made.may.vertex }) ticket

    part_now : part_of new ≡ updated st s.home.0 s v.0 entry (part_of m)
    part_now = made.after st setting here runs ∙ ap (λ (x : ℕ). updated st s.home.0 s x entry (part_of m)) centre

    task_flag : (k : ℕ) (u : Vertex) → place_at new.numbers.local u.0 ≡ Some k → is_such Tasks new.numbers.tasks k ≡ (woken u.0 || (is_such Tasks m.numbers.tasks k && not (u.0 == v.0)))
    task_flag k u at =
        let flags = flag_of (λ (c : Core). c.numbers.tasks.task) k u at in
        sym flags.0 ∙ ap (λ (p : Part). p.task u.0) part_now ∙ ap (λ (b : Bool). woken u.0 || (b && not (u.0 == v.0))) flags.1

    pub updated_in_line : (lines asked new_lines : LinesView) → AreBothInLine m.numbers.tasks lines asked → new_lines.colours ≡ lines.colours
        → HasEnlisted Tasks new.numbers lines new_lines (ends_of (sides_at new.numbers.local v.0)) (length (sides_at new.numbers.local v.0)) → AreBothInLine new.numbers.tasks new_lines asked
    updated_in_line lines asked new_lines are colours enlisted =
        let ran = (run v placed.0 flies placed.1).rest in
        let left = has_left (ap (λ (t : TasksView). t.admitted) ran) in
        record {
          many = ap length colours ∙ are.many ∙ sym as_many;
          colours = are.colours ∙ sym colours;
          tasks =
              near_in_line Tasks new.numbers m.numbers.tasks v lines new_lines (ends_of (sides_at new.numbers.local v.0)) (length (sides_at new.numbers.local v.0)) woken apart_then left
              (λ u is_so.
              let near = wakes_near st setting (lent (part_of m)) v.0 u (and_parts (st.owner u == s.home.0) (wakes st.graph st.program (lent (part_of m)) v.0 u) is_so).1 in
              end_among (sides_at new.numbers.local v.0) u (subst (λ (ss : List Side). list_any (λ (t : Side). t.other.0 == u) ss ≡ true) (sym sides) (sided u near)))
              are.tasks enlisted task_flag;
          pending =
              left_in_line Pending new.numbers.local m.numbers.tasks new.numbers.tasks v asked left (λ k. ap (λ (t : TasksView). is_flagged t.pending k) ran)
              (sym (ap (flag_there m.numbers.tasks.pending) placed.1) ∙ ap (pending_here m.numbers) (sym centre) ∙ made.may.not_pending) are.pending;
        }

    pub updated_without_locks : IsWithoutLocks (part_of m) → IsWithoutLocks (part_of new)
    updated_without_locks is = subst IsWithoutLocks (sym part_now) (updated_free st s.home.0 s v.0 entry (part_of m) is)

  -- ---- a snapshot update

  module _ (st : Setting) (w now : SnapView) (setting : IsSetting st) (here : IsPartOf st m) (done : HasMarked m w new now s) (plan : HasEndedPlan m new s)
      (sided : (u : ℕ) → is_near st v.0 u ≡ true → list_any (λ (t : Side). t.other.0 == u) (sides_at m.numbers.local v.0) ≡ true) (sides : sides_at new.numbers.local v.0 ≡ sides_at m.numbers.local v.0) where
    abbrev before : Part
    before = with_snaps w (part_of m)

    marked_centre : done.may.vertex ≡ v.0
    marked_centre = some_number done.may.vertex v.0 (sym done.may.flight ∙ ap (λ (o : Option Vertex). option_number o) flies)
      where
        option_number : Option Vertex → Option ℕ
        option_number None = None
        option_number (Some x) = Some x.0

    -- behind the snapshot update, before anybody is seeded
    abbrev mid : Part
    mid =
        ends st s.home.0 s v.0 (mark_news st before v.0)
        (record before {
          datum = set_at before.datum v.0 (marked_datum before v.0);
          pending = λ u. pends_for st before v.0 s.home.0 u || (before.pending u && not (u == v.0));
          saved = save st before v.0;
        })

    abbrev seed : Option ℕ
    seed = seed_if (first_pending st mid) (first_unmarked st s.home.0 mid)

    abbrev fresh : ℕ → Bool
    fresh u = pends_for st before v.0 s.home.0 u

    mark_now : with_snaps now (part_of new) ≡ marked st s.home.0 s v.0 before
    mark_now = done.after st setting here ∙ ap (λ (x : ℕ). marked st s.home.0 s x before) marked_centre

    pending_flag : (k : ℕ) (u : Vertex) → place_at new.numbers.local u.0 ≡ Some k → is_such Pending new.numbers.tasks k ≡ (is_at seed u.0 || (fresh u.0 || (pending_here m.numbers u.0 && not (u.0 == v.0))))
    pending_flag k u at = sym (flag_of (λ (c : Core). c.numbers.tasks.pending) k u at).0 ∙ ap (λ (p : Part). p.pending u.0) mark_now

    was_flag : (k : ℕ) (u : Vertex) → place_at new.numbers.local u.0 ≡ Some k → pending_here m.numbers u.0 ≡ is_such Pending m.numbers.tasks k
    was_flag k u at = (flag_of (λ (c : Core). c.numbers.tasks.pending) k u at).1

    task_same : (k : ℕ) → k < length m.numbers.tasks.task → is_such Tasks new.numbers.tasks k ≡ is_such Tasks m.numbers.tasks k
    task_same k low =
        let u = apart_then.stands k low in
        let flags = flag_of (λ (c : Core). c.numbers.tasks.task) k u.0 u.1 in
        sym flags.0 ∙ ap (λ (p : Part). p.task u.0.0) mark_now ∙ flags.1

    left : HasLeft new.numbers.local m.numbers.tasks new.numbers.tasks v
    left = has_left (plan v placed.0 flies placed.1).admitted

    pub marked_in_line : (lines asked new_lines near_asked new_asked : LinesView) → AreBothInLine m.numbers.tasks lines asked → new_lines.colours ≡ lines.colours → ((k : ℕ) → is_in_line lines k ≡ true → is_in_line new_lines k ≡ true)
        → ((k : ℕ) → is_in_line new_lines k ≡ true → (is_in_line lines k ≡ true) ⊎ ((place_at new.numbers.local v.0 ≡ Some k) × (is_free_such Tasks new.numbers.tasks k ≡ true)))
        → ((k : ℕ) → place_at new.numbers.local v.0 ≡ Some k → k < length new.numbers.tasks.task → is_free_such Tasks new.numbers.tasks k ≡ true → is_in_line new_lines k ≡ true) → near_asked.colours ≡ asked.colours
        → HasEnlisted Pending new.numbers asked near_asked (ends_of (sides_at new.numbers.local v.0)) (length (sides_at new.numbers.local v.0)) → HasFirstInLine new.numbers.tasks near_asked new_asked → AreBothInLine new.numbers.tasks new_lines new_asked
    marked_in_line lines asked new_lines near_asked new_asked are colours kept free there near_colours enlisted first =
        let among : AreAmong (ends_of (sides_at new.numbers.local v.0)) (length (sides_at new.numbers.local v.0)) fresh = λ u is_so.
        let near = (and_parts (is_near st v.0 u) (nat_lt (before.datum u).mark before.known) (and_parts (st.owner u == s.home.0) (is_left st before v.0 u) is_so).1).0 in
        end_among (sides_at new.numbers.local v.0) u (subst (λ (ss : List Side). list_any (λ (t : Side). t.other.0 == u) ss ≡ true) (sym sides) (sided u near)) in
        record {
          many = ap length colours ∙ are.many ∙ sym as_many;
          colours = first.colours ∙ near_colours ∙ are.colours ∙ sym colours;
          tasks = back_in_line Tasks new.numbers.local m.numbers.tasks new.numbers.tasks v lines new_lines apart_then left task_same are.tasks kept free there;
          pending =
              seed_in_line new.numbers.local new.numbers.tasks near_asked new_asked seed (λ u. fresh u || (pending_here m.numbers u && not (u == v.0))) (stand_apart new orderly_now places_now) pending_flag
              (λ k u x at low is. none_pending st s.home.0 mid u.0 x (low_of k u at low) is)
              (near_sound Pending new.numbers m.numbers.tasks v asked near_asked (ends_of (sides_at new.numbers.local v.0)) (length (sides_at new.numbers.local v.0)) fresh apart_then left among are.pending enlisted
              (λ k u at both.
              pending_flag k u at
              ∙ ap (λ (b : Bool). is_at seed u.0 || (fresh u.0 || b)) (ap (λ (b : Bool). b && not (u.0 == v.0)) (was_flag k u at) ∙ both)
              ∙ ap (λ (b : Bool). is_at seed u.0 || b) (or-true (fresh u.0)) ∙ or-true (is_at seed u.0)))
              (λ k u at low is due.
              elim (or_cases (fresh u.0) (pending_here m.numbers u.0 && not (u.0 == v.0)) is) [
                | inl is_so ↦
                    fresh_stands Pending new.numbers m.numbers.tasks v asked near_asked (ends_of (sides_at new.numbers.local v.0)) (length (sides_at new.numbers.local v.0)) fresh apart_then left among are.pending enlisted k u at low is_so due
                | inr both ↦
                    old_stands Pending new.numbers m.numbers.tasks v asked near_asked (ends_of (sides_at new.numbers.local v.0)) (length (sides_at new.numbers.local v.0)) fresh apart_then left among are.pending enlisted k u at low
                    (ap (λ (b : Bool). b && not (u.0 == v.0)) (sym (was_flag k u at)) ∙ both) due
              ])
              first.kept first.due first.first;
        }
      where
        low_of : (k : ℕ) (u : Vertex) → place_at new.numbers.local u.0 ≡ Some k → k < length new.numbers.tasks.task → u.0 < size st.graph
        low_of k u at low = (own_low st m u.0 k orderly here (sym (place u.0) ∙ at) (subst (λ (n : ℕ). k < n) as_many low)).1

    pub marked_without_locks : IsWithoutLocks (part_of m) → IsWithoutLocks (part_of new)
    marked_without_locks is = bare_free now (part_of new) (subst IsWithoutLocks (sym mark_now) (marked_free st s.home.0 s v.0 before (kept_free w (part_of m) is)))
