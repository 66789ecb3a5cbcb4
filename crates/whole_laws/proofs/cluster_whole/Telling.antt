-- The coordinator hears counts.
use Rattle.std.proofs.Common.{◌≡◌, ◌≢◌, ℕ, zero, suc, pred, ◌<◌, not, Bool, true, false, is_some, Option, None, Some, List, [], ◌∷◌, ◌++◌, length, slice_index_or, slice_set, refl, sym, ◌∙◌, ap, subst, ⊎_elim, get_or-set_same, get_or-set_other, arith}
use Rattle.std.proofs.lemmas.Bool.{both_ways, cases_Bool, cases_eq}
use Rattle.std.proofs.lemmas.List.{get_or-replicate, length-replicate, length-set}
use Rattle.std.proofs.lemmas.List.Folds.{list_all_at}
use Rattle.gl_base.specs.declared.scopes.Counted.{Counted}
use Rattle.cluster_laws.specs.cluster_core.Ranges.{set_at}
use Rattle.cluster_laws.specs.cluster_core.Settings.{Setting}
use Rattle.cluster_laws.proofs.cluster_core.Basics.{set_at-holds, set_at-other, set_at-same}
use Rattle.cluster_laws.specs.cluster_model.Calls.{Count, Report, Saved, Want}
use Rattle.cluster_laws.specs.cluster_model.Clusters.{Cluster, with_coordinator, with_reports}
use Rattle.cluster_laws.specs.cluster_model.Counting.{MayBeCounted}
use Rattle.cluster_laws.specs.cluster_model.Leading.{takes_report}
use Rattle.cluster_laws.specs.cluster_model.Rounds.{Rounds, with_counts}
use Rattle.cluster_laws.specs.cluster_model.TwoWaves.{TwoWaves, all_answered, no_counts, turned}
use Rattle.whole_laws.specs.cluster_whole.Steps.{AreInTurn, Holds, IsAt, IsCalled, StaysShut, Tells, Told, Turn, calls_of, come_of, counts_in, has_come, held_of, is_told, reports_of, step_of}

pub turned_whole : (ws : TwoWaves) → all_answered ws.wave ≡ true → turned ws ≡ record { before = ws.wave; wave = no_counts (length ws.wave) }
turned_whole ws all = rw (all) refl

pub turned_part : (ws : TwoWaves) → all_answered ws.wave ≡ false → turned ws ≡ ws
turned_part ws part = rw (part) refl

turned_long : (ws : TwoWaves) → length (turned ws).wave ≡ length ws.wave
turned_long ws =
    ⊎_elim
    (λ (all : all_answered ws.wave ≡ true). ap (λ (x : TwoWaves). length x.wave) (turned_whole ws all) ∙ length-replicate (length ws.wave) None)
    (λ (part : all_answered ws.wave ≡ false). ap (λ (x : TwoWaves). length x.wave) (turned_part ws part))
    (cases_Bool (all_answered ws.wave))

not_true : (x : Bool) → not x ≡ true → x ≡ false
not_true true is = sym is
not_true false is = refl

not_false : (x : Bool) → not x ≡ false → x ≡ true
not_false true is = refl
not_false false is = sym is

counts_of : Report → Option Counted
counts_of (Saved k section entries) = None
counts_of (Count k counts) = Some counts
counts_of (Want k) = None

wave_of : Report → ℕ
wave_of (Saved k section entries) = 0
wave_of (Count k counts) = k
wave_of (Want k) = 0

first_counts : List Report → Option Counted
first_counts [] = None
first_counts (r ∷ rs) = counts_of r

first_wave : List Report → ℕ
first_wave [] = 0
first_wave (r ∷ rs) = wave_of r

rest_of : List Report → List Report
rest_of [] = []
rest_of (r ∷ rs) = rs

some_same : (x y : Counted) → Some x ≡ Some y → x ≡ y
some_same x y is = cc

some_none : (x : Counted) → Some x ≡ None → ⊥
some_none x is = cc

-- counts that come first are those that the machine tells
count_first : (k seen : ℕ) (counts : Counted) (rest : List Report) (turn : Turn) → Count seen counts ∷ rest ≡ reports_of k turn → (turn ≡ Tells counts) × (seen ≡ k) × (rest ≡ [])
unfolding counts_of wave_of first_counts first_wave rest_of
count_first k seen counts rest IsCalled is = absurd (some_none counts (ap first_counts is))
count_first k seen counts rest Holds is = absurd (some_none counts (ap first_counts is))
count_first k seen counts rest (Tells other) is = (ap Tells (some_same other counts (sym (ap first_counts is))), ap first_wave is, ap rest_of is)
count_first k seen counts rest (Told other) is = absurd (some_none counts (ap first_counts is))

come_told : (turn : Turn) → is_some (come_of turn) ≡ true → is_told turn ≡ true
come_told IsCalled is = is
come_told Holds is = is
come_told (Tells counts) is = is
come_told (Told counts) is = refl

module _ (st : Setting) (colour : ℕ → ℕ) (c : Cluster) (t : AreInTurn st colour c.coordinator.rounds c) (a : ℕ) (low : a < st.machines) (seen : ℕ) (counts : Counted) (behind : List Report) (first : c.reports a ≡ Count seen counts ∷ behind) where
  abbrev rounds : Rounds
  rounds = c.coordinator.rounds

  abbrev k : ℕ
  k = pred rounds.counting.put_out

  abbrev ws : TwoWaves
  ws = rounds.counting.waves

  abbrev rest : List Report
  rest = counts_in (behind ++ (c.machine a).out)

  found : (t.turn a ≡ Tells counts) × (seen ≡ k) × (rest ≡ [])
  found = count_first k seen counts rest (t.turn a) (sym (ap (λ (rs : List Report). counts_in (rs ++ (c.machine a).out)) first) ∙ (t.machines a low).reports)

  waiting : rounds.counting.waiting ≡ true
  waiting =
      ⊎_elim
      (λ (yes_waits : rounds.counting.waiting ≡ true). yes_waits)
      (λ (whole : rounds.counting.waiting ≡ false). absurd (both_ways false refl (ap is_told (sym found.0) ∙ t.told whole a low)))
      (cases_Bool rounds.counting.waiting)

  pred_put : (n : ℕ) → 0 < n → suc (pred n) ≡ n
  pred_put zero some = omega arith
  pred_put (suc n) some = refl

  long : length (turned ws).wave ≡ st.machines
  long = turned_long ws ∙ t.many

  -- it is of the newest wave, and the machine's counts are missing
  pub may_be_counted : MayBeCounted rounds.counting a seen
  may_be_counted =
      record {
        newest = ap suc found.1 ∙ pred_put rounds.counting.put_out (t.some waiting);
        waiting = waiting;
        machine = subst (λ (n : ℕ). a < n) (sym t.many) low;
        missing = (t.machines a low).missing waiting ∙ ap come_of found.0;
      }

  abbrev counted : Rounds
  counted = with_counts rounds a counts

  abbrev told : Cluster
  told = with_reports (with_coordinator c (takes_report a (Count seen counts) c.coordinator)) a behind

  abbrev wave : List (Option Counted)
  wave = slice_set (turned ws).wave a (Some counts)

  slot_here : slice_index_or wave a None ≡ Some counts
  slot_here = get_or-set_same (turned ws).wave a (Some counts) None (subst (λ (n : ℕ). a < n) (sym long) low)

  slot_there : (b : ℕ) → b < st.machines → b ≢ a → slice_index_or wave b None ≡ come_of (t.turn b)
  slot_there b b_low off = get_or-set_other (turned ws).wave a b (Some counts) None off ∙ (t.machines b b_low).missing waiting

  -- the coordinator's list has what has come
  missing_by : (b : ℕ) (turn : Turn) → slice_index_or wave b None ≡ come_of turn → counted.counting.waiting ≡ true → slice_index_or (turned counted.counting.waves).wave b None ≡ come_of turn
  missing_by b turn is still = ap (λ (x : TwoWaves). slice_index_or x.wave b None) (turned_part counted.counting.waves (not_true (all_answered wave) still)) ∙ is

  here_at : IsAt counted told a (t.made a) (Told counts)
  here_at =
      let was = t.machines a low in
      record {
        calls = was.calls ∙ (λ i. step_of (t.made a) rounds.colour ++ calls_of k (found.0 i));
        held = was.held ∙ ap (held_of k) found.0;
        reports = ap (λ (rs : List Report). counts_in (rs ++ (c.machine a).out)) (set_at-same c.reports a behind) ∙ found.2;
        missing = missing_by a (Told counts) slot_here;
        come = λ whole some. slot_here;
        behind = was.behind;
        first = was.first;
        in_turn = λ since come. was.in_turn since (ap has_come found.0);
        shut = λ since. subst (StaysShut (c.machine a)) found.0 (was.shut since);
      }

  there_at : (b : ℕ) → b < st.machines → b ≢ a → IsAt counted told b (t.made b) (t.turn b)
  there_at b b_low off =
      let was = t.machines b b_low in
      record {
        calls = was.calls;
        held = was.held;
        reports = ap (λ (rs : List Report). counts_in (rs ++ (c.machine b).out)) (set_at-other c.reports a behind b off) ∙ was.reports;
        missing = missing_by b (t.turn b) (slot_there b b_low off);
        come = λ whole some. slot_there b b_low off;
        behind = was.behind;
        first = was.first;
        in_turn = was.in_turn;
        shut = was.shut;
      }

  slot_next : (b : ℕ) → b < st.machines → slice_index_or wave b None ≡ come_of (set_at t.turn a (Told counts) b)
  slot_next b b_low =
      set_at-holds (λ (b : ℕ) (turn : Turn). b < st.machines → slice_index_or wave b None ≡ come_of turn) t.turn a (Told counts) b (λ at. slot_here) (λ off at. slot_there b at off) b_low

  long_now : length wave ≡ st.machines
  long_now = length-set (turned ws).wave a (Some counts) ∙ long

  all_told : counted.counting.waiting ≡ false → (b : ℕ) → b < st.machines → is_told (set_at t.turn a (Told counts) b) ≡ true
  all_told whole b b_low =
      come_told (set_at t.turn a (Told counts) b)
      (ap (λ (x : Option Counted). is_some x) (sym (slot_next b b_low))
      ∙ ⊎_elim
      (λ (is : is_some (slice_index_or wave b None) ≡ true). is)
      (λ (none : is_some (slice_index_or wave b None) ≡ false).
      absurd (both_ways (all_answered wave) (list_all_at (λ (x : Option Counted). is_some x) wave b None (subst (λ (n : ℕ). b < n) (sym long_now) b_low) none) (not_false (all_answered wave) whole)))
      (cases_Bool (is_some (slice_index_or wave b None))))

  pub counts_heard : AreInTurn st colour counted told
  counts_heard =
      record {
        made = t.made;
        turn = set_at t.turn a (Told counts);
        machines = λ b b_low. ⊎_elim
            (λ (here : b ≡ a). subst (λ (b : ℕ). IsAt counted told b (t.made b) (set_at t.turn a (Told counts) b)) (sym here)
            (subst (IsAt counted told a (t.made a)) (sym (set_at-same t.turn a (Told counts))) here_at))
            (λ (off : b ≢ a). subst (IsAt counted told b (t.made b)) (sym (set_at-other t.turn a (Told counts) b off)) (there_at b b_low off))
            (cases_eq b a);
        told = all_told;
        fresh = λ whole b b_low.
            ap (λ (x : TwoWaves). slice_index_or x.wave b None) (turned_whole counted.counting.waves (not_false (all_answered wave) whole))
            ∙ get_or-replicate (length wave) b None None (subst (λ (n : ℕ). b < n) (sym long_now) b_low);
        some = λ still. t.some waiting;
        many = long_now;
        since = t.since;
        first = t.first;
        others = t.others;
        step = record { machines = t.step.machines; flights = t.step.flights; news = t.step.news };
        closed = t.closed;
        queues = t.queues;
        between = t.between;
        balanced = t.balanced;
      }
