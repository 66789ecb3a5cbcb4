-- The coordinator has counts of a machine.
use Rattle.std.proofs.Common.{◌≡◌, ◌≢◌, ◌⊎◌, inl, inr, ◌+◌, ◌≤◌, ℕ, zero, suc, pred, ◌<◌, not, Bool, true, false, is_some, Option, None, Some, List, [], ◌∷◌, ◌++◌, length, slice_index_or, slice_set, refl, sym, ◌∙◌, ap, subst, ⊎_elim, get_or-set_same, get_or-set_other, arith}
use Rattle.std.proofs.lemmas.Bool.{both_ways, cases_Bool, cases_eq}
use Rattle.std.proofs.lemmas.List.{get_or-replicate, length-replicate, length-set}
use Rattle.std.proofs.lemmas.List.Folds.{list_all_at}
use Rattle.gl_base.specs.declared.scopes.Counted.{Counted}
use Rattle.cluster_laws.specs.cluster_core.Ranges.{set_at}
use Rattle.cluster_laws.specs.cluster_core.Settings.{Setting}
use Rattle.cluster_laws.proofs.cluster_core.Basics.{set_at-holds, set_at-other, set_at-same}
use Rattle.cluster_laws.specs.cluster_model.Calls.{Count, Report, Saved, Want, begins_in}
use Rattle.cluster_laws.specs.cluster_model.Clusters.{Cluster, call_way, with_coordinator, with_reports}
use Rattle.cluster_laws.specs.cluster_model.Counting.{Counting, MayBeCounted, count_answer}
use Rattle.cluster_laws.specs.cluster_model.Leading.{takes_report}
use Rattle.cluster_laws.specs.cluster_model.Machines.{count_of}
use Rattle.cluster_laws.specs.cluster_model.TwoWaves.{TwoWaves, all_answered, turned}
use Rattle.whole_laws.specs.cluster_whole.Steps.{Holds, IsCalled, Tells, Told, Turn, calls_of, come_of, counts_in, held_of, is_told, reports_of}
use Rattle.whole_laws.proofs.cluster_whole.Telling.{turned_part, turned_whole}
use Rattle.whole_laws.specs.cluster_ending.Watched.{AreWatched, HasAnswered, IsNotAbove, IsTurnOf, last_counts, shown_by, shown_in, told_behind}
use Rattle.whole_laws.proofs.cluster_ending.Deeds.{IsAlike}
use Rattle.whole_laws.proofs.cluster_ending.Turns.{goes_alike, turn_as, watch_of}

not_true : (x : Bool) → not x ≡ true → x ≡ false
not_true true is = sym is
not_true false is = refl

not_false : (x : Bool) → not x ≡ false → x ≡ true
not_false true is = refl
not_false false is = sym is

counts_of : Report → Option Counted
counts_of (Saved k section entries) = None
counts_of (Count k counts) = Some counts
counts_of (Want k) = None

wave_of : Report → ℕ
wave_of (Saved k section entries) = 0
wave_of (Count k counts) = k
wave_of (Want k) = 0

first_counts : List Report → Option Counted
first_counts [] = None
first_counts (r ∷ rs) = counts_of r

first_wave : List Report → ℕ
first_wave [] = 0
first_wave (r ∷ rs) = wave_of r

rest_of : List Report → List Report
rest_of [] = []
rest_of (r ∷ rs) = rs

some_same : (x y : Counted) → Some x ≡ Some y → x ≡ y
some_same x y is = cc

some_none : (x : Counted) → Some x ≡ None → ⊥
some_none x is = cc

-- counts that come first are those that the machine tells
pub count_first : (k seen : ℕ) (counts : Counted) (rest : List Report) (turn : Turn) → Count seen counts ∷ rest ≡ reports_of k turn → (turn ≡ Tells counts) × (seen ≡ k) × (rest ≡ [])
unfolding counts_of wave_of first_counts first_wave rest_of
count_first k seen counts rest IsCalled is = absurd (some_none counts (ap first_counts is))
count_first k seen counts rest Holds is = absurd (some_none counts (ap first_counts is))
count_first k seen counts rest (Tells other) is = (ap Tells (some_same other counts (sym (ap first_counts is))), ap first_wave is, ap rest_of is)
count_first k seen counts rest (Told other) is = absurd (some_none counts (ap first_counts is))

come_told : (turn : Turn) → is_some (come_of turn) ≡ true → is_told turn ≡ true
come_told IsCalled is = is
come_told Holds is = is
come_told (Tells counts) is = is
come_told (Told counts) is = refl

pred_put : (n : ℕ) → 0 < n → suc (pred n) ≡ n
pred_put zero some = omega arith
pred_put (suc n) some = refl

none_put : (n : ℕ) → 0 < n → n ≡ 0 → ⊥
none_put n some none = omega arith

pub turned_long : (ws : TwoWaves) → length (turned ws).wave ≡ length ws.wave
turned_long ws =
    ⊎_elim
    (λ (all : all_answered ws.wave ≡ true). ap (λ (x : TwoWaves). length x.wave) (turned_whole ws all) ∙ length-replicate (length ws.wave) None)
    (λ (part : all_answered ws.wave ≡ false). ap (λ (x : TwoWaves). length x.wave) (turned_part ws part))
    (cases_Bool (all_answered ws.wave))

-- the wave before, while counts of the newest are missing, and where they are not
pub last_waiting : (counting : Counting) → counting.waiting ≡ true → last_counts counting ≡ (turned counting.waves).before
last_waiting counting is = rw (is) refl

pub last_whole : (counting : Counting) → counting.waiting ≡ false → last_counts counting ≡ counting.waves.before
last_whole counting is = rw (is) refl

pub turned_before_long : (ws : TwoWaves) (machines : ℕ) → length ws.wave ≡ machines → length ws.before ≡ machines → length (turned ws).before ≡ machines
turned_before_long ws machines wave before =
    ⊎_elim
    (λ (all : all_answered ws.wave ≡ true). ap (λ (x : TwoWaves). length x.before) (turned_whole ws all) ∙ wave)
    (λ (part : all_answered ws.wave ≡ false). ap (λ (x : TwoWaves). length x.before) (turned_part ws part) ∙ before)
    (cases_Bool (all_answered ws.wave))

module _ (st : Setting) (begun : ℕ) (c : Cluster) (turn : ℕ → Turn) (before newest : ℕ) (was : AreWatched st c.coordinator.rounds.counting begun c (watch_of turn before newest)) (a : ℕ) (low : a < st.machines)
    (seen : ℕ) (counts : Counted) (behind : List Report) (first : c.reports a ≡ Count seen counts ∷ behind) where
  abbrev counting : Counting
  counting = c.coordinator.rounds.counting

  abbrev k : ℕ
  k = pred counting.put_out

  abbrev ws : TwoWaves
  ws = counting.waves

  abbrev rest : List Report
  rest = counts_in (behind ++ (c.machine a).out)

  found : (turn a ≡ Tells counts) × (seen ≡ k) × (rest ≡ [])
  found = count_first k seen counts rest (turn a) (sym (ap (λ (rs : List Report). counts_in (rs ++ (c.machine a).out)) first) ∙ (was.machines a low).reports)

  waiting : counting.waiting ≡ true
  waiting =
      ⊎_elim
      (λ (yes_waits : counting.waiting ≡ true). yes_waits)
      (λ (whole : counting.waiting ≡ false). absurd (both_ways false refl (ap is_told (sym found.0) ∙ was.told whole a low)))
      (cases_Bool counting.waiting)

  -- they are of the newest wave, and the machine's counts are missing
  pub may_be_counted : MayBeCounted counting a seen
  may_be_counted =
      record {
        newest = ap suc found.1 ∙ pred_put counting.put_out (was.some waiting);
        waiting = waiting;
        machine = subst (λ (n : ℕ). a < n) (sym was.many) low;
        missing = (was.machines a low).missing waiting ∙ ap come_of found.0;
      }

  abbrev counted : Counting
  counted = count_answer counting a counts

  abbrev told : Cluster
  told = with_reports (with_coordinator c (takes_report a (Count seen counts) c.coordinator)) a behind

  abbrev wave : List (Option Counted)
  wave = slice_set (turned ws).wave a (Some counts)

  abbrev coming : ℕ → Turn
  coming = set_at turn a (Told counts)

  long : length (turned ws).wave ≡ st.machines
  long = turned_long ws ∙ was.many

  slot_here : slice_index_or wave a None ≡ Some counts
  slot_here = get_or-set_same (turned ws).wave a (Some counts) None (subst (λ (n : ℕ). a < n) (sym long) low)

  slot_there : (b : ℕ) → b < st.machines → b ≢ a → slice_index_or wave b None ≡ come_of (turn b)
  slot_there b b_low off = get_or-set_other (turned ws).wave a b (Some counts) None off ∙ (was.machines b b_low).missing waiting

  missing_by : (b : ℕ) (t : Turn) → slice_index_or wave b None ≡ come_of t → counted.waiting ≡ true → slice_index_or (turned counted.waves).wave b None ≡ come_of t
  missing_by b t is still = ap (λ (x : TwoWaves). slice_index_or x.wave b None) (turned_part counted.waves (not_true (all_answered wave) still)) ∙ is

  long_now : length wave ≡ st.machines
  long_now = length-set (turned ws).wave a (Some counts) ∙ long

  pub last_same : last_counts counted ≡ last_counts counting
  last_same =
      ⊎_elim
      (λ (all : counted.waiting ≡ false). last_whole counted all)
      (λ (still : counted.waiting ≡ true). last_waiting counted still ∙ ap (λ (x : TwoWaves). x.before) (turned_part counted.waves (not_true (all_answered wave) still)))
      (cases_other counted.waiting)
      ∙ sym (last_waiting counting waiting)
    where
      cases_other : (b : Bool) → (b ≡ false) ⊎ (b ≡ true)
      cases_other true = inr refl
      cases_other false = inl refl

  come_alike : IsAlike st c told
  come_alike = record { counts = λ b. refl; tasks = λ b. refl; ways = λ p q. refl }

  shown_come : (b : ℕ) → b < st.machines → shown_by st told (watch_of coming before newest) b ≡ shown_by st c (watch_of turn before newest) b
  shown_come b within =
      ⊎_elim
      (λ (at : b ≡ a).
      subst (λ (j : ℕ). shown_in (coming j) (count_of st (c.machine j)) ≡ shown_in (turn j) (count_of st (c.machine j))) (sym at)
      (ap (λ (t : Turn). shown_in t (count_of st (c.machine a))) (set_at-same turn a (Told counts)) ∙ sym (ap (λ (t : Turn). shown_in t (count_of st (c.machine a))) found.0)))
      (λ (off : b ≢ a). ap (λ (t : Turn). shown_in t (count_of st (c.machine b))) (set_at-other turn a (Told counts) b off))
      (cases_eq b a)

  later_by : (b : ℕ) → IsTurnOf st counting begun c (watch_of turn before newest) b → (x : Counted) → slice_index_or (last_counts counted) b None ≡ Some x → IsNotAbove x (shown_by st c (watch_of turn before newest) b)
  later_by b at x come = at.later x (ap (λ (xs : List (Option Counted)). slice_index_or xs b None) (sym last_same) ∙ come)

  here_at : IsTurnOf st counted begun told (watch_of (λ b. Told counts) before newest) a
  here_at =
      let at = was.machines a low in
      record {
        calls = at.calls ∙ ap (calls_of k) found.0;
        held = at.held ∙ ap (held_of k) found.0;
        reports = ap (λ (rs : List Report). counts_in (rs ++ (c.machine a).out)) (set_at-same c.reports a behind) ∙ found.2;
        missing = missing_by a (Told counts) slot_here;
        come = λ whole some. slot_here;
        later = λ x come. subst (λ (t : Turn). IsNotAbove x (shown_in t (count_of st (c.machine a)))) found.0 (later_by a at x come);
        told = subst (λ (t : Turn). HasAnswered st newest begun t (c.machine a)) found.0 at.told;
        begins = at.begins;
        begins_newest = subst (λ (t : Turn). length (begins_in (told_behind t (call_way c a))) + newest ≤ begun) found.0 at.begins_newest;
      }

  there_at : (b : ℕ) → b < st.machines → b ≢ a → IsTurnOf st counted begun told (watch_of turn before newest) b
  there_at b b_low off =
      let at = was.machines b b_low in
      record {
        calls = at.calls;
        held = at.held;
        reports = ap (λ (rs : List Report). counts_in (rs ++ (c.machine b).out)) (set_at-other c.reports a behind b off) ∙ at.reports;
        missing = missing_by b (turn b) (slot_there b b_low off);
        come = λ whole some. slot_there b b_low off;
        later = later_by b at;
        told = at.told;
        begins = at.begins;
        begins_newest = at.begins_newest;
      }

  come_at : (b : ℕ) → b < st.machines → IsTurnOf st counted begun told (watch_of coming before newest) b
  come_at b within =
      ⊎_elim
      (λ (at : b ≡ a). subst (IsTurnOf st counted begun told (watch_of coming before newest)) (sym at)
      (turn_as st counted begun told (λ b. Told counts) coming before newest a (set_at-same turn a (Told counts)) here_at))
      (λ (off : b ≢ a). turn_as st counted begun told turn coming before newest b (set_at-other turn a (Told counts) b off) (there_at b within off))
      (cases_eq b a)

  slot_next : (b : ℕ) → b < st.machines → slice_index_or wave b None ≡ come_of (coming b)
  slot_next b b_low =
      set_at-holds (λ (b : ℕ) (t : Turn). b < st.machines → slice_index_or wave b None ≡ come_of t) turn a (Told counts) b (λ at. slot_here) (λ off at. slot_there b at off) b_low

  all_told : counted.waiting ≡ false → (b : ℕ) → b < st.machines → is_told (coming b) ≡ true
  all_told whole b b_low =
      come_told (coming b)
      (ap (λ (x : Option Counted). is_some x) (sym (slot_next b b_low))
      ∙ ⊎_elim
      (λ (is : is_some (slice_index_or wave b None) ≡ true). is)
      (λ (none : is_some (slice_index_or wave b None) ≡ false).
      absurd (both_ways (all_answered wave) (list_all_at (λ (x : Option Counted). is_some x) wave b None (subst (λ (n : ℕ). b < n) (sym long_now) b_low) none) (not_false (all_answered wave) whole)))
      (cases_Bool (is_some (slice_index_or wave b None))))

  pub come_watched : AreWatched st counted begun told (watch_of coming before newest)
  come_watched =
      goes_alike st counting counted begun c told (watch_of turn before newest) (watch_of coming before newest) was come_alike last_same shown_come refl refl come_at
      all_told
      (λ whole b b_low.
      ap (λ (x : TwoWaves). slice_index_or x.wave b None) (turned_whole counted.waves (not_false (all_answered wave) whole))
      ∙ get_or-replicate (length wave) b None None (subst (λ (n : ℕ). b < n) (sym long_now) b_low))
      (λ still. was.some waiting)
      (λ none. absurd (none_put counting.put_out (was.some waiting) none))
      long_now (turned_before_long ws st.machines was.many was.many_before)
