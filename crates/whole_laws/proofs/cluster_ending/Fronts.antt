-- What a machine relies on where a wave comes, and the coordinator where counts come; and what counts say.
use Rattle.std.proofs.Common.{◌≡◌, ◌⊎◌, ℕ, zero, suc, pred, ◌<◌, ◌&&◌, Bool, true, false, is_some, Option, None, Some, List, [], ◌∷◌, ◌++◌, slice_index_or, refl, sym, ◌∙◌, ap, subst, ⊎_elim, inl, inr, arith}
use Rattle.std.proofs.lemmas.Bool.{both_ways, cases_Bool}
use Rattle.gl_base.specs.declared.scopes.Counted.{Counted}
use Rattle.cluster_laws.specs.cluster_core.Settings.{Setting}
use Rattle.cluster_laws.specs.cluster_model.Calls.{Call, Count, Report, Wave}
use Rattle.cluster_laws.specs.cluster_model.Clusters.{Cluster, report_way}
use Rattle.cluster_laws.specs.cluster_model.Counting.{Counting}
use Rattle.cluster_laws.specs.cluster_model.Machines.{Machine, count_of}
use Rattle.cluster_laws.specs.cluster_model.TwoWaves.{TwoWaves, all_answered}
use Rattle.cluster_laws.specs.cluster_model.Working.{answers_if, is_done, or_zero, prompt}
use Rattle.whole_laws.specs.cluster_whole.Steps.{Holds, IsCalled, Tells, Told, Turn, come_of, counts_in, is_told}
use Rattle.whole_laws.proofs.cluster_whole.Telling.{turned_part, turned_whole}
use Rattle.whole_laws.specs.cluster_ending.Watched.{HasAnswered, IsNotAbove, IsWatched, Watch, shown_by, shown_in}
use Rattle.whole_laws.proofs.cluster_ending.Coming.{count_first, last_waiting}
use Rattle.whole_laws.proofs.cluster_ending.Deeds.{low_again, low_then}
use Rattle.whole_laws.proofs.cluster_ending.Turns.{called_newest}

pred_put : (n : ℕ) → 0 < n → suc (pred n) ≡ n
pred_put zero some = omega arith
pred_put (suc n) some = refl

zero_or : (n : ℕ) → (n ≡ 0) ⊎ (0 < n)
zero_or zero = inl refl
zero_or (suc n) = inr (omega arith)

none_some : (x : Counted) → None ≡ Some x → ⊥
none_some x is = cc

some_same : (x y : Counted) → Some x ≡ Some y → x ≡ y
some_same x y is = cc

-- what a machine shows in the newest wave is not above its counts
shown_now : (st : Setting) (then now : ℕ) (m : Machine) (turn : Turn) → HasAnswered st then now turn m → IsNotAbove (shown_in turn (count_of st m)) (count_of st m)
shown_now st then now m IsCalled told = low_again (count_of st m)
shown_now st then now m Holds told = low_again (count_of st m)
shown_now st then now m (Tells counts) told = told.low
shown_now st then now m (Told counts) told = told.low

come_is : (turn : Turn) (now counts : Counted) → come_of turn ≡ Some counts → shown_in turn now ≡ counts
come_is IsCalled now counts is = absurd (none_some counts is)
come_is Holds now counts is = absurd (none_some counts is)
come_is (Tells other) now counts is = absurd (none_some counts is)
come_is (Told other) now counts is = some_same other counts is

not_told : (turn : Turn) → turn ≡ IsCalled → is_told turn ≡ true → ⊥
not_told turn is told = both_ways false refl (ap is_told (sym is) ∙ told)

module _ (st : Setting) (c : Cluster) (watch : Watch) (was : IsWatched st c watch) (a : ℕ) (low : a < st.machines) where
  abbrev counting : Counting
  counting = c.coordinator.rounds.counting

  abbrev now : Counted
  now = count_of st (c.machine a)

  shown_low : IsNotAbove (shown_by st c watch a) now
  shown_low = shown_now st watch.begun_newest c.coordinator.begun (c.machine a) (watch.turn a) (was.machines a low).told

  -- a wave that comes first is the newest, and the machine holds none
  pub wave_front : (k : ℕ) (behind : List Call) → c.calls a ≡ Wave k ∷ behind → (suc k ≡ counting.put_out) × ((c.machine a).held ≡ None)
  wave_front k behind first =
      let it = called_newest st counting c.coordinator.begun c watch.turn watch.begun_before watch.begun_newest was a low k behind first in
      let waits : counting.waiting ≡ true =
      ⊎_elim
      (λ (is : counting.waiting ≡ true). is)
      (λ (whole : counting.waiting ≡ false). absurd (not_told (watch.turn a) it.2 (was.told whole a low)))
      (cases_Bool counting.waiting) in
      (ap suc it.0 ∙ pred_put counting.put_out (was.some waits), it.1)

  -- counts on their way are not above those now
  pub on_way_low : (k : ℕ) (counts : Counted) (rest : List Report) → counts_in (report_way c a) ≡ Count k counts ∷ rest → IsNotAbove counts now
  on_way_low k counts rest is =
      let found = count_first (pred counting.put_out) k counts rest (watch.turn a) (sym is ∙ (was.machines a low).reports) in
      subst (λ (turn : Turn). IsNotAbove (shown_in turn now) now) found.0 shown_low

  come_low : (wave : List (Option Counted)) (counts : Counted) → slice_index_or wave a None ≡ come_of (watch.turn a) → slice_index_or wave a None ≡ Some counts → IsNotAbove counts now
  come_low wave counts slot is = subst (λ (x : Counted). IsNotAbove x now) (come_is (watch.turn a) now counts (sym slot ∙ is)) shown_low

  -- and neither are those that have come
  pub told_wave_low : (counts : Counted) → slice_index_or counting.waves.wave a None ≡ Some counts → IsNotAbove counts now
  told_wave_low counts is =
      ⊎_elim
      (λ (waits : counting.waiting ≡ true).
      ⊎_elim
      (λ (all : all_answered counting.waves.wave ≡ true).
      low_then counts (shown_by st c watch a) now
      ((was.machines a low).later counts (ap (λ (xs : List (Option Counted)). slice_index_or xs a None) (last_waiting counting waits ∙ ap (λ (x : TwoWaves). x.before) (turned_whole counting.waves all)) ∙ is))
      shown_low)
      (λ (part : all_answered counting.waves.wave ≡ false).
      come_low counting.waves.wave counts (ap (λ (x : TwoWaves). slice_index_or x.wave a None) (sym (turned_part counting.waves part)) ∙ (was.machines a low).missing waits) is)
      (cases_Bool (all_answered counting.waves.wave)))
      (λ (whole : counting.waiting ≡ false).
      ⊎_elim
      (λ (none : counting.put_out ≡ 0). absurd (none_some counts (sym (was.first none a low).0 ∙ is)))
      (λ (some : 0 < counting.put_out). come_low counting.waves.wave counts ((was.machines a low).come whole some) is)
      (zero_or counting.put_out))
      (cases_Bool counting.waiting)

-- what a machine tells is what it counts then
by_answer : (st : Setting) (test : Bool) (m : Machine) → ((answers_if st test m).out ≡ m.out) ⊎ ((k : ℕ) × ((answers_if st test m).out ≡ m.out ++ Count k (count_of st (answers_if st test m)) ∷ []))
by_answer st true m = inr (or_zero m.held, refl)
by_answer st false m = inl refl

pub prompt_is : (st : Setting) (a : ℕ) (m : Machine) → ((prompt st a m).out ≡ m.out) ⊎ ((k : ℕ) × ((prompt st a m).out ≡ m.out ++ Count k (count_of st (prompt st a m)) ∷ []))
prompt_is st a m = by_answer st (is_some m.held && is_done st.engine st a m) m
