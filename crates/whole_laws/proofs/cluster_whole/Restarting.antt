-- A recovery begins a cluster in turn: nothing was told, and all machines are closed.
use Rattle.std.proofs.Common.{◌≡◌, ℕ, ◌+◌, ◌<◌, true, false, None, Some, length, slice_index_or, refl, sym, ◌∙◌, ap, subst, ⊎_elim, le_refl, arith}
use Rattle.std.proofs.lemmas.Bool.{both_ways, cases_Bool}
use Rattle.std.proofs.lemmas.List.{get_or-replicate, length-replicate}
use Rattle.gl_base.specs.declared.scopes.Counted.{Counted}
use Rattle.cluster_laws.specs.cluster_core.Settings.{Setting}
use Rattle.cluster_laws.specs.cluster_model.Clusters.{BaseView, Cluster}
use Rattle.cluster_laws.specs.cluster_model.Events.{recovers}
use Rattle.cluster_laws.specs.cluster_model.Rounds.{first_rounds}
use Rattle.cluster_laws.specs.cluster_model.Totals.{total}
use Rattle.cluster_laws.specs.cluster_model.TwoWaves.{TwoWaves, all_answered, no_counts, no_waves, turned}
use Rattle.whole_laws.specs.cluster_whole.Steps.{AreInTurn, Told, messages_between}
use Rattle.whole_laws.specs.cluster_whole.Views.{world_of}
use Rattle.whole_laws.proofs.cluster_whole.Flows.{total_from-none}
use Rattle.whole_laws.proofs.cluster_whole.Telling.{turned_part, turned_whole}

none_less : 0 < 0 → ⊥
none_less low = omega arith

none_some : (v : ℕ) → None ≡ Some v → ⊥
none_some v is = cc

all_none : (x y z : ℕ) → x ≡ 0 → y ≡ 0 → z ≡ 0 → x ≡ y + z
all_none x y z one two three = omega arith

none_of_first : (machines a : ℕ) → a < machines → slice_index_or (turned (no_waves machines)).wave a None ≡ None
none_of_first machines a low =
    let long : length (no_counts machines) ≡ machines = length-replicate machines None in
    ⊎_elim
    (λ (all : all_answered (no_counts machines) ≡ true).
    ap (λ (x : TwoWaves). slice_index_or x.wave a None) (turned_whole (no_waves machines) all) ∙ get_or-replicate (length (no_counts machines)) a None None (subst (λ (n : ℕ). a < n) (sym long) low))
    (λ (part : all_answered (no_counts machines) ≡ false).
    ap (λ (x : TwoWaves). slice_index_or x.wave a None) (turned_part (no_waves machines) part) ∙ get_or-replicate machines a None None low)
    (cases_Bool (all_answered (no_counts machines)))

abbrev nothing : Counted
nothing = record { sent = 0; received = 0; updates = 0; idle = false }

pub recovered_turn : (st : Setting) (later : Setting) (colour : ℕ → ℕ) (base : BaseView) (c : Cluster) → later.machines ≡ st.machines → AreInTurn later colour (first_rounds st.machines) (recovers st base c)
recovered_turn st later colour base c same =
    record {
      made = λ a. true;
      turn = λ a. Told nothing;
      machines = λ a low. record {
        calls = refl;
        held = refl;
        reports = refl;
        missing = λ waiting. absurd (both_ways false refl waiting);
        come = λ whole some. absurd (none_less some);
        behind = λ un. absurd (both_ways true un refl);
        first = λ none. refl;
        in_turn = λ since come. absurd (none_less since);
        shut = λ since. absurd (none_less since);
      };
      told = λ whole a low. refl;
      fresh = λ whole a low. none_of_first st.machines a (subst (λ (n : ℕ). a < n) same low);
      some = λ waiting. absurd (both_ways false refl waiting);
      many = length-replicate st.machines None ∙ sym same;
      since = le_refl 0;
      first = λ none a. refl;
      others = λ a high. refl;
      step = record {
        machines = λ a open_. absurd (both_ways true open_ refl);
        flights = λ s v flies. absurd (none_some v flies);
        news = λ p q. tt;
      };
      closed = λ s closed. refl;
      queues = λ a x. refl;
      between = λ p q. tt;
      balanced = all_none (total later.machines (λ a. 0)) (total later.machines (λ a. 0)) (messages_between later (world_of (recovers st base c)))
          (total_from-none 0 later.machines (λ a. 0) (λ a. refl)) (total_from-none 0 later.machines (λ a. 0) (λ a. refl))
          (total_from-none 0 later.machines (λ p. total later.machines (λ q. 0)) (λ p. total_from-none 0 later.machines (λ q. 0) (λ q. refl)));
    }
