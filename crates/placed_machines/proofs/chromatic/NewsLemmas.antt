-- Word of an update elsewhere, for each machine of the law.
use Rattle.std.proofs.Common.{◌≡◌, ◌≢◌, ℕ, ◌+◌, ◌≤◌, ◌==◌, ◌++◌, ◌^◌, Bool, true, false, if◌then◌else◌, List, ◌∷◌, get_or, length, refl, sym, ap, ◌∙◌, subst, arith}
use Rattle.std.specs.Prelude.{nat_lt}
use Rattle.std.specs.List.{AllByRecursion}
use Rattle.std.proofs.lemmas.Bool.{eq-eqb, false_from_ne_true}
use Rattle.std.proofs.lemmas.List.Folds.{list_any_at}
use Rattle.gl_base.specs.declared.numbers.Vertex.{Vertex}
use Rattle.update_api.specs.Updates.{Update}
use Rattle.cluster_laws.specs.cluster_core.Messages.{Done, Message, News}
use Rattle.cluster_laws.specs.cluster_core.Parts.{Part}
use Rattle.cluster_laws.specs.cluster_core.Settings.{IsSetting}
use Rattle.cluster_laws.specs.cluster_core.Ways.{IsNewsFor, IsToldTo}
use Rattle.cluster_laws.proofs.cluster_core.Nearness.{near_within}
use Rattle.cluster_laws.specs.cluster_model.Clusters.{Cluster}
use Rattle.cluster_laws.specs.cluster_model.Working.{receives}
use Rattle.whole_laws.specs.cluster_whole.Steps.{IsWordBetween}
use Rattle.whole_laws.proofs.cluster_whole.Colours.{in_turn}
use Rattle.whole_laws.proofs.cluster_whole.Stepping.{front_between}
use Rattle.snapshot_machines.specs.chromatic.Machines.{IsInSameStep, with_locking}
use Rattle.snapshot_machines.specs.chromatic.Snapshots.{CanHearNews, HasHeardNews}
use Rattle.partition.specs.machine_numbers.Views.{is_in_update}
use Rattle.machine_core.specs.declared.machine_parts.cores.Core.{Core}
use Rattle.machine_core.specs.machine_parts.Parts.{is_own}
use Rattle.machine_core.specs.machine_parts.Settings.{IsLocalOf}
use Rattle.machine_core.proofs.machine_scopes.HeldLemmas.{own_from_setting, own_in}
use Rattle.machine_core.proofs.machine_updates.WordLemmas.{edge_known, ghost_known, told_some}
use Rattle.snapshot_machines.specs.marking.Learning.{HasLearnedNews, news_of}
use Rattle.coordinator.specs.machine_api.Promises.{HasReceived, IsFirstFrom, MayReceiveFirst}
use Rattle.snapshot_machines.proofs.locking.ReceiveLemmas.{done_standing, unmarked_yet}
use Rattle.coordinator.specs.snap_update.Snaps.{IsSameButRoom, with_begun}
use Rattle.snapshot_machines.specs.wave_counts.Counts.{CountsView, one_more}
use Rattle.wire.specs.declared.wire_msgs.messages.Done as word
use Rattle.wire.specs.declared.wire_msgs.messages.Message.TheVariants as sent
use Rattle.placed_machines.specs.chromatic.Prompting.{HasPrompted, HasSlack}
use Rattle.placed_machines.specs.chromatic.Machines.{ChromaticMachineView, ColorSnapView, IsChromaticMachineOf, IsColorSnapPart, Machine, ReportsView, Setting, part_of_steps}
use Rattle.placed_machines.proofs.chromatic.ApartLemmas.{apart, coloured, kept_on, machine_apart, part_apart, part_in, member_apart, settings_apart, snap_apart, snap_setting_apart}
use Rattle.placed_machines.proofs.chromatic.WorkLemmas.{more_told, reports_stand}

-- ---- it can be heard

module _ (st : Setting) (p steps : ℕ) (m : Core) (done : word.Done) (setting : IsSetting st) (local : IsLocalOf st m.numbers.local) (word_is : IsWordBetween st steps p m.numbers.local.me.0 done.scope (news_of done))
    (news : IsNewsFor st p m.numbers.local.me.0 (news_of done)) where
  elsewhere : st.owner done.centre.0 ≢ m.numbers.local.me.0
  elsewhere own = news.apart (sym news.centre ∙ own)

  can_hear : CanHearNews m done
  can_hear =
      let here = m.numbers.local in
      let c = done.centre.0 in
      record {
        away = λ home. news.apart (sym word_is.home ∙ home);
        ghost = ghost_known st here c setting local elsewhere word_is.vertex word_is.part_of;
        not_own = false_from_ne_true (is_own here c) (λ own. elsewhere (own_in st here c local own).1);
        edges = λ k d low.
            let e = (get_or done.edges.items k d).0.0 in
            edge_known st here c setting local elsewhere e (news.edges e (told_some done.edges.items k d low));
        wakes = λ k d low.
            let u = (get_or done.wakes.items k d).0 in
            let named : is_in_update done.wakes.items u ≡ true = list_any_at (λ (v : Vertex). v.0 == u) done.wakes.items k d low (eq-eqb u u refl) in
            own_from_setting st here u local (near_within st setting c u (news.wakes u named).0).0 (news.wakes u named).1;
        pends = λ k d low.
            let u = (get_or done.pends.items k d).0 in
            let named : is_in_update done.pends.items u ≡ true = list_any_at (λ (v : Vertex). v.0 == u) done.pends.items k d low (eq-eqb u u refl) in
            own_from_setting st here u local (near_within st setting c u (news.pends u named).0).0 (news.pends u named).1;
      }

first_of : {X : Type 0} (P : X → Type 0) (link out : List X) (m : X) (behind : List X) → link ≡ m ∷ behind → AllByRecursion P (link ++ out) → P m
first_of P link out m behind first all = (subst (λ xs. AllByRecursion P (xs ++ out)) first all).0

module _ {P : Type 0} (meaning : P → Update) (x : ChromaticMachineView P) (p : ℕ) (done : word.Done) where
  hears : (st : Setting) (c : Cluster) (a : ℕ) → IsFirstFrom (IsChromaticMachineOf meaning) x p (sent.Done done) st c a → CanHearNews x.machine.core done
  hears st c a front =
      let is = front.here in
      let whole = front.going.followed.0 in
      let engine = is.here.part.engine in
      let message : Message = Done done.scope (news_of done) in
      let turn = in_turn st engine.colour engine.greatest c whole engine.chromatic in
      let between : IsWordBetween st c.coordinator.rounds.steps p a done.scope (news_of done) =
      front_between st c.coordinator.rounds.steps p a message front.behind (c.link p a) front.first ((c.machine p).part.out a) (turn.between p a) in
      let told : IsNewsFor st p a (news_of done) = first_of (IsToldTo st p a) (c.link p a) ((c.machine p).part.out a) message front.behind front.first (whole.consistent.copies.told p a) in
      let word_here : IsWordBetween st c.coordinator.rounds.steps p x.machine.core.numbers.local.me.0 done.scope (news_of done) =
      subst (λ (k : ℕ). IsWordBetween st c.coordinator.rounds.steps p k done.scope (news_of done)) (sym is.number) between in
      let news_here : IsNewsFor st p x.machine.core.numbers.local.me.0 (news_of done) = subst (λ (k : ℕ). IsNewsFor st p k (news_of done)) (sym is.number) told in
      can_hear (with_locking st) p c.coordinator.rounds.steps x.machine.core done (record { graph = front.setting.is.graph; owner = front.setting.is.owner }) is.here.part.part.local
      (record { within = word_here.within; home = word_here.home; vertex = word_here.vertex; part_of = word_here.part_of })
      (record { centre = news_here.centre; apart = news_here.apart; edges = news_here.edges; wakes = news_here.wakes; pends = news_here.pends })

  pub can_learn : MayReceiveFirst (IsChromaticMachineOf meaning) x p (sent.Done done) → CanHearNews x.machine.core done
  can_learn may = hears may.0 may.1 may.2 may.3

-- ---- it is received

one_more_low : (n : ℕ) → one_more n ≤ n + 1
one_more_low n = by (nat_lt (n + 1) (2 ^ 64))
  where
    by : (b : Bool) → (if b then n + 1 else n) ≤ n + 1
    by true = omega arith
    by false = omega arith

module _ {P : Type 0} (meaning : P → Update) (x : ChromaticMachineView P) (now : ColorSnapView P) (reports : ReportsView) (told : reports.messages ≡ x.reports.messages) (p : ℕ) (done : word.Done) (can : CanHearNews x.machine.core done) (learned : HasHeardNews x.machine now done)
    (same : IsSameButRoom (with_begun done.number x.machine.kept) now.kept) (tasks : let t = now.core.numbers.tasks in t ≡ record x.machine.core.numbers.tasks { task = t.task; pending = t.pending; asked = t.asked })
    (local : now.core.numbers.local ≡ record x.machine.core.numbers.local { numbers = now.core.numbers.local.numbers }) (step : IsInSameStep x.machine now) where
  abbrev news : News
  news = news_of done

  abbrev more : CountsView
  more = record x.counts { received = one_more x.counts.received }

  abbrev learning : ChromaticMachineView P
  learning = record x { machine = now; counts = more; reports = reports }

  learns_apart : (st : Setting) → IsColorSnapPart st x.machine → HasLearnedNews x.machine.core x.machine.kept now.core now.kept done
  learns_apart st here other part = ap part_apart (learned (coloured x.machine st here other) (part_in x.machine st here other part))

  learn_stands : (st : Setting) (c : Cluster) (a : ℕ) → IsFirstFrom (IsChromaticMachineOf meaning) x p (sent.Done done) st c a → IsChromaticMachineOf meaning st a (receives st a (Done done.scope news) (c.machine a)) learning
  learn_stands st c a front =
      let m : Machine = c.machine a in
      let new : Machine = receives st a (Done done.scope news) m in
      let is = front.here in
      reports_stand meaning (record x { machine = now; counts = more }) reports told st a new front.setting
      (kept_on meaning st a m new x (record x { machine = now; counts = more }) is step refl refl refl refl refl
      (done_standing meaning (member_apart x) (snap_apart now) done can.not_own (learns_apart st is.here.part) same tasks local step.same.program (settings_apart x.machine st is.here.part now step.same) (with_locking st) a (machine_apart m)
      (snap_setting_apart st front.setting) (apart meaning st a m x is) (unmarked_yet st c p a done.scope news front.behind front.going.followed.0 front.first)))

  pub received_done : (counts : CountsView) → counts ≡ more → (last : ChromaticMachineView P) → HasSlack x → HasPrompted meaning (record x { machine = now; counts = counts; reports = reports }) last → HasReceived (IsChromaticMachineOf meaning) x p (sent.Done done) last
  received_done counts counted last slack prompts st c a front =
      let m : Machine = c.machine a in
      let behind : ChromaticMachineView P = record x { machine = now; counts = counts; reports = reports } in
      let is = front.here in
      prompts st a (receives st a (Done done.scope news) m) front.setting
      (subst (λ (w : CountsView). IsChromaticMachineOf meaning st a (receives st a (Done done.scope news) m) (record x { machine = now; counts = w; reports = reports })) (sym counted) (learn_stands st c a front))
      (more_told meaning x behind slack st is.here.part is.few
      (λ q. subst (λ (ms : List Message). length ms ≤ length ((part_of_steps x.machine).out q) + 1) (sym (ap (λ (part : Part). part.out q) (learned st is.here.part))) (omega arith))
      (ap (λ (w : CountsView). w.held) counted) (ap (λ (w : CountsView). w.sent) counted) (subst (λ (w : CountsView). w.received ≤ x.counts.received + 1) (sym counted) (one_more_low x.counts.received)))
