-- What events add to the snapshots that were acknowledged, and to what recoveries took away.
use Rattle.std.proofs.Common.{◌≡◌, List, [], ◌∷◌, ◌++◌, refl, sym, ◌∙◌, ap, ap₂, append_assoc, subst}
use Rattle.std.proofs.lemmas.List.{append-nil}
use Rattle.gl_base.specs.declared.entries.Entry.{Entry}
use Rattle.cluster_step.specs.trace.Traces.{ArePassing, BaseView, CallOpening, Cluster, IsPassing, Setting, first_cluster, first_setting, newest_setting}
use Rattle.cluster_step.proofs.trace.Going.{ends_at}
use Rattle.cluster_laws.specs.cluster_model.Events as law
use Rattle.cluster_laws.specs.cluster_model.Leading.{Snapshot}
use Rattle.whole_laws.specs.cluster_records.LineOfFour.{after_events}
use Rattle.whole_laws.specs.cluster_records.Recorded.{snapshot_due}
use Rattle.whole_laws.specs.cluster_whole.Whole.{setting_behind}
use Rattle.call_laws.specs.whole_calls.Lost.{AreLostIn, TakesAway}
use Rattle.call_laws.specs.whole_calls.Saved.{front_at, fronts_in, recorded_at, recorded_in}

nothing_recorded : (c : Cluster) (event : law.Event) → IsPassing event → recorded_at c event ≡ []
nothing_recorded c (law.Admit a v) is = refl
nothing_recorded c (law.Grant a x) is = refl
nothing_recorded c (law.Send p q) is = refl
nothing_recorded c (law.SendCall a) is = refl
nothing_recorded c (law.SendReport a) is = refl
nothing_recorded c (law.Deliver p q) is = refl
nothing_recorded c (law.DeliverCall a) is = refl
nothing_recorded c (law.DeliverReport a) is = refl
nothing_recorded c (law.Update s) is = refl
nothing_recorded c (law.Mark s) is = refl
nothing_recorded c (law.Section a) is = refl
nothing_recorded c (law.Record) is = absurd (is.0 refl)
nothing_recorded c (law.PutBegin) is = refl
nothing_recorded c (law.PutStep) is = refl
nothing_recorded c (law.PutWave) is = refl
nothing_recorded c (law.Fail a) is = refl
nothing_recorded c (law.Recover base) is = refl
nothing_recorded c (law.Stop) is = refl

no_front : (c : Cluster) (event : law.Event) → IsPassing event → front_at c event ≡ []
no_front c (law.Admit a v) is = refl
no_front c (law.Grant a x) is = refl
no_front c (law.Send p q) is = refl
no_front c (law.SendCall a) is = refl
no_front c (law.SendReport a) is = refl
no_front c (law.Deliver p q) is = refl
no_front c (law.DeliverCall a) is = refl
no_front c (law.DeliverReport a) is = refl
no_front c (law.Update s) is = refl
no_front c (law.Mark s) is = refl
no_front c (law.Section a) is = refl
no_front c (law.Record) is = absurd (is.0 refl)
no_front c (law.PutBegin) is = refl
no_front c (law.PutStep) is = refl
no_front c (law.PutWave) is = refl
no_front c (law.Fail a) is = refl
no_front c (law.Recover base) is = refl
no_front c (law.Stop) is = refl

records_append : (xs ys : List law.Event) (st : Setting) (c : Cluster) → recorded_in st c (xs ++ ys) ≡ recorded_in st c xs ++ recorded_in (setting_behind st xs) (after_events st xs c) ys
records_append [] ys st c = refl
records_append (x ∷ xs) ys st c =
    ap (λ (rest : List Snapshot). recorded_at c x ++ rest) (records_append xs ys (law.setting_after st x) (law.after_event st c x))
    ∙ sym (append_assoc (recorded_at c x) (recorded_in (law.setting_after st x) (law.after_event st c x) xs) (recorded_in (setting_behind (law.setting_after st x) xs) (after_events (law.setting_after st x) xs (law.after_event st c x)) ys))

records_pass : (more : List law.Event) (st : Setting) (c : Cluster) → ArePassing more → recorded_in st c more ≡ []
records_pass [] st c all = refl
records_pass (e ∷ more) st c all = ap₂ (λ (xs ys : List Snapshot). xs ++ ys) (nothing_recorded c e all.0) (records_pass more (law.setting_after st e) (law.after_event st c e) all.1)

fronts_append : (xs ys : List law.Event) (st : Setting) (c : Cluster) → fronts_in st c (xs ++ ys) ≡ fronts_in st c xs ++ fronts_in (setting_behind st xs) (after_events st xs c) ys
fronts_append [] ys st c = refl
fronts_append (x ∷ xs) ys st c =
    ap (λ (rest : List (List Entry)). front_at c x ++ rest) (fronts_append xs ys (law.setting_after st x) (law.after_event st c x))
    ∙ sym (append_assoc (front_at c x) (fronts_in (law.setting_after st x) (law.after_event st c x) xs) (fronts_in (setting_behind (law.setting_after st x) xs) (after_events (law.setting_after st x) xs (law.after_event st c x)) ys))

fronts_pass : (more : List law.Event) (st : Setting) (c : Cluster) → ArePassing more → fronts_in st c more ≡ []
fronts_pass [] st c all = refl
fronts_pass (e ∷ more) st c all = ap₂ (λ (xs ys : List (List Entry)). xs ++ ys) (no_front c e all.0) (fronts_pass more (law.setting_after st e) (law.after_event st c e) all.1)

lost_append : (xs ys : List law.Event) (st : Setting) (c : Cluster) (a b : List Entry) → AreLostIn st c xs a → AreLostIn (setting_behind st xs) (after_events st xs c) ys b → AreLostIn st c (xs ++ ys) (a ++ b)
lost_append [] ys st c a b none other = subst (λ (l : List Entry). AreLostIn st c ys (l ++ b)) (sym none) other
lost_append (x ∷ xs) ys st c a b (now, later, taken, rest, is) other =
    (now, later ++ b, taken, lost_append xs ys (law.setting_after st x) (law.after_event st c x) later b rest other, ap (λ (l : List Entry). l ++ b) is ∙ append_assoc now later b)

lost_pass : (more : List law.Event) (st : Setting) (c : Cluster) → ArePassing more → AreLostIn st c more []
lost_pass [] st c all = refl
lost_pass (e ∷ more) st c all = ([], [], record { recovery = λ base is. absurd (all.0.1 base is); other = λ others. refl }, lost_pass more (law.setting_after st e) (law.after_event st c e) all.1, refl)

module _ (st : Setting) (o : CallOpening) (events : List law.Event) where
  abbrev begun : Setting
  begun = first_setting st o

  abbrev at_first : Cluster
  at_first = first_cluster st o

  -- passing events add nothing
  module _ (more : List law.Event) (all : ArePassing more) where
    pub pass_records : recorded_in begun at_first (events ++ more) ≡ recorded_in begun at_first events
    pass_records =
        records_append events more begun at_first
        ∙ ap (λ (rest : List Snapshot). recorded_in begun at_first events ++ rest) (records_pass more (setting_behind begun events) (after_events begun events at_first) all)
        ∙ append-nil (recorded_in begun at_first events)

    pub pass_fronts : fronts_in begun at_first (events ++ more) ≡ fronts_in begun at_first events
    pass_fronts =
        fronts_append events more begun at_first
        ∙ ap (λ (rest : List (List Entry)). fronts_in begun at_first events ++ rest) (fronts_pass more (setting_behind begun events) (after_events begun events at_first) all)
        ∙ append-nil (fronts_in begun at_first events)

    pub pass_lost : (lost : List Entry) → AreLostIn begun at_first events lost → AreLostIn begun at_first (events ++ more) lost
    pass_lost lost are =
        subst (AreLostIn begun at_first (events ++ more)) (append-nil lost) (lost_append events more begun at_first lost [] are (lost_pass more (setting_behind begun events) (after_events begun events at_first) all))

  module _ (c : Cluster) (trace : law.IsTrace begun at_first events c) where
    here : c ≡ after_events begun events at_first
    here = ends_at events begun at_first c trace

    -- an acknowledgement adds the snapshot that was due, and takes nothing away
    pub record_records : recorded_in begun at_first (events ++ law.Record ∷ []) ≡ recorded_in begun at_first events ++ snapshot_due c.coordinator ∷ []
    record_records =
        records_append events (law.Record ∷ []) begun at_first
        ∙ ap (λ (x : Cluster). recorded_in begun at_first events ++ snapshot_due x.coordinator ∷ []) (sym here)

    pub record_fronts : fronts_in begun at_first (events ++ law.Record ∷ []) ≡ fronts_in begun at_first events ++ c.base.order ∷ []
    record_fronts =
        fronts_append events (law.Record ∷ []) begun at_first
        ∙ ap (λ (x : Cluster). fronts_in begun at_first events ++ x.base.order ∷ []) (sym here)

    pub record_lost : (lost : List Entry) → AreLostIn begun at_first events lost → AreLostIn begun at_first (events ++ law.Record ∷ []) lost
    record_lost lost are =
        subst (AreLostIn begun at_first (events ++ law.Record ∷ [])) (append-nil lost)
        (lost_append events (law.Record ∷ []) begun at_first lost [] are ([], [], record { recovery = λ base is. absurd (cc); other = λ others. refl }, refl, refl))

    -- going back adds no snapshot, and what it takes away
    module _ (base : BaseView) where
      pub recover_records : recorded_in begun at_first (events ++ law.Recover base ∷ []) ≡ recorded_in begun at_first events
      recover_records = records_append events (law.Recover base ∷ []) begun at_first ∙ append-nil (recorded_in begun at_first events)

      pub recover_fronts : fronts_in begun at_first (events ++ law.Recover base ∷ []) ≡ fronts_in begun at_first events
      recover_fronts = fronts_append events (law.Recover base ∷ []) begun at_first ∙ append-nil (fronts_in begun at_first events)

      pub recover_lost : (lost gone : List Entry) → AreLostIn begun at_first events lost → TakesAway (newest_setting st o events) c base gone → AreLostIn begun at_first (events ++ law.Recover base ∷ []) (lost ++ gone)
      recover_lost lost gone are takes =
          lost_append events (law.Recover base ∷ []) begun at_first lost gone are
          (gone, [], record { recovery = λ other is. taken other is; other = λ none. absurd (none base refl) }, refl, sym (append-nil gone))
        where
          same_base : (x y : BaseView) → law.Recover x ≡ law.Recover y → x ≡ y
          same_base x y is = cc

          taken : (other : BaseView) → law.Recover base ≡ law.Recover other → TakesAway (newest_setting st o events) (after_events begun events at_first) other gone
          taken other is = subst (λ (x : Cluster). TakesAway (newest_setting st o events) x other gone) here (subst (λ (b : BaseView). TakesAway (newest_setting st o events) c b gone) (same_base base other is) takes)
