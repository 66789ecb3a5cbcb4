-- Word of an update that comes first can be learned, whatever snapshot it tells of.
use Rattle.std.proofs.Common.{◌≡◌, ℕ, ◌<◌, ◌==◌, ◌&&◌, Bool, true, [], get_or, refl, ap, ◌∙◌, arith}
use Rattle.std.proofs.lemmas.Bool.{eq-eqb, lt-ltb}
use Rattle.std.proofs.lemmas.List.Folds.{list_any_at}
use Rattle.gl_base.specs.declared.numbers.Vertex.{Vertex}
use Rattle.graph_core.specs.DataGraph.{size}
use Rattle.cluster_laws.specs.cluster_core.Receiving.{MayLearn}
use Rattle.cluster_laws.specs.cluster_core.Settings.{IsSetting}
use Rattle.cluster_laws.proofs.cluster_core.Nearness.{near_within}
use Rattle.wire.specs.declared.wire_msgs.messages.Done as wire
use Rattle.partition.specs.machine_numbers.Views.{is_in_update}
use Rattle.machine_core.specs.declared.machine_parts.cores.Core.{Core}
use Rattle.machine_core.specs.machine_parts.Parts.{is_own, part_of}
use Rattle.machine_core.specs.machine_parts.Settings.{IsPartOf}
use Rattle.machine_core.proofs.machine_updates.WordLemmas.{done_can_be_learned}
use Rattle.snapshot_machines.specs.snapshot_receive.Coming.{CanLearnNews, Cluster, IsFrontFor, Done, Setting, SnapView, news_of}
use Rattle.snapshot_machines.proofs.snapshot_receive.FrontLemmas.{IsWordHere, word_here}

-- the same word but for the snapshot
abbrev plain : wire.Done → wire.Done
plain done = record done { pends = record done.pends { len = 0; items = []; ok = (refl, omega arith) }; number = 0 }

module _ (st : Setting) (p : ℕ) (m : Core) (done : wire.Done) (setting : IsSetting st) (part : IsPartOf st m) (word : IsWordHere st p m done.scope (news_of done)) where
  may_plainly : MayLearn st p m.numbers.local.me.0 (part_of m) done.scope (news_of (plain done))
  may_plainly = let may = word.may in record { owner = may.owner; copy = may.copy; part_of = may.part_of; edges = may.edges; wakes = may.wakes; locks = may.locks }

  own_near : (u : ℕ) → u < size st.graph → st.owner u ≡ m.numbers.local.me.0 → is_own m.numbers.local u ≡ true
  own_near u low owner =
      part.local.own u ∙ ap (λ (b : Bool). b && st.owner u == m.numbers.local.me.0) (lt-ltb u (size st.graph) low) ∙ eq-eqb (st.owner u) m.numbers.local.me.0 owner

pub news_come : (st : Setting) (c : Cluster) (p : ℕ) (m : Core) (w : SnapView) (done : wire.Done) → IsFrontFor st c p m w (Done done.scope (news_of done)) → CanLearnNews m done
news_come st c p m w done comes =
    let word = word_here st c p m w done.scope (news_of done) comes in
    let can = done_can_be_learned st p m (plain done) comes.setting comes.part comes.orderly (may_plainly st p m done comes.setting comes.part word) word.home
    word.stand word.others (λ u woken. (word.concerns.wakes u woken).0) (λ u. refl) refl in
    record {
      away = can.away;
      gone = can.gone;
      only = can.only;
      ghost = can.ghost;
      not_own = can.not_own;
      edges = can.edges;
      wakes = can.wakes;
      pends = λ k d low.
          let u = (get_or done.pends.items k d).0 in
          let named : is_in_update done.pends.items u ≡ true = list_any_at (λ (v : Vertex). v.0 == u) done.pends.items k d low (eq-eqb u u refl) in
          let near = word.concerns.pends u named in
          own_near st p m done comes.setting comes.part word u (near_within st comes.setting done.centre.0 u near.0).0 near.1;
    }
