-- What a machine that goes by colours does of snapshots, for each setting of which it is a part.
pub use Rattle.cluster_laws.specs.cluster_core.Actions.{MayMark, MaySend}
pub use Rattle.cluster_laws.specs.cluster_core.Effects.{applied, begins, marked}
pub use Rattle.snapshot_machines.specs.marking.Hearing.{HasFewerOutside}
pub use Rattle.snapshot_machines.specs.marking.Learning.{news_of}
pub use Rattle.snapshot_machines.specs.marking.Marking.{HasEndedPlan, HasOnlyMadeRoom, HasSavedMore, HasSavedOnce}
pub use Rattle.snapshot_machines.specs.marking.Seeding.{HasOtherPending}
use Rattle.std.specs.Prelude.{◌≡◌, ◌≢◌, ℕ, ◌==◌, true, false}
use Rattle.std.specs.List.{All, list_any}
use Rattle.gl_base.specs.declared.scopes.ScopeId.{ScopeId}
use Rattle.wire.specs.declared.wire_msgs.messages.Done.{Done}
use Rattle.cluster_laws.specs.cluster_core.Settings.{IsSetting}
use Rattle.partition.specs.machine_numbers.Views.{HasEdge}
use Rattle.machine_core.specs.declared.machine_parts.cores.Core.{Core}
use Rattle.machine_core.specs.machine_parts.Parts.{is_own}
use Rattle.snapshot_machines.specs.chromatic.Machines.{ColorSnapView, IsColorSnapPart, Setting, part_of_steps}

-- snapshot k has begun
abbrev pub HasBegunInStep : {P : Type 0} → ColorSnapView P → ColorSnapView P → ℕ → Type 0
HasBegunInStep old new k = (st : Setting) → IsColorSnapPart st old → part_of_steps new ≡ begins st old.core.numbers.local.me.0 k (part_of_steps old)

-- The update is of a ghost, by a scope of another machine; the edges are here, and the vertices that it wakes or that become pending are own
-- ones.
pub record CanHearNews (m : Core) (done : Done) : Type 0 where
  pub away : done.scope.home.0 ≢ m.numbers.local.me.0
  pub ghost : list_any (λ g. g.vertex.0 == done.centre.0) m.numbers.local.ghosts ≡ true
  pub not_own : is_own m.numbers.local done.centre.0 ≡ false
  pub edges : All (λ e. HasEdge m.numbers.local e.0.0) done.edges.items
  pub wakes : All (λ v. is_own m.numbers.local v.0 ≡ true) done.wakes.items
  pub pends : All (λ v. is_own m.numbers.local v.0 ≡ true) done.pends.items

-- the news are received
abbrev pub HasHeardNews : {P : Type 0} → ColorSnapView P → ColorSnapView P → Done → Type 0
HasHeardNews old new done =
    (st : Setting) → IsColorSnapPart st old → part_of_steps new ≡ applied st old.core.numbers.local.me.0 done.scope (news_of done) (part_of_steps old)

-- the scope might make its snapshot update, and the part is what the law makes of it
pub record HasMarkedInStep {P : Type 0} (old new : ColorSnapView P) (s : ScopeId) : Type 0 where
  pub may : MayMark s (part_of_steps old)
  pub home : s.home ≡ old.core.numbers.local.me
  pub after : (st : Setting) → IsSetting st → IsColorSnapPart st old → part_of_steps new ≡ marked st s.home.0 s may.vertex (part_of_steps old)

-- the machine may send its section, or may not
abbrev pub MaySendInStep : {P : Type 0} → ColorSnapView P → Type 0
MaySendInStep x = (st : Setting) → IsColorSnapPart st x → MaySend st x.core.numbers.local.me.0 (part_of_steps x)

abbrev pub MayNotSendInStep : {P : Type 0} → ColorSnapView P → Type 0
MayNotSendInStep x = (st : Setting) → IsColorSnapPart st x → MaySend st x.core.numbers.local.me.0 (part_of_steps x) → ⊥
