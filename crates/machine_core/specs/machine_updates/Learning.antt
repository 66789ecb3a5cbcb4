-- Word of an update elsewhere.
pub use Rattle.cluster_laws.specs.cluster_core.Places.{IsAtHome}
pub use Rattle.cluster_laws.specs.cluster_core.Receiving.{MayLearn}
use Rattle.std.specs.Prelude.{◌≡◌, ◌≢◌, ℕ, ◌==◌, true, false, None, is_some, []}
use Rattle.std.specs.List.{All, list_any}
use Rattle.wire.specs.declared.wire_msgs.messages.Done.{Done}
use Rattle.cluster_laws.specs.cluster_core.Effects.{received}
use Rattle.cluster_laws.specs.cluster_core.Messages as law
use Rattle.partition.specs.machine_numbers.Views.{HasEdge, news_of}
use Rattle.machine_core.specs.declared.machine_parts.cores.Core.{Core}
use Rattle.machine_core.specs.machine_parts.Parts.{is_own, part_at, entered_at, holder_at, part_of}
use Rattle.machine_core.specs.machine_parts.Order.{is_one_of}
use Rattle.machine_core.specs.machine_parts.Settings.{Setting, IsPartOf}

-- The update is of a ghost, by a scope of another machine that is here no more and holds no lock but of its own vertices here;
-- the edges are here, the vertices that it wakes are own ones, and it tells of no snapshot.
pub record CanLearn (m : Core) (done : Done) : Type 0 where
  pub away : done.scope.home.0 ≢ m.pipe.home.0
  pub gone : entered_at m.pipe done.scope ≡ None
  pub only : (x : ℕ) → is_some (holder_at m.locks x done.scope) ≡ true → is_one_of (part_at m.numbers.local done.centre.0) x ≡ true
  pub ghost : list_any (λ g. g.vertex.0 == done.centre.0) m.numbers.local.ghosts ≡ true
  pub not_own : is_own m.numbers.local done.centre.0 ≡ false
  pub edges : All (λ e. HasEdge m.numbers.local e.0.0) done.edges.items
  pub wakes : All (λ v. is_own m.numbers.local v.0 ≡ true) done.wakes.items
  pub pends : done.pends.items ≡ []
  pub number : done.number ≡ 0

-- the news are received as the cluster says, for each setting of which the machine is a part
abbrev pub HasReceivedDone : Core → Core → Done → Type 0
HasReceivedDone old new done =
    (st : Setting) → IsPartOf st old → part_of new ≡ received st old.numbers.local.me.0 (law.Done done.scope (news_of done)) (part_of old)
