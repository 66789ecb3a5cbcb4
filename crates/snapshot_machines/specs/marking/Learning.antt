-- Word of an update elsewhere, be it a snapshot update or not.
pub use Rattle.cluster_laws.specs.cluster_core.Effects.{applied}
pub use Rattle.partition.specs.machine_numbers.Views.{news_of}
use Rattle.std.specs.Prelude.{◌≡◌, ◌≢◌, ℕ, ◌==◌, true, false, None, is_some}
use Rattle.std.specs.List.{All, list_any}
use Rattle.wire.specs.declared.wire_msgs.messages.Done.{Done}
use Rattle.partition.specs.machine_numbers.Views.{HasEdge}
use Rattle.machine_core.specs.declared.machine_parts.cores.Core.{Core}
use Rattle.machine_core.specs.machine_parts.Order.{is_one_of}
use Rattle.machine_core.specs.machine_parts.Parts.{entered_at, holder_at, is_own, part_at}
use Rattle.machine_core.specs.machine_parts.Settings.{Setting, IsPartOf}
use Rattle.snapshot_machines.specs.marking.Keeping.{SnapView, part_of, with_snaps}

-- The update is of a ghost, by a scope of another machine that is here no more and holds no lock but of its own vertices here;
-- the edges are here, and the vertices that it wakes or that become pending are own ones.
pub record CanLearnNews (m : Core) (done : Done) : Type 0 where
  pub away : done.scope.home.0 ≢ m.pipe.home.0
  pub gone : entered_at m.pipe done.scope ≡ None
  pub only : (x : ℕ) → is_some (holder_at m.locks x done.scope) ≡ true → is_one_of (part_at m.numbers.local done.centre.0) x ≡ true
  pub ghost : list_any (λ g. g.vertex.0 == done.centre.0) m.numbers.local.ghosts ≡ true
  pub not_own : is_own m.numbers.local done.centre.0 ≡ false
  pub edges : All (λ e. HasEdge m.numbers.local e.0.0) done.edges.items
  pub wakes : All (λ v. is_own m.numbers.local v.0 ≡ true) done.wakes.items
  pub pends : All (λ v. is_own m.numbers.local v.0 ≡ true) done.pends.items

-- the news are received as the cluster says, for each setting of which the machine is a part
abbrev pub HasLearnedNews : Core → SnapView → Core → SnapView → Done → Type 0
HasLearnedNews old kept new kept_now done =
    (st : Setting) → IsPartOf st old →
    with_snaps kept_now (part_of new) ≡ applied st old.numbers.local.me.0 done.scope (news_of done) (with_snaps kept (part_of old))
