-- The updates that the recoveries among a list of events take away.
pub use Rattle.cluster_laws.specs.merged_logs.Merges.{RiseByTicket, all_logged}
use Rattle.std.specs.List.{list_any, range_with_len}
use Rattle.std.specs.List.Sorted.{IsPermutation}
use Rattle.std.specs.Prelude.{Bool, List, [], false, map, not, ℕ, ◌++◌, ◌==◌, ◌∷◌, ◌≡◌}
use Rattle.gl_base.specs.declared.entries.Entry.{Entry}
use Rattle.gl_base.specs.declared.entries.Entry.TheVariants.{Go, Restart}
use Rattle.cluster_laws.specs.cluster_core.Replays.{ticket_of}
use Rattle.cluster_laws.specs.cluster_core.Settings.{Setting}
use Rattle.cluster_laws.specs.cluster_model.ByTicket.{restarts}
use Rattle.cluster_laws.specs.cluster_model.Clusters.{BaseView, Cluster}
use Rattle.cluster_laws.specs.cluster_model.Events.{Event, Recover, after_event, failures_in, setting_after}
use Rattle.whole_laws.specs.cluster_whole.Whole.{IsNoRecovery}

-- the log of each of so many machines
abbrev pub machine_logs : ℕ → Cluster → List (List Entry)
machine_logs machines c = map (λ a. (c.machine a).part.log) (range_with_len 0 machines)

-- Going back to this base takes these updates away, which are in one order by ticket: they and the base's order are together what the attempt
-- began with, what its machines have logged, and a restart for each failure.
pub record TakesAway (st : Setting) (c : Cluster) (base : BaseView) (lost : List Entry) : Type 0 where
  pub rise : RiseByTicket lost
  pub together : IsPermutation (base.order ++ lost) ((c.base.order ++ all_logged (machine_logs st.machines c)) ++ restarts (failures_in st c) c.next)

-- an update with ticket t
abbrev pub is_update_at : ℕ → Entry → Bool
is_update_at t (Go machine vertex ticket) = ticket == t
is_update_at t (Restart ticket) = false

-- no update of the order has the entry's ticket
abbrev pub is_lacking : List Entry → Entry → Bool
is_lacking order entry = not (list_any (is_update_at (ticket_of entry)) order)

-- what an event takes away: going back may take updates away, and nothing else does
pub record IsTakenBy (st : Setting) (c : Cluster) (event : Event) (lost : List Entry) : Type 0 where
  pub recovery : (base : BaseView) → event ≡ Recover base → TakesAway st c base lost
  pub other : IsNoRecovery event → lost ≡ []

-- these are taken away by these events, in turn
abbrev pub AreLostIn : Setting → Cluster → List Event → List Entry → Type 0
AreLostIn st c [] lost = lost ≡ []
AreLostIn st c (event ∷ events) lost =
    (now : List Entry) × (later : List Entry) × IsTakenBy st c event now × AreLostIn (setting_after st event) (after_event st c event) events later × (lost ≡ now ++ later)
