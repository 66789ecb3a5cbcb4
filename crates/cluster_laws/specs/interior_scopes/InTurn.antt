-- Locks of one machine that are granted one after another.
use Rattle.std.specs.Prelude.{◌≡◌, ℕ, List, [], ◌∷◌}
use Rattle.cluster_laws.specs.cluster_core.Actions.{MayGrant}
use Rattle.cluster_laws.specs.cluster_core.Effects.{granted}
use Rattle.cluster_laws.specs.cluster_core.Parts.{Part}
use Rattle.cluster_laws.specs.cluster_core.Settings.{Setting}

-- the locks of these vertices of machine a are granted in turn, each of which may be then
abbrev pub AreGranted : Setting → ℕ → List ℕ → Part → Part → Type 0
AreGranted st a [] old new = new ≡ old
AreGranted st a (x ∷ more) old new = MayGrant st a x old × AreGranted st a more (granted st a x old) new
