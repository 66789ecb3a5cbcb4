-- The tickets that were drawn and those that are left are as many, whatever happens.
use Rattle.std.proofs.Common.{◌≡◌, ℕ, suc, zero, ◌+◌, ◌<◌, List, [], ◌∷◌, None, Option, Some, refl, arith}
use Rattle.std.specs.Prelude.{Err, Ok, OnErr, OnOk, Result, pred}
use Rattle.gl_base.specs.declared.scopes.ScopeId.{ScopeId}
use Rattle.cluster_laws.specs.cluster_core.Settings.{Setting}
use Rattle.full_scope.specs.FullUpdates.{FullUpdate}
use Rattle.full_laws.specs.FullActions.{Admits, Delivers, FullAction, Grants, MayHappenFull, Sends, Updates, after_action, delivers_full, sends_full, updates_full}
use Rattle.full_laws.specs.FullMessages.{FullMessage}
use Rattle.full_laws.specs.FullWorlds.{FullWorld}
use Rattle.full_cluster.specs.declared.clusters.FullCluster.{FullCluster}
use Rattle.full_cluster.specs.FullClusters.{HasApplied, IsClusterOf}

sends_same : (w : FullWorld) (a b : ℕ) (ms : List FullMessage) → ((sends_full w a b ms).next ≡ w.next) × ((sends_full w a b ms).left ≡ w.left)
sends_same w a b [] = (refl, refl)
sends_same w a b (m ∷ ms) = (refl, refl)

delivers_same : (st : Setting) (w : FullWorld) (a b : ℕ) (ms : List FullMessage) → ((delivers_full st w a b ms).next ≡ w.next) × ((delivers_full st w a b ms).left ≡ w.left)
delivers_same st w a b [] = (refl, refl)
delivers_same st w a b (m ∷ ms) = (refl, refl)

drawn_one : (next left : ℕ) → 0 < left → suc next + pred left ≡ next + left
drawn_one next zero some = absurd (omega (arith, some))
drawn_one next (suc left) some = omega arith

updates_same : (st : Setting) (p : FullUpdate) (w : FullWorld) (s : ScopeId) (v : Option ℕ) (seen : Option (ℕ → Option ℕ)) → 0 < w.left →
    (updates_full st p w s v seen).next + (updates_full st p w s v seen).left ≡ w.next + w.left
updates_same st p w s None seen some = refl
updates_same st p w s (Some v) None some = refl
updates_same st p w s (Some v) (Some seen) some = drawn_one w.next w.left some

happens_same : (st : Setting) (p : FullUpdate) (w : FullWorld) (action : FullAction) → MayHappenFull st w action → (after_action st p w action).next + (after_action st p w action).left ≡ w.next + w.left
happens_same st p w (Admits a v) may = refl
happens_same st p w (Grants a x) may = refl
happens_same st p w (Sends a b) may = let same = sends_same w a b ((w.part a).out b) in omega (arith, same.0, same.1)
happens_same st p w (Delivers a b) may = let same = delivers_same st w a b (w.link a b) in omega (arith, same.0, same.1)
happens_same st p w (Updates s) may = updates_same st p w s ((w.part s.home.0).flight s) ((w.part s.home.0).ready s) may.ticket

pub tickets_same : {T E : Type 0} (st : Setting) (p : FullUpdate) (w : FullWorld) (action : FullAction) (old new : FullCluster) (r : Result T E) → IsClusterOf st p w old →
    OnOk r (HasApplied st p w action new) → OnErr r (IsClusterOf st p w new) → new.next + new.left ≡ old.next + old.left
tickets_same st p w action old new (Ok x) are applied unchanged =
    let same = happens_same st p w action applied.may in
    let drawn = applied.after.drawn in
    let left = applied.after.tickets in
    let was = are.drawn in
    let had = are.tickets in
    omega (arith, same, drawn, left, was, had)
tickets_same st p w action old new (Err x) are applied unchanged =
    let drawn = unchanged.drawn in
    let left = unchanged.tickets in
    let was = are.drawn in
    let had = are.tickets in
    omega (arith, drawn, left, was, had)
