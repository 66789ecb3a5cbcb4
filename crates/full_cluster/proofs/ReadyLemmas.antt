-- What a coherent cluster says of a scope that is ready at its home.
use Rattle.std.proofs.Common.{◌≡◌, ℕ, suc, zero, ◌<◌, ◌==◌, Bool, true, false, if◌then◌else◌, Option, None, Some, is_some, List, [], ◌∷◌, length, slice_index_or, refl, sym, ◌∙◌, ap, subst, ⊎_elim, eq-eqb, arith}
use Rattle.std.specs.Global.{Vec}
use Rattle.std.specs.List.{All}
use Rattle.std.specs.Option.{option_map}
use Rattle.std.proofs.lemmas.Bool.{cases_Bool}
use Rattle.gl_base.specs.declared.numbers.MachineNo.{MachineNo}
use Rattle.gl_base.specs.declared.numbers.Vertex.{Vertex}
use Rattle.gl_base.specs.declared.scopes.ScopeId.{ScopeId}
use Rattle.graph_core.specs.DataGraph.{size}
use Rattle.cluster_laws.specs.cluster_core.Places.{IsStageOf}
use Rattle.cluster_laws.specs.cluster_core.Scopes.{mode_at}
use Rattle.cluster_laws.specs.cluster_core.Settings.{IsSetting, Setting, is_in_scope}
use Rattle.cluster_laws.specs.cluster_core.Stages.{Stays, sight_of}
use Rattle.cluster_laws.proofs.cluster_core.Nearness.{scope_within}
use Rattle.cluster_laws.proofs.cluster_places.Seen.{staying_stage}
use Rattle.full_scope.specs.FullUpdates.{FullUpdate}
use Rattle.full_laws.specs.FullReplays.{IsFullCoherent}
use Rattle.full_laws.specs.FullWorlds.{FullWorld, number_at}
use Rattle.full_laws.specs.Items.{AVertex}
use Rattle.full_laws.proofs.FromPlaces.{some_if-is}
use Rattle.full_cluster.specs.declared.machines.FullMachine.{FullMachine}
use Rattle.full_cluster.specs.FullMachines.{IsMachineOf}
use Rattle.full_cluster.specs.FullQueues.{seen_after, seen_in}
use Rattle.full_cluster.specs.Given.{AreOfScope}
use Rattle.full_cluster.specs.Updating.{IsFullyReadyAt, IsUpdatable}

-- ---- what is listed has a number

some_stays : (pairs : List (Vertex × ℕ)) (x n : ℕ) → (m : ℕ) × (seen_after pairs x (Some n) ≡ Some m)
some_stays [] x n = (n, refl)
some_stays (pair ∷ pairs) x n = ⊎_elim
    (λ (yes : (pair.0.0 == x) ≡ true). rw yes (some_stays pairs x pair.1))
    (λ (off : (pair.0.0 == x) ≡ false). rw off (some_stays pairs x n))
    (cases_Bool (pair.0.0 == x))

listed_seen : (pairs : List (Vertex × ℕ)) (k : ℕ) (d : Vertex × ℕ) (here : Option ℕ) → k < length pairs → (m : ℕ) × (seen_after pairs (slice_index_or pairs k d).0.0 here ≡ Some m)
listed_seen [] k d here low = absurd (omega arith)
listed_seen (pair ∷ pairs) zero d here low = rw (eq-eqb pair.0.0 pair.0.0 refl) (some_stays pairs pair.0.0 pair.1)
listed_seen (pair ∷ pairs) (suc k) d here low = listed_seen pairs k d (if pair.0.0 == (slice_index_or pairs k d).0.0 then Some pair.1 else here) (omega arith)

some_if_true : (b : Bool) (n : ℕ) → b ≡ true → (if b then Some n else None) ≡ Some n
some_if_true true n is = refl
some_if_true false n is = cc

some_if_false : (b : Bool) (n : ℕ) → b ≡ false → (if b then Some n else None) ≡ None
some_if_false true n is = cc
some_if_false false n is = refl

some_if_some : (b : Bool) (n m : ℕ) → (if b then Some n else None) ≡ Some m → m ≡ n
some_if_some true n m is = cc
some_if_some false n m is = cc

none_some : (n : ℕ) → None ≡ Some n → ⊥
none_some n is = cc

module _ (st : Setting) (p : FullUpdate) (w : FullWorld) (kept : IsFullCoherent st p w) (s : ScopeId) (v : ℕ) (f : ℕ → Option ℕ) (flight : (w.part s.home.0).flight s ≡ Some v) (ready : (w.part s.home.0).ready s ≡ Some f) where
  stays : kept.stage s ≡ Stays v
  stays = let h = kept.places.shows s in staying_stage st s (kept.stage s) v (sym h.flight ∙ flight) (sym h.ready ∙ ap is_some ready)

  of_stage : IsStageOf st s (Stays v)
  of_stage = subst (IsStageOf st s) stays (kept.places.stages s)

  pub centre_low : v < size st.graph
  centre_low = of_stage.vertex

  holds_scope : (x : ℕ) → (w.part (st.owner x)).holds x s ≡ is_in_scope st v x
  holds_scope x = (kept.places.shows s).holds x ∙ ap (λ y. is_some ((sight_of st s y).holder x)) stays ∙ some_if-is (is_in_scope st v x) (mode_at v x)

  gathered_is : (x : ℕ) → f x ≡ (if is_in_scope st v x then Some (number_at st w x) else None)
  gathered_is x = kept.gathered.ready s f ready x ∙ ap (λ (b : Bool). if b then Some (number_at st w x) else None) (holds_scope x)

  of_scope : AreOfScope st v f
  of_scope =
      record {
        inside = λ x scoped. (number_at st w x, gathered_is x ∙ some_if_true (is_in_scope st v x) (number_at st w x) scoped);
        outside = λ x away. gathered_is x ∙ some_if_false (is_in_scope st v x) (number_at st w x) away;
      }

  pub ready_at : IsFullyReadyAt st s.home.0 s (w.part s.home.0) v f
  ready_at =
      record {
        owned = of_stage.owned;
        gathered = record {
          scope = of_scope;
          own = λ x n owned is.
              some_if_some (is_in_scope st v x) (number_at st w x) n (sym (gathered_is x) ∙ is) ∙ (λ k. (w.part (owned k)).number (AVertex x));
        };
        locks = λ x holds.
            let owned : st.owner x ≡ s.home.0 = kept.own s.home.0 x s holds in
            sym (holds_scope x) ∙ subst (λ b. (w.part b).holds x s ≡ true) (sym owned) holds;
      }

  -- each number that was gathered is of a vertex of the graph
  pub seen_low : IsSetting st → (pairs : List (Vertex × ℕ)) → f ≡ seen_in pairs → All (λ pair. pair.0.0 < size st.graph) pairs
  seen_low is pairs same k d low =
      let x : ℕ = (slice_index_or pairs k d).0.0 in
      let some = listed_seen pairs k d None low in
      let there : f x ≡ Some some.0 = (λ j. same j x) ∙ some.1 in
      ⊎_elim
      (λ (scoped : is_in_scope st v x ≡ true). scope_within st is v x centre_low scoped)
      (λ (away : is_in_scope st v x ≡ false). absurd (none_some some.0 (sym (of_scope.outside x away) ∙ there)))
      (cases_Bool (is_in_scope st v x))

-- ---- of a machine in code

pub updatable : (st : Setting) (p : FullUpdate) (w : FullWorld) (m : FullMachine) (s : ScopeId) → IsSetting st → IsFullCoherent st p w → IsMachineOf st m (w.part m.me.0) → s.home ≡ m.me → IsUpdatable m s (size st.graph)
updatable st p w m s is kept machine home = λ v seen flies at.
    let there : IsMachineOf st m (w.part s.home.0) = subst (λ (h : MachineNo). IsMachineOf st m (w.part h.0)) (sym home) machine in
    let flight : (w.part s.home.0).flight s ≡ Some v.0 = there.flights s ∙ ap (option_map (λ (x : Vertex). x.0)) flies in
    let ready : (w.part s.home.0).ready s ≡ Some (seen_in seen.items) = there.ready s ∙ ap (option_map (λ (x : Vec (Vertex × ℕ)). seen_in x.items)) at in
    (centre_low st p w kept s v.0 (seen_in seen.items) flight ready, seen_low st p w kept s v.0 (seen_in seen.items) flight ready is seen.items refl)
