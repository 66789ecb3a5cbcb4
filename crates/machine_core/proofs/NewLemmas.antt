-- A new machine is in order.
use Rattle.std.proofs.Common.{◌≡◌, ◌==◌, ℕ, ◌≤◌, Bool, true, false, Option, None, Some, is_some, List, length, refl, sym, ap, ◌∙◌, subst, All, arith, true≢false}
use Rattle.std.specs.List.{list_any}
use Rattle.cluster_laws.specs.cluster_core.Settings.{Setting, IsSetting}
use Rattle.local_graph.specs.Locals.{place_at}
use Rattle.partition.specs.local_parts.Parts.{AreIn}
use Rattle.partition.specs.machine_numbers.Views.{AreTasksOf, flag_there, ghost_datum, is_flagged}
use Rattle.partition.proofs.machine_numbers.PartLemmas.{sides_are}
use Rattle.machine_core.specs.declared.machine_parts.cores.Core.{Core}
use Rattle.machine_core.specs.machine_parts.Order.{IsGraphInOrder, IsOrderly, StandsAtLock, nobody}
use Rattle.machine_core.specs.machine_parts.Parts.{is_own, is_owned, datum_here}
use Rattle.machine_core.specs.machine_parts.Settings.{IsPartOf}
use Rattle.scope_locks.specs.scope_pipe.Pipes.{IsEmpty}
use Rattle.scope_locks.specs.vertex_locks.Tables.{IsUnclaimed}
use Rattle.machine_core.proofs.GraphLemmas.{graph_in_order}

-- Nothing has happened at the machine: each row is in, tasks have the places of own vertices and none is admitted, each ghost has a
-- copy, own data have version 0 and the mark of the snapshot that the run began with; no scope is in flight or has come; and each
-- own vertex has a lock that nobody claims.
pub record IsNewMachine (m : Core) : Type 0 where
  pub rows : AreIn m.numbers.local
  pub tasks : AreTasksOf m.numbers.local m.numbers.tasks
  pub admitted : (u : ℕ) → is_flagged m.numbers.tasks.admitted u ≡ false
  pub outside : m.numbers.tasks.outside ≡ 0
  pub ghosts : (x : ℕ) → is_some (ghost_datum m.numbers.ghosts x) ≡ list_any (λ g. g.vertex.0 == x) m.numbers.local.ghosts
  pub versions : (v : ℕ) → is_own m.numbers.local v ≡ true → (datum_here m.numbers v).version ≡ 0
  pub marks : (v : ℕ) → is_own m.numbers.local v ≡ true → (datum_here m.numbers v).mark ≡ m.terms.base
  pub home : m.pipe.home ≡ m.numbers.local.me
  pub width : m.pipe.width ≡ m.terms.pipeline
  pub empty : IsEmpty m.pipe
  pub owned : (x : ℕ) → is_owned m.locks x ≡ is_own m.numbers.local x
  pub unclaimed : IsUnclaimed m.locks

nothing : {X : Type 0} (e : X) (o : Option X) → o ≡ None → o ≡ Some e → ⊥
nothing e o none some = true≢false (sym (ap is_some some) ∙ ap is_some none)

unheld : {X : Type 0} (o : Option X) → o ≡ None → is_some o ≡ true → ⊥
unheld o none some = true≢false (sym some ∙ ap is_some none)

never : (flags : List Bool) → ((u : ℕ) → is_flagged flags u ≡ false) → (o : Option ℕ) → flag_there flags o ≡ false
never flags clear None = refl
never flags clear (Some k) = clear k

pub new_is : (st : Setting) (m : Core) → IsSetting st → IsPartOf st m → IsNewMachine m → IsOrderly m
new_is st m setting part new = record {
  graph = subst (IsGraphInOrder m.numbers.local) (sym part.machines) (graph_in_order st m.numbers.local setting part.local);
  numbers = record {
    tasks = new.tasks;
    sides = λ v own. sides_are st m.numbers.local v part.local own;
    ghosts = new.ghosts;
    marks = λ v own. subst (λ (k : ℕ). m.terms.base ≤ k) (sym (new.marks v own)) (omega arith);
    outside = subst (λ (k : ℕ). k ≤ length m.numbers.log.items) (sym new.outside) (omega arith);
  };
  entered = λ s e at. absurd (nothing e _ (new.empty.entered s) at);
  locks = record {
    owned = new.owned;
    queues = λ x. subst (All (StandsAtLock m.pipe nobody x)) (sym (new.unclaimed.queue x)) (λ k d low. absurd (omega arith));
    holds = λ s e j y at. absurd (nothing e _ (new.empty.entered s) at);
    only = λ s c x flies. absurd (nothing c _ (new.empty.flight s) flies);
    ready = λ takes s c x flies. absurd (nothing c _ (new.empty.flight s) flies);
    admitted = λ s x home holds. absurd (unheld _ (new.unclaimed.holder x s) holds);
  };
  flights = record {
    home = new.home;
    given = λ s c flies. absurd (nothing c _ (new.empty.flight s) flies);
    own = λ s c flies. absurd (nothing c _ (new.empty.flight s) flies);
    single = λ s t c flies. absurd (nothing c _ (new.empty.flight s) flies);
    admitted = λ s c flies. absurd (nothing c _ (new.empty.flight s) flies);
    flies = λ v own admitted. absurd (true≢false (sym admitted ∙ never m.numbers.tasks.admitted new.admitted (place_at m.numbers.local v.0)));
    rows = λ v own out. absurd (true≢false (sym (new.rows v.0 own) ∙ out));
  };
  width = new.width;
}
