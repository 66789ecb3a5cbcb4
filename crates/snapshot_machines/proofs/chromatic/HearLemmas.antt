-- What a machine that goes by colours leaves where word of an update comes.
use Rattle.std.proofs.Common.{◌≡◌, ℕ, true, true≢false, Option, None, Some, List, refl, sym, ap, ◌∙◌, subst}
use Rattle.std.specs.Prelude.{is_some, slice_get}
use Rattle.std.specs.Option.{option_map}
use Rattle.gl_base.specs.declared.numbers.MachineNo.{MachineNo}
use Rattle.gl_base.specs.declared.numbers.Vertex.{Vertex}
use Rattle.gl_base.specs.declared.scopes.ScopeId.{ScopeId}
use Rattle.wire.specs.declared.wire_msgs.messages.Done.{Done}
use Rattle.cluster_laws.specs.cluster_core.Effects.{applied, begins}
use Rattle.cluster_laws.specs.cluster_core.Parts.{Stand}
use Rattle.partition.specs.machine_numbers.Views.{news_of}
use Rattle.machine_core.specs.declared.machine_parts.cores.Core.{Core}
use Rattle.machine_core.specs.machine_parts.Parts.{EnteredView, entered_at, lock_asked, machine_numbers, stand_at}
use Rattle.snapshot_machines.specs.marking.Learning.{CanLearnNews, HasLearnedNews}
use Rattle.snapshot_machines.specs.marking.Seeding.{HasOtherPending}
use Rattle.snapshot_machines.proofs.marking.SeedLemmas.{settings_pended}
use Rattle.snapshot_machines.specs.chromatic.Machines.{ColorSnapView, IsColorSnapPart, IsInSameStep, IsOrderly, Part, Setting, SnapMachineView, part_of, part_of_steps, with_locking, with_snaps}
use Rattle.snapshot_machines.specs.chromatic.Snapshots.{CanHearNews, HasBegunInStep, HasHeardNews}
use Rattle.snapshot_machines.specs.chromatic.Inner.Keeping.{IsWithoutLocks, seen_in_steps}
use Rattle.snapshot_machines.proofs.chromatic.LearnLemmas.{applied_begun}

-- ---- what is asked

-- nobody has come where nobody waits
none_come : (m : Core) (s : ScopeId) → IsOrderly m → IsWithoutLocks (part_of m) → entered_at m.pipe s ≡ None
none_come m s orderly free = by (entered_at m.pipe s) refl
  where
    by : (o : Option EnteredView) → entered_at m.pipe s ≡ o → entered_at m.pipe s ≡ None
    by None at = at
    by (Some e) at = absurd (stands (lock_asked e) ((orderly.entered s e at).stands refl) (sym (ap stand_at at) ∙ free.stand s))
      where
        stands : (lock : Option Vertex) → is_some lock ≡ true → option_map {U = Stand} (λ (x : Vertex). record { centre = e.centre.0; lock = x.0; rest = machine_numbers e.rest }) lock ≡ None → ⊥
        stands None is none = true≢false (sym is)
        stands (Some x) is none = some_none _ none
          where
            some_none : {X : Type 0} (x : X) → Some x ≡ None → ⊥
            some_none x e = cc

pub can_learn : (old m : Core) (done : Done) → HasOtherPending old m → CanHearNews old done → IsOrderly m → IsWithoutLocks (part_of m) → CanLearnNews m done
can_learn old m done rest can orderly free =
    let here : CanHearNews m done =
    subst (λ (n : Core). CanHearNews n done) (sym rest) (record { away = can.away; ghost = can.ghost; not_own = can.not_own; edges = can.edges; wakes = can.wakes; pends = can.pends }) in
    record {
      away = λ same. here.away (same ∙ ap (λ (b : MachineNo). b.0) orderly.flights.home);
      gone = none_come m done.scope orderly free;
      only = λ x holds. absurd (true≢false (sym holds ∙ ap is_some (free.holder x done.scope)));
      ghost = here.ghost;
      not_own = here.not_own;
      edges = here.edges;
      wakes = here.wakes;
      pends = here.pends;
    }

-- ---- the snapshot has begun before

other_back : (old new : Core) → HasOtherPending old new → HasOtherPending new old
other_back old new rest =
    sym (ap (λ (c : Core). record c { numbers = record c.numbers { tasks = record c.numbers.tasks { pending = old.numbers.tasks.pending; asked = old.numbers.tasks.asked } } }) rest)

module _ {P : Type 0} (x begun : ColorSnapView P) (done : Done) (step : IsInSameStep x begun) (has : HasBegunInStep x begun done.number) where
  -- it was a part of each setting before of which it is one now
  part_back : HasOtherPending x.core begun.core → (st : Setting) → IsColorSnapPart st begun → IsColorSnapPart st x
  part_back rest st is =
      record {
        part = settings_pended begun.core x.core (other_back x.core begun.core rest) (with_locking st) is.part;
        engine = record {
          colour = is.engine.colour;
          greatest = is.engine.greatest;
          chromatic = is.engine.chromatic;
          here = λ k v at. ap (λ (cs : List ℕ). slice_get cs k) (sym step.same.colours) ∙ is.engine.here k v (ap (λ (c : Core). slice_get c.by_place.items k) rest ∙ at);
        };
      }

  pub begun_part : HasOtherPending x.core begun.core → (st : Setting) → IsColorSnapPart st begun
      → with_snaps begun.kept (part_of begun.core) ≡ begins (with_locking st) begun.core.numbers.local.me.0 done.number (record (part_of_steps x) { colour = 0; closed = true })
  begun_part rest st is =
      ap (λ (p : Part). record p { colour = 0; closed = true }) (has st (part_back rest st is))
      ∙ ap (λ (a : MachineNo). begins st a.0 done.number (record (part_of_steps x) { colour = 0; closed = true })) (sym step.same.number)

  pub heard_by_colour : (m : SnapMachineView P) (colours : List ℕ) → HasLearnedNews begun.core begun.kept m.core m.kept done → HasHeardNews x (seen_in_steps m colours begun.colour begun.closed) done
  heard_by_colour m colours learned st is =
      ap (λ (p : Part). record p { colour = begun.colour; closed = begun.closed }) (learned (with_locking st) (step.same.settings st is).part)
      ∙ ap (λ (a : MachineNo). applied st a.0 done.scope (news_of done) (part_of_steps begun)) step.same.number
      ∙ applied_begun st x.core.numbers.local.me.0 done.scope (news_of done) (part_of_steps x) (part_of_steps begun) (has st is)

  pub step_on : (y : ColorSnapView P) → IsInSameStep begun y → IsInSameStep x y
  step_on y more =
      record {
        same = record {
          settings = λ st is. more.same.settings st (step.same.settings st is);
          number = more.same.number ∙ step.same.number;
          program = more.same.program ∙ step.same.program;
          colours = more.same.colours ∙ step.same.colours;
        };
        colour = more.colour ∙ step.colour;
        closed = more.closed ∙ step.closed;
      }
