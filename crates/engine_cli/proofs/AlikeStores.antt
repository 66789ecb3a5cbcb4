-- A store of a job is one of each job that is alike.
use Rattle.std.proofs.Common.{ℕ, List, [], ◌∷◌, Option, subst}
use Rattle.std.specs.List.{AllByRecursion}
use Rattle.gl_base.specs.declared.entries.Entry.{Entry}
use Rattle.gl_base.specs.declared.jobs.Algorithm.{Algorithm}
use Rattle.gl_base.specs.declared.jobs.FailureAt.{FailureAt}
use Rattle.graph_core.specs.DataGraph.{DataGraph}
use Rattle.job_io.specs.job_config.Jobs.{JobSayings}
use Rattle.placement.specs.plans.Plays.{IsPlacement}
use Rattle.job_io.specs.job_stores.JobHeaders.{header_for}
use Rattle.recovery.specs.GoodStores.{AreReplayed, IsGoodStore, stored_orders}
use Rattle.recovery.specs.Journals.{body_entries, with_entries}
use Rattle.recovery.specs.Orders.{IsOrderInTurn, Shared}
use Rattle.store.specs.declared.store_format.header.Header.{Header}
use Rattle.engine_runs.specs.answers.Images.{HoldsGood}
use Rattle.update_api.specs.Updates.{Update}
use Rattle.engine_cli.specs.JobRuns.{AreAlikeJobs, HaveSameStores}
use Rattle.engine_cli.specs.Plays.{update_of}

-- ---- the failures of a job are no part of what a good store is

module _ (g : DataGraph) (p : Update) (owner : ℕ → ℕ) (ones others : List FailureAt) where
  abbrev one : Shared
  one = record { graph = g; program = p; owner = owner; failures = ones }

  abbrev other : Shared
  other = record { graph = g; program = p; owner = owner; failures = others }

  in-turn : (orders : List (List Entry)) → AllByRecursion (IsOrderInTurn one) orders → AllByRecursion (IsOrderInTurn other) orders
  in-turn [] all = tt
  in-turn (order ∷ orders) all = (record { valid = all.0.valid; high = all.0.high; by_ticket = all.0.by_ticket; owners = all.0.owners }, in-turn orders all.1)

  replayed : (header : Header) (order : List Entry) (bodies : List (List ℕ)) → AreReplayed one header order bodies → AreReplayed other header order bodies
  replayed header order [] all = tt
  replayed header order (body ∷ bodies) all = (
    record { vertex = all.0.vertex; edge = all.0.edge },
    replayed header (with_entries order (body_entries body)) bodies all.1,
  )

  good : (header : Header) (bodies : List (List ℕ)) → IsGoodStore one header bodies → IsGoodStore other header bodies
  good header bodies is = record {
    orders = record { in_turn = in-turn (stored_orders bodies) is.orders.in_turn; earlier_first = is.orders.earlier_first };
    numbers = replayed header [] bodies is.numbers;
  }

  pub holds : (header : Header) (front : List (List ℕ)) (image : List ℕ) → HoldsGood one header front image → HoldsGood other header front image
  holds header front image is = record { behind = is.behind; stands = is.stands; good = good header _ is.good }

-- ---- nor is what a store isn't for

pub same-stores : (one other : JobSayings) → AreAlikeJobs one other → HaveSameStores one other
same-stores one other alike g cut owner front past is =
    record {
      placed = subst (λ (m : ℕ). IsPlacement g cut m owner) alike.machines is.placed;
      images = λ image now.
          let H : Algorithm → Option ℕ → ℕ → Type 0 = λ algorithm source machines.
          HoldsGood (record { graph = g; program = update_of algorithm source; owner = owner; failures = other.failures })
          (header_for (record other.fields { algorithm = algorithm; source = source; machines = machines }) g) front image in
          let first : H one.fields.algorithm one.fields.source one.fields.machines =
          holds g (update_of one.fields.algorithm one.fields.source) owner one.failures other.failures (header_for one.fields g) front image (is.images image now) in
          subst (λ (m : ℕ). H other.fields.algorithm other.fields.source m) alike.machines
          (subst (λ (s : Option ℕ). H other.fields.algorithm s one.fields.machines) alike.source
          (subst (λ (a : Algorithm). H a one.fields.source one.fields.machines) alike.algorithm first));
    }
