-- A run through no failure is one that makes each update once.
use Rattle.std.proofs.Common.{◌≡◌, ◌+◌, ◌≤◌, ℕ, suc, nat_le, true, false, List, [], ◌∷◌, ◌++◌, length, filter, refl, sym, ap, ◌∙◌, subst, append-nil, arith}
use Rattle.std.proofs.lemmas.Bool.{cond-true, le-leb}
use Rattle.std.specs.List.{AllByRecursion, list_any}
use Rattle.std.specs.List.Sorted.{IsPermutation}
use Rattle.std.specs.Prelude.{MatchOption, sum_by}
use Rattle.graph_atoms.specs.declared.atom_gather.cuts.Cut.{Cut}
use Rattle.gl_base.specs.Lists.{AreEach}
use Rattle.gl_base.specs.declared.entries.Entry.{Entry}
use Rattle.gl_base.specs.declared.entries.Entry.TheVariants.{Go, Restart}
use Rattle.gl_base.specs.declared.jobs.FailureAt.{FailureAt}
use Rattle.gl_base.specs.declared.numbers.Vertex.{Vertex}
use Rattle.call_laws.specs.call_answers.Answers.{IsRunWithFailures, RunLists, Shared, made_by, reached_places}
use Rattle.call_laws.specs.call_answers.Ends.{SpendsRun}
use Rattle.graph_core.specs.DataGraph.{DataGraph}
use Rattle.job_io.specs.job_config.Jobs.{JobSayings}
use Rattle.placement.specs.plans.Plays.{AreUpdatesFrom}
use Rattle.seq_run.specs.Orders.{IsFinished}
use Rattle.engine_runs.specs.declared.answers.runs.StoredEnd.{StoredEnd}
use Rattle.engine_runs.specs.declared.answers.runs.StoredEnd.TheVariants as end
use Rattle.engine_runs.specs.declared.answers.runs.StoredRun.{StoredRun}
use Rattle.call_laws.proofs.attempts.Standing.{stand_made}
use Rattle.whole_laws.proofs.cluster_records.Merging.{one_order}
use Rattle.call_laws.specs.attempts.Entries.{is_restart, is_restart_at, is_update_from}
use Rattle.engine_cli.specs.JobRuns.{BeginsAgain, IsEndAlone, RunsAlone, RunsThroughFailures, RunsWithoutStore, left_at, lists_of, shared_by}
use Rattle.engine_cli.specs.Plays.{IsSpent, update_of}

-- ---- an order without restarts

is_some : (entry : Entry) (order : List Entry) → entry ∷ order ≡ [] → ⊥
is_some entry order same = cc

-- it has none at any ticket
none_at : (r : ℕ) (order : List Entry) → filter is_restart order ≡ [] → list_any (is_restart_at r) order ≡ true → ⊥
none_at r [] none has = not_so has
  where
    not_so : false ≡ true → ⊥
    not_so is = cc
none_at r (Go machine vertex ticket ∷ order) none has = none_at r order none has
none_at r (Restart ticket ∷ order) none has = is_some (Restart ticket) (filter is_restart order) none

-- all of it are updates
all_from : (order : List Entry) → filter is_restart order ≡ [] → filter (is_update_from 0) order ≡ order
all_from [] none = refl
all_from (Go machine vertex ticket ∷ order) none =
    cond-true (nat_le 0 ticket) (Go machine vertex ticket ∷ filter (is_update_from 0) order) (filter (is_update_from 0) order) (le-leb 0 ticket (omega arith))
    ∙ ap (λ (es : List Entry). Go machine vertex ticket ∷ es) (all_from order none)
all_from (Restart ticket ∷ order) none = absurd (is_some (Restart ticket) (filter is_restart order) none)

no_list : (new : List Entry) → length new ≡ 0 → new ≡ []
no_list [] none = refl
no_list (entry ∷ new) none = absurd (more (length new) none)
  where
    more : (n : ℕ) → suc n ≡ 0 → ⊥
    more n same = omega arith

-- ---- a run whose job orders no failure

module _ (shared : Shared) (machines : ℕ) (lists : RunLists) (is : IsRunWithFailures shared machines [] false 0 lists) (none : shared.failures ≡ []) where
  pub none_fired : lists.fired ≡ []
  none_fired = is.fired ∙ ap (λ (failures : List FailureAt). reached_places (made_by is.updates) 0 failures) none

  no_restart : filter is_restart lists.order ≡ []
  no_restart =
      let few : length is.restarts.new + 0 ≡ 0 + length lists.fired = is.restarts.many in
      let long : length lists.fired ≡ 0 = ap length none_fired in
      is.restarts.behind ∙ no_list is.restarts.new (sums (length is.restarts.new) (length lists.fired) few long)
    where
      sums : (n f : ℕ) → n + 0 ≡ 0 + f → f ≡ 0 → n ≡ 0
      sums n f one other = omega arith

  pub nothing_lost : lists.lost ≡ []
  nothing_lost = go _ lists.lost is.accounted.lost_before
    where
      go : (below : Entry → ℕ → Type 0) (lost : List Entry) → AllByRecursion (λ entry. (r : ℕ) × below entry r × (list_any (is_restart_at r) lists.order ≡ true)) lost → lost ≡ []
      go below [] before = refl
      go below (entry ∷ lost) before = absurd (none_at before.0.0 lists.order no_restart before.0.2)

  -- its order is what it made
  pub made_all : lists.order ≡ is.updates
  made_all =
      let same : filter (is_update_from 0) lists.order ++ lists.lost ≡ lists.order =
      ap (λ (l : List Entry). filter (is_update_from 0) lists.order ++ l) nothing_lost ∙ append-nil (filter (is_update_from 0) lists.order) ∙ all_from lists.order no_restart in
      one_order 0 0 is.in_turn.high (0 + length is.updates) lists.order is.updates is.in_turn.by_ticket (stand_made 0 is.updates is.accounted.tickets)
      (subst (λ (es : List Entry). IsPermutation es is.updates) same is.accounted.same)

-- ---- the run of a job

module _ (job : JobSayings) (g : DataGraph) (cut : Cut) (run : StoredRun) (through : RunsThroughFailures job g cut run) (none : job.failures ≡ []) where
  abbrev owner : ℕ → ℕ
  owner = through.placed.0

  again : BeginsAgain job (shared_by job g owner) run
  again = through.goes owner through.placed.1

  order_is : run.order.items ≡ again.is.updates
  order_is = made_all (shared_by job g owner) job.fields.machines (lists_of run) again.is none

  pub runs_alone : RunsAlone job.fields g cut run
  runs_alone =
      let long : length run.order.items ≡ length again.is.updates = ap length order_is in
      record {
        runs =
            record {
              play =
                  record {
                    valid = again.is.in_turn.valid;
                    tickets = subst (AreUpdatesFrom 0) (sym order_is) again.is.accounted.tickets;
                    owner = owner;
                    placement = through.placed.1;
                    owners = again.is.in_turn.owners;
                    numbers_are = again.numbers_are;
                  };
              few = within (length run.order.items) (sum_by (λ count. count) run.done.items) job.fields.budget (long ∙ sym again.is.sum) again.few;
              ended = ended run.end through.ended again.finished again.spent;
            };
        ended = through.ended;
        counts = subst (λ (o : List Entry). AreEach job.fields.machines (λ m count. count ≡ made_by o m) run.done.items) (sym order_is) again.is.counts;
        lost = nothing_lost (shared_by job g owner) job.fields.machines (lists_of run) again.is none;
        fired = none_fired (shared_by job g owner) job.fields.machines (lists_of run) again.is none;
        snapshots = through.snapshots;
        results = again.results;
      }
    where
      within : (a b n : ℕ) → a ≡ b → b ≤ n → a ≤ n
      within a b n same few = omega arith

      ended : (how : StoredEnd) → IsEndAlone how → (how ≡ end.Finished → IsFinished g (update_of job.fields.algorithm job.fields.source) run.order.items)
          → ((left : Vertex) → how ≡ end.Spent left → SpendsRun (shared_by job g owner) job.fields.budget left.0 0 (lists_of run))
          → MatchOption (left_at how) (IsFinished g (update_of job.fields.algorithm job.fields.source) run.order.items) (IsSpent g (update_of job.fields.algorithm job.fields.source) job.fields.budget run.order.items)
      ended end.Finished alone finished spent = finished refl
      ended (end.Spent left) alone finished spent =
          let ends = spent left refl in
          record { spent = ap length order_is ∙ sym again.is.sum ∙ ends.spent; inside = ends.inside; task = ends.task }
      ended (end.Full stored bytes) alone finished spent = absurd alone
      ended end.DiskFault alone finished spent = absurd alone

-- so it is one without a store, whatever failures the job orders
pub without_store : (job : JobSayings) (g : DataGraph) (cut : Cut) (run : StoredRun) → RunsThroughFailures job g cut run → RunsWithoutStore job g cut run job.failures
without_store job g cut run through = go job.failures refl
  where
    go : (failures : List FailureAt) → job.failures ≡ failures → RunsWithoutStore job g cut run failures
    go [] none = runs_alone job g cut run through none
    go (failure ∷ failures) some = through
