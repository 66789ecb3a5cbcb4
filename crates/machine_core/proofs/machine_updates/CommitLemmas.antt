-- What a commit leaves is what the cluster's effect makes of the machine's part.
use Rattle.std.proofs.Common.{◌≡◌, ◌≢◌, ℕ, ◌+◌, ◌<◌, ◌==◌, ◌&&◌, ◌++◌, Bool, true, false, true≢false, not, pred, if◌then◌else◌, Option, Some, None, List, [], ◌∷◌, length, refl, sym, ap, ◌∙◌, subst, add-one, All}
use Rattle.std.specs.Prelude.{is_some}
use Rattle.std.specs.List.{AllPairs, list_any}
use Rattle.gl_base.specs.declared.numbers.Vertex.{Vertex}
use Rattle.gl_base.specs.declared.scopes.ScopeId.{ScopeId}
use Rattle.gl_base.specs.scope_lists.Scopes.{is_scope, set_for}
use Rattle.scope_locks.specs.scope_pipe.Pipes.{HasFinished, flight_count}
use Rattle.update_api.specs.Links.{nears_at}
use Rattle.update_api.specs.Marks.{AreMarked}
use Rattle.local_graph.specs.Locals.{got_at}
use Rattle.local_graph.specs.declared.works.Outcome.{Outcome}
use Rattle.cluster_laws.specs.cluster_core.Effects.{updated, news_for, tell}
use Rattle.cluster_laws.specs.cluster_core.Messages.{Message, News}
use Rattle.cluster_laws.specs.cluster_core.Messages as law
use Rattle.cluster_laws.specs.cluster_core.Scopes.{takes_part}
use Rattle.cluster_laws.specs.cluster_core.Settings.{IsSetting}
use Rattle.partition.proofs.local_parts.SharedLemmas.{edges_shared}
use Rattle.wire.specs.wire_msgs.Views as told
use Rattle.wire.specs.outboxes.Outboxes.{OutboxesView}
use Rattle.partition.specs.machine_numbers.Views.{TasksView, AreTasksOf, numbers_along, near_along, value_here}
use Rattle.partition.specs.machine_numbers.Steps.{HasUpdated, HasRun, made_of}
use Rattle.partition.specs.declared.machine_numbers.keeping.Numbers.{Numbers}
use Rattle.partition.specs.machine_numbers.Settings.{with_numbers, IsOutcomeOf, IsMadeOfWork, IsRowOf, lent_along}
use Rattle.partition.proofs.machine_numbers.JoinLemmas.{updated_is, news_are}
use Rattle.machine_core.specs.declared.machine_parts.cores.Core.{Core}
use Rattle.machine_core.specs.machine_parts.Parts.{LocalView, Part, PipeView, place_at, is_own, links_at, sides_at, parts_at, edge_here, flag_there, pending_here, flight_at, entered_at, is_owned, holder_at, queue_at, messages_for, message_of, number_of, stand_at, news_told, part_of}
use Rattle.machine_core.specs.machine_parts.Order.{IsOrderly}
use Rattle.machine_core.specs.machine_parts.Settings.{Setting, IsLocalOf, IsPartOf}
use Rattle.machine_core.specs.declared.machine_updates.reserving.Prepared.{Prepared}
use Rattle.machine_core.specs.machine_updates.Works.{IsOut}
use Rattle.machine_core.specs.machine_updates.Reserving.{IsReserved, is_to_be_told}
use Rattle.machine_core.specs.machine_updates.Committing.{done_told, after_told, entry_logged, HasCommitted}
use Rattle.machine_core.specs.machine_updates.Telling.{HasWord}
use Rattle.machine_core.proofs.machine_updates.TellLemmas.{done_is}
use Rattle.machine_core.proofs.machine_updates.ToldLemmas.{told_at, parts_are}
use Rattle.machine_core.proofs.machine_updates.GraphLemmas.{SameGraph, place_kept}

-- what became of the parts of a machine
pub record HasDone (old new : Core) (o : Outcome) (ps : List Prepared) (ticket : ℕ) : Type 0 where
  pub terms : new.terms ≡ old.terms
  pub by_place : new.by_place ≡ old.by_place
  pub updated : HasUpdated old.numbers new.numbers (made_of o) (entry_logged o ticket)
  pub back : (x : ℕ) → links_at new.numbers.local x ≡ (if x == o.work.vertex.0 then Some o.work.row.links.items else links_at old.numbers.local x)
  pub graph : SameGraph old.numbers.local new.numbers.local
  pub ghosts : new.numbers.ghosts ≡ old.numbers.ghosts
  pub run : (k : ℕ) → place_at old.numbers.local o.work.vertex.0 ≡ Some k → HasRun old.numbers.tasks new.numbers.tasks k
  pub tasks : AreTasksOf new.numbers.local new.numbers.tasks
  pub owned : (x : ℕ) → is_owned new.locks x ≡ is_owned old.locks x
  pub holder : (x : ℕ) (t : ScopeId) → holder_at new.locks x t ≡ set_for (holder_at old.locks x) o.work.scope None t
  pub queue : (x : ℕ) → queue_at new.locks x ≡ queue_at old.locks x
  pub finished : HasFinished old.pipe new.pipe o.work.scope
  pub pipe : new.pipe ≡ record old.pipe { waiting = new.pipe.waiting; ready = new.pipe.ready }
  pub out : new.out ≡ after_told (done_told old.numbers o) ps old.out
  pub words : (q : ℕ) → is_to_be_told ps q ≡ true → HasWord old.numbers o q

-- ---- of a work that is out, what its program makes

module _ (st : Setting) (n : Numbers) (o : Outcome) (local : IsLocalOf st n.local) (own : is_own n.local o.work.vertex.0 ≡ true) where
  pub outcome_is : o.work.value ≡ value_here n o.work.vertex.0 → o.work.row.numbers.items ≡ numbers_along (edge_here n) (sides_at n.local o.work.vertex.0)
      → o.work.near.items ≡ near_along (value_here n) (sides_at n.local o.work.vertex.0) → IsRowOf st o.work.vertex.0 (sides_at n.local o.work.vertex.0) o.work.row.links.items → IsMadeOfWork st.program o → IsOutcomeOf st n (made_of o)
  outcome_is value edges near row made =
      let x = o.work.vertex.0 in
      let links = o.work.row.links.items in
      let numbers = o.work.row.numbers.items in
      let lent : o.work.near.items ++ o.work.value ∷ [] ≡ lent_along n x =
      ap (λ (ns : List ℕ). ns ++ o.work.value ∷ []) near ∙ ap (λ (k : ℕ). near_along (value_here n) (sides_at n.local x) ++ k ∷ []) value in
      record {
        row = row;
        owners = local.owners x own;
        numbers = edges;
        value =
            made.value ∙ ap (λ (k : ℕ). st.program.number k (nears_at (o.work.near.items ++ o.work.value ∷ []) numbers links)) value
            ∙ ap (λ (vs : List ℕ). st.program.number (value_here n x) (nears_at vs numbers links)) lent;
        marks = subst (λ (vs : List ℕ). AreMarked (st.program.mark o.value) vs numbers links o.edges.items) lent made.marks;
        woken = made.woken ∙ ap (λ (k : ℕ). st.program.woken k o.value) value;
      }

-- ---- what waits for each machine once the others of the scope were told

module _ (st : Setting) (n : Numbers) (part : Part) (out : OutboxesView) (o : Outcome) (ps : List Prepared) (setting : IsSetting st) (is : IsOutcomeOf st n (made_of o)) where
  word_is : (q : ℕ) → HasWord n o q → message_of (told.Done (done_told n o (record { 0 = q }))) ≡ law.Done o.work.scope (news_for st (with_numbers n part) o.work.vertex.0 q)
  word_is q word =
      let same = done_is n (record { 0 = q }) o word.done word.tells in
      let news : news_told (done_told n o (record { 0 = q })) ≡ news_for st (with_numbers n part) o.work.vertex.0 q =
      ap news_told (sym same) ∙ news_are st (record { 0 = q }) o word.done n part is (edges_shared st o.work.vertex.0 setting) word.tells in
      ap (law.Done o.work.scope) news

  pub outbox_told : IsLocalOf st n.local → is_own n.local o.work.vertex.0 ≡ true → All (λ (p : Prepared). p.to.0 < length out.machines) ps
      → AllPairs (λ (one other : Prepared). one.to.0 ≢ other.to.0) ps
      → ((q : ℕ) → is_to_be_told ps q ≡ (list_any (λ b. b.0 == q) (parts_at n.local o.work.vertex.0) && not (q == n.local.me.0)))
      → ((q : ℕ) → is_to_be_told ps q ≡ true → HasWord n o q)
      → (q : ℕ) → messages_for (after_told (done_told n o) ps out) q ≡ tell st n.local.me.0 o.work.vertex.0 o.work.scope (λ p. news_for st (with_numbers n part) o.work.vertex.0 p) (messages_for out) q
  outbox_told local own machines apart one_of words q =
      let s = o.work.scope in
      let v = o.work.vertex.0 in
      let me = n.local.me.0 in
      let waited = messages_for out q in
      let word = law.Done s (news_for st (with_numbers n part) v q) in
      let said = message_of (told.Done (done_told n o (record { 0 = q }))) in
      let who : is_to_be_told ps q ≡ (takes_part st v q && not (q == me)) = one_of q ∙ ap (λ (b : Bool). b && not (q == me)) (parts_are st n.local v q setting local own) in
      let by : (b : Bool) → is_to_be_told ps q ≡ b → (if b then waited ++ said ∷ [] else waited) ≡ (if b then waited ++ word ∷ [] else waited) = λ b. elim b as (λ c. is_to_be_told ps q ≡ c → (if c then waited ++ said ∷ [] else waited) ≡ (if c then waited ++ word ∷ [] else waited)) [
        | true ↦ λ is_one. ap (λ (m : Message). waited ++ m ∷ []) (word_is q (words q is_one))
        | false ↦ λ none. refl
      ] in
      told_at (done_told n o) ps out q machines apart
      ∙ by (is_to_be_told ps q) refl
      ∙ ap (λ (b : Bool). if b then waited ++ word ∷ [] else waited) who

-- ---- the parts

pred_is : (a b : ℕ) → a + 1 ≡ b → a ≡ pred b
pred_is a b is = ap pred (sym (add-one a) ∙ is)

set_number : (f : ScopeId → Option Vertex) (s t : ScopeId) → number_of (set_for f s None t) ≡ set_for (λ r. number_of (f r)) s None t
set_number f s t = by (is_scope t s)
  where
    by : (b : Bool) → number_of (if b then None else f t) ≡ (if b then None else number_of (f t))
    by true = refl
    by false = refl

some_of : {X : Type 0} (o : Option X) → is_some o ≡ true → (x : X) × (o ≡ Some x)
some_of None is = absurd (true≢false (sym is))
some_of (Some x) is = (x, refl)

-- an own vertex has a place
pub placed : (l : LocalView) (v : ℕ) → is_own l v ≡ true → (k : ℕ) × (place_at l v ≡ Some k)
placed l v own = by (place_at l v) own
  where
    by : (o : Option ℕ) → is_some (got_at l.kept o) ≡ true → (k : ℕ) × (o ≡ Some k)
    by None is = absurd (true≢false (sym is))
    by (Some k) is = (k, refl)

module _ (old new : Core) (o : Outcome) (ps : List Prepared) (ticket : ℕ) (order : IsOrderly old) (out : IsOut old o.work) (reserved : IsReserved old o.work.scope o.work.vertex ps) (done : HasDone old new o ps ticket) where
  own : is_own old.numbers.local o.work.vertex.0 ≡ true
  own = order.flights.own o.work.scope o.work.vertex out.flight

  out_is : (st : Setting) (q : ℕ) → IsSetting st → IsPartOf st old → IsOutcomeOf st old.numbers (made_of o) → messages_for new.out q
      ≡ tell st old.numbers.local.me.0 o.work.vertex.0 o.work.scope (λ p. news_for st (part_of old) o.work.vertex.0 p) (messages_for old.out) q
  out_is st q setting part is =
      ap (λ (boxes : OutboxesView). messages_for boxes q) done.out
      ∙ outbox_told st old.numbers (part_of old) old.out o ps setting is part.local own reserved.can.machines reserved.can.apart reserved.told done.words q

  pub pending_kept : (u : ℕ) → pending_here new.numbers u ≡ pending_here old.numbers u
  pending_kept u =
      let at = placed old.numbers.local o.work.vertex.0 own in
      let run = done.run at.0 at.1 in
      ap (λ (place : Option ℕ). flag_there new.numbers.tasks.pending place) (place_kept old.numbers.local new.numbers.local done.graph u)
      ∙ ap (λ (t : TasksView). flag_there t.pending (place_at old.numbers.local u)) run.rest

  pub committed : HasCommitted old new o ticket
  committed st setting part row made =
      let s = o.work.scope in
      let v = o.work.vertex.0 in
      let is = outcome_is st old.numbers o part.local own out.value out.numbers out.near row made in
      let after = updated st old.numbers.local.me.0 s v (entry_logged o ticket) (part_of old) in
      let rest : part_of new ≡ with_numbers new.numbers after = λ i.
      record (part_of new) {
        serial = done.finished.serial i;
        flying = pred_is (flight_count new.pipe) (flight_count old.pipe) done.finished.count i;
        flight = λ t. (ap number_of (done.finished.flight t) ∙ set_number (flight_at old.pipe) s t) i;
        stand = λ t. ap (λ (p : PipeView). stand_at (entered_at p t)) done.pipe i;
        ready = λ t. done.finished.ready t i;
        holder = λ x t. done.holder x t i;
        queue = λ x. done.queue x i;
        pending = λ u. pending_kept u i;
        known = (done.terms i).base;
        sent = (done.terms i).base;
        out = λ q. out_is st q setting part is i;
      } in
      rest ∙ updated_is st s (made_of o) (entry_logged o ticket) old.numbers new.numbers (part_of old) is done.updated
