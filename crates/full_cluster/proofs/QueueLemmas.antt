-- One queue of messages of many is changed.
use Rattle.std.proofs.Common.{◌≡◌, ◌≢◌, ℕ, ◌<◌, ◌≤◌, Option, IfSome, List, [], ◌∷◌, ◌++◌, length, slice_index_or, slice_set, refl, sym, ◌∙◌, ap, subst, ⊎_elim, arith, eq-eqb, ne_eqb, get_or-set_same, get_or-set_other}
use Rattle.std.specs.List.{All}
use Rattle.std.proofs.Math.ListN.{length-set}
use Rattle.std.proofs.lemmas.Bool.{cases_eq}
use Rattle.std.proofs.lemmas.Option.{IfSome_then}
use Rattle.gl_base.specs.scope_lists.Scopes.{set_at}
use Rattle.cluster_laws.specs.cluster_core.Settings.{Setting}
use Rattle.full_laws.specs.FullActions.{HasFirstFull}
use Rattle.full_laws.specs.FullMessages as model
use Rattle.full_cluster.specs.declared.messages.FullMessage.{FullMessage}
use Rattle.full_cluster.specs.declared.queues.FullQueue.{FullQueue}
use Rattle.full_cluster.specs.FullQueues.{AreMessages, AreQueuesOf, HasTakenFirst, IsMessage}

pub one_behind : (st : Setting) (cs : List FullMessage) (ms : List model.FullMessage) (c : FullMessage) (m : model.FullMessage) → AreMessages st cs ms → IsMessage st c m → AreMessages st (cs ++ c ∷ []) (ms ++ m ∷ [])
one_behind st [] ms c m are is = (m, [], ap (λ (xs : List model.FullMessage). xs ++ m ∷ []) are, is, refl)
one_behind st (d ∷ cs) ms c m are is = (are.0, are.1 ++ m ∷ [], ap (λ (xs : List model.FullMessage). xs ++ m ∷ []) are.2, are.3, one_behind st cs are.1 c m are.4 is)

pub first_waits : (st : Setting) (cs : List FullMessage) (ms : List model.FullMessage) → AreMessages st cs ms → 0 < length cs → HasFirstFull ms
first_waits st [] ms are some = absurd (omega arith)
first_waits st (c ∷ cs) ms are some = record { message = are.0; behind = are.1; first = are.2 }

nothing : (m : model.FullMessage) (behind : List model.FullMessage) → [] ≡ m ∷ behind → ⊥
nothing m behind is = cc

pub no_first : (ms : List model.FullMessage) → ms ≡ [] → HasFirstFull ms → ⊥
no_first ms none has = nothing has.message has.behind (sym none ∙ has.first)

pub waits_first : (st : Setting) (cs : List FullMessage) (ms : List model.FullMessage) → AreMessages st cs ms → HasFirstFull ms → 0 < length cs
waits_first st [] ms are has = absurd (no_first ms are has)
waits_first st (c ∷ cs) ms are has = omega arith

-- ---- one of many

pub queue_set : (st : Setting) (queues : List FullQueue) (q : ℕ) (new : FullQueue) (out : ℕ → List model.FullMessage) (ms : List model.FullMessage) → q < length queues → AreQueuesOf st queues out → AreMessages st new.messages.items ms →
    AreQueuesOf st (slice_set queues q new) (set_at out q ms)
queue_set st queues q new out ms low are is =
    record {
      each = λ k d inside. ⊎_elim
          (λ (at : k ≡ q). subst (λ (j : ℕ). AreMessages st (slice_index_or (slice_set queues q new) j d).messages.items (set_at out q ms j)) (sym at)
          (rw (eq-eqb q q refl, get_or-set_same queues q new d low) is))
          (λ (off : k ≢ q). let long = length-set queues q new in let early : k < length queues = omega arith in
          rw (ne_eqb k q off, get_or-set_other queues q k new d off) (are.each k d early))
          (cases_eq k q);
      beyond = λ k past.
          let long = length-set queues q new in
          let past_all : length queues ≤ k = omega arith in
          rw (ne_eqb k q (λ is. absurd (omega arith))) (are.beyond k past_all);
    }

pub queues_alike : (st : Setting) (queues : List FullQueue) (out also : ℕ → List model.FullMessage) → ((k : ℕ) → out k ≡ also k) → AreQueuesOf st queues out → AreQueuesOf st queues also
queues_alike st queues out also same are =
    record {
      each = λ k d inside. subst (AreMessages st (slice_index_or queues k d).messages.items) (same k) (are.each k d inside);
      beyond = λ k past. sym (same k) ∙ are.beyond k past;
    }

unset : (out : ℕ → List model.FullMessage) (q k : ℕ) → set_at out q (out q) k ≡ out k
unset out q k = ⊎_elim
    (λ (at : k ≡ q). rw (eq-eqb k q at) (ap out (sym at)))
    (λ (off : k ≢ q). rw (ne_eqb k q off) refl)
    (cases_eq k q)

-- the messages of the queue are as before
pub queue_same : (st : Setting) (queues : List FullQueue) (q : ℕ) (old new : FullQueue) (out : ℕ → List model.FullMessage) → q < length queues → old ≡ slice_index_or queues q old → new.messages.items ≡ old.messages.items → AreQueuesOf st queues out →
    AreQueuesOf st (slice_set queues q new) out
queue_same st queues q old new out low at same are =
    let before : AreMessages st old.messages.items (out q) = subst (λ (queue : FullQueue). AreMessages st queue.messages.items (out q)) (sym at) (are.each q old low) in
    queues_alike st (slice_set queues q new) (set_at out q (out q)) out (unset out q)
    (queue_set st queues q new out (out q) low are (subst (λ (cs : List FullMessage). AreMessages st cs (out q)) (sym same) before))

pub queue_put : (st : Setting) (queues : List FullQueue) (q : ℕ) (old new : FullQueue) (out : ℕ → List model.FullMessage) (c : FullMessage) (m : model.FullMessage) → q < length queues → old ≡ slice_index_or queues q old → new.messages.items ≡ old.messages.items ++ c ∷ [] →
    AreQueuesOf st queues out → IsMessage st c m → AreQueuesOf st (slice_set queues q new) (set_at out q (out q ++ m ∷ []))
queue_put st queues q old new out c m low at more are is =
    let before : AreMessages st old.messages.items (out q) = subst (λ (queue : FullQueue). AreMessages st queue.messages.items (out q)) (sym at) (are.each q old low) in
    queue_set st queues q new out (out q ++ m ∷ []) low are (subst (λ (cs : List FullMessage). AreMessages st cs (out q ++ m ∷ [])) (sym more) (one_behind st old.messages.items (out q) c m before is))

pub queue_taken : (st : Setting) (queues : List FullQueue) (q : ℕ) (old new : FullQueue) (out : ℕ → List model.FullMessage) (o : Option FullMessage) → q < length queues → old ≡ slice_index_or queues q old →
    IfSome o (λ c. old.messages.items ≡ c ∷ new.messages.items) → AreQueuesOf st queues out → IfSome o (HasTakenFirst st (slice_set queues q new) out q)
queue_taken st queues q old new out o low at taken are = IfSome_then o taken
    (λ c is.
    let before : AreMessages st old.messages.items (out q) = subst (λ (queue : FullQueue). AreMessages st queue.messages.items (out q)) (sym at) (are.each q old low) in
    let all : AreMessages st (c ∷ new.messages.items) (out q) = subst (λ (cs : List FullMessage). AreMessages st cs (out q)) is before in
    record {
      first = record { message = all.0; behind = all.1; first = all.2 };
      is = all.3;
      after = queue_set st queues q new out all.1 low are all.4;
    })

pub queue_empty : (st : Setting) (queues : List FullQueue) (q : ℕ) (old : FullQueue) (out : ℕ → List model.FullMessage) → q < length queues → old ≡ slice_index_or queues q old → old.messages.items ≡ [] → AreQueuesOf st queues out → out q ≡ []
queue_empty st queues q old out low at none are =
    let before : AreMessages st old.messages.items (out q) = subst (λ (queue : FullQueue). AreMessages st queue.messages.items (out q)) (sym at) (are.each q old low) in
    let nobody : AreMessages st [] (out q) = subst (λ (cs : List FullMessage). AreMessages st cs (out q)) none before in
    nobody

pub queues_none : (st : Setting) (queues : List FullQueue) → All (λ (queue : FullQueue). queue.messages.items ≡ []) queues → AreQueuesOf st queues (λ q. [])
queues_none st queues none =
    record {
      each = λ k d inside. subst (λ (cs : List FullMessage). AreMessages st cs []) (sym (none k d inside)) refl;
      beyond = λ k past. refl;
    }

pub queue_at : (st : Setting) (queues : List FullQueue) (q : ℕ) (queue : FullQueue) (out : ℕ → List model.FullMessage) → q < length queues → queue ≡ slice_index_or queues q queue → AreQueuesOf st queues out → AreMessages st queue.messages.items (out q)
queue_at st queues q queue out low at are = subst (λ (one : FullQueue). AreMessages st one.messages.items (out q)) (sym at) (are.each q queue low)
