-- Machines that are told one after another.
use Rattle.std.proofs.Common.{◌≡◌, ◌≢◌, ◌⊎◌, ℕ, suc, ◌<◌, ◌==◌, true, true≢false, List, [], ◌∷◌, length, get_or, set, refl, sym, ap, ◌∙◌, subst, arith, inl, inr, length-set, get_or-set_other}
use Rattle.std.proofs.lemmas.Bool.{or_cases, eqb-true}
use Rattle.gl_base.specs.declared.numbers.MachineNo.{MachineNo}
use Rattle.gl_base.specs.declared.numbers.Vertex.{Vertex}
use Rattle.gl_base.specs.declared.scopes.Peer.TheVariants.{Machine}
use Rattle.gl_base.specs.declared.scopes.ScopeId.{ScopeId}
use Rattle.local_graph.specs.declared.works.Outcome.{Outcome}
use Rattle.wire.specs.declared.wire_msgs.messages.Done.{Done}
use Rattle.wire.specs.wire_msgs.Views.{DoneView, MessageView, done_view}
use Rattle.wire.specs.wire_msgs.Views as told
use Rattle.wire.specs.outboxes.Outboxes.{OutboxView, OutboxesView, no_outbox, outbox_to, with_message}
use Rattle.partition.specs.declared.machine_numbers.keeping.Numbers.{Numbers}
use Rattle.partition.specs.machine_numbers.Steps.{TellsOf}
use Rattle.machine_core.specs.machine_parts.Parts.{sides_at}
use Rattle.machine_core.specs.declared.machine_updates.reserving.Prepared.{Prepared}
use Rattle.machine_core.specs.machine_updates.Reserving.{CanTell, is_to_be_told}
use Rattle.machine_core.specs.machine_updates.Committing.{done_told, posted, after_told}
use Rattle.machine_core.specs.machine_updates.Telling.{HasWord}

pub nothing_left : {X : Type 0} (l : List X) → length l ≡ 0 → l ≡ []
nothing_left [] none = refl
nothing_left (x ∷ xs) none = absurd (omega arith)

-- the message is what is to be told
pub done_is : (n : Numbers) (to : MachineNo) (o : Outcome) (done : Done) → TellsOf n to o done → done_view done ≡ done_told n o to
done_is n to o done tells =
    λ i.
    record {
      scope = tells.scope i;
      centre = tells.centre i;
      datum = tells.datum i;
      edges = tells.edges i;
      wakes = tells.wakes i;
      pends = tells.pends i;
      number = tells.number i;
    }

-- the machines that are left are still to be told, and for each other one there was a message
pub record IsTelling (old now : OutboxesView) (n : Numbers) (o : Outcome) (all left : List Prepared) : Type 0 where
  pub can : CanTell now o.work.scope o.work.vertex (length (sides_at n.local o.work.vertex.0)) left
  pub same : after_told (done_told n o) left now ≡ after_told (done_told n o) all old
  pub words : (q : ℕ) → is_to_be_told all q ≡ true → (is_to_be_told left q ≡ true) ⊎ HasWord n o q

-- those behind the first can be told still
pub can_step : (now : OutboxesView) (scope : ScopeId) (v : Vertex) (many : ℕ) (x : Prepared) (rest : List Prepared) (m : MessageView) → CanTell now scope v many (x ∷ rest) → CanTell (posted x.to m now) scope v many rest
can_step now scope v many x rest m can =
    let box = with_message m (outbox_to now (Machine x.to)) in
    let boxes : length (set now.machines x.to.0 box) ≡ length now.machines = length-set now.machines x.to.0 box in
    record {
      machines = λ k d low. subst (λ (j : ℕ). (get_or rest k d).to.0 < j) (sym boxes) (can.machines (suc k) d (omega arith));
      room = λ k d low.
          let p = get_or rest k d in
          let other : p.to.0 ≢ x.to.0 = λ same. can.apart 0 (suc k) d (omega arith) (omega arith) (sym same) in
          subst (λ (b : OutboxView). 0 < b.room) (sym (get_or-set_other now.machines x.to.0 p.to.0 box no_outbox other)) (can.room (suc k) d (omega arith));
      blank = λ k d low. can.blank (suc k) d (omega arith);
      apart = λ i j d before low. can.apart (suc i) (suc j) d (omega arith) (omega arith);
    }

word_at : (n : Numbers) (o : Outcome) (to : MachineNo) (done : Done) (q : ℕ) → TellsOf n to o done → (to.0 == q) ≡ true → HasWord n o q
word_at n o to done q tells is =
    let here : to.0 ≡ q = eqb-true to.0 q is in
    record { done = done; tells = subst (λ (k : ℕ). TellsOf n (record { 0 = k }) o done) here tells }

words_step : (n : Numbers) (o : Outcome) (x : Prepared) (rest : List Prepared) (done : Done) (q : ℕ) → TellsOf n x.to o done → (is_to_be_told (x ∷ rest) q ≡ true) ⊎ HasWord n o q
    → (is_to_be_told rest q ≡ true) ⊎ HasWord n o q
words_step n o x rest done q tells (inr word) = inr word
words_step n o x rest done q tells (inl is) = elim (or_cases (x.to.0 == q) (is_to_be_told rest q) is) [ inl here ↦ inr (word_at n o x.to done q tells here) | inr later ↦ inl later ]

pub telling_on : (old now next : OutboxesView) (n : Numbers) (o : Outcome) (all left : List Prepared) (x : Prepared) (rest : List Prepared) (done : Done) → IsTelling old now n o all left → left ≡ x ∷ rest
    → TellsOf n x.to o done → next ≡ posted x.to (told.Done (done_view done)) now → IsTelling old next n o all rest
telling_on old now next n o all left x rest done telling left_is tells next_is =
    let many = length (sides_at n.local o.work.vertex.0) in
    let can : CanTell now o.work.scope o.work.vertex many (x ∷ rest) = subst (CanTell now o.work.scope o.work.vertex many) left_is telling.can in
    let is : next ≡ posted x.to (told.Done (done_told n o x.to)) now = next_is ∙ ap (λ (d : DoneView). posted x.to (told.Done d) now) (done_is n x.to o done tells) in
    record {
      can = subst (λ (out : OutboxesView). CanTell out o.work.scope o.work.vertex many rest) (sym next_is) (can_step now o.work.scope o.work.vertex many x rest (told.Done (done_view done)) can);
      same = ap (after_told (done_told n o) rest) is ∙ ap (λ (ps : List Prepared). after_told (done_told n o) ps now) (sym left_is) ∙ telling.same;
      words = λ q is_one. words_step n o x rest done q tells (subst (λ (ps : List Prepared). (is_to_be_told ps q ≡ true) ⊎ HasWord n o q) left_is (telling.words q is_one));
    }

-- nobody is told
pub word_of : (n : Numbers) (o : Outcome) (q : ℕ) → (is_to_be_told [] q ≡ true) ⊎ HasWord n o q → HasWord n o q
word_of n o q (inl none) = absurd (true≢false (sym none))
word_of n o q (inr word) = word
