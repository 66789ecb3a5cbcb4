-- What waits for each machine after others were told, and who takes part in a scope.
use Rattle.std.proofs.Common.{◌≡◌, ◌≢◌, ℕ, zero, suc, ◌+◌, ◌-◌, ◌<◌, ◌≤◌, ◌==◌, ◌||◌, ◌++◌, Bool, true, false, true≢false, if◌then◌else◌, Option, Some, None, List, [], ◌∷◌, length, map, get_or, set, refl, sym, ap, ◌∙◌, subst, arith, inl, inr, All, length-set, get_or-set_same, get_or-set_other}
use Rattle.std.specs.List.{AllPairs, list_any}
use Rattle.std.proofs.lemmas.Bool.{cases_eq, eq-eqb, ne_eqb, or_cases, eqb-true}
use Rattle.std.proofs.lemmas.List.{map-append}
use Rattle.gl_base.specs.declared.numbers.MachineNo.{MachineNo}
use Rattle.gl_base.specs.declared.scopes.Peer.TheVariants.{Machine}
use Rattle.wire.specs.wire_msgs.Views.{DoneView, MessageView}
use Rattle.wire.specs.wire_msgs.Views as told
use Rattle.wire.specs.outboxes.Outboxes.{OutboxView, OutboxesView, no_outbox, outbox_to, with_message}
use Rattle.cluster_laws.specs.cluster_core.Messages.{Message}
use Rattle.cluster_laws.specs.cluster_core.Ranges.{all_passing}
use Rattle.cluster_laws.specs.cluster_core.Settings.{IsSetting}
use Rattle.cluster_laws.specs.cluster_core.Scopes.{takes_part, own_from, is_found}
use Rattle.cluster_laws.proofs.cluster_core.Basics.{same_truth}
use Rattle.cluster_laws.proofs.cluster_core.Nearness.{is_own as own_is}
use Rattle.partition.proofs.local_parts.FoundLemmas.{any_mapped}
use Rattle.machine_core.specs.machine_parts.Parts.{LocalView, is_own, parts_at, message_of, messages_for}
use Rattle.machine_core.specs.machine_parts.Settings.{Setting, IsLocalOf}
use Rattle.machine_core.specs.declared.machine_updates.reserving.Prepared.{Prepared}
use Rattle.machine_core.specs.machine_updates.Reserving.{is_to_be_told}
use Rattle.machine_core.specs.machine_updates.Committing.{posted, after_told}

-- ---- outboxes

tail_apart : (p : Prepared) (ps : List Prepared) → AllPairs (λ (one other : Prepared). one.to.0 ≢ other.to.0) (p ∷ ps) → AllPairs (λ (one other : Prepared). one.to.0 ≢ other.to.0) ps
tail_apart p ps apart = λ i j d before low. apart (suc i) (suc j) d (omega arith) (omega arith)

untold_head : (ps : List Prepared) (b : ℕ) → ((k : ℕ) (d : Prepared) → k < length ps → b ≢ (get_or ps k d).to.0) → is_to_be_told ps b ≡ false
untold_head [] b off = refl
untold_head (p ∷ ps) b off =
    ap (λ (c : Bool). c || is_to_be_told ps b) (ne_eqb p.to.0 b (λ same. off 0 p (omega arith) (sym same))) ∙ untold_head ps b (λ k d low. off (suc k) d (omega arith))

post_here : (out : OutboxesView) (b : MachineNo) (m : MessageView) (q : ℕ) → b.0 < length out.machines → b.0 ≡ q → messages_for (posted b m out) q ≡ messages_for out q ++ message_of m ∷ []
post_here out b m q inside here =
    let box = with_message m (outbox_to out (Machine b)) in
    let at : (j : ℕ) → j ≡ b.0 → map message_of (get_or (set out.machines b.0 box) j no_outbox).messages ≡ map message_of (get_or out.machines j no_outbox).messages ++ message_of m ∷ [] = λ j same.
    subst (λ (k : ℕ). map message_of (get_or (set out.machines b.0 box) k no_outbox).messages ≡ map message_of (get_or out.machines k no_outbox).messages ++ message_of m ∷ []) (sym same)
    (ap (λ (o : OutboxView). map message_of o.messages) (get_or-set_same out.machines b.0 box no_outbox inside)
    ∙ map-append message_of (get_or out.machines b.0 no_outbox).messages (m ∷ [])) in
    at q (sym here)

post_there : (out : OutboxesView) (b : MachineNo) (m : MessageView) (q : ℕ) → q ≢ b.0 → messages_for (posted b m out) q ≡ messages_for out q
post_there out b m q away = ap (λ (o : OutboxView). map message_of o.messages) (get_or-set_other out.machines b.0 q (with_message m (outbox_to out (Machine b))) no_outbox away)

-- who is told has its word behind what waited
pub told_at : (done : MachineNo → DoneView) (ps : List Prepared) (out : OutboxesView) (q : ℕ) → All (λ (p : Prepared). p.to.0 < length out.machines) ps → AllPairs (λ (one other : Prepared). one.to.0 ≢ other.to.0) ps
    → messages_for (after_told done ps out) q ≡ (if is_to_be_told ps q then messages_for out q ++ message_of (told.Done (done (record { 0 = q }))) ∷ [] else messages_for out q)
told_at done [] out q inside apart = refl
told_at done (p ∷ ps) out q inside apart =
    let m = told.Done (done p.to) in
    let box = with_message m (outbox_to out (Machine p.to)) in
    let word = told.Done (done (record { 0 = q })) in
    let later : All (λ (r : Prepared). r.to.0 < length (posted p.to m out).machines) ps = λ k d low. subst (λ (n : ℕ). (get_or ps k d).to.0 < n) (sym (length-set out.machines p.to.0 box)) (inside (suc k) d (omega arith)) in
    let rest = told_at done ps (posted p.to m out) q later (tail_apart p ps apart) in
    elim (cases_eq p.to.0 q) [
      | inl here ↦
          let none : is_to_be_told ps q ≡ false = untold_head ps q (λ k d low same. apart 0 (suc k) d (omega arith) (omega arith) (here ∙ same)) in
          rest
          ∙ ap (λ (b : Bool). if b then messages_for (posted p.to m out) q ++ message_of word ∷ [] else messages_for (posted p.to m out) q) none
          ∙ post_here out p.to m q (inside 0 p (omega arith)) here
          ∙ ap (λ (b : MachineNo). messages_for out q ++ message_of (told.Done (done b)) ∷ []) (λ i. record { 0 = here i })
          ∙ sym (ap (λ (b : Bool). if b || is_to_be_told ps q then messages_for out q ++ message_of word ∷ [] else messages_for out q) (eq-eqb p.to.0 q here))
      | inr off ↦
          rest
          ∙ ap (λ (ms : List Message). if is_to_be_told ps q then ms ++ message_of word ∷ [] else ms) (post_there out p.to m q (λ same. off (sym same)))
          ∙ sym (ap (λ (b : Bool). if b || is_to_be_told ps q then messages_for out q ++ message_of word ∷ [] else messages_for out q) (ne_eqb p.to.0 q off))
    ]

pub told_many : (done : MachineNo → DoneView) (ps : List Prepared) (out : OutboxesView) → length (after_told done ps out).machines ≡ length out.machines
told_many done [] out = refl
told_many done (p ∷ ps) out =
    let m = told.Done (done p.to) in
    told_many done ps (posted p.to m out) ∙ length-set out.machines p.to.0 (with_message m (outbox_to out (Machine p.to)))

-- ---- who takes part

pub any_passes : (test : ℕ → Bool) (a n q : ℕ) → list_any (λ k. k == q) (all_passing test a n) ≡ true → test q ≡ true
unfolding all_passing
any_passes test a zero q any = absurd (true≢false (sym any))
any_passes test a (suc n) q any = step (any_passes test (suc a) n q) (test a) refl any
  where
    step : (list_any (λ k. k == q) (all_passing test (suc a) n) ≡ true → test q ≡ true) → (b : Bool) → test a ≡ b → list_any (λ k. k == q) (if b then a ∷ all_passing test (suc a) n else all_passing test (suc a) n) ≡ true → test q ≡ true
    step behind true passes any = elim (or_cases (a == q) (list_any (λ k. k == q) (all_passing test (suc a) n)) any) [
      | inl here ↦ ap test (sym (eqb-true a q here)) ∙ passes
      | inr later ↦ behind later
    ]
    step behind false fails any = behind any

pub passes_any : (test : ℕ → Bool) (a n q : ℕ) → a ≤ q → q < a + n → test q ≡ true → list_any (λ k. k == q) (all_passing test a n) ≡ true
unfolding all_passing
passes_any test a zero q from below passes = absurd (omega arith)
passes_any test a (suc n) q from below passes = elim (cases_eq a q) [
  | inl here ↦
      ap (λ (b : Bool). list_any (λ k. k == q) (if b then a ∷ all_passing test (suc a) n else all_passing test (suc a) n)) (ap test here ∙ passes)
      ∙ ap (λ (b : Bool). b || list_any (λ k. k == q) (all_passing test (suc a) n)) (eq-eqb a q here)
  | inr off ↦ either (test a) (passes_any test (suc a) n q (omega arith) (omega arith) passes)
]
  where
    either : (b : Bool) → list_any (λ k. k == q) (all_passing test (suc a) n) ≡ true → list_any (λ k. k == q) (if b then a ∷ all_passing test (suc a) n else all_passing test (suc a) n) ≡ true
    either true any = ap (λ (b : Bool). (a == q) || b) any ∙ or_true (a == q)
      where
        or_true : (b : Bool) → (b || true) ≡ true
        or_true true = refl
        or_true false = refl
    either false any = any

pub found_one : (o : Option ℕ) → is_found o ≡ true → (x : ℕ) × (o ≡ Some x)
found_one None is = absurd (true≢false (sym is))
found_one (Some x) is = (x, refl)

pub parts_are : (st : Setting) (l : LocalView) (v q : ℕ) → IsSetting st → IsLocalOf st l → is_own l v ≡ true → list_any (λ b. b.0 == q) (parts_at l v) ≡ takes_part st v q
parts_are st l v q setting local own =
    let any : list_any (λ b. b.0 == q) (parts_at l v) ≡ list_any (λ k. k == q) (all_passing (takes_part st v) 0 (st.machines - 0)) =
    sym (any_mapped (λ (k : ℕ). k == q) (λ (b : MachineNo). b.0) (parts_at l v)) ∙ ap (λ (ks : List ℕ). list_any (λ k. k == q) ks) (local.parts v own) in
    same_truth (list_any (λ b. b.0 == q) (parts_at l v)) (takes_part st v q) (λ is. any_passes (takes_part st v) 0 (st.machines - 0) q (sym any ∙ is))
    (λ takes.
    let one = found_one (own_from st v q 0) takes in
    let found = own_is st v q 0 one.0 one.1 in
    let below : q < st.machines = subst (λ (a : ℕ). a < st.machines) found.3 (setting.owner one.0 found.1) in
    any ∙ passes_any (takes_part st v) 0 (st.machines - 0) q (omega arith) (omega arith) takes)
