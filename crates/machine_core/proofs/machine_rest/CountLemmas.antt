-- The sum over a list of outboxes is the sum over the numbers of machines.
use Rattle.std.proofs.Common.{◌≡◌, ℕ, zero, suc, ◌+◌, List, [], ◌∷◌, get_or, length, map, refl, sym, ap, ◌∙◌}
use Rattle.std.specs.Prelude.{sum_by}
use Rattle.std.proofs.lemmas.List.Sums.{sum_by-cons}
use Rattle.cluster_laws.specs.cluster_model.Totals.{total, total_from}
use Rattle.wire.specs.outboxes.Outboxes.{OutboxView, no_outbox}
use Rattle.machine_core.specs.declared.machine_parts.cores.Core.{Core}
use Rattle.machine_core.specs.machine_parts.Parts.{OutboxesView, message_of, messages_for, part_of}
use Rattle.machine_core.specs.machine_parts.Settings.{IsPartOf, Setting}
use Rattle.wire.specs.wire_msgs.Views.{MessageView}

total_moved : (k many : ℕ) (f : ℕ → ℕ) → total_from (suc k) many f ≡ total_from k many (λ q. f (suc q))
unfolding total_from
total_moved k zero f = refl
total_moved k (suc many) f = ap (λ (n : ℕ). f (suc k) + n) (total_moved (suc k) many f)

pub total_same : (k many : ℕ) (f g : ℕ → ℕ) → ((q : ℕ) → f q ≡ g q) → total_from k many f ≡ total_from k many g
unfolding total_from
total_same k zero f g same = refl
total_same k (suc many) f g same = ap (λ (n : ℕ). n + total_from (suc k) many f) (same k) ∙ ap (λ (n : ℕ). g k + n) (total_same (suc k) many f g same)

-- how many wait in an outbox
abbrev pub many_in : OutboxView → ℕ
many_in box = length box.messages

boxes_sum : (boxes : List OutboxView) → sum_by many_in boxes ≡ total (length boxes) (λ q. many_in (get_or boxes q no_outbox))
unfolding total_from
boxes_sum [] = refl
boxes_sum (box ∷ boxes) =
    sum_by-cons many_in box boxes
    ∙ ap (λ (n : ℕ). many_in box + n) (boxes_sum boxes)
    ∙ ap (λ (n : ℕ). many_in box + n) (sym (total_moved 0 (length boxes) (λ q. many_in (get_or (box ∷ boxes) q no_outbox))))

length_told : (ms : List MessageView) → length ms ≡ length (map message_of ms)
length_told [] = refl
length_told (m ∷ ms) = ap suc (length_told ms)

pub boxes_waiting : (out : OutboxesView) (many : ℕ) → length out.machines ≡ many → sum_by many_in out.machines ≡ total many (λ q. length (messages_for out q))
boxes_waiting out many is =
    boxes_sum out.machines
    ∙ ap (λ (n : ℕ). total n (λ q. many_in (get_or out.machines q no_outbox))) is
    ∙ total_same 0 many (λ q. many_in (get_or out.machines q no_outbox)) (λ q. length (messages_for out q)) (λ q. length_told (get_or out.machines q no_outbox).messages)

pub waiting_is : (st : Setting) (m : Core) → IsPartOf st m → sum_by many_in m.out.machines ≡ total st.machines (λ q. length ((part_of m).out q))
waiting_is st m here = boxes_waiting m.out st.machines here.machines
