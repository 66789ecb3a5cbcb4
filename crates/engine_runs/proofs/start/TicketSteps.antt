-- The ticket behind an order, entry by entry.
use Rattle.std.proofs.Common.{◌≡◌, ℕ, suc, ◌+◌, ◌-◌, ◌^◌, ◌<◌, ◌∙◌, List, ap, arith, drop, get_or, length, max, min, sym}
use Rattle.std.proofs.lemmas.List.{at_drop_more}
use Rattle.std.proofs.Math.Seq.{drop-length}
use Rattle.call_laws.specs.attempts.EngineCalls.{ticket_above}
use Rattle.cluster_laws.specs.cluster_core.Replays.{ticket_of}
use Rattle.gl_base.specs.declared.entries.Entry.{Entry}

greatest : (next t above : ℕ) → max (max next (min (t + 1) (2 ^ 64 - 1))) (min above (2 ^ 64 - 1)) ≡ max next (min (max (suc t) above) (2 ^ 64 - 1))
greatest next t above = omega arith

-- one entry more
pub next_step : (order : List Entry) (i next found all : ℕ) (d : Entry) → i < length order → found ≡ max next (min (ticket_of (get_or order i d) + 1) (2 ^ 64 - 1)) → max next (min (ticket_above (drop i order)) (2 ^ 64 - 1)) ≡ all →
    max found (min (ticket_above (drop (i + 1) order)) (2 ^ 64 - 1)) ≡ all
next_step order i next found all d low is before =
    ap (λ (n : ℕ). max n (min (ticket_above (drop (i + 1) order)) (2 ^ 64 - 1))) is
    ∙ greatest next (ticket_of (get_or order i d)) (ticket_above (drop (i + 1) order))
    ∙ ap (λ (n : ℕ). max next (min n (2 ^ 64 - 1))) (sym (at_drop_more ticket_above order i d low))
    ∙ before

-- all entries
pub next_end : (order : List Entry) (i next all : ℕ) → i ≡ length order → max next (min (ticket_above (drop i order)) (2 ^ 64 - 1)) ≡ all → next ≡ all
next_end order i next all end before =
    sym (none next) ∙ ap (λ (es : List Entry). max next (min (ticket_above es) (2 ^ 64 - 1))) (sym (drop-length order)) ∙ ap (λ (n : ℕ). max next (min (ticket_above (drop n order)) (2 ^ 64 - 1))) (sym end) ∙ before
  where
    none : (n : ℕ) → max n (min 0 (2 ^ 64 - 1)) ≡ n
    none n = omega arith

-- no entry yet
pub next_first : (order : List Entry) (next : ℕ) → next ≡ 0 → max next (min (ticket_above (drop 0 order)) (2 ^ 64 - 1)) ≡ min (ticket_above order) (2 ^ 64 - 1)
next_first order next first = ap (λ (n : ℕ). max n (min (ticket_above order) (2 ^ 64 - 1))) first ∙ none (min (ticket_above order) (2 ^ 64 - 1))
  where
    none : (n : ℕ) → max 0 n ≡ n
    none n = omega arith
