-- Where all own vertices have the mark the section may be sent, and else not.
use Rattle.std.proofs.Common.{◌≡◌, ℕ, zero, suc, ◌+◌, ◌<◌, ◌≤◌, ◌==◌, not, Bool, true, false, true≢false, if◌then◌else◌, Option, Some, None, List, ◌∷◌, length, sym, ap, ◌∙◌, arith, inl, inr}
use Rattle.std.specs.Prelude.{is_some, nat_lt, slice_get, IfSome}
use Rattle.std.proofs.lemmas.Bool.{and_parts, cases_eq, eq-eqb, eqb-true, ltb-true}
use Rattle.std.proofs.lemmas.Option.{slice_get_cases}
use Rattle.gl_base.specs.declared.numbers.Vertex.{Vertex}
use Rattle.graph_core.specs.DataGraph.{size}
use Rattle.cluster_laws.specs.cluster_core.Ranges.{all_passing}
use Rattle.partition.specs.declared.machine_numbers.keeping.Numbers.{Numbers}
use Rattle.partition.specs.machine_numbers.Views.{datum_here, is_own}
use Rattle.machine_core.specs.declared.machine_parts.cores.Core.{Core}
use Rattle.machine_core.proofs.machine_updates.LeaveLemmas.{none_or, some_none}
use Rattle.snapshot_machines.specs.marking.Keeping.{SnapView}
use Rattle.snapshot_machines.specs.marking.Seeding.{AreMarkedBelow, HasUnmarked, IsFirstUnmarked, IsPastLast}
use Rattle.snapshot_machines.specs.marking.Sending.{AreMarksUpTo, MayNotSendSection, MaySendSection}
use Rattle.snapshot_machines.proofs.marking.SeedLemmas.{from_owned, owned_own}

-- who passes stands among those that pass
passing_at : (p : ℕ → Bool) (k n x : ℕ) → k ≤ x → x < k + n → p x ≡ true → (i : ℕ) × (slice_get (all_passing p k n) i ≡ Some x)
unfolding all_passing
passing_at p k zero x low high passes = absurd (omega arith)
passing_at p k (suc n) x low high passes = elim (cases_eq k x) [
  | inl same ↦ (0, ap (λ (b : Bool). slice_get (if b then k ∷ all_passing p (suc k) n else all_passing p (suc k) n) 0) (ap p same ∙ passes) ∙ ap Some same)
  | inr other ↦ later (p k) (passing_at p (suc k) n x (omega arith) (omega arith) passes)
]
  where
    later : (b : Bool) → (i : ℕ) × (slice_get (all_passing p (suc k) n) i ≡ Some x) → (i : ℕ) × (slice_get (if b then k ∷ all_passing p (suc k) n else all_passing p (suc k) n) i ≡ Some x)
    later true at = (suc at.0, at.1)
    later false at = at

within : {X : Type 0} (xs : List X) (i : ℕ) (x : X) → slice_get xs i ≡ Some x → i < length xs
within {X} xs i x at =
    let cases = slice_get_cases xs i in
    elim cases.1 [
      | inl there ↦ there.1
      | inr past ↦ absurd (some_none x (sym at ∙ past.1))
    ]

past_end : {X : Type 0} (xs : List X) (i : ℕ) → slice_get xs i ≡ None → length xs ≤ i
past_end {X} xs i none =
    let cases = slice_get_cases xs i in
    elim cases.1 [
      | inl there ↦ absurd (some_none there.0 (sym there.2 ∙ none))
      | inr past ↦ past.0
    ]

pub may_send : (m : Core) (w : SnapView) (place : ℕ) → m.terms.base ≤ w.sent → w.sent < w.known → AreMarksUpTo m.numbers w.known → AreMarkedBelow m.numbers w.known place → IsPastLast m.numbers place → MaySendSection m w
may_send m w place base unsent most below past st is =
    let a = m.numbers.local.me.0 in
    let start = is.base in
    let none : slice_get m.numbers.local.owned place ≡ None = none_or (slice_get m.numbers.local.owned place) (λ v at. true≢false (sym (owned_own st m w is place v at) ∙ past v at)) in
    let many = past_end m.numbers.local.owned place none in
    record {
      begun = omega (arith, base, unsent, start);
      marked = λ v low owner.
          let found = passing_at (λ x. st.owner x == a) 0 (size st.graph) v (omega arith) (omega (arith, low)) (eq-eqb (st.owner v) a owner) in
          let has = from_owned st m w is found.0 v found.1 in
          let inside = within m.numbers.local.owned found.0 has.0 has.1 in
          let own = owned_own st m w is found.0 has.0 has.1 in
          let up = below found.0 has.0 (omega (arith, inside, many)) has.1 own in
          let down = most has.0.0 own in
          let mark : (datum_here m.numbers has.0.0).mark ≡ w.known = omega (arith, up, down) in
          ap (λ (x : ℕ). (datum_here m.numbers x).mark) (sym has.2) ∙ mark;
      unsent = unsent;
    }

pub may_not_send : (m : Core) (w : SnapView) → HasUnmarked m.numbers w.known → MayNotSendSection m w
may_not_send m w left st is may =
    let v = left.vertex.0 in
    let parts = and_parts (nat_lt v (size st.graph)) (st.owner v == m.numbers.local.me.0) (sym (is.local.own v) ∙ left.own) in
    let mark = may.marked v (ltb-true v (size st.graph) parts.0) (eqb-true (st.owner v) m.numbers.local.me.0 parts.1) in
    let low = left.left in
    omega (arith, mark, low)

-- what stands at the first place without the mark
pub one_unmarked : (n : Numbers) (k place : ℕ) (o : Option Vertex) (none : Bool) → IsFirstUnmarked n k place → IfSome o (λ v. (slice_get n.local.owned place ≡ Some v) × (is_own n.local v.0 ≡ true)) → is_some o ≡ not none → none ≡ false → HasUnmarked n k
one_unmarked n k place None none first some is off = absurd (true≢false (sym (is ∙ ap not off)))
one_unmarked n k place (Some v) none first some is off = record { vertex = v; own = some.1; left = first v some.0 }
