-- Three runs of records make the counts of a file.
use Rattle.std.proofs.Common.{◌≡◌, ◌≢◌, ℕ, ◌+◌, ◌*◌, ◌^◌, ◌<◌, ◌≤◌, ◌⊎◌, inl, inr, List, length, slice_index, Option, None, sym, ap, ◌∙◌, subst, arith}
use Rattle.std.specs.Option.{option_or}
use Rattle.std.proofs.lemmas.Bool.{cases_eq, ne_eqb}
use Rattle.graph_atoms.specs.declared.atom_file.faults.AtomFault.{AtomFault}
use Rattle.graph_atoms.specs.declared.atom_file.runs.RecordKind.TheVariants.{Vertices, Ghosts, Edges}
use Rattle.graph_atoms.specs.declared.atom_file.runs.Place.{Place}
use Rattle.graph_atoms.specs.atom_file.Fields.{field}
use Rattle.graph_atoms.specs.atom_file.Faults.{header_fault, record_size, record_key, records_fault, atom_fault}
use Rattle.graph_atoms.specs.atom_file.Inner.Runs.{fault_from, IsRecordRun, IsRunBetween, IsBelow}
use Rattle.graph_atoms.specs.atom_file.Inner.Counts.{AreCounts}
use Rattle.graph_atoms.proofs.atom_file.FieldLemmas.{IsBytes, field-lt}

-- the tags that records have
tag_cases : (tag : ℕ) → 0 < record_size tag → (tag ≡ 1) ⊎ ((tag ≡ 2) ⊎ (tag ≡ 3))
tag_cases tag some = elim (cases_eq tag 1) [
  | inl one ↦ inl one
  | inr not_one ↦ elim (cases_eq tag 2) [
    | inl two ↦ inr (inl two)
    | inr not_two ↦ elim (cases_eq tag 3) [
      | inl three ↦ inr (inr three)
      | inr not_three ↦ absurd (omega (arith, rw (ne_eqb tag 1 not_one, ne_eqb tag 2 not_two, ne_eqb tag 3 not_three) at some))
    ]
  ]
]

-- a run has ended here: no record of its kind follows
abbrev Ended : List ℕ → ℕ → Place → Type 0
Ended bytes tag place = 0 < place.left → place.at < length bytes → slice_index bytes place.at ≢ tag

ended_at : (bytes : List ℕ) (tag : ℕ) (c b : Place) → c ≡ b → Ended bytes tag b → Ended bytes tag c
ended_at bytes tag c b e ended = subst (Ended bytes tag) (sym e) ended

-- a key with a lower tag is below
lower : (key tag number least : ℕ) → key ≡ tag * 2 ^ 32 + number → number < 2 ^ 32 → (tag + 1) * 2 ^ 32 ≤ least → key < least
lower key tag number least e fits above = omega arith

-- where a run has ended, no record of its kind or an earlier one can follow in order
pub low_behind : (bytes : List ℕ) (a b c : Place) → IsBytes bytes → Ended bytes 1 a → Ended bytes 2 b → Ended bytes 3 c → (b ≡ a) ⊎ (2 * 2 ^ 32 < b.least) → (c ≡ b) ⊎ (3 * 2 ^ 32 < c.least) → 0 < c.left → IsBelow bytes c
low_behind bytes a b c h first second third at_b at_c some inside sized =
    let number : ℕ = field bytes (c.at + 1) 4 in
    let fits : number < 2 ^ 32 = field-lt 4 bytes (c.at + 1) h in
    let tag_key = λ (tag : ℕ) (e : slice_index bytes c.at ≡ tag). ap (λ (t : ℕ). t * 2 ^ 32 + number) e in
    elim (tag_cases (slice_index bytes c.at) sized) [
      | inl one ↦ elim at_c [
        | inr above ↦ lower (record_key bytes c.at) 1 number c.least (tag_key 1 one) fits (omega arith)
        | inl same ↦ elim at_b [
          | inr above ↦
              let e = ap (λ (p : Place). p.least) same in
              lower (record_key bytes c.at) 1 number c.least (tag_key 1 one) fits (omega (arith, e))
          | inl before ↦ absurd (ended_at bytes 1 c a (same ∙ before) first some inside one)
        ]
      ]
      | inr (inl two) ↦ elim at_c [
        | inr above ↦ lower (record_key bytes c.at) 2 number c.least (tag_key 2 two) fits (omega arith)
        | inl same ↦ absurd (ended_at bytes 2 c b same second some inside two)
      ]
      | inr (inr three) ↦ absurd (third some inside three)
    ]

run_at : (bytes : List ℕ) (tag size at place n : ℕ) → place ≡ at → IsRecordRun bytes tag size place n → IsRecordRun bytes tag size at n
run_at bytes tag size at place n e run = subst (λ (p : ℕ). IsRecordRun bytes tag size p n) e run

-- three runs, one behind the other, up to the end of the file
pub AreCounts-from_runs : (bytes : List ℕ) (start a b c : Place) (v g e : ℕ) → header_fault bytes ≡ None → start.at ≡ 20 → start.left ≡ field bytes 16 4 → IsRunBetween bytes Vertices start v a → IsRunBetween bytes Ghosts a g b → IsRunBetween bytes Edges b e c → c.left ≡ 0 → c.at ≡ length bytes → AreCounts bytes v g e
AreCounts-from_runs bytes start a b c v g e header at left to_a to_b to_c none_left whole =
    let at_a : a.at ≡ start.at + 13 * v = to_a.at in
    let at_b : b.at ≡ a.at + 15 * g = to_b.at in
    let at_c : c.at ≡ b.at + 17 * e = to_c.at in
    record {
      header = header;
      whole = omega arith;
      count = omega (arith, to_a.left, to_b.left, to_c.left);
      vertices_run = run_at bytes 1 13 20 start.at v at to_a.run;
      ghosts_run = run_at bytes 2 15 (20 + 13 * v) a.at g (omega arith) to_b.run;
      edges_run = run_at bytes 3 17 (20 + 13 * v + 15 * g) b.at e (omega arith) to_c.run;
    }

-- without a fault of the header the first fault is that of the records
pub atom_fault-records : (bytes : List ℕ) (start : Place) → header_fault bytes ≡ None → start.at ≡ 20 → start.left ≡ field bytes 16 4 → start.least ≡ 0 → atom_fault bytes ≡ fault_from bytes start
atom_fault-records bytes start header at left least =
    ap (λ (f : Option AtomFault). option_or f (records_fault bytes (field bytes 16 4) 0 20)) header
    ∙ sym (ap (λ (l : ℕ). records_fault bytes l start.least start.at) left ∙ ap (λ (k : ℕ). records_fault bytes (field bytes 16 4) k start.at) least ∙ ap (records_fault bytes (field bytes 16 4) 0) at)
