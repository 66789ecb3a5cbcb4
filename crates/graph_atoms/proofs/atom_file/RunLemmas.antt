-- One more record of a kind.
use Rattle.std.proofs.Common.{◌≡◌, ℕ, suc, ◌+◌, ◌-◌, ◌*◌, ◌^◌, ◌<◌, ◌≤◌, inl, inr, List, length, slice_index, Option, Some, None, refl, sym, ap, ◌∙◌, arith, below_more}
use Rattle.std.specs.Option.{option_or}
use Rattle.std.proofs.lemmas.Bool.{cases_lt}
use Rattle.graph_atoms.specs.declared.atom_file.faults.AtomFault.{AtomFault}
use Rattle.graph_atoms.specs.declared.atom_file.runs.RecordKind.{RecordKind}
use Rattle.graph_atoms.specs.declared.atom_file.runs.RecordKind.TheVariants.{Vertices, Ghosts, Edges}
use Rattle.graph_atoms.specs.declared.atom_file.runs.Place.{Place}
use Rattle.graph_atoms.specs.atom_file.Fields.{field}
use Rattle.graph_atoms.specs.atom_file.Faults.{record_size, record_key, record_fault, records_fault}
use Rattle.graph_atoms.specs.atom_file.Inner.Runs.{tag_of, size_of, fault_from, IsRunBetween}

-- the place behind a record
abbrev pub behind : List ℕ → RecordKind → Place → Place
behind bytes kind place =
    record { at = place.at + size_of kind; left = place.left - 1; least = record_key bytes place.at + 1 }

record_size-tag_of : (kind : RecordKind) → record_size (tag_of kind) ≡ size_of kind
record_size-tag_of Vertices = refl
record_size-tag_of Ghosts = refl
record_size-tag_of Edges = refl

-- a record without a fault is passed
pub records_fault-next : (bytes : List ℕ) (left least at size : ℕ) → record_size (slice_index bytes at) ≡ size → record_fault bytes least at ≡ None
    → records_fault bytes (suc left) least at ≡ records_fault bytes left (record_key bytes at + 1) (at + size)
records_fault-next bytes left least at size e none =
    ap (λ (f : Option AtomFault). option_or f (records_fault bytes left (record_key bytes at + 1) (at + record_size (slice_index bytes at)))) none
    ∙ ap (λ (s : ℕ). records_fault bytes left (record_key bytes at + 1) (at + s)) e

-- a record without a fault leaves the fault of what follows it
pub fault_from-behind : (bytes : List ℕ) (kind : RecordKind) (place : Place) → slice_index bytes place.at ≡ tag_of kind → 0 < place.left → record_fault bytes place.least place.at ≡ None
    → fault_from bytes (behind bytes kind place) ≡ fault_from bytes place
fault_from-behind bytes kind place tag some none =
    let more : place.left ≡ suc (place.left - 1) = omega arith in
    let size = ap record_size tag ∙ record_size-tag_of kind in
    sym (ap (λ (left : ℕ). records_fault bytes left place.least place.at) more ∙ records_fault-next bytes (place.left - 1) place.least place.at (size_of kind) size none)

-- and a record with a fault has the first one
pub fault_from-fault : (bytes : List ℕ) (place : Place) (fault : AtomFault) → 0 < place.left → record_fault bytes place.least place.at ≡ Some fault → fault_from bytes place ≡ Some fault
fault_from-fault bytes place fault some here =
    let more : place.left ≡ suc (place.left - 1) = omega arith in
    ap (λ (left : ℕ). records_fault bytes left place.least place.at) more
    ∙ ap (λ (f : Option AtomFault). option_or f (records_fault bytes (place.left - 1) (record_key bytes place.at + 1) (place.at + record_size (slice_index bytes place.at)))) here

-- what the least key says of the last record
pub record Follows (bytes : List ℕ) (kind : RecordKind) (start : Place) (n : ℕ) (end : Place) : Type 0 where
  pub between : IsRunBetween bytes kind start n end
  pub least : (i : ℕ) → i + 1 ≡ n → end.least ≡ tag_of kind * 2 ^ 32 + field bytes (start.at + size_of kind * i + 1) 4 + 1

pub Follows-none : (bytes : List ℕ) (kind : RecordKind) (start : Place) → start.at ≤ length bytes → Follows bytes kind start 0 start
Follows-none bytes kind start within =
    record {
      between = record {
        left = omega arith;
        at = omega arith;
        run = record {
          within = omega arith;
          tags = λ i h. absurd (omega arith);
          rising = λ i h. absurd (omega arith);
        };
        passed = inl refl;
      };
      least = λ i h. absurd (omega arith);
    }

-- numbers rise on where the next one is above the last
rising_more : (f : ℕ → ℕ) (n least base : ℕ) → ((i : ℕ) → i + 1 < n → f i < f (i + 1)) → ((i : ℕ) → i + 1 ≡ n → least ≡ base + f i + 1) → least ≤ base + f n → (i : ℕ) → i + 1 < n + 1 → f i < f (i + 1)
rising_more f n least base rises last here i h = elim (cases_lt (i + 1) n) [
  | inl before ↦ rises i before
  | inr past ↦
      let e : i + 1 ≡ n = omega arith in
      let top = last i e in
      let same = ap f e in
      omega arith
]

-- the reader goes behind one more record
pub Follows-more : (bytes : List ℕ) (kind : RecordKind) (start : Place) (n : ℕ) (end : Place) → Follows bytes kind start n end → slice_index bytes end.at ≡ tag_of kind → 0 < end.left → end.least ≤ record_key bytes end.at → end.at + size_of kind ≤ length bytes
    → Follows bytes kind start (n + 1) (behind bytes kind end)
Follows-more bytes kind start n end follows tag some risen within =
    let old = follows.between in
    let place : end.at ≡ start.at + size_of kind * n = old.at in
    let here : slice_index bytes (start.at + size_of kind * n) ≡ tag_of kind = ap (slice_index bytes) (sym place) ∙ tag in
    let key : record_key bytes end.at ≡ tag_of kind * 2 ^ 32 + field bytes (start.at + size_of kind * n + 1) 4 =
    ap (λ (t : ℕ). t * 2 ^ 32 + field bytes (end.at + 1) 4) tag ∙ ap (λ (a : ℕ). tag_of kind * 2 ^ 32 + field bytes (a + 1) 4) place in
    record {
      between = record {
        left = omega (arith, old.left);
        at = omega (arith, place);
        run = record {
          within = omega (arith, place);
          tags = below_more (λ i. slice_index bytes (start.at + size_of kind * i) ≡ tag_of kind) n old.run.tags here;
          rising = rising_more (λ i. field bytes (start.at + size_of kind * i + 1) 4) n end.least (tag_of kind * 2 ^ 32) old.run.rising follows.least (omega (arith, key, risen));
        };
        passed = inr (omega (arith, key));
      };
      least = λ i h.
          let e : i ≡ n = omega arith in
          ap (λ (x : ℕ). x + 1) key ∙ ap (λ (j : ℕ). tag_of kind * 2 ^ 32 + field bytes (start.at + size_of kind * j + 1) 4 + 1) (sym e);
    }
