-- Meta-edges of an index, one after the other.
use Rattle.std.proofs.Common.{◌≡◌, ℕ, suc, ◌+◌, ◌-◌, ◌*◌, List, Option, Some, None, arith, sym, ap, ◌∙◌}
use Rattle.std.specs.Prelude.{nat_lt, if◌then◌else◌}
use Rattle.std.specs.Option.{option_or}
use Rattle.graph_atoms.specs.declared.atom_file.faults.AtomFault.{AtomFault}
use Rattle.graph_atoms.specs.declared.atom_file.faults.AtomFault.TheVariants.{OutOfOrder}
use Rattle.graph_atoms.specs.atom_file.Fields.{field}
use Rattle.graph_atoms.specs.atom_file.Faults.{torn_fault}
use Rattle.graph_atoms.specs.atom_gather.IndexForm.{atoms_in, head_fault, index_fault, metas_fault}

-- a meta-edge without a fault
pub metas_next : (bytes : List ℕ) (left i least at pair new : ℕ) → i ≡ suc left → pair ≡ field bytes at 4 → new ≡ pair → ((next : Option AtomFault) → option_or (torn_fault bytes (at + 8)) (if nat_lt (field bytes at 4) least then Some (OutOfOrder at) else next) ≡ next) → metas_fault bytes left (new + 1) (at + 8) ≡ metas_fault bytes i least at
metas_next bytes left i least at pair new more here is passed =
    ap (λ (n : ℕ). metas_fault bytes left (n + 1) (at + 8)) (is ∙ here)
    ∙ sym (passed (metas_fault bytes left (field bytes at 4 + 1) (at + 8)))
    ∙ ap (λ (j : ℕ). metas_fault bytes j least at) (sym more)

-- behind a head without a fault the meta-edges tell the first fault
pub index_behind : (bytes : List ℕ) (atoms count : ℕ) (fault : Option AtomFault) → atoms ≡ atoms_in bytes → count ≡ field bytes (52 + 12 * atoms - 4) 4 → head_fault bytes ≡ None → metas_fault bytes count 0 (52 + 12 * atoms) ≡ fault → index_fault bytes ≡ fault
index_behind bytes atoms count fault same is none metas =
    let at : 48 + 12 * atoms_in bytes ≡ 52 + 12 * atoms - 4 = omega (arith, same) in
    ap (λ (o : Option AtomFault). option_or o (metas_fault bytes (field bytes (48 + 12 * atoms_in bytes) 4) 0 (52 + 12 * atoms_in bytes))) none
    ∙ ap (λ (k : ℕ). metas_fault bytes (field bytes k 4) 0 (52 + 12 * atoms_in bytes)) at
    ∙ ap (λ (k : ℕ). metas_fault bytes k 0 (52 + 12 * atoms_in bytes)) (sym is)
    ∙ ap (λ (k : ℕ). metas_fault bytes count 0 (52 + 12 * k)) (sym same)
    ∙ metas

-- a fault of the head is the first
pub index_first : (bytes : List ℕ) (fault : AtomFault) → head_fault bytes ≡ Some fault → index_fault bytes ≡ Some fault
index_first bytes fault first = ap (λ (o : Option AtomFault). option_or o (metas_fault bytes (field bytes (48 + 12 * atoms_in bytes) 4) 0 (52 + 12 * atoms_in bytes))) first
