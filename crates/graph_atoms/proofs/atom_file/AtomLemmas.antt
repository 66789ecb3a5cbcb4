-- The file of an atom has no fault, and is the file of no other atom.
use Rattle.std.proofs.Common.{◌≡◌, ◌≢◌, ℕ, suc, ◌+◌, ◌*◌, ◌^◌, ◌<◌, ◌≤◌, List, [], ◌∷◌, ◌++◌, length, slice_index, map, drop, None, refl, sym, ap, ◌∙◌, subst, arith, append_assoc, length-append}
use Rattle.std.specs.List.{flat_map, AllByRecursion}
use Rattle.std.specs.List.Sorted.{IsStrictlyIncreasing}
use Rattle.std.proofs.lemmas.Bool.{eq-eqb, le-ltb}
use Rattle.std.proofs.lemmas.List.{append-nil}
use Rattle.std.proofs.lemmas.List.Elements.{recursion_from_All}
use Rattle.byteorder.specs.Endian.{big_bytes}
use Rattle.byteorder.specs.Numbers.{big_number-reads_back}
use Rattle.gl_base.specs.declared.atoms.VertexLine.{VertexLine}
use Rattle.gl_base.specs.declared.atoms.GhostLine.{GhostLine}
use Rattle.gl_base.specs.declared.atoms.EdgeLine.{EdgeLine}
use Rattle.graph_atoms.specs.atom_file.Fields.{field}
use Rattle.graph_atoms.specs.atom_file.Atoms.{Atom, header_bytes, vertex_record, ghost_record, edge_record, record_count, atom_bytes, VertexLineFits, GhostLineFits, EdgeLineFits, IsAtom, AtomFits}
use Rattle.graph_atoms.specs.atom_file.Faults.{header_fault, records_fault, atom_fault}
use Rattle.graph_atoms.proofs.atom_file.RecordLemmas.{vertex_form, ghost_form, edge_form}
use Rattle.graph_atoms.proofs.atom_file.WrittenLemmas.{key_of, RisesFrom, least_after, least_after-le, records_fault-written, first_tag, written_once}

tail_rises : (n : ℕ) (ns : List ℕ) → IsStrictlyIncreasing (n ∷ ns) → IsStrictlyIncreasing ns
tail_rises n ns rises = λ k h.
    let next : suc k + 1 ≡ suc (k + 1) = omega arith in
    subst (λ (j : ℕ). slice_index ns k < slice_index (n ∷ ns) j) next (rises (suc k) (omega arith))

rises_behind : {T : Type 0} (tag : ℕ) (number : T → ℕ) (x : T) (xs : List T) → IsStrictlyIncreasing (map number (x ∷ xs)) → RisesFrom (key_of tag number) (key_of tag number x + 1) xs
rises_behind tag number x [] rises = tt
rises_behind tag number x (y ∷ ys) rises =
    let first : number x < number y = rises 0 (omega arith) in
    (omega arith, rises_behind tag number y ys (tail_rises (number x) (map number (y ∷ ys)) rises))

-- keys rise where numbers do
rises_from : {T : Type 0} (tag : ℕ) (number : T → ℕ) (least : ℕ) (xs : List T) → least ≤ tag * 2 ^ 32 → IsStrictlyIncreasing (map number xs) → RisesFrom (key_of tag number) least xs
rises_from tag number least [] low rises = tt
rises_from tag number least (x ∷ xs) low rises = (omega arith, rises_behind tag number x xs rises)

-- and stay below those of the next tag
keys_below : {T : Type 0} (tag : ℕ) (number : T → ℕ) (Fits : T → Type 0) → ((x : T) → Fits x → number x < 2 ^ 32) → (xs : List T) → AllByRecursion Fits xs → AllByRecursion (λ x. key_of tag number x < (tag + 1) * 2 ^ 32) xs
keys_below tag number Fits below [] fit = tt
keys_below tag number Fits below (x ∷ xs) fit =
    let here = below x fit.0 in
    (omega (arith, here), keys_below tag number Fits below xs fit.1)

header_fine : (bytes : List ℕ) → 20 ≤ length bytes → field bytes 0 8 ≡ 5137553027742584653 → field bytes 8 4 ≡ 1 → field bytes 14 2 ≡ 0 → header_fault bytes ≡ None
header_fine bytes within word version zero_is =
    rw (le-ltb (length bytes) 8 (omega arith), le-ltb (length bytes) 12 (omega arith), le-ltb (length bytes) 16 (omega arith), le-ltb (length bytes) 20 (omega arith), eq-eqb (field bytes 0 8) 5137553027742584653 word, eq-eqb (field bytes 8 4) 1 version, eq-eqb (field bytes 14 2) 0 zero_is)
    refl

no_trail : (bytes : List ℕ) (least at : ℕ) → at ≡ length bytes → records_fault bytes 0 least at ≡ None
no_trail bytes least at e = rw (le-ltb at (length bytes) (omega arith)) refl

-- the records of the three kinds, one kind behind the other
abbrev behind_vertices : Atom → List ℕ
behind_vertices a = flat_map ghost_record a.ghosts ++ flat_map edge_record a.edges

abbrev records_of : Atom → List ℕ
records_of a = flat_map vertex_record a.vertices ++ behind_vertices a

regrouped : (a : Atom) → atom_bytes a ≡ header_bytes a ++ records_of a
regrouped a =
    append_assoc (header_bytes a ++ flat_map vertex_record a.vertices) (flat_map ghost_record a.ghosts) (flat_map edge_record a.edges)
    ∙ append_assoc (header_bytes a) (flat_map vertex_record a.vertices) (behind_vertices a)

-- the records of a written file have no fault
records_fine : (a : Atom) → IsAtom a → AtomFits a → records_fault (atom_bytes a) (record_count a) 0 20 ≡ None
records_fine a is fits =
    let bytes = atom_bytes a in
    let header = header_bytes a in
    let vertices = flat_map vertex_record a.vertices in
    let ghosts = flat_map ghost_record a.ghosts in
    let edges = flat_map edge_record a.edges in
    let vertex_fits = recursion_from_All VertexLineFits a.vertices fits.vertices in
    let ghost_fits = recursion_from_All GhostLineFits a.ghosts fits.ghosts in
    let edge_fits = recursion_from_All EdgeLineFits a.edges fits.edges in
    let key_v = key_of 1 (λ (v : VertexLine). v.vertex.0) in
    let key_g = key_of 2 (λ (g : GhostLine). g.vertex.0) in
    let key_e = key_of 3 (λ (e : EdgeLine). e.edge.0) in
    let least_g = least_after key_v 0 a.vertices in
    let least_e = least_after key_g least_g a.ghosts in
    let low_g : least_g ≤ 2 * 2 ^ 32 =
    least_after-le key_v (2 * 2 ^ 32) 0 a.vertices (omega arith) (keys_below 1 (λ (v : VertexLine). v.vertex.0) VertexLineFits (λ v f. f.vertex) a.vertices vertex_fits) in
    let low_e : least_e ≤ 3 * 2 ^ 32 =
    least_after-le key_g (3 * 2 ^ 32) least_g a.ghosts (omega arith) (keys_below 2 (λ (g : GhostLine). g.vertex.0) GhostLineFits (λ g f. f.vertex) a.ghosts ghost_fits) in
    let count : record_count a ≡ length a.vertices + (length a.ghosts + (length a.edges + 0)) = omega arith in
    let first = records_fault-written vertex_form refl a.vertices bytes header (behind_vertices a) (length a.ghosts + (length a.edges + 0)) 0 vertex_fits (rises_from 1 (λ (v : VertexLine). v.vertex.0) 0 a.vertices (omega arith) is.vertices) (regrouped a) in
    let second = records_fault-written ghost_form refl a.ghosts bytes (header ++ vertices) edges (length a.edges + 0) least_g ghost_fits (rises_from 2 (λ (g : GhostLine). g.vertex.0) least_g a.ghosts low_g is.ghosts) (append_assoc (header ++ vertices) ghosts edges) in
    let third = records_fault-written edge_form refl a.edges bytes (header ++ vertices ++ ghosts) [] 0 least_e edge_fits (rises_from 3 (λ (e : EdgeLine). e.edge.0) least_e a.edges low_e is.edges) (ap (λ (es : List ℕ). header ++ vertices ++ ghosts ++ es) (sym (append-nil edges))) in
    ap (λ (k : ℕ). records_fault bytes k 0 20) count ∙ first ∙ second ∙ third
    ∙ no_trail bytes (least_after key_e least_e a.edges) (length bytes) refl

pub atom_fault-atom_bytes : (a : Atom) → IsAtom a → AtomFits a → atom_fault (atom_bytes a) ≡ None
atom_fault-atom_bytes a is fits =
    let bytes = atom_bytes a in
    let rest = records_of a in
    let within : 20 ≤ length bytes = omega (arith, ap length (regrouped a), length-append (header_bytes a) rest) in
    let count_is : field bytes 16 4 ≡ record_count a =
    ap (λ (bs : List ℕ). field bs 16 4) (regrouped a) ∙ big_number-reads_back 4 (record_count a) rest is.few in
    let none = header_fine bytes within refl refl refl in
    rw none (ap (λ (k : ℕ). records_fault bytes k 0 20) count_is ∙ records_fine a is fits)

abbrev atom_with : ℕ → List VertexLine → List GhostLine → List EdgeLine → Atom
atom_with number vertices ghosts edges =
    record { number = number; vertices = vertices; ghosts = ghosts; edges = edges }

same_atom : (a b : Atom) → a.number ≡ b.number → a.vertices ≡ b.vertices → a.ghosts ≡ b.ghosts → a.edges ≡ b.edges → a ≡ b
same_atom a b n v g e =
    ap (λ (x : ℕ). atom_with x a.vertices a.ghosts a.edges) n
    ∙ ap (λ (x : List VertexLine). atom_with b.number x a.ghosts a.edges) v
    ∙ ap (λ (x : List GhostLine). atom_with b.number b.vertices x a.edges) g
    ∙ ap (atom_with b.number b.vertices b.ghosts) e

not_in_nil : (tag : ℕ) → 0 ≢ tag → slice_index [] 0 ≢ tag
not_in_nil tag h = h

-- no two atoms have the same file
pub one_atom : (a b : Atom) → AtomFits a → AtomFits b → atom_bytes a ≡ atom_bytes b → a ≡ b
one_atom a b fits_a fits_b e =
    let split : header_bytes a ++ records_of a ≡ header_bytes b ++ records_of b = sym (regrouped a) ∙ e ∙ regrouped b in
    let number : a.number ≡ b.number =
    sym (big_number-reads_back 2 a.number (big_bytes 2 0 ++ (big_bytes 4 (record_count a) ++ records_of a)) fits_a.number)
    ∙ ap (λ (bs : List ℕ). field bs 12 2) split
    ∙ big_number-reads_back 2 b.number (big_bytes 2 0 ++ (big_bytes 4 (record_count b) ++ records_of b)) fits_b.number in
    let rest : records_of a ≡ records_of b = ap (drop 20) split in
    let edges_a = flat_map edge_record a.edges in
    let edges_b = flat_map edge_record b.edges in
    let va = recursion_from_All VertexLineFits a.vertices fits_a.vertices in
    let vb = recursion_from_All VertexLineFits b.vertices fits_b.vertices in
    let ga = recursion_from_All GhostLineFits a.ghosts fits_a.ghosts in
    let gb = recursion_from_All GhostLineFits b.ghosts fits_b.ghosts in
    let ea = recursion_from_All EdgeLineFits a.edges fits_a.edges in
    let eb = recursion_from_All EdgeLineFits b.edges fits_b.edges in
    let no_edge = λ (es : List EdgeLine) (tag : ℕ) (apart : 3 ≢ tag) (some : 0 ≢ tag).
    no_first es tag apart some in
    let vertices = written_once vertex_form a.vertices b.vertices (behind_vertices a) (behind_vertices b) va vb (first_tag ghost_form a.ghosts edges_a 1 (λ h. omega arith) (no_edge a.edges 1 (λ h. omega arith) (λ h. omega arith))) (first_tag ghost_form b.ghosts edges_b 1 (λ h. omega arith) (no_edge b.edges 1 (λ h. omega arith) (λ h. omega arith))) rest in
    let ghosts = written_once ghost_form a.ghosts b.ghosts edges_a edges_b ga gb (no_edge a.edges 2 (λ h. omega arith) (λ h. omega arith)) (no_edge b.edges 2 (λ h. omega arith) (λ h. omega arith)) vertices.1 in
    let edges = written_once edge_form a.edges b.edges [] [] ea eb (λ h. omega arith) (λ h. omega arith) (append-nil edges_a ∙ ghosts.1 ∙ sym (append-nil edges_b)) in
    same_atom a b number vertices.0 ghosts.0 edges.0
  where
    no_first : (es : List EdgeLine) (tag : ℕ) → 3 ≢ tag → 0 ≢ tag → slice_index (flat_map edge_record es) 0 ≢ tag
    no_first [] tag apart some = some
    no_first (e ∷ es) tag apart some = apart
